-- What is known of the fields of a shard's lists.
use Rattle.std.specs.Prelude.{ℕ, ◌≤◌, List, length}
use Rattle.pool_index.specs.Links.{IsWoven}
use Rattle.pool_index.specs.declared.slot_lists.SlotLists.TheInside.{Inside}

-- these are the warm slots in their order, and the table has room for as many affinities as there are slots
pub record IsListed (f : Inside) : Type 0 where
  pub slots : List ℕ
  pub woven : IsWoven f.rows f.table f.freed f.bytes slots
  pub room : length f.rows ≤ length f.table

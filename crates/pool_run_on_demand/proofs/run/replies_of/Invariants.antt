use Rattle.std.proofs.Common.{◌≡◌, ◌+◌, ◌≤◌, ◌++◌, length, map, vec_capacity}
use Rattle.std.specs.Vec.Iter.{into_iter_items}
use Rattle.pool_run_on_demand.proofs.run.replies_of.Given as goal

-- the lists so far, with those that are left, are all of them, and there is room for the rest
abbrev pub invariant-loop-party : goal.invariant-loop-party
invariant-loop-party g l = record {
  all : l.lists.items ++ map (λ p. p.told.items) (into_iter_items l.party-iterator) ≡ map (λ p. p.told.items) l.fn.parties.items;
  room : length l.lists.items + length (into_iter_items l.party-iterator) ≤ vec_capacity l.lists;
}

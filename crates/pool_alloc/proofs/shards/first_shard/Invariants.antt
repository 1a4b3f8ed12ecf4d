use Rattle.std.proofs.Common.{◌≡◌, ◌≤◌, length, take}
use Rattle.pool_alloc.specs.StepReads.{first_shard}
use Rattle.pool_alloc.proofs.shards.first_shard.Given as goal

-- the first shard of the slots so far
abbrev pub invariant-loop-at : goal.invariant-loop-at
invariant-loop-at l = record {
  first : l.first ≡ first_shard l.plan (take l.at l.freed.items);
  some : 1 ≤ l.at;
  all : l.count ≡ length l.freed.items;
}

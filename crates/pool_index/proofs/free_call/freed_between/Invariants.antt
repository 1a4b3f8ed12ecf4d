use Rattle.std.proofs.Common.{◌≡◌, drop}
use Rattle.pool_index.specs.Freed.{CanFree, slots_among}
use Rattle.pool_index.specs.Laws.{free_all}
use Rattle.pool_index.specs.Shard.{IsShard, IsSameShard}
use Rattle.pool_index.proofs.free_call.freed_between.Given as goal

-- those that are left may be freed, and lead to what all lead to
abbrev pub invariant-loop-at : goal.invariant-loop-at
invariant-loop-at g l = record {
  can : CanFree (slots_among l.first l.end (drop l.at l.slots)) l.shard;
  left : free_all (slots_among l.first l.end (drop l.at l.slots)) l.shard ≡ free_all (slots_among l.first l.end l.slots) l.initial.shard;
  same : IsSameShard l.initial.shard l.shard;
  sound : IsShard l.shard;
}

use Rattle.std.proofs.Common.{◌≡◌, ◌++◌, length, take}
use Rattle.pool_slots.specs.PartsMade.{shard_parts}
use Rattle.pool_slots.proofs.part_maker.with_shards.Given as goal

-- the shards of the allocators so far stand behind the parts
abbrev pub invariant-loop-at : goal.invariant-loop-at
invariant-loop-at g l = record {
  made : l.parts.items ≡ l.fn.parts.items ++ shard_parts l.warm (take l.at l.allocators);
  all : l.at-end ≡ length l.allocators;
}

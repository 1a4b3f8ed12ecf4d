use Rattle.std.proofs.Common.{◌≡◌, ◌+◌, ◌≤◌, ◌++◌, length, map, vec_capacity}
use Rattle.std.specs.Vec.Iter.{into_iter_items}
use Rattle.crossbeam_utils.specs.Padded.{padded_value}
use Rattle.pool_workers.proofs.padding.pad.Given as goal

-- the first values are padded, and there is room for the others
abbrev pub invariant-loop-value : goal.invariant-loop-value
invariant-loop-value g l = record {
  same : map padded_value l.padded.items ++ into_iter_items l.value-iterator ≡ l.fn.values.items;
  room : length l.padded.items + length (into_iter_items l.value-iterator) ≤ vec_capacity l.padded;
}

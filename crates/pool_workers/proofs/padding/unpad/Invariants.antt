use Rattle.std.proofs.Common.{◌≡◌, ◌+◌, ◌≤◌, ◌++◌, length, map, vec_capacity}
use Rattle.std.specs.Vec.Iter.{into_iter_items}
use Rattle.crossbeam_utils.specs.Padded.{padded_value}
use Rattle.pool_workers.proofs.padding.unpad.Given as goal

-- the first values are out, and there is room for the others
abbrev pub invariant-loop-value : goal.invariant-loop-value
invariant-loop-value g l = record {
  same : l.values.items ++ map padded_value (into_iter_items l.value-iterator) ≡ map padded_value l.fn.padded.items;
  room : length l.values.items + length (into_iter_items l.value-iterator) ≤ vec_capacity l.values;
}

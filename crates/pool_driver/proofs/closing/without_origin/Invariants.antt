use Rattle.std.proofs.Common.{◌≡◌, ◌+◌, ◌≤◌, ◌++◌, length, map, vec_capacity}
use Rattle.std.specs.Vec.Iter.{into_iter_items}
use Rattle.pool_driver.specs.Origins.{inner_of}
use Rattle.pool_driver.proofs.closing.without_origin.Given as goal

-- the parts that moved, with those that are left, are all of them, and there is room for the rest
abbrev pub invariant-loop-part : goal.invariant-loop-part
invariant-loop-part g l = record {
  all : l.list.items ++ map inner_of (into_iter_items l.part-iterator) ≡ map inner_of l.fn.wrapped.items;
  room : length l.list.items + length (into_iter_items l.part-iterator) ≤ vec_capacity l.list;
}

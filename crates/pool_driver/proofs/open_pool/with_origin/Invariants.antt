use Rattle.std.proofs.Common.{◌≡◌, ◌+◌, ◌≤◌, ◌++◌, length, map, vec_capacity}
use Rattle.std.specs.List.{AllByRecursion}
use Rattle.std.specs.Vec.Iter.{into_iter_items}
use Rattle.pool_driver.specs.Origins.{about_of, inner_of}
use Rattle.pool_driver.specs.Placed.{about_by}
use Rattle.pool_driver.proofs.open_pool.with_origin.Given as goal

-- the parts that moved, with those that are left, are all of them, and there is room for the rest
abbrev pub invariant-loop-part : goal.invariant-loop-part
invariant-loop-part g l = record {
  all : map inner_of l.wrapped.items ++ into_iter_items l.part-iterator ≡ l.fn.parts.items;
  about : AllByRecursion (λ x. about_of g.M.PageMaker.told x ≡ about_by (g.M.PageMaker.told l.fn.maker) l.fn.settings l.fn.plan) l.wrapped.items;
  room : length l.wrapped.items + length (into_iter_items l.part-iterator) ≤ vec_capacity l.wrapped;
}

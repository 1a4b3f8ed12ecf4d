use Rattle.std.proofs.Common.{◌≡◌, length}
use Rattle.pool_slots.proofs.PlanSizes.{IsSearched}
use Rattle.pool_slots.proofs.plan.home_among.Given as goal

-- no allocator so far has the number
abbrev pub invariant-loop-at : goal.invariant-loop-at
invariant-loop-at l = record {
  search : IsSearched l.number l.at l.allocators;
  all : l.at-end ≡ length l.allocators;
}

use Rattle.std.proofs.Common.{◌≡◌, map}
use Rattle.std.specs.List.{range_with_len}
use Rattle.pool_slots.specs.StripedPlans.{shards_before, stripe_allocator}
use Rattle.pool_slots.proofs.striped_plan.StripedPlanSettings.stripe_allocators.Given as goal

-- the stripes so far have their allocators
abbrev pub invariant-loop-stripe : goal.invariant-loop-stripe
invariant-loop-stripe l = record {
  list : l.list.items ≡ map (stripe_allocator l.self) (range_with_len 0 l.stripe);
  place : l.place ≡ shards_before l.self l.stripe;
}

-- When slots can be freed.
use Rattle.std.specs.Prelude.{◌≡◌, ℕ, ◌^◌, ◌≤◌, ◌==◌, List, [], ◌∷◌, ◌++◌, if◌then◌else◌, IsSome, ◌<◌}
use Rattle.pool_alloc.specs.Imports.{AllByRecursion, ShardState, use_of, after_free, allocators_of, home_of, have_number, IsPlacedAllocator, Plan, SlotName}
use Rattle.pool_alloc.specs.declared.frame.FreedSlot.{FreedSlot}

-- each slot of the list is used in the shard when its turn comes
abbrev pub AreUsedInTurn : Plan → List FreedSlot → ShardState → Type 0
AreUsedInTurn plan [] shard = Unit {0}
AreUsedInTurn plan (x ∷ rest) shard = IsSome (use_of shard (home_of plan x.name).local.0) × AreUsedInTurn plan rest (after_free (home_of plan x.name).local x.bytes shard)

-- the plan says where a slot is at home
pub record HasHome (plan : Plan) (name : SlotName) : Type 0 where
  pub placed : AllByRecursion IsPlacedAllocator (allocators_of plan name.kind)
  pub has : 0 < have_number (allocators_of plan name.kind) name.slot

-- The slot can be freed, and keeps no more bytes resident than a slot may.
pub record CanBeFreed (plan : Plan) (x : FreedSlot) : Type 0 where
  pub home : HasHome plan x.name
  pub bytes : x.bytes ≤ 2 ^ 32

-- A turn of a free of the shard at a place: the first of the slots is freed where it is the shard's, and goes to the end
-- where it isn't.
abbrev pub CanFreeNext : Plan → ℕ → List FreedSlot → ShardState → Type 0
CanFreeNext plan place [] shard = ⊥
CanFreeNext plan place (x ∷ rest) shard = ((home_of plan x.name).place ≡ place → IsSome (use_of shard (home_of plan x.name).local.0)) × CanBeFreed plan x

-- The shard at a place once the first slot that waits was freed, if that is at home there.
abbrev pub shard_after_next : Plan → ℕ → List FreedSlot → ShardState → ShardState
shard_after_next plan place [] shard = shard
shard_after_next plan place (x ∷ rest) shard = if (home_of plan x.name).place == place then after_free (home_of plan x.name).local x.bytes shard else shard

-- The slots that still wait then; one that is at home elsewhere goes to the end.
abbrev pub freed_after_next : Plan → ℕ → List FreedSlot → List FreedSlot
freed_after_next plan place [] = []
freed_after_next plan place (x ∷ rest) = if (home_of plan x.name).place == place then rest else rest ++ x ∷ []

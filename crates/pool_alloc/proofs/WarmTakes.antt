-- All warm slots of a shard are taken: they are used then, and are those of the pool.
use Rattle.std.proofs.Common.{◌≡◌, ℕ, zero, ◌+◌, ◌*◌, ◌^◌, ◌<◌, ◌≤◌, List, [], ◌∷◌, length, refl, sym, ap, subst, ◌∙◌, arith, Option, Some, All, map, slice_set, is_some}
use Rattle.pool_alloc.proofs.Imports.{of_kind, length-map, length-set, All-nil, All-cons, All-head, All-tail, MakerTold, total, pick_unit, SlotKind, memory_kind, known_outside, taken_outside, with_bytes, use_again, used_units, shard_units, ShardState, IsShard, IsSameShard, slot_number, after_take_warm, taken_slots, MemoryInModule, WarmSlot, Free, all_free, free_after, after_take_sound}
use Rattle.pool_alloc.specs.BetweenSteps.{IsCore, IsFreedOf, IsSlotName}
use Rattle.pool_alloc.specs.Leases.{memory_slot}
use Rattle.pool_alloc.specs.Places.{Thing, slot_count, freed_count}
use Rattle.pool_alloc.specs.Releases.{slot_outside, slots_outside}
use Rattle.pool_alloc.specs.StepReads.{shard_at}
use Rattle.pool_alloc.specs.declared.frame.FreedSlot.{FreedSlot}
use Rattle.pool_alloc.specs.declared.pool_core.PoolCore.{PoolCore}
use Rattle.pool_alloc.proofs.PlanPlaces.{IsShardPlace}
use Rattle.pool_alloc.proofs.PoolParts.{sound_shard, slot_of_shard}
use Rattle.pool_alloc.proofs.QueueCounts.{freed_first}
use Rattle.pool_alloc.proofs.SlotCounts.{used_more}

pub warm_sound : (s : ShardState) → IsShard s → IsShard (after_take_warm s)
warm_sound s sound = after_take_sound s _ refl sound

pub warm_same : (s : ShardState) → IsSameShard s (after_take_warm s)
warm_same s = record { kind = refl; first = refl; step = refl; capacity = refl; budget = refl }

pub warm_few : (s : ShardState) → IsShard s → length s.warm ≤ s.capacity
warm_few s sound = omega (arith, sound.total, sound.cold_at_most)

-- these warm slots of a shard, by their names
abbrev outside : ShardState → List WarmSlot → List FreedSlot
outside s es = map slot_outside (map (known_outside s) (map with_bytes es))

pub outside_long : (s : ShardState) → (length (slots_outside s) ≡ length s.warm) × (length (taken_slots s) ≡ length s.warm)
outside_long s =
    let first = length-map s.warm with_bytes in
    (length-map (taken_outside s) slot_outside ∙ length-map (taken_slots s) (known_outside s) ∙ first, first)

again_counts : (t : Thing) (s : ShardState) (es : List WarmSlot) (v : List (Option (Option MemoryInModule))) → s.kind ≡ memory_kind → Free es v → total t (used_units s.kind s.step s.first (use_again es v)) ≡ total t (used_units s.kind s.step s.first v) + freed_count t (outside s es)
again_counts t s [] v kind f = omega arith
again_counts t s (e ∷ es) v kind f =
    let rest = again_counts t s es (slice_set v e.slot.0 (Some e.affinity)) kind (free_after e es v f) in
    let one = used_more t s.kind s.step s.first v e.slot.0 e.affinity (f.within zero e (omega arith)) (ap is_some (f.unused zero e (omega arith))) in
    let its : slot_count t (memory_slot (slot_number s e.slot.0)) ≡ t (pick_unit s.kind (s.first + e.slot.0 * s.step)) = ap (λ (k : SlotKind). t (pick_unit k (slot_number s e.slot.0))) (sym kind) in
    omega (arith, rest, one, its, freed_first t (slot_outside (known_outside s (with_bytes e))) (outside s es))

-- what the shard gives out
pub warm_counts : (t : Thing) (s : ShardState) → IsShard s → s.kind ≡ memory_kind → total t (shard_units (after_take_warm s)) ≡ total t (shard_units s) + freed_count t (slots_outside s)
warm_counts t s sound kind = again_counts t s s.warm s.used kind (all_free s sound)

-- They are memories, and each is one of the pool.
pub outside_kinds : (s : ShardState) (es : List WarmSlot) → All (λ x. x.name.kind ≡ memory_kind) (outside s es)
outside_kinds s [] = All-nil _
outside_kinds s (e ∷ es) = All-cons (λ (x : FreedSlot). x.name.kind ≡ memory_kind) (slot_outside (known_outside s (with_bytes e))) (outside s es) refl (outside_kinds s es)

module _ {P H : Type 0} (maker : MakerTold) (p : ℕ) (c : PoolCore P H) (core : IsCore maker c) (place : IsShardPlace c.plan p) (kind : (shard_at p c).kind ≡ memory_kind) where
  each_outside : (es : List WarmSlot) (v : List (Option (Option MemoryInModule))) → length v ≡ (shard_at p c).capacity → Free es v → All (λ e. e.bytes ≤ 2 ^ 32) es → All (IsFreedOf c.plan) (outside (shard_at p c) es)
  each_outside [] v long f bytes = All-nil _
  each_outside (e ∷ es) v long f bytes =
      let s : ShardState = shard_at p c in
      let B : WarmSlot → Type 0 = λ x. x.bytes ≤ 2 ^ 32 in
      let within : e.slot.0 < s.capacity = omega (arith, f.within zero e (omega arith), long) in
      let named : IsSlotName c.plan (memory_slot (slot_number s e.slot.0)) = record { cells = tt; inside = subst (λ (k : SlotKind). slot_number s e.slot.0 < of_kind k c.plan.totals) kind (slot_of_shard maker p e.slot.0 c core place within).inside } in
      All-cons (IsFreedOf c.plan) (slot_outside (known_outside s (with_bytes e))) (outside s es) (record { named = named; bytes = All-head B e es bytes })
      (each_outside es (slice_set v e.slot.0 (Some e.affinity)) (length-set v e.slot.0 (Some e.affinity) ∙ long) (free_after e es v f) (All-tail B e es bytes))

  pub warm_of_pool : All (IsFreedOf c.plan) (slots_outside (shard_at p c))
  warm_of_pool =
      let sound = sound_shard maker p c core place in
      each_outside (shard_at p c).warm (shard_at p c).used sound.entries (all_free (shard_at p c) sound) sound.bytes

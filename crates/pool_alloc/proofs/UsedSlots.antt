-- A slot of the pool is given out where it is used in its shard, and what a pick gives was not. What queues keep, one after
-- the other.
use Rattle.std.proofs.Common.{◌≡◌, ℕ, ◌+◌, ◌≤◌, true, List, [], ◌∷◌, length, Option, Some, refl, sym, subst, arith, ◌<◌, sum_by}
use Rattle.pool_alloc.proofs.Imports.{sum_by-cons, MakerTold, total, SlotKind, total_append, used_units, shard_units, ShardState, is_used, pick_answer, after_pick, MemoryInModule, SlotId, all_kept, part_kept, PoolPart, Plan, SlotName, home_of, of_kind}
use Rattle.pool_slots.specs.declared.part.PoolPart.TheVariants as part
use Rattle.pool_alloc.specs.BetweenSteps.{IsCore}
use Rattle.pool_alloc.specs.Places.{Thing, right_to, queued_count, kept_count, away_count, slot_count}
use Rattle.pool_alloc.specs.StepReads.{shard_at, queue_in, with_shard}
use Rattle.pool_alloc.specs.declared.pool_core.PoolCore.{PoolCore}
use Rattle.pool_alloc.proofs.CoreChanges.{core_with_shard}
use Rattle.pool_alloc.proofs.KeptCounts.{shard_away, away_shard, out_once}
use Rattle.pool_alloc.proofs.Picks.{picked_sound, picked_same}
use Rattle.pool_alloc.proofs.PlanPlaces.{IsShardPlace, home_place}
use Rattle.pool_alloc.proofs.PoolParts.{shard_part, sound_shard, place_of, name_in, HasPlace}
use Rattle.pool_alloc.proofs.SlotCounts.{slot_once, used_there, picked_count, pick_counts}

-- the shard of a slot that is used has given it out
pub used_away : (plan : Plan) (name : SlotName) (s : ShardState) → HasPlace plan s name → is_used s (home_of plan name).local.0 ≡ true → 1 ≤ total (right_to name) (shard_units s)
used_away plan name s its used =
    subst (λ (kind : SlotKind). 1 ≤ total (right_to name) (used_units kind s.step s.first s.used)) (sym its.kind) (used_there name s.step s.first s.used (home_of plan name).local.0 its.inside used its.number)

module _ {P H : Type 0} where
  pub used_is_out : (maker : MakerTold) (name : SlotName) (c : PoolCore P H) → IsCore maker c → name.slot < of_kind name.kind c.plan.totals → is_used (shard_at (home_of c.plan name).place c) (home_of c.plan name).local.0 ≡ true → away_count (right_to name) c ≡ 1
  used_is_out maker name c core inside used =
      let p : ℕ = (home_of c.plan name).place in
      omega (arith, used_away c.plan name (shard_at p c) (place_of maker c name core inside) used, shard_away maker (right_to name) p c core (home_place c.plan (length c.parts) name core.plan inside), (out_once maker name c core).0)

  pub picked_was_in : (maker : MakerTold) (want : Option MemoryInModule) (p : ℕ) (x : SlotId × ℕ) (c : PoolCore P H) → IsCore maker c → IsShardPlace c.plan p → pick_answer want (shard_at p c) ≡ Some x → away_count (right_to (name_in (shard_at p c) x.0.0)) c ≡ 0
  picked_was_in maker want p x c core place answer =
      let s : ShardState = shard_at p c in
      let k : SlotName = name_in s x.0.0 in
      let sound = sound_shard maker p c core place in
      let d : PoolCore P H = with_shard p (after_pick want s) c in
      let after = core_with_shard maker p (after_pick want s) c core place (picked_sound want s sound) (picked_same want s) in
      let counts : total (right_to k) (shard_units (after_pick want s)) ≡ total (right_to k) (shard_units s) + slot_count (right_to k) k = subst (λ (o : Option (SlotId × ℕ)). total (right_to k) (shard_units (after_pick want s)) ≡ total (right_to k) (shard_units s) + picked_count (right_to k) s o) answer (pick_counts (right_to k) want s sound) in
      omega (arith, slot_once k, counts, away_shard (right_to k) p (after_pick want s) c (shard_part maker p c core place), (out_once maker k d after).0)

  part_sum : (t : Thing) (x : PoolPart P H) → total t (part_kept x) ≡ queued_count t (queue_in x).slots
  part_sum t (part.Queue q) = refl
  part_sum t (part.Shard s) = refl
  part_sum t (part.Memory cell) = refl
  part_sum t (part.Table cell) = refl
  part_sum t (part.Stack cell) = refl
  part_sum t (part.Heaps heaps) = refl

  parts_sum : (t : Thing) (xs : List (PoolPart P H)) → total t (all_kept xs) ≡ sum_by (λ x. queued_count t (queue_in x).slots) xs
  parts_sum t [] = refl
  parts_sum t (x ∷ xs) = omega (arith, total_append t (part_kept x) (all_kept xs), part_sum t x, sum_by-cons (λ (y : PoolPart P H). queued_count t (queue_in y).slots) x xs, parts_sum t xs)

  pub kept_sum : (t : Thing) (c : PoolCore P H) → kept_count t c ≡ sum_by (λ x. queued_count t (queue_in x).slots) c.parts
  kept_sum t c = parts_sum t c.parts

-- What a shard has given out once several slots were freed, and that each was used when its turn came.
use Rattle.std.proofs.Common.{◌≡◌, ℕ, ◌+◌, ◌<◌, ◌≤◌, true, List, [], ◌∷◌, length-set, None, ap, ◌∙◌, subst, arith}
use Rattle.pool_alloc.proofs.Imports.{AllByRecursion, total, pick_unit, SlotKind, shard_units, slot_unit, ShardState, after_free, is_used, each_weaker, home_of, SlotName, Plan}
use Rattle.pool_alloc.specs.Freeing.{AreUsedInTurn}
use Rattle.pool_alloc.specs.Places.{Thing, right_to, slot_count, freed_count}
use Rattle.pool_alloc.specs.StepReads.{after_frees}
use Rattle.pool_alloc.specs.declared.frame.FreedSlot.{FreedSlot}
use Rattle.pool_alloc.proofs.SlotsOfFrames.{step_once}
use Rattle.pool_alloc.proofs.PoolParts.{HasPlace}
use Rattle.pool_alloc.proofs.SlotCounts.{slot_once, used_as, free_counts}
use Rattle.pool_alloc.proofs.QueueCounts.{freed_first}

-- a slot that is given out is used
pub used_by_count : (plan : Plan) (shard : ShardState) (name : SlotName) → 0 < shard.step → HasPlace plan shard name → 1 ≤ total (right_to name) (shard_units shard) → is_used shard (home_of plan name).local.0 ≡ true
used_by_count plan shard name apart place some =
    let it = used_as name shard.kind shard.step shard.first shard.used (omega (arith, some)) in
    let local : it.slot ≡ (home_of plan name).local.0 = step_once shard.first shard.step it.slot (home_of plan name).local.0 name.slot apart it.number place.number in
    subst (λ (l : ℕ). is_used shard l ≡ true) local it.used

-- a free leaves each slot its place
pub place_kept : (plan : Plan) (shard : ShardState) (x : FreedSlot) (name : SlotName) → HasPlace plan shard name → HasPlace plan (after_free (home_of plan x.name).local x.bytes shard) name
place_kept plan shard x name place = record {
  kind = place.kind;
  inside = omega (arith, place.inside, length-set shard.used (home_of plan x.name).local.0 None);
  number = place.number;
}

-- the shard has given out each slot of the list
abbrev pub AreOut : ShardState → List FreedSlot → Type 0
AreOut shard xs = (name : SlotName) → freed_count (right_to name) xs ≤ total (right_to name) (shard_units shard)

-- so the first is used
pub first_used : (plan : Plan) (shard : ShardState) (x : FreedSlot) (xs : List FreedSlot) → 0 < shard.step → HasPlace plan shard x.name → AreOut shard (x ∷ xs) → is_used shard (home_of plan x.name).local.0 ≡ true
first_used plan shard x xs apart place out =
    used_by_count plan shard x.name apart place (omega (arith, out x.name, freed_first (right_to x.name) x xs, slot_once x.name))

pub freed_one : (t : Thing) (plan : Plan) (shard : ShardState) (name : SlotName) (bytes : ℕ) → HasPlace plan shard name → is_used shard (home_of plan name).local.0 ≡ true → total t (shard_units (after_free (home_of plan name).local bytes shard)) + slot_count t name ≡ total t (shard_units shard)
freed_one t plan shard name bytes place used =
    let here : t (slot_unit shard (home_of plan name).local.0) ≡ slot_count t name = ap (λ (n : ℕ). t (pick_unit shard.kind n)) place.number ∙ ap (λ (k : SlotKind). t (pick_unit k name.slot)) place.kind in
    omega (arith, here, free_counts t (home_of plan name).local bytes shard place.inside used)

pub out_kept : (plan : Plan) (shard : ShardState) (x : FreedSlot) (xs : List FreedSlot) → 0 < shard.step → HasPlace plan shard x.name → AreOut shard (x ∷ xs) → AreOut (after_free (home_of plan x.name).local x.bytes shard) xs
out_kept plan shard x xs apart place out name =
    omega (arith, out name, freed_first (right_to name) x xs, freed_one (right_to name) plan shard x.name x.bytes place (first_used plan shard x xs apart place out))

-- all slots of the list are taken back
pub frees_less : (t : Thing) (plan : Plan) (xs : List FreedSlot) (shard : ShardState) → 0 < shard.step → AllByRecursion (λ x. HasPlace plan shard x.name) xs → AreOut shard xs → total t (shard_units (after_frees plan xs shard)) + freed_count t xs ≡ total t (shard_units shard)
frees_less t plan [] shard apart places out = omega arith
frees_less t plan (x ∷ xs) shard apart places out =
    let freed : ShardState = after_free (home_of plan x.name).local x.bytes shard in
    let later : AllByRecursion (λ y. HasPlace plan freed y.name) xs = each_weaker (λ (y : FreedSlot). HasPlace plan shard y.name) (λ (y : FreedSlot). HasPlace plan freed y.name) xs (λ y place. place_kept plan shard x y.name place) places.1 in
    let rest : total t (shard_units (after_frees plan xs freed)) + freed_count t xs ≡ total t (shard_units freed) = frees_less t plan xs freed apart later (out_kept plan shard x xs apart places.0 out) in
    omega (arith, rest, freed_first t x xs, freed_one t plan shard x.name x.bytes places.0 (first_used plan shard x xs apart places.0 out))

-- each is used when its turn comes
pub used_in_turn : (plan : Plan) (xs : List FreedSlot) (shard : ShardState) → 0 < shard.step → AllByRecursion (λ x. HasPlace plan shard x.name) xs → AreOut shard xs → AreUsedInTurn plan xs shard
used_in_turn plan [] shard apart places out = tt
used_in_turn plan (x ∷ xs) shard apart places out =
    let freed : ShardState = after_free (home_of plan x.name).local x.bytes shard in
    let later : AllByRecursion (λ y. HasPlace plan freed y.name) xs = each_weaker (λ (y : FreedSlot). HasPlace plan shard y.name) (λ (y : FreedSlot). HasPlace plan freed y.name) xs (λ y place. place_kept plan shard x y.name place) places.1 in
    (first_used plan shard x xs apart places.0 out, used_in_turn plan xs freed apart later (out_kept plan shard x xs apart places.0 out))

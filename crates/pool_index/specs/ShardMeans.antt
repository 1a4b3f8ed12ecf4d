-- A shard means what a shard means.
use Rattle.std.proofs.Common.{◌≡◌, ℕ, ◌+◌, ◌*◌, ◌<◌, Option, Some, List, refl, sym, ap, subst, ◌∙◌, arith}
use Rattle.pool_hall.specs.declared.unit_name.SlotKind.{SlotKind}
use Rattle.pool_hall.specs.Unit.{pick_unit}
use Rattle.pool_index.specs.Shard.{ShardState, IsShard, IsSameShard, slot_number}
use Rattle.pool_index.specs.Part.{slot_unit, shard_units, shard_counts, is_topped, shard_at, owner, FitsAt, shard_meaning}
use Rattle.pool_index.specs.ShardPart.{MeansShard}

is_it : {X : Type 0} (x s : X) → Some x ≡ Some s → x ≡ s
is_it x s e = cc

-- a shard's slots keep their units
pub same_unit : (s t : ShardState) (k : ℕ) → IsSameShard s t → slot_unit t k ≡ slot_unit s k
same_unit s t k e = λ i. pick_unit (e.kind i) (e.first i + k * e.step i)

-- Being the same shard, by kind, place, capacity and budget, passes on from one step to the next.
pub same_after : (r s t : ShardState) → IsSameShard r s → IsSameShard s t → IsSameShard r t
same_after r s t e f = record { kind = f.kind ∙ e.kind; first = f.first ∙ e.first; step = f.step ∙ e.step; capacity = f.capacity ∙ e.capacity; budget = f.budget ∙ e.budget }

fits_after : (made : List ShardState) (p : ℕ) (s t : ShardState) → FitsAt made p s → IsSameShard s t → IsShard t → FitsAt made p t
fits_after made p s t fit same sound = record {
  sound = sound;
  same = same_after (shard_at made p) s t fit.same same;
  own = λ k inside. ap (owner made) (same_unit s t k same) ∙ fit.own k (let c = same.capacity in omega arith);
}

-- A hall of shards alone satisfies what the round asks of a hall whose parts may be shards.
pub shard_means : MeansShard shard_meaning Some
shard_means = record {
  away = λ x s e. ap shard_units (is_it x s e);
  kept = λ x s e. refl;
  counts = λ x s e. ap shard_counts (is_it x s e);
  steady = λ x s e. refl;
  topped = λ x s e. ap is_topped (is_it x s e);
  sound = λ made limits p x s e fit. subst IsShard (is_it x s e) fit.sound;
  place = λ made limits p x s e fit. (subst (FitsAt made p) (is_it x s e) fit).own;
  fits = λ made limits p x y s t e f fit same sound. subst (FitsAt made p) (sym (is_it y t f)) (fits_after made p s t (subst (FitsAt made p) (is_it x s e) fit) same sound);
}

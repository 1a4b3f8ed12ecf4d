-- Shards that are held one after the other and only looked at, and slots that are freed one after the other.
use Rattle.std.proofs.Common.{◌≡◌, ℕ, suc, ◌+◌, ◌*◌, ◌^◌, ◌<◌, ◌≤◌, Bool, true, false, List, [], ◌∷◌, ◌++◌, length, min, Some, sym, refl, ap, subst, ◌∙◌, arith, length-append, ◌==◌, ◌&&◌}
use Rattle.pool_index.proofs.Imports.{sum_by-append, sum_by-le, View, Taken}
use Rattle.pool_index.specs.declared.counting.ShardCounts.{ShardCounts}
use Rattle.pool_index.specs.Shard.{ShardState, used_count, resident_bytes}
use Rattle.pool_index.specs.Part.{shard_meaning}
use Rattle.pool_index.specs.Freed.{IsCounted, IsSum, all_unused}
use Rattle.pool_index.specs.Layout.{capacity_of}
use Rattle.pool_index.specs.MadeShards.{AreMade}
use Rattle.pool_index.specs.Round.{HeldShard, HeldInTurn, KeepsRest}
use Rattle.pool_index.proofs.Allocating.{shard_there}
use Rattle.pool_index.proofs.HallFrees.{only_state}

module _ (made : List ShardState) (limits : List ℕ) where
  abbrev Turns : (ShardState → ShardState) → ℕ → List ShardState → View ShardState → View ShardState → Type 0
  Turns left p ss v w = HeldInTurn shard_meaning Some made limits left p ss v w

  -- a shard that was held is the part that was found
  pub told_of : (p : ℕ) (s t : ShardState) (v w : View ShardState) → HeldShard shard_meaning Some made limits p s t v w → Taken shard_meaning made limits p s v
  told_of p s t v w held = subst (λ (z : ShardState). Taken shard_meaning made limits p z v) (only_state (Some held.before) held.before s refl held.was) held.told

  pub in_turn_more : (left : ShardState → ShardState) (p : ℕ) (ss : List ShardState) (s : ShardState) (v u w : View ShardState) → Turns left p ss v u → HeldShard shard_meaning Some made limits (p + length ss) s (left s) u w → Turns left p (ss ++ s ∷ []) v w
  in_turn_more left p [] s v u w e held =
      let here : HeldShard shard_meaning Some made limits p s (left s) u w = subst (λ (q : ℕ). HeldShard shard_meaning Some made limits q s (left s) u w) (let q : p + 0 ≡ p = omega arith in q) held in
      (w, subst (λ (z : View ShardState). HeldShard shard_meaning Some made limits p s (left s) z w) e here, refl)
  in_turn_more left p (r ∷ rs) s v u w (x, first, rest) held =
      (x, first, in_turn_more left (p + 1) rs s x u w rest (subst (λ (q : ℕ). HeldShard shard_meaning Some made limits q s (left s) u w) (let q : p + suc (length rs) ≡ (p + 1) + length rs = omega arith in q) held))

unused_more : (ss : List ShardState) (s : ShardState) → all_unused (ss ++ s ∷ []) ≡ (all_unused ss && (used_count s == 0))
unused_more [] s = both (used_count s == 0)
  where
    both : (b : Bool) → (b && true) ≡ (true && b)
    both true = refl
    both false = refl
unused_more (r ∷ rs) s = ap (λ b. (used_count r == 0) && b) (unused_more rs s) ∙ assoc (used_count r == 0) (all_unused rs) (used_count s == 0)
  where
    assoc : (a b c : Bool) → (a && (b && c)) ≡ ((a && b) && c)
    assoc true b c = refl
    assoc false b c = refl

-- the shards at the first places: what they tell together, which fits
pub record SoFar (capacity slots n : ℕ) (ss : List ShardState) (r : ShardCounts) : Type 0 where
  pub all : length ss ≡ n
  pub sums : IsSum ss r
  pub few : r.warm ≤ min capacity (n * slots)
  pub light : r.bytes ≤ r.warm * 2 ^ 32

pub so_far_more : (made : List ShardState) (limits : List ℕ) (capacity warm slots shards : ℕ) → AreMade made limits capacity warm slots shards → (n : ℕ) → n < shards → (v : View ShardState) (s : ShardState) → Taken shard_meaning made limits n s v
    → (ss : List ShardState) (r f : ShardCounts) → SoFar capacity slots n ss r → IsCounted s f → (t : ShardCounts) → t.warm ≡ r.warm + f.warm → t.bytes ≡ r.bytes + f.bytes → t.is_empty ≡ (r.is_empty && f.is_empty) → SoFar capacity slots (n + 1) (ss ++ s ∷ []) t
so_far_more made limits capacity warm slots shards is n h v s told ss r f before counted t w b e =
    let cap : s.capacity ≡ capacity_of capacity slots n = told.stands.fits.same.capacity ∙ ap (λ (z : ShardState). z.capacity) (shard_there made limits capacity warm slots shards is n h) in
    let sound = counted.sound in
    let total = sound.total in
    let cold = sound.cold_at_most in
    let a = before.few in
    let l = before.light in
    let cw = counted.warm in
    let cb = counted.bytes in
    let heavy : resident_bytes s ≤ length s.warm * 2 ^ 32 = sum_by-le (λ e. e.bytes) (2 ^ 32) s.warm sound.bytes in
    record {
      all = let x = before.all in let y = length-append ss (s ∷ []) in omega arith;
      sums = record {
        warm = let x = before.sums.warm in let y = sum_by-append (λ (z : ShardState). length z.warm) ss (s ∷ []) in omega arith;
        bytes = let x = before.sums.bytes in let y = sum_by-append resident_bytes ss (s ∷ []) in omega arith;
        none = e ∙ (λ i. before.sums.none i && counted.none i) ∙ sym (unused_more ss s);
      };
      few = omega arith;
      light = omega arith;
    }

-- a view that is as before but for units and counts, twice
pub rest_both : (u v w : View ShardState) → KeepsRest u v → KeepsRest v w → KeepsRest u w
rest_both u v w a b = record { parts = b.parts ∙ a.parts; limits = b.limits ∙ a.limits; added = b.added ∙ a.added; low = b.low ∙ a.low; subtracted = b.subtracted ∙ a.subtracted; portions = b.portions ∙ a.portions }

-- what the next shard tells fits beside what the shards so far told
pub so_far_fits : (made : List ShardState) (limits : List ℕ) (capacity warm slots shards : ℕ) → AreMade made limits capacity warm slots shards → (n : ℕ) → n < shards → (v : View ShardState) (s : ShardState) → Taken shard_meaning made limits n s v
    → (ss : List ShardState) (r f : ShardCounts) → SoFar capacity slots n ss r → IsCounted s f → (r.warm + f.warm < 2 ^ 32) × (r.bytes + f.bytes < 2 ^ 64)
so_far_fits made limits capacity warm slots shards is n h v s told ss r f before counted =
    let next = so_far_more made limits capacity warm slots shards is n h v s told ss r f before counted (record { warm = r.warm + f.warm; bytes = r.bytes + f.bytes; is_empty = r.is_empty && f.is_empty }) refl refl refl in
    let a : r.warm + f.warm ≤ min capacity ((n + 1) * slots) = next.few in
    let b : r.bytes + f.bytes ≤ (r.warm + f.warm) * 2 ^ 32 = next.light in
    let c = is.small in
    (omega arith, omega arith)

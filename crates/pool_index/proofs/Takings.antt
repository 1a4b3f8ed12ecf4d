-- What a taking of all warm slots of a shard adds to the counts.
use Rattle.std.proofs.Common.{◌≡◌, ◌≢◌, ℕ, ◌+◌, ◌-◌, ◌%◌, ◌^◌, ◌<◌, ◌≤◌, ◌==◌, nat_lt, if◌then◌else◌, Bool, true, false, List, [], ◌∷◌, ◌++◌, refl, sym, ap, subst, ◌∙◌, ⊎_elim, arith, eq-eqb, map, All}
use Rattle.pool_index.proofs.Imports.{All-from_get_or, All-head, All-tail, cases_eq, ne_eqb, nat_tests, sum_by-append, sum_by-cons, View, counted, number}
use Rattle.std.specs.List.{sum_by}
use Rattle.pool_index.specs.Allocator.{made_of, place_in, bytes_into, taking_adds, CountsTaking}
use Rattle.pool_index.specs.Freed.{known_outside, taken_outside}
use Rattle.pool_index.specs.Holds.{TakesAt}
use Rattle.pool_index.specs.Lists.{with_bytes}
use Rattle.pool_index.specs.Part.{slot_unit, FitsAt, cold_picks, warm_takes, bytes_kept}
use Rattle.pool_index.specs.Shard.{ShardState, IsShard, entry_at, slot_number, resident_bytes}
use Rattle.pool_index.specs.Round.{NoColdPick}
use Rattle.pool_index.specs.Taken.{TakenState}
use Rattle.pool_index.specs.declared.allocator.ModuleAffinityIndexAllocator.{ModuleAffinityIndexAllocator}
use Rattle.pool_index.specs.declared.ids.SlotId.{SlotId}
use Rattle.pool_index.specs.declared.warm_slot.WarmSlot.{WarmSlot}
use Rattle.pool_index.proofs.Allocating.{owner_is, kind_at}
use Rattle.pool_index.proofs.FreedSlots.{sum_of_both}
use Rattle.pool_index.proofs.HallTakes.{chosen}
use Rattle.pool_index.proofs.Shards.{warm_slot_free}

no_matter : (b c : Bool) → chosen b c 0 0 ≡ 0
no_matter true c = refl
no_matter false true = refl
no_matter false false = refl

pub nothing : (b : Bool) (n : ℕ) → n ≡ 0 → (if b then n else 0) ≡ 0
nothing true n e = e
nothing false n e = refl

-- slots whose shard is at the place n
into_place : (a : ModuleAffinityIndexAllocator) (s : ShardState) (n p : ℕ) (es : List WarmSlot) → All (λ (e : WarmSlot). place_in a (slot_number s e.slot.0) ≡ n) es → bytes_into a p (map (known_outside s) (map with_bytes es)) ≡ (if p == n then sum_by (λ (e : WarmSlot). e.bytes) es else 0)
into_place a s n p [] there = sym (nothing (p == n) (sum_by (λ (e : WarmSlot). e.bytes) []) refl)
into_place a s n p (e ∷ es) there =
    let f : SlotId × ℕ → ℕ = λ x. if p == place_in a x.0.0 then x.1 else 0 in
    let P : WarmSlot → Type 0 = λ e. place_in a (slot_number s e.slot.0) ≡ n in
    let rest = into_place a s n p es (All-tail P e es there) in
    let one : f (known_outside s (with_bytes e)) ≡ (if p == n then e.bytes else 0) = ap (λ (k : ℕ). if p == k then e.bytes else 0) (All-head P e es there) in
    let all : bytes_into a p (map (known_outside s) (map with_bytes (e ∷ es))) ≡ f (known_outside s (with_bytes e)) + bytes_into a p (map (known_outside s) (map with_bytes es)) = sum_by-cons f (known_outside s (with_bytes e)) (map (known_outside s) (map with_bytes es)) in
    let both = sum_of_both (p == n) e.bytes (sum_by (λ (e : WarmSlot). e.bytes) es) (sum_by (λ (e : WarmSlot). e.bytes) (e ∷ es)) (sum_by-cons (λ (e : WarmSlot). e.bytes) e es) in
    omega arith

module _ (a : ModuleAffinityIndexAllocator) (n : ℕ) (h : n < a.shards) (x : ShardState) (fit : FitsAt (made_of a) n x) (old new : TakenState) (came : new ≡ record old { items = old.items ++ taken_outside x }) where
  sound : IsShard x
  sound = fit.sound

  its_place : (k : ℕ) → k < x.capacity → place_in a (slot_number x k) ≡ n
  its_place k inside = sym (owner_is _ _ _ _ _ _ a.made (slot_unit x k) (kind_at _ _ _ _ _ _ a.made n x h fit)) ∙ fit.own k inside

  its_places : All (λ (e : WarmSlot). place_in a (slot_number x e.slot.0) ≡ n) x.warm
  its_places = All-from_get_or (λ (e : WarmSlot). place_in a (slot_number x e.slot.0) ≡ n) x.warm _ (λ i inside. its_place (entry_at x i).slot.0 (let f = warm_slot_free x i sound inside in let e = sound.entries in let w = f.within in omega arith))

  more_bytes : (p : ℕ) → bytes_into a p new.items ≡ bytes_into a p old.items + (if p == n then resident_bytes x else 0)
  more_bytes p =
      let f : SlotId × ℕ → ℕ = λ q. if p == place_in a q.0.0 then q.1 else 0 in
      let e : bytes_into a p new.items ≡ bytes_into a p (old.items ++ taken_outside x) = ap (λ (z : TakenState). bytes_into a p z.items) came in
      let b : bytes_into a p (old.items ++ taken_outside x) ≡ bytes_into a p old.items + bytes_into a p (taken_outside x) = sum_by-append f old.items (taken_outside x) in
      let c = into_place a x n p x.warm its_places in
      omega arith

  elsewhere : (p : ℕ) → p ≢ n → bytes_into a p new.items ≡ bytes_into a p old.items
  elsewhere p other = let m = more_bytes p in let z : (if p == n then resident_bytes x else 0) ≡ 0 = ap (λ (b : Bool). if b then resident_bytes x else 0) (ne_eqb p n other) in omega arith

  pub beyond_more : ((p : ℕ) → n ≤ p → bytes_into a p old.items ≡ 0) → (p : ℕ) → n + 1 ≤ p → bytes_into a p new.items ≡ 0
  beyond_more none p far = elsewhere p (λ (e : p ≡ n). absurd (omega arith)) ∙ none p (omega arith)

  module _ (v w : View ShardState) (takes : TakesAt n (resident_bytes x) v w) (first : View ShardState) (none : (p : ℕ) → n ≤ p → bytes_into a p old.items ≡ 0) (before : CountsTaking a n old.items first v) where
    after_it : (p i : ℕ) → number (counted p i) w ≡ (if p == n then chosen (i == warm_takes) (i == bytes_kept) 1 ((2 ^ 64 - resident_bytes x) % 2 ^ 64) else 0) + number (counted p i) v
    after_it p i = let t = takes p i in omega arith

    -- of the shard that was held nothing was taken before
    here : (i : ℕ) → number (counted n i) w ≡ number (counted n i) first + taking_adds a (n + 1) new.items n i
    here i =
        let b : Bool = i == warm_takes in
        let c : Bool = i == bytes_kept in
        let k : ℕ = (2 ^ 64 - resident_bytes x) % 2 ^ 64 in
        let it : (n == n) ≡ true = eq-eqb n n refl in
        let rose : number (counted n i) w ≡ chosen b c 1 k + number (counted n i) v = after_it n i ∙ ap (λ (t : Bool). (if t then chosen b c 1 k else 0) + number (counted n i) v) it in
        let not_yet : nat_lt n n ≡ false = grind (arith, nat_tests) in
        let now : nat_lt n (n + 1) ≡ true = grind (arith, nat_tests) in
        let was : taking_adds a n old.items n i ≡ 0 = (λ j. chosen b c (if not_yet j then 1 else 0) ((2 ^ 64 - none n (omega arith) j) % 2 ^ 64)) ∙ no_matter b c in
        let bytes : bytes_into a n new.items ≡ resident_bytes x = let m = more_bytes n in let z = none n (omega arith) in let t : (if n == n then resident_bytes x else 0) ≡ resident_bytes x = ap (λ (t : Bool). if t then resident_bytes x else 0) it in omega arith in
        let is : taking_adds a (n + 1) new.items n i ≡ chosen b c 1 k = λ j. chosen b c (if now j then 1 else 0) ((2 ^ 64 - bytes j) % 2 ^ 64) in
        let had = before n i in
        omega arith

    there : (p i : ℕ) → p ≢ n → number (counted p i) w ≡ number (counted p i) first + taking_adds a (n + 1) new.items p i
    there p i other =
        let still : nat_lt p (n + 1) ≡ nat_lt p n = grind (arith, nat_tests) in
        let same : number (counted p i) w ≡ 0 + number (counted p i) v = after_it p i ∙ ap (λ (t : Bool). (if t then chosen (i == warm_takes) (i == bytes_kept) 1 ((2 ^ 64 - resident_bytes x) % 2 ^ 64) else 0) + number (counted p i) v) (ne_eqb p n other) in
        let is : taking_adds a (n + 1) new.items p i ≡ taking_adds a n old.items p i = λ j. chosen (i == warm_takes) (i == bytes_kept) (if still j then 1 else 0) ((2 ^ 64 - elsewhere p other j) % 2 ^ 64) in
        let had = before p i in
        omega arith

    pub counts_more : CountsTaking a (n + 1) new.items first w
    counts_more p i = ⊎_elim
        (λ (is : p ≡ n). subst (λ (q : ℕ). number (counted q i) w ≡ number (counted q i) first + taking_adds a (n + 1) new.items q i) (sym is) (here i))
        (λ (other : p ≢ n). there p i other)
        (cases_eq p n)

-- what the counts of a taking say by name
module _ (a : ModuleAffinityIndexAllocator) (n : ℕ) (items : List (SlotId × ℕ)) (v w : View ShardState) (counts : CountsTaking a n items v w) where
  pub all_took : (p : ℕ) → p < n → number (counted p warm_takes) v + 1 ≤ number (counted p warm_takes) w
  all_took p h = let e = counts p warm_takes in let t : nat_lt p n ≡ true = grind (arith, nat_tests) in let o : taking_adds a n items p warm_takes ≡ 1 = ap (λ (b : Bool). if b then 1 else 0) t in omega arith

  pub none_cold : NoColdPick v w
  none_cold p = let e = counts p cold_picks in omega arith

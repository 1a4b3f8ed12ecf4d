-- What is known of the slots that a pick takes.
use Rattle.std.proofs.Common.{◌≡◌, ℕ, ◌+◌, ◌*◌, ◌^◌, ◌<◌, ◌≤◌, length, arith, Bool, true, false, List, refl, suc, ap, ◌∙◌, ◌≢◌, sym, subst, inl, inr, get_or-set_same, get_or-set_other, take, drop, true≢false, eq-eqb, Some, None, Option, IsSome, IfSome, is_some, option_map, ◌==◌, if◌then◌else◌, slice_index_or, slice_set, remove, count_by, nat_lt, All}
use Rattle.pool_index.proofs.Imports.{nat_tests, length-set, get_or_past, cases_eq, cases_lt, length-remove, All-append, All-take, All-drop, All-get_or, All-from_get_or, sum_by-le, sum_by-remove, sum_by-set, get_or-le-sum_by, option_map_or}
use Rattle.pool_index.specs.Affinity.{is_affine}
use Rattle.pool_index.specs.Positions.{last_position}
use Rattle.pool_index.proofs.Filtered.{last_passes}
use Rattle.pool_index.specs.Shard.{ShardState, IsShard, NumbersFit, affine_choice, slot_and_bytes, one_if, warm_count, entry_at, use_of, is_used, used_count, resident_bytes, after_choice, warm_at, next_cold}
use Rattle.pool_index.specs.declared.warm_slot.WarmSlot.{WarmSlot}
use Rattle.pool_index.specs.declared.ids.MemoryInModule.{MemoryInModule}
use Rattle.pool_index.specs.declared.ids.SlotId.{SlotId}

-- a used slot counts
used_some : (s : ShardState) (k : ℕ) → IsSome (use_of s k) → 1 ≤ used_count s
used_some s k used = elim (cases_lt k (length s.used)) [
  | inl inside ↦
      let here : one_if (is_some (slice_index_or s.used k None)) ≤ used_count s = get_or-le-sum_by (λ (x : Option (Option MemoryInModule)). one_if (is_some x)) s.used k None inside in
      let one : one_if (is_some (use_of s k)) ≡ 1 = ap one_if used in
      omega arith
  | inr past ↦ absurd (true≢false (sym used ∙ ap is_some (get_or_past s.used k None past)))
]

-- where a slot is used, another may be warm, and the bytes of all warm slots together fit 64 bits
pub record HasRoomFor (s : ShardState) (more : ℕ) : Type 0 where
  pub slots : length s.warm < length s.used
  pub bytes : resident_bytes s + more < 2 ^ 64

pub room_for_free : (s : ShardState) (k bytes : ℕ) → IsShard s → IsSome (use_of s k) → bytes ≤ 2 ^ 32 → HasRoomFor s bytes
room_for_free s k bytes sound used few =
    let one : 1 ≤ used_count s = used_some s k used in
    let more : resident_bytes s ≤ length s.warm * 2 ^ 32 = sum_by-le (λ (e : WarmSlot). e.bytes) (2 ^ 32) s.warm sound.bytes in
    record { slots = omega arith; bytes = omega arith }

counted_once : (a : ℕ) (u t : Bool) → a + one_if u ≡ one_if t → 1 ≤ a → (u ≡ false) × (t ≡ true)
counted_once a true true e h = absurd (omega arith)
counted_once a true false e h = absurd (omega arith)
counted_once a false true e h = (refl, refl)
counted_once a false false e h = absurd (omega arith)

none_from : {X : Type 0} (o : Option X) → is_some o ≡ false → o ≡ None
none_from None e = refl
none_from (Some x) e = cc

-- a warm slot isn't used, and has been
pub record IsFree (s : ShardState) (n : ℕ) : Type 0 where
  pub within : n < length s.used
  pub was : n < s.cold
  pub unused : use_of s n ≡ None

pub warm_slot_free : (s : ShardState) (i : ℕ) → IsShard s → i < length s.warm → IsFree s (entry_at s i).slot.0
warm_slot_free s i sound inside =
    let n : ℕ = (entry_at s i).slot.0 in
    let one : (if n == n then 1 else 0) ≤ warm_count n s.warm = get_or-le-sum_by (λ (e : WarmSlot). if e.slot.0 == n then 1 else 0) s.warm i _ inside in
    let self : 1 ≤ warm_count n s.warm = grind (arith, nat_tests) in
    let once = counted_once (warm_count n s.warm) (is_used s n) _ (sound.partition n) self in
    let below : n < s.cold = grind (arith, nat_tests) in
    record { within = omega arith; was = below; unused = none_from (use_of s n) once.0 }

-- the numbers of warm slots fit
pub warm_fit : (s : ShardState) → IsShard s → (first step : ℕ) → NumbersFit first step s.capacity → All (λ e. first + e.slot.0 * step < 2 ^ 32) s.warm
warm_fit s sound first step fit = All-from_get_or (λ (e : WarmSlot). first + e.slot.0 * step < 2 ^ 32) s.warm _ (λ i inside. fit.fit (entry_at s i).slot.0 (let f = warm_slot_free s i sound inside in let w = f.within in let e = sound.entries in omega arith))

-- the first cold slot is neither warm nor used
pub record IsCold (s : ShardState) (n : ℕ) : Type 0 where
  pub not_warm : warm_count n s.warm ≡ 0
  pub unused : use_of s n ≡ None

none_counted : (a : ℕ) (u t : Bool) → a + one_if u ≡ one_if t → t ≡ false → (a ≡ 0) × (u ≡ false)
none_counted a true t e h = absurd (let z : one_if t ≡ 0 = rw h refl in omega arith)
none_counted a false t e h = let z : one_if t ≡ 0 = rw h refl in (omega arith, refl)

pub cold_slot_free : (s : ShardState) → IsShard s → IsCold s s.cold
cold_slot_free s sound =
    let none = none_counted (warm_count s.cold s.warm) (is_used s s.cold) _ (sound.partition s.cold) (grind (arith, nat_tests)) in
    record { not_warm = none.0; unused = none_from (use_of s s.cold) none.1 }

pub used_once_more_in : (used : List (Option (Option MemoryInModule))) (n : ℕ) (want : Option MemoryInModule) → n < length used → slice_index_or used n None ≡ None → count_by is_some (slice_set used n (Some want)) ≡ count_by is_some used + 1
used_once_more_in used n want within unused =
    let before : one_if (is_some (slice_index_or used n None)) ≡ 0 = rw unused refl in
    let set : count_by is_some (slice_set used n (Some want)) + one_if (is_some (slice_index_or used n None)) ≡ count_by is_some used + 1 = sum_by-set (λ (x : Option (Option MemoryInModule)). one_if (is_some x)) used n (Some want) None within in
    omega arith

-- the first cold slot isn't warm
pub cold_apart : (s : ShardState) → IsShard s → (i : ℕ) → i < length s.warm → (entry_at s i).slot.0 ≢ s.cold
cold_apart s sound i inside same =
    let none' : warm_count s.cold s.warm ≡ 0 = (cold_slot_free s sound).not_warm in
    let here : one_if ((entry_at s i).slot.0 == s.cold) ≤ warm_count s.cold s.warm = get_or-le-sum_by (λ (e : WarmSlot). one_if (e.slot.0 == s.cold)) s.warm i _ inside in
    let one : one_if ((entry_at s i).slot.0 == s.cold) ≡ 1 = ap one_if (eq-eqb (entry_at s i).slot.0 s.cold same) in
    absurd (omega arith)

used_once_more : (s : ShardState) (n : ℕ) (want : Option MemoryInModule) → n < length s.used → use_of s n ≡ None → count_by is_some (slice_set s.used n (Some want)) ≡ used_count s + 1
used_once_more s n want within unused = used_once_more_in s.used n want within unused

-- what the partition says of a slot, in numbers
abbrev uses : List (Option (Option MemoryInModule)) → ℕ → ℕ
uses used k = one_if (is_some (slice_index_or used k None))

used_here : (used : List (Option (Option MemoryInModule))) (n k : ℕ) (want : Option MemoryInModule) → n < length used → k ≡ n → uses (slice_set used n (Some want)) k ≡ 1
used_here used n k want within same =
    let now : slice_index_or (slice_set used n (Some want)) n None ≡ Some want = get_or-set_same used n (Some want) None within in
    rw (same, now) refl

used_elsewhere : (used : List (Option (Option MemoryInModule))) (n k : ℕ) (want : Option MemoryInModule) → (k ≡ n → ⊥) → uses (slice_set used n (Some want)) k ≡ uses used k
used_elsewhere used n k want other =
    let now : slice_index_or (slice_set used n (Some want)) k None ≡ slice_index_or used k None = get_or-set_other used n k (Some want) None other in
    rw now refl

unused_here : (used : List (Option (Option MemoryInModule))) (n k : ℕ) → slice_index_or used n None ≡ None → k ≡ n → uses used k ≡ 0
unused_here used n k unused same = rw (same, unused) refl

-- one entry less, of its slot
removed : (w : List WarmSlot) (i k : ℕ) (d : WarmSlot) → i < length w → warm_count k (remove w i) + one_if ((slice_index_or w i d).slot.0 == k) ≡ warm_count k w
removed w i k d inside = sum_by-remove (λ (x : WarmSlot). one_if (x.slot.0 == k)) w i d inside

-- a warm slot that is taken leaves a shard
after_warm : (want : Option MemoryInModule) (s : ShardState) (i : ℕ) → IsShard s → i < length s.warm → IsShard (after_choice want s (warm_at i))
after_warm want s i sound inside =
    let n : ℕ = (entry_at s i).slot.0 in
    let free : IsFree s n = warm_slot_free s i sound inside in
    record {
      partition = λ k.
          let left : warm_count k (remove s.warm i) + one_if (n == k) ≡ warm_count k s.warm = removed s.warm i k _ inside in
          let was : warm_count k s.warm + uses s.used k ≡ one_if (nat_lt k s.cold) = sound.partition k in
          elim (cases_eq k n) [
            | inl h ↦
                let now : uses (slice_set s.used n (Some want)) k ≡ 1 = used_here s.used n k want free.within h in
                let before : uses s.used k ≡ 0 = unused_here s.used n k free.unused h in
                let its : (n == k) ≡ true = grind (arith, nat_tests) in
                let entry : one_if (n == k) ≡ 1 = rw its refl in
                omega arith
            | inr h ↦
                let now : uses (slice_set s.used n (Some want)) k ≡ uses s.used k = used_elsewhere s.used n k want h in
                let its : (n == k) ≡ false = grind (arith, nat_tests) in
                let entry : one_if (n == k) ≡ 0 = rw its refl in
                omega arith
          ];
      total =
          let fewer : length (remove s.warm i) + 1 ≡ length s.warm = length-remove s.warm i inside in
          let more : count_by is_some (slice_set s.used n (Some want)) ≡ used_count s + 1 = used_once_more s n want free.within free.unused in
          omega arith;
      cold_at_most = sound.cold_at_most;
      entries = length-set s.used n (Some want) ∙ sound.entries;
      bytes = All-append (λ (e : WarmSlot). e.bytes ≤ 2 ^ 32) (take i s.warm) (drop (suc i) s.warm) (All-take (λ (e : WarmSlot). e.bytes ≤ 2 ^ 32) i s.warm sound.bytes) (All-drop (λ (e : WarmSlot). e.bytes ≤ 2 ^ 32) (suc i) s.warm sound.bytes);
      numbers = sound.numbers;
      small = sound.small;
      counts = sound.counts;
    }

pub after_warm_sound : (want : Option MemoryInModule) (s t : ShardState) (i : ℕ) → t ≡ after_choice want s (warm_at i) → IsShard s → i < length s.warm → IsShard t
after_warm_sound want s t i same sound inside = subst IsShard (sym same) (after_warm want s i sound inside)

-- a cold slot that is taken leaves a shard
after_cold : (want : Option MemoryInModule) (s : ShardState) → IsShard s → s.cold < s.capacity → IsShard (after_choice want s next_cold)
after_cold want s sound inside =
    let cold : IsCold s s.cold = cold_slot_free s sound in
    let within : s.cold < length s.used = omega arith in
    record {
      partition = λ k.
          let was : warm_count k s.warm + uses s.used k ≡ one_if (nat_lt k s.cold) = sound.partition k in
          elim (cases_eq k s.cold) [
            | inl h ↦
                let now : uses (slice_set s.used s.cold (Some want)) k ≡ 1 = used_here s.used s.cold k want within h in
                let none : warm_count k s.warm ≡ 0 = ap (λ m. warm_count m s.warm) h ∙ cold.not_warm in
                let its : nat_lt k (s.cold + 1) ≡ true = grind (arith, nat_tests) in
                let below : one_if (nat_lt k (s.cold + 1)) ≡ 1 = rw its refl in
                omega arith
            | inr h ↦
                let now : uses (slice_set s.used s.cold (Some want)) k ≡ uses s.used k = used_elsewhere s.used s.cold k want h in
                let its : nat_lt k (s.cold + 1) ≡ nat_lt k s.cold = grind (arith, nat_tests) in
                let below : one_if (nat_lt k (s.cold + 1)) ≡ one_if (nat_lt k s.cold) = ap one_if its in
                omega arith
          ];
      total =
          let more : count_by is_some (slice_set s.used s.cold (Some want)) ≡ used_count s + 1 = used_once_more s s.cold want within cold.unused in
          omega arith;
      cold_at_most = omega arith;
      entries = length-set s.used s.cold (Some want) ∙ sound.entries;
      bytes = sound.bytes;
      numbers = sound.numbers;
      small = sound.small;
      counts = sound.counts;
    }

pub after_cold_sound : (want : Option MemoryInModule) (s t : ShardState) → t ≡ after_choice want s next_cold → IsShard s → s.cold < s.capacity → IsShard t
after_cold_sound want s t same sound inside = subst IsShard (sym same) (after_cold want s sound inside)

-- what is known of a warm slot that is taken
pub record IsWarm (s : ShardState) (p : SlotId × ℕ) : Type 0 where
  pub inside : p.0.0 < s.capacity
  pub unused : use_of s p.0.0 ≡ None
  pub bytes : p.1 ≤ 2 ^ 32

pub warm_slot_known : (s : ShardState) (i : ℕ) → IsShard s → i < length s.warm → IsWarm s (slot_and_bytes s (warm_at i))
warm_slot_known s i sound inside =
    let free : IsFree s (entry_at s i).slot.0 = warm_slot_free s i sound inside in
    record { inside = let w : (entry_at s i).slot.0 < length s.used = free.within in omega arith; unused = free.unused; bytes = All-get_or (λ (e : WarmSlot). e.bytes ≤ 2 ^ 32) s.warm i _ inside sound.bytes }

affine_known : (s : ShardState) (of : MemoryInModule) (o : Option ℕ) → last_position (is_affine of) s.warm ≡ o → IsShard s → IfSome (option_map (slot_and_bytes s) (option_map warm_at o)) (IsWarm s)
affine_known s of None e sound = tt
affine_known s of (Some i) e sound = warm_slot_known s i sound (last_passes (is_affine of) s.warm i (entry_at s i) e).inside

pub affine_slot_known : (s : ShardState) (of : MemoryInModule) (r : Option (SlotId × ℕ)) → r ≡ option_map (slot_and_bytes s) (affine_choice (Some of) s) → IsShard s → IfSome r (IsWarm s)
affine_slot_known s of r same sound = subst (λ o. IfSome o (IsWarm s)) (sym same) (affine_known s of (last_position (is_affine of) s.warm) refl sound)

affine_sound : (want : Option MemoryInModule) (s : ShardState) (of : MemoryInModule) (o : Option ℕ) → last_position (is_affine of) s.warm ≡ o → IsShard s → IsShard (option_map_or (after_choice want s) (option_map warm_at o) s)
affine_sound want s of None e sound = sound
affine_sound want s of (Some i) e sound = after_warm want s i sound (last_passes (is_affine of) s.warm i (entry_at s i) e).inside

pub after_affine_sound : (want : Option MemoryInModule) (s t : ShardState) (of : MemoryInModule) → t ≡ option_map_or (after_choice want s) (affine_choice (Some of) s) s → IsShard s → IsShard t
after_affine_sound want s t of same sound = subst IsShard (sym same) (affine_sound want s of (last_position (is_affine of) s.warm) refl sound)

pub some_weaker : {X : Type 0} (o : Option X) (P Q : X → Type 0) → ((x : X) → P x → Q x) → IfSome o P → IfSome o Q
some_weaker None P Q f h = tt
some_weaker (Some x) P Q f h = f x h

-- What a free leaves is a shard with the same slots, where the slot is used.
use Rattle.std.proofs.Common.{◌≡◌, ℕ, ◌+◌, ◌^◌, ◌<◌, ◌≤◌, true, false, List, [], ◌∷◌, ◌++◌, length, set, get_or, refl, sym, ap, ◌∙◌, inl, inr, arith, Option, None, All, ◌==◌, is_some, IsSome, unwrap_or, count_by, nat_lt}
use Rattle.pool_alloc.proofs.Imports.{cases_eq, cases_lt, true≢false, eq-eqb, ne_eqb, length-set, length-append, get_or-set_same, get_or-set_other, get_or_past, All-push, All-head, All-tail, sum_by-set, sum_by-append, MemoryInModule, SlotId, WarmSlot, ShardState, IsShard, IsSameShard, one_if, use_of, used_count, warm_count, after_free, home_of, Plan}
use Rattle.pool_alloc.specs.Freeing.{AreUsedInTurn}
use Rattle.pool_alloc.specs.StepReads.{after_frees}
use Rattle.pool_alloc.specs.declared.frame.FreedSlot.{FreedSlot}

-- a shard with the slots of another one
pub record IsShardOf (old new : ShardState) : Type 0 where
  pub sound : IsShard new
  pub same : IsSameShard old new

-- what the partition says of a slot, in numbers
abbrev uses : List (Option (Option MemoryInModule)) → ℕ → ℕ
uses used k = one_if (is_some (get_or used k None))

used_inside : (used : List (Option (Option MemoryInModule))) (n : ℕ) → IsSome (get_or used n None) → n < length used
used_inside used n some =
    elim (cases_lt n (length used)) [
      | inl below ↦ below
      | inr past ↦
          let none : get_or used n None ≡ None = get_or_past used n None past in
          absurd (true≢false (sym (rw none at some)))
    ]

pub freed_shard : (slot : SlotId) (bytes : ℕ) (s : ShardState) → IsShard s → IsSome (use_of s slot.0) → bytes ≤ 2 ^ 32 → IsShardOf s (after_free slot bytes s)
freed_shard slot bytes s sound used small =
    let n : ℕ = slot.0 in
    let entry : WarmSlot = record { slot = slot; affinity = unwrap_or (use_of s n) None; bytes = bytes } in
    let inside : n < length s.used = used_inside s.used n used in
    let was : uses s.used n ≡ 1 = rw used refl in
    record {
      sound = record {
        partition = λ k.
            let before : warm_count k s.warm + uses s.used k ≡ one_if (nat_lt k s.cold) = sound.partition k in
            let more : warm_count k (s.warm ++ entry ∷ []) ≡ warm_count k s.warm + (0 + one_if (n == k)) = sum_by-append (λ (e : WarmSlot). one_if (e.slot.0 == k)) s.warm (entry ∷ []) in
            elim (cases_eq k n) [
              | inl e ↦
                  let gone : uses (set s.used n None) n ≡ 0 = let now : get_or (set s.used n None) n None ≡ None = get_or-set_same s.used n None None inside in rw now refl in
                  let here : uses (set s.used n None) k ≡ 0 = ap (λ (m : ℕ). uses (set s.used n None) m) e ∙ gone in
                  let its : uses s.used k ≡ 1 = ap (λ (m : ℕ). uses s.used m) e ∙ was in
                  let test : (n == k) ≡ true = eq-eqb n k (omega arith) in
                  let one : one_if (n == k) ≡ 1 = rw test refl in
                  omega arith
              | inr other ↦
                  let here : uses (set s.used n None) k ≡ uses s.used k = let now : get_or (set s.used n None) k None ≡ get_or s.used k None = get_or-set_other s.used n k None None other in rw now refl in
                  let test : (n == k) ≡ false = ne_eqb n k (λ e. other (omega arith)) in
                  let none : one_if (n == k) ≡ 0 = rw test refl in
                  omega arith
            ];
        total =
            let more : length (s.warm ++ entry ∷ []) ≡ length s.warm + 1 = length-append s.warm (entry ∷ []) in
            let less : count_by is_some (set s.used n None) + uses s.used n ≡ used_count s + 0 = sum_by-set (λ (x : Option (Option MemoryInModule)). one_if (is_some x)) s.used n None None inside in
            omega (arith, sound.total);
        cold_at_most = sound.cold_at_most;
        entries = length-set s.used n None ∙ sound.entries;
        bytes = All-push (λ e. e.bytes ≤ 2 ^ 32) s.warm entry sound.bytes small;
        numbers = sound.numbers;
        small = sound.small;
        counts = sound.counts;
      };
      same = record { kind = refl; first = refl; step = refl; capacity = refl; budget = refl };
    }

shard_of_shard : (old mid new : ShardState) → IsSameShard old mid → IsShardOf mid new → IsShardOf old new
shard_of_shard old mid new same of =
    record {
      sound = of.sound;
      same = record {
        kind = of.same.kind ∙ same.kind;
        first = of.same.first ∙ same.first;
        step = of.same.step ∙ same.step;
        capacity = of.same.capacity ∙ same.capacity;
        budget = of.same.budget ∙ same.budget;
      };
    }

-- slots that are freed in turn
pub frees_shard : (plan : Plan) (slots : List FreedSlot) (shard : ShardState) → IsShard shard → AreUsedInTurn plan slots shard → All (λ x. x.bytes ≤ 2 ^ 32) slots → IsShardOf shard (after_frees plan slots shard)
frees_shard plan [] shard sound used small = record { sound = sound; same = record { kind = refl; first = refl; step = refl; capacity = refl; budget = refl } }
frees_shard plan (x ∷ rest) shard sound used small =
    let B : FreedSlot → Type 0 = λ y. y.bytes ≤ 2 ^ 32 in
    let first : IsShardOf shard (after_free (home_of plan x.name).local x.bytes shard) = freed_shard (home_of plan x.name).local x.bytes shard sound used.0 (All-head B x rest small) in
    shard_of_shard shard (after_free (home_of plan x.name).local x.bytes shard) (after_frees plan rest (after_free (home_of plan x.name).local x.bytes shard)) first.same
    (frees_shard plan rest (after_free (home_of plan x.name).local x.bytes shard) first.sound used.1 (All-tail B x rest small))

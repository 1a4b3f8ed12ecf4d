-- A pick for a memory, and one by affinity alone, take the last of the slots that are affine to it.
use Rattle.std.proofs.Common.{◌≡◌, ℕ, ◌+◌, Bool, true, false, List, [], ◌∷◌, ◌++◌, refl, ap, ◌∙◌, sym, subst, get_or, add-one, arith, Some, None, Option, option_map, IfSome, filter, if◌then◌else◌, MatchOption, remove}
use Rattle.pool_index.proofs.Imports.{option_or, nat_tests}
use Rattle.pool_index.specs.Affinity.{is_affine, same_memory}
use Rattle.pool_index.specs.Laws.{last_of, AffineSlotFirst, TakesLastAffine, AffineSlotsAreFiltered}
use Rattle.pool_index.specs.Positions.{last_position}
use Rattle.pool_index.specs.Shard.{ShardState, Choice, warm_at, slot_and_bytes, entry_at, pick_answer, affine_answer, after_affine_pick}
use Rattle.pool_index.specs.declared.ids.MemoryInModule.{MemoryInModule}
use Rattle.pool_index.specs.declared.warm_slot.WarmSlot.{WarmSlot}
use Rattle.pool_index.proofs.Filtered.{last_passes, filter-remove_last, filter-remove_other}

one_more : {X : Type 0} (x : X) (xs : List X) (d : X) (b : Bool) (r : Option ℕ) → option_map (λ i. get_or (x ∷ xs) i d) (option_or (option_map (λ i. i + 1) r) (if b then Some 0 else None)) ≡ (if b then option_or (option_map (λ i. get_or xs i d) r) (Some x) else option_map (λ i. get_or xs i d) r)
one_more x xs d true (Some i) = ap (λ m. Some (get_or (x ∷ xs) m d)) (add-one i)
one_more x xs d true None = refl
one_more x xs d false (Some i) = ap (λ m. Some (get_or (x ∷ xs) m d)) (add-one i)
one_more x xs d false None = refl

last_of_kept : {X : Type 0} (x : X) (ys : List X) (b : Bool) → last_of (if b then x ∷ ys else ys) ≡ (if b then option_or (last_of ys) (Some x) else last_of ys)
last_of_kept x ys true = refl
last_of_kept x ys false = refl

pub last_position-filter : {X : Type 0} (p : X → Bool) (xs : List X) (d : X) → option_map (λ i. get_or xs i d) (last_position p xs) ≡ last_of (filter p xs)
last_position-filter p [] d = refl
last_position-filter p (x ∷ xs) d =
    one_more x xs d (p x) (last_position p xs)
    ∙ ap (λ l. if p x then option_or l (Some x) else l) (last_position-filter p xs d)
    ∙ sym (last_of_kept x (filter p xs) (p x))

-- where a place was found, its entry is taken
taken : (s : ShardState) (r : Option ℕ) (rest : Option Choice) → IfSome (option_map (entry_at s) r) (λ e. option_map (slot_and_bytes s) (option_or (option_map warm_at r) rest) ≡ Some (e.slot, e.bytes))
taken s None rest = tt
taken s (Some i) rest = refl

pub affine_first : AffineSlotFirst
affine_first of s =
    subst (λ l. IfSome l (λ e. pick_answer (Some of) s ≡ Some (e.slot, e.bytes))) (last_position-filter (is_affine of) s.warm _) (taken s (last_position (is_affine of) s.warm) _)

same_as : (other of had : MemoryInModule) → same_memory other of ≡ false → same_memory of had ≡ true → same_memory other had ≡ false
same_as other of had apart same = grind (arith, nat_tests)

-- a slot that is affine to one memory isn't to another
pub affine_to_one : (other of : MemoryInModule) (e : WarmSlot) (a : Option MemoryInModule) → e.affinity ≡ a → same_memory other of ≡ false → is_affine of e ≡ true → is_affine other e ≡ false
affine_to_one other of e None is apart passes = rw is refl
affine_to_one other of e (Some had) is apart passes =
    let same : same_memory of had ≡ true = rw is at passes in
    rw is (same_as other of had apart same)

takes_last : (of : MemoryInModule) (s : ShardState) (i : ℕ) → last_position (is_affine of) s.warm ≡ Some i → TakesLastAffine of s (entry_at s i)
takes_last of s i e =
    let after : (after_affine_pick of s).warm ≡ remove s.warm i = rw e refl in
    let last = last_passes (is_affine of) s.warm i _ e in
    record {
      answer = rw e refl;
      others = filter-remove_last (is_affine of) s.warm i _ e ∙ ap (λ l. filter (is_affine of) l ++ entry_at s i ∷ []) (sym after);
      apart = λ other different. ap (filter (is_affine other)) after ∙ filter-remove_other (is_affine other) s.warm i _ last.inside (affine_to_one other of (entry_at s i) _ refl different last.passes);
    }

found : (of : MemoryInModule) (s : ShardState) (o : Option ℕ) → last_position (is_affine of) s.warm ≡ o → MatchOption (option_map (entry_at s) o) (affine_answer of s ≡ None) (TakesLastAffine of s)
found of s None e = rw e refl
found of s (Some i) e = takes_last of s i e

pub affine_filtered : AffineSlotsAreFiltered
affine_filtered of s =
    subst (λ l. MatchOption l (affine_answer of s ≡ None) (TakesLastAffine of s)) (last_position-filter (is_affine of) s.warm _) (found of s (last_position (is_affine of) s.warm) refl)

-- Slots that are freed one after the other.
use Rattle.std.proofs.Common.{◌≡◌, ℕ, ◌+◌, ◌==◌, if◌then◌else◌, Bool, true, false, [], ◌∷◌, refl, sym, ◌∙◌, ap, arith}
use Rattle.pool_index.proofs.Imports.{View, counted, number, sum_by_push}
use Rattle.pool_index.specs.Allocator.{place_in, bytes_into}
use Rattle.pool_index.specs.Holds.{AddsAt}
use Rattle.pool_index.specs.Part.{bytes_kept}
use Rattle.pool_index.specs.declared.allocator.ModuleAffinityIndexAllocator.{ModuleAffinityIndexAllocator}
use Rattle.pool_index.specs.declared.ids.SlotId.{SlotId}

both_tests : (a b : Bool) (n : ℕ) → (if a then (if b then n else 0) else 0) ≡ (if b then (if a then n else 0) else 0)
both_tests true true n = refl
both_tests true false n = refl
both_tests false true n = refl
both_tests false false n = refl

bytes_of_one : (a : ModuleAffinityIndexAllocator) (p : ℕ) (x : SlotId × ℕ) → bytes_into a p (x ∷ []) ≡ (if p == place_in a x.0.0 then x.1 else 0)
bytes_of_one a p x = let e = sum_by_push (λ (x : SlotId × ℕ). if p == place_in a x.0.0 then x.1 else 0) [] x in omega arith

pub bytes_added : {T : Type 0} (a : ModuleAffinityIndexAllocator) (slot : SlotId) (bytes : ℕ) (v w : View T) → AddsAt (place_in a slot.0) bytes v w → (p i : ℕ) → number (counted p i) w ≡ number (counted p i) v + (if i == bytes_kept then bytes_into a p ((slot, bytes) ∷ []) else 0)
bytes_added a slot bytes v w adds p i =
    adds p i
    ∙ ap (λ (n : ℕ). number (counted p i) v + n) (both_tests (p == place_in a slot.0) (i == bytes_kept) bytes ∙ ap (λ (n : ℕ). if i == bytes_kept then n else 0) (sym (bytes_of_one a p (slot, bytes))))

pub sum_of_both : (b : Bool) (m n k : ℕ) → k ≡ m + n → (if b then m else 0) + (if b then n else 0) ≡ (if b then k else 0)
sum_of_both true m n k e = sym e
sum_of_both false m n k e = refl

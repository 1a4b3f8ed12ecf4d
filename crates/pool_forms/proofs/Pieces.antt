-- Bytes in pieces.
use Rattle.std.proofs.Common.{◌≡◌, ℕ, ◌+◌, List, ◌++◌, take, drop, Option, Some, None, refl, sym, ap, ◌∙◌, append_assoc}
use Rattle.std.specs.Option.{option_map}
use Rattle.std.proofs.Math.Seq.{take-add}

both : (before : Option (List ℕ)) (bytes : List ℕ) (m n : ℕ)
    → option_map (λ t. t ++ take n (drop m bytes)) (option_map (λ t. t ++ take m bytes) before) ≡ option_map (λ t. t ++ take (m + n) bytes) before
both None bytes m n = refl
both (Some t) bytes m n = ap Some (append_assoc t (take m bytes) (take n (drop m bytes)) ∙ ap (λ r. t ++ r) (sym (take-add m n bytes)))

-- the first m bytes were taken, and then n more of the rest
pub taken_on : (before now after : Option (List ℕ)) (bytes rest : List ℕ) (m n : ℕ)
    → now ≡ option_map (λ t. t ++ take m bytes) before
    → rest ≡ drop m bytes
    → after ≡ option_map (λ t. t ++ take n rest) now
    → after ≡ option_map (λ t. t ++ take (m + n) bytes) before
taken_on before now after bytes rest m n first split second = second ∙ rw (first, split) (both before bytes m n)

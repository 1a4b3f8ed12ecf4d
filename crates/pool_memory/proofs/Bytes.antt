-- Ranges of the bytes of a region.
use Rattle.std.proofs.Common.{◌≡◌, ℕ, ◌+◌, ◌-◌, ◌≤◌, List, length, ap, ◌∙◌, arith, slice_range, replicate}
use Rattle.pool_memory.proofs.Imports.{length-replicate, piece_of, range-zeros}

-- a part of a range of zeros
pub zeros_part : (xs : List ℕ) (base a b i j : ℕ) → base + b ≤ length xs → a ≤ i → i ≤ j → j ≤ b → slice_range xs (base + a) (base + b) ≡ replicate (b - a) 0 → slice_range xs (base + i) (base + j) ≡ replicate (j - i) 0
zeros_part xs base a b i j fits from order to zeros =
    let bs : List ℕ = replicate (b - a) 0 in
    let long : length bs ≡ b - a = length-replicate {A = ℕ} (b - a) 0 in
    let end : base + a + length bs ≡ base + b = omega arith in
    let same : slice_range xs (base + a) (base + a + length bs) ≡ bs = ap (λ (n : ℕ). slice_range xs (base + a) n) end ∙ zeros in
    let first : base + i ≡ base + a + (i - a) = omega arith in
    let last : base + j ≡ base + a + (j - a) = omega arith in
    let count : j - a - (i - a) ≡ j - i = omega arith in
    ap (λ (n : ℕ). slice_range xs n (base + j)) first
    ∙ ap (λ (n : ℕ). slice_range xs (base + a + (i - a)) n) last
    ∙ piece_of xs bs (base + a) (i - a) (j - a) (omega arith) (omega arith) same
    ∙ range-zeros (b - a) (i - a) (j - a) (omega arith)
    ∙ ap (λ (n : ℕ). replicate {A = ℕ} n 0) count

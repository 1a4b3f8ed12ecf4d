-- A memory in a list of bytes, as it is made, written and grown.
use Rattle.std.proofs.Common.{◌≡◌, ℕ, ◌+◌, ◌-◌, ◌*◌, ◌/◌, ◌%◌, ◌^◌, ◌<◌, ◌≤◌, ◌++◌, List, length, take, max, refl, sym, ap, ◌∙◌, inl, inr, arith, slice_range, replicate, Some}
use Rattle.pool_memory.proofs.Imports.{mul-mod_left, div-mul-le_self, div-lt_iff_lt-mul, cases_lt, length-replicate, replicate-append-replicate, take-append-le, take-add, zeros_within, put, rounded_up, with_zeros, whole, length-with_zeros, range-with_zeros, length-put, range-put_above, range_range, rounded_up_above}
use Rattle.pool_memory.specs.Growing.{GrowsTo}
use Rattle.pool_memory.specs.Malloc.{Malloc, IsMalloc, malloc_linear, malloc_grown}

whole16 : (n : ℕ) → rounded_up 16 n % 16 ≡ 0
whole16 n = mul-mod_left ((n + 16 - 1) / 16) 16

-- a list with zeros behind it up to a length that may be shorter
same_zeros : (r : ℕ) (b : List ℕ) → with_zeros (max r (length b)) b ≡ with_zeros r b
same_zeros r b = let same : max r (length b) - length b ≡ r - length b = omega arith in ap (λ (n : ℕ). b ++ replicate {A = ℕ} n 0) same

pub length_zeros : (r : ℕ) (b : List ℕ) → length (with_zeros r b) ≡ max r (length b)
length_zeros r b = ap length (sym (same_zeros r b)) ∙ length-with_zeros (max r (length b)) b (omega arith)

grown_zeros : (b : List ℕ) (a r : ℕ) → a ≤ length b → slice_range b a (length b) ≡ replicate (length b - a) 0 → slice_range (with_zeros r b) a (max r (length b)) ≡ replicate (max r (length b) - a) 0
grown_zeros b a r within zeros =
    let m : ℕ = max r (length b) in
    let end : a + (m - a) ≡ m = omega arith in
    let few : length (replicate {A = ℕ} (length b - a) 0) ≡ length b - a = length-replicate (length b - a) 0 in
    let sum : length b - a + (m - a - length (replicate {A = ℕ} (length b - a) 0)) ≡ m - a = omega arith in
    let part : with_zeros (m - a) (slice_range b a (length b)) ≡ slice_range (with_zeros m b) a (a + (m - a)) = range-with_zeros m a (m - a) a (length b) b (omega arith) (omega arith) (omega arith) (omega arith) in
    ap (λ (l : List ℕ). slice_range l a m) (sym (same_zeros r b))
    ∙ ap (λ (n : ℕ). slice_range (with_zeros m b) a n) (sym end)
    ∙ sym part
    ∙ ap (with_zeros (m - a)) zeros
    ∙ replicate-append-replicate (length b - a) (m - a - length (replicate {A = ℕ} (length b - a) 0)) 0
    ∙ ap (λ (n : ℕ). replicate {A = ℕ} n 0) sum

range_taken : (xs : List ℕ) (n i j : ℕ) → i ≤ j → j ≤ n → slice_range (take n xs) i j ≡ slice_range xs i j
range_taken xs n i j order within =
    let all : n - 0 ≡ n = omega arith in
    let first : 0 + i ≡ i = omega arith in
    let last : 0 + j ≡ j = omega arith in
    ap (λ (k : ℕ). slice_range (take k xs) i j) (sym all) ∙ range_range xs 0 n i j (omega arith) ∙ ap (λ (k : ℕ). slice_range xs k (0 + j)) first ∙ ap (λ (k : ℕ). slice_range xs i k) last

-- what is read of the list is read of the memory
pub read_malloc : (m : Malloc) (at len : ℕ) → IsMalloc m → at + len ≤ m.size → slice_range m.bytes at (at + len) ≡ slice_range (take m.size m.bytes) at (at + len)
read_malloc m at len is below = sym (range_taken m.bytes m.size at (at + len) (omega arith) below)

-- it is one still where bytes of it were written
pub written_is_malloc : (m : Malloc) (at : ℕ) (new : List ℕ) → IsMalloc m → at + length new ≤ m.size → IsMalloc (record m { bytes = put at new m.bytes })
written_is_malloc m at new is below =
    let long : length (put at new m.bytes) ≡ length m.bytes = length-put at new m.bytes (omega (arith, is.reached)) in
    record {
      whole = ap (λ (n : ℕ). n % 16) long ∙ is.whole;
      reached = omega (arith, long, is.reached);
      room = omega (arith, long, is.room);
      units = is.units;
      bounded = is.bounded;
      zeros = ap (λ (n : ℕ). slice_range (put at new m.bytes) m.size n) long ∙ range-put_above at new m.bytes m.size (length m.bytes) (omega (arith, is.reached)) (omega arith) (omega arith) ∙ is.zeros ∙ ap (λ (n : ℕ). replicate {A = ℕ} (n - m.size) 0) (sym long);
    }

-- and with more of what it stores
pub sized_is_malloc : (m : Malloc) (n : ℕ) → IsMalloc m → m.size ≤ n → n ≤ length m.bytes → IsMalloc (record m { size = n })
sized_is_malloc m n is more within = record {
  whole = is.whole;
  reached = within;
  room = is.room;
  units = is.units;
  bounded = is.bounded;
  zeros = zeros_within m.bytes m.size (length m.bytes) n (length m.bytes) (omega arith) more within (omega arith) is.zeros;
}

max_whole : (a b : ℕ) → a % 16 ≡ 0 → b % 16 ≡ 0 → max a b % 16 ≡ 0
max_whole a b first second =
    elim (cases_lt a b) [
      | inl less ↦ let is : max a b ≡ b = omega arith in ap (λ (n : ℕ). n % 16) is ∙ second
      | inr more ↦ let is : max a b ≡ a = omega arith in ap (λ (n : ℕ). n % 16) is ∙ first
    ]

-- it is one as it has grown
pub grown_is_malloc : (m : Malloc) (size : ℕ) → IsMalloc m → m.size ≤ size → size + 15 < 2 ^ 64 → IsMalloc (malloc_grown size m)
grown_is_malloc m size is more below =
    let r : ℕ = rounded_up 16 size in
    let long : length (with_zeros r m.bytes) ≡ max r (length m.bytes) = length_zeros r m.bytes in
    let least : size ≤ r = rounded_up_above 16 size (omega arith) in
    let most : r ≤ size + 16 - 1 = div-mul-le_self (size + 16 - 1) 16 in
    let zeros : slice_range (with_zeros r m.bytes) m.size (max r (length m.bytes)) ≡ replicate (max r (length m.bytes) - m.size) 0 = grown_zeros m.bytes m.size r is.reached is.zeros in
    record {
      whole = ap (λ (n : ℕ). n % 16) long ∙ max_whole r (length m.bytes) (whole16 size) is.whole;
      reached = omega (arith, long, least);
      room = omega (arith, long, is.room);
      units = max_whole m.capacity r is.units (whole16 size);
      bounded = omega (arith, is.bounded, most);
      zeros = ap (λ (n : ℕ). slice_range (with_zeros r m.bytes) size n) long
          ∙ zeros_within (with_zeros r m.bytes) m.size (max r (length m.bytes)) size (max r (length m.bytes)) (omega (arith, long)) more (omega (arith, least)) (omega arith) zeros
          ∙ ap (λ (n : ℕ). replicate {A = ℕ} (n - size) 0) (sym long);
    }

grown_bytes : (m : Malloc) (size : ℕ) → IsMalloc m → m.size ≤ size → take size (with_zeros (rounded_up 16 size) m.bytes) ≡ take m.size m.bytes ++ replicate (size - m.size) 0
grown_bytes m size is more =
    let r : ℕ = rounded_up 16 size in
    let x : List ℕ = with_zeros r m.bytes in
    let long : length x ≡ max r (length m.bytes) = length_zeros r m.bytes in
    let least : size ≤ r = rounded_up_above 16 size (omega arith) in
    let sum : m.size + (size - m.size) ≡ size = omega arith in
    let zeros : slice_range x m.size (max r (length m.bytes)) ≡ replicate (max r (length m.bytes) - m.size) 0 = grown_zeros m.bytes m.size r is.reached is.zeros in
    let behind : slice_range x m.size size ≡ replicate (size - m.size) 0 = zeros_within x m.size (max r (length m.bytes)) m.size size (omega (arith, long)) (omega arith) more (omega (arith, least)) zeros in
    ap (λ (n : ℕ). take n x) (sym sum)
    ∙ take-add m.size (size - m.size) x
    ∙ ap (λ (l : List ℕ). l ++ slice_range x m.size size) (take-append-le m.size m.bytes (replicate (r - length m.bytes) 0) is.reached)
    ∙ ap (λ (l : List ℕ). take m.size m.bytes ++ l) behind

up_whole : (n c : ℕ) → c % 16 ≡ 0 → n ≤ c → rounded_up 16 n ≤ c
up_whole n c is within =
    let q : ℕ = c / 16 in
    let parts : 16 * q ≡ c = whole c 16 is in
    let less : (n + 16 - 1) / 16 < q + 1 = (div-lt_iff_lt-mul (omega arith)).1 (omega (arith, parts)) in
    omega (arith, parts, less)

moved_room16 : (m : Malloc) (size : ℕ) → IsMalloc m → m.capacity < size → max m.capacity (rounded_up 16 size) ≡ rounded_up 16 size
moved_room16 m size is past = let least : size ≤ rounded_up 16 size = rounded_up_above 16 size (omega arith) in omega (arith, least)

in_place16 : (m : Malloc) (size : ℕ) → IsMalloc m → size ≤ m.capacity → max m.capacity (rounded_up 16 size) ≡ m.capacity
in_place16 m size is within = let most : rounded_up 16 size ≤ m.capacity = up_whole size m.capacity is.units within in omega (arith, most)

-- it has grown
pub malloc_grows : (m : Malloc) (size : ℕ) → IsMalloc m → m.size ≤ size → GrowsTo size (malloc_linear m) (malloc_linear (malloc_grown size m))
malloc_grows m size is more =
    let r : ℕ = rounded_up 16 size in
    let bytes : take size (with_zeros r m.bytes) ≡ take m.size m.bytes ++ replicate (size - m.size) 0 = grown_bytes m size is more in
    record {
      same_size = refl;
      bytes = λ _. ap (λ (l : List ℕ). Some l) (sym bytes);
      moves = refl;
      extra = refl;
      place = refl;
      moved = λ past. record { bytes = bytes; told = refl; room = moved_room16 m size is past };
      in_place = λ within. in_place16 m size is within;
      planned = λ _. tt;
    }

-- where addresses leave no room for one more unit, it has no room either
pub past16 : (m : Malloc) (size : ℕ) → IsMalloc m → (size + 15 < 2 ^ 64 → ⊥) → m.capacity < size
past16 m size is past =
    let q : ℕ = m.capacity / 16 in
    let parts : 16 * q ≡ m.capacity = whole m.capacity 16 is.units in
    elim (cases_lt m.capacity size) [
      | inl less ↦ less
      | inr more ↦ absurd (past (omega (arith, parts, more, is.bounded)))
    ]

-- How a memory is made: the answer that a refusal tells, the sizes of a type, and what a memory begins with.
use Rattle.std.proofs.Common.{◌≡◌, ℕ, ◌+◌, ◌-◌, ◌*◌, ◌^◌, ◌<◌, ◌≤◌, ◌%◌, Bool, true, false, refl, sym, ap, ◌∙◌, inl, inr, arith, nat_lt, Option, Some, None, Result, Ok, Err, IfSome, if◌then◌else◌}
use Rattle.pool_memory.proofs.Imports.{mul-le-mul_right, mul-mod_left, pow-add, cases_lt, lt-ltb, page_below, page_size, minimum_byte_size, maximum_byte_size, greatest_size, index_bound, allow_growth_to, refused_limits, above, MemoryType, Unsupported, MinimumExceedsMaximum, MemoryMinimum, AddressSpace, LimiterError}
use Rattle.pool_memory.specs.Making.{maximum_asked, limits_answer, limiter_answer}
use Rattle.pool_memory.specs.declared.memory_error.MemoryError.TheVariants as refused

granted_told : {X : Type 0} (b c : Bool) (x : X) (u v : Unsupported) → limiter_answer (if b then (if c then Ok x else Err (refused.Unsupported u)) else Err (refused.Unsupported v)) ≡ Ok true
granted_told true true x u v = refl
granted_told true false x u v = refl
granted_told false c x u v = refl

-- the limits tell the answer that they were granted with
pub answer_told : (a : Result Bool LimiterError) (ty : MemoryType) → limiter_answer (limits_answer a ty) ≡ a
answer_told (Err e) ty = refl
answer_told (Ok false) ty = refl
answer_told (Ok true) ty = granted_told (nat_lt (minimum_byte_size ty) (2 ^ 64)) (allow_growth_to ty (minimum_byte_size ty)) (minimum_byte_size ty, maximum_asked ty) AddressSpace (MemoryMinimum ty.limits.min)

pages_order : (min : ℕ) (o : Option ℕ) → above min o ≡ None → IfSome o (λ most. min ≤ most)
pages_order min None e = tt
pages_order min (Some most) e =
    elim (cases_lt most min) [
      | inl under ↦ let t = lt-ltb most min under in let none : Some (MinimumExceedsMaximum min most) ≡ None = rw t at e in absurd cc
      | inr over ↦ over
    ]

bytes_order : (o : Option ℕ) (min page bound : ℕ) → IfSome o (λ most. min ≤ most) → min * page ≤ greatest_size o page (min * page) bound
bytes_order None min page bound order = omega arith
bytes_order (Some most) min page bound order = mul-le-mul_right page order

where_held : (b : Bool) (least most : ℕ) → least ≤ most → IfSome (if b then Some most else None) (λ n. least ≤ n)
where_held true least most order = order
where_held false least most order = tt

-- the minimum is at most the maximum that is told
pub least_most : (ty : MemoryType) → refused_limits ty.limits ≡ None → IfSome (maximum_asked ty) (λ most. minimum_byte_size ty ≤ most)
least_most ty order =
    where_held (nat_lt (maximum_byte_size ty) (2 ^ 64)) (minimum_byte_size ty) (maximum_byte_size ty)
    (bytes_order ty.limits.max ty.limits.min (page_size ty) (index_bound ty.idx_type (page_size ty)) (pages_order ty.limits.min ty.limits.max order))

-- whole pages that a `u64` can hold leave room for one more below its end
pub room_for_page : (min k : ℕ) → k < 64 → min * 2 ^ k < 2 ^ 64 → min * 2 ^ k + 2 ^ k ≤ 2 ^ 64
room_for_page min k small below =
    let sum : 64 - k + k ≡ 64 = omega arith in
    let parts : 2 ^ 64 ≡ 2 ^ (64 - k) * 2 ^ k = ap (λ (n : ℕ). 2 ^ n) (sym sum) ∙ pow-add 2 (64 - k) k in
    let whole : 2 ^ 64 % 2 ^ k ≡ 0 = ap (λ (n : ℕ). n % 2 ^ k) parts ∙ mul-mod_left (2 ^ (64 - k)) (2 ^ k) in
    page_below min (2 ^ 64) (2 ^ k) whole below

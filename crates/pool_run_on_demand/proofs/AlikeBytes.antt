-- Two memories, and two stacks, that look alike to a party but for their slots and their room stay so, and are answered alike,
-- where both are served.
use Rattle.std.proofs.Common.{◌≡◌, ◌≢◌, ℕ, ◌+◌, ◌-◌, ◌*◌, ◌^◌, Bool, true, false, List, ◌++◌, length, min, nat_lt, replicate, Option, Some, None, Result, Ok, Err, inl, inr, refl, sym, ap, ◌∙◌, subst, arith, is_some, ◌==◌, ◌||◌, not, if◌then◌else◌, IfSome, option_map, slice_range}
use Rattle.pool_run_on_demand.proofs.Imports.{some_mapped, put, page_size, allow_growth_to, MemoryType, GrowthRule, memory_answer, memory_failure, LimiterError, exceeds, maximum_asked, MemoryOp, reads, writes, fills, grows, asks_size, PrivateStack, ReadsBytes, WritesBytes, StackMoves, StackWrites, stack_written, PrivateMemory, Writes, private_written, Grows, growth, left_of, memory_grown, size_wanted, GrowthEnd, as_it_was, could_not, has_grown, reported, MemoryMoves, if_allowed, Reply, Bytes, Done, Size, Grown, Refused, Refusal, Alloc}
use Rattle.pool_run.specs.declared.reply.Reply.TheVariants.{Trap}
use Rattle.pool_slots.specs.declared.errors.AllocError.TheVariants as alloc
use Rattle.pool_run_on_demand.specs.OnDemand.{MovesOnDemand}
use Rattle.pool_run_on_demand.specs.Alike.{bytes_in, IsServed}

-- They have the same type, size and bytes, which are told.
pub record AreAlike (m n : PrivateMemory) : Type 0 where
  pub ty : m.ty ≡ n.ty
  pub size : m.size ≡ n.size
  pub bytes : m.bytes ≡ n.bytes
  pub told : is_some m.bytes ≡ true

-- reads
read_by : (o p : Option (List ℕ)) (from to : ℕ) (xs ys : List ℕ) → o ≡ p → is_some o ≡ true → IfSome o (λ b. xs ≡ slice_range b from to) → IfSome p (λ b. ys ≡ slice_range b from to) → xs ≡ ys
read_by None p from to xs ys same told one two = absurd cc
read_by (Some b) p from to xs ys same told one two =
    let Is : Option (List ℕ) → Type 0 = λ o. IfSome o (λ c. ys ≡ slice_range c from to) in
    one ∙ sym (subst Is (sym same) two)

module _ (size short : ℕ) (o p : Option (List ℕ)) (sizes : size ≡ short) (same : o ≡ p) (told : is_some o ≡ true) (i len : ℕ) where
  reads_alike : (r q : Reply) → ReadsBytes size o i len r → ReadsBytes short p i len q → r ≢ Refused (Alloc alloc.Memory) → q ≢ Refused (Alloc alloc.Memory) → r ≡ q
  reads_alike (Bytes xs) (Bytes ys) one two first second = ap (λ (b : List ℕ). Bytes b) (read_by o p i (i + len) xs ys same told one.2 two.2)
  reads_alike (Bytes xs) (Trap u) one two first second = absurd (omega (arith, one.0, two.1, sizes))
  reads_alike (Bytes xs) (Refused e) one two first second = absurd (second (ap (λ (x : Refusal). Refused x) two))
  reads_alike (Bytes xs) _ one two first second = absurd two
  reads_alike (Trap u) (Bytes ys) one two first second = absurd (omega (arith, two.0, one.1, sizes))
  reads_alike (Trap u) (Trap v) one two first second = ap (λ x. Trap x) (one.0 ∙ sym two.0)
  reads_alike (Trap u) (Refused e) one two first second = absurd (second (ap (λ (x : Refusal). Refused x) two))
  reads_alike (Trap u) _ one two first second = absurd two
  reads_alike (Refused d) q one two first second = absurd (first (ap (λ (x : Refusal). Refused x) one))
  reads_alike _ q one two first second = absurd one

-- writes, which leave two things alike that were, as the written ones are
module _ {X : Type 0} (R : X → X → Type 0) (size short i len : ℕ) (sizes : size ≡ short) (m n left right : X) (still : R m n) (written : R left right) where
  moved_alike : (a b x y : X) → a ≡ x → b ≡ y → R x y → R a b
  moved_alike a b x y one two is = subst (λ (z : X). R z b) (sym one) (subst (λ (z : X). R x z) (sym two) is)

  writes_alike : (a b : X) (r q : Reply) → WritesBytes size i len left m a r → WritesBytes short i len right n b q → R a b × (r ≡ q)
  writes_alike a b Done Done one two = (moved_alike a b left right one.1 two.1 written, refl)
  writes_alike a b Done (Trap u) one two = absurd (omega (arith, one.0, two.1, sizes))
  writes_alike a b Done _ one two = absurd two
  writes_alike a b (Trap u) Done one two = absurd (omega (arith, two.0, one.1, sizes))
  writes_alike a b (Trap u) (Trap v) one two = (moved_alike a b m n one.2 two.2 still, ap (λ x. Trap x) (one.0 ∙ sym two.0))
  writes_alike a b (Trap u) _ one two = absurd two
  writes_alike a b _ q one two = absurd one

written_alike : (i : ℕ) (xs : List ℕ) (m n : PrivateMemory) → AreAlike m n → AreAlike (private_written i xs m) (private_written i xs n)
written_alike i xs m n alike = record { ty = alike.ty; size = alike.size; bytes = ap (option_map (put i xs)) alike.bytes; told = some_mapped (put i xs) m.bytes alike.told }

-- growths
not_reported : (report : Result (Unit {0}) LimiterError) (size : ℕ) → reported report ≡ Grown (Some size) → ⊥
not_reported (Ok u) size is = cc is
not_reported (Err e) size is = cc is

abbrev ended : Bool → Bool → Result Bool LimiterError → Bool → Bool → Result (Unit {0}) LimiterError → ℕ → GrowthEnd × Reply
ended nothing past_type answer past fault report size =
    if nothing then (as_it_was, Grown (Some size)) else (if past_type then (as_it_was, reported report) else if_allowed answer (if past then (as_it_was, reported report) else (if fault then (could_not, reported report) else (has_grown, Grown (Some size)))))

-- one that was granted has grown, unless nothing was asked for
abbrev pub granted_end : Bool → GrowthEnd
granted_end nothing = if nothing then as_it_was else has_grown

pub granted : (nothing past_type : Bool) (answer : Result Bool LimiterError) (past fault : Bool) (report : Result (Unit {0}) LimiterError) (size old : ℕ) → (ended nothing past_type answer past fault report size).1 ≡ Grown (Some old) → ◌≡◌ {A = GrowthEnd × Reply} (ended nothing past_type answer past fault report size) (granted_end nothing, Grown (Some size))
granted true past_type answer past fault report size old is = refl
granted false true answer past fault report size old is = absurd (not_reported report old is)
granted false false (Err e) past fault report size old is = absurd (cc is)
granted false false (Ok false) past fault report size old is = absurd (cc is)
granted false false (Ok true) true fault report size old is = absurd (not_reported report old is)
granted false false (Ok true) false true report size old is = absurd (not_reported report old is)
granted false false (Ok true) false false report size old is = refl

-- what it leaves then
abbrev left_granted : Bool → MemoryType → ℕ → ℕ → PrivateMemory → PrivateMemory
left_granted nothing ty size pages m = left_of (granted_end nothing) (min (size + pages * page_size ty) (2 ^ 64 - page_size ty)) m

growth_is : (rule : GrowthRule) (pages : ℕ) (m new : PrivateMemory) (reply : Reply) (old : ℕ) → Grows rule pages m new reply → reply ≡ Grown (Some old) → (new ≡ left_granted (pages == 0) m.ty m.size pages m) × (reply ≡ Grown (Some m.size))
growth_is rule pages m new reply old is told =
    let wanted : ℕ = size_wanted pages m in
    let says : reply ≡ (growth rule is.0 pages m).1 = ap (λ (p : PrivateMemory × Reply). p.1) is.1 in
    let end : growth rule is.0 pages m ≡ (granted_end (pages == 0), Grown (Some m.size)) =
    granted (pages == 0) (not (allow_growth_to m.ty wanted)) (memory_answer (Some rule) (Ok true) wanted (maximum_asked m.ty)) (exceeds (maximum_asked m.ty) wanted || nat_lt m.capacity wanted) is.0 (memory_failure (Some rule) (Ok tt)) m.size old (sym says ∙ told) in
    (ap (λ (p : PrivateMemory × Reply). p.0) is.1 ∙ ap (λ (p : GrowthEnd × Reply). left_of p.0 wanted m) end, says ∙ ap (λ (p : GrowthEnd × Reply). p.1) end)

module _ (m n : PrivateMemory) (alike : AreAlike m n) where
  grown_alike : (size : ℕ) → AreAlike (memory_grown size m) (memory_grown size n)
  grown_alike size = record {
    ty = alike.ty;
    size = refl;
    bytes = ap (λ (k : ℕ). option_map (λ b. b ++ replicate {A = ℕ} (size - k) 0) m.bytes) alike.size ∙ ap (option_map (λ b. b ++ replicate {A = ℕ} (size - n.size) 0)) alike.bytes;
    told = some_mapped (λ b. b ++ replicate {A = ℕ} (size - m.size) 0) m.bytes alike.told;
  }

  left_alike : (nothing : Bool) (size : ℕ) → AreAlike (left_of (granted_end nothing) size m) (left_of (granted_end nothing) size n)
  left_alike true size = alike
  left_alike false size = grown_alike size

  growths_alike : (rule : GrowthRule) (pages : ℕ) (a b : PrivateMemory) (r q : Reply) (x y : ℕ) → Grows rule pages m a r → r ≡ Grown (Some x) → Grows rule pages n b q → q ≡ Grown (Some y) → AreAlike a b × (r ≡ q)
  growths_alike rule pages a b r q x y one first two second =
      let left = growth_is rule pages m a r x one first in
      let right = growth_is rule pages n b q y two second in
      let W : MemoryType → ℕ → ℕ = λ ty size. min (size + pages * page_size ty) (2 ^ 64 - page_size ty) in
      let wanted : W n.ty n.size ≡ W m.ty m.size = ap (λ (ty : MemoryType). W ty n.size) (sym alike.ty) ∙ ap (W m.ty) (sym alike.size) in
      let both : AreAlike (left_of (granted_end (pages == 0)) (W m.ty m.size) m) (left_of (granted_end (pages == 0)) (W n.ty n.size) n) = subst (λ (s : ℕ). AreAlike (left_of (granted_end (pages == 0)) (W m.ty m.size) m) (left_of (granted_end (pages == 0)) s n)) (sym wanted) (left_alike (pages == 0) (W m.ty m.size)) in
      (subst (λ (z : PrivateMemory). AreAlike z b) (sym left.0) (subst (AreAlike (left_granted (pages == 0) m.ty m.size pages m)) (sym right.0) both), left.1 ∙ ap (λ (k : ℕ). Grown (Some k)) alike.size ∙ sym right.1)

  -- each operation
  abbrev MemoryServed : MemoryOp → Reply → Type 0
  MemoryServed op r = IsServed (bytes_in 0 op) r

  bytes_alike : (i : ℕ) (xs : List ℕ) (a b : PrivateMemory) (r q : Reply) → Writes i xs m a r → Writes i xs n b q → AreAlike a b × (r ≡ q)
  bytes_alike i xs a b r q one two = writes_alike AreAlike m.size n.size i (length xs) alike.size m n (private_written i xs m) (private_written i xs n) alike (written_alike i xs m n alike) a b r q one two

  pub op_alike : (op : MemoryOp) (rule : GrowthRule) (a b : PrivateMemory) (r q : Reply) → MemoryMoves op rule m a r → MovesOnDemand op rule n b q → MemoryServed op r → MemoryServed op q → AreAlike a b × (r ≡ q)
  op_alike (reads i len) rule a b r q one two first second =
      (subst (λ (z : PrivateMemory). AreAlike z b) (sym one.1) (subst (AreAlike m) (sym two.1) alike), reads_alike m.size n.size m.bytes n.bytes alike.size alike.bytes alike.told i len r q one.0 two.0 first second)
  op_alike (writes i xs) rule a b r q one two first second = bytes_alike i xs a b r q one two
  op_alike (fills i len byte) rule a b r q one two first second = bytes_alike i (replicate len byte) a b r q one two
  op_alike (grows pages) rule a b r q one (inl two) first second = growths_alike rule pages a b r q first.0 second.0 one first.1 two second.1
  op_alike (grows pages) rule a b r q one (inr wants) first second = let wrong : Refused (Alloc alloc.Memory) ≡ Grown (Some second.0) = sym wants.1.0 ∙ second.1 in absurd (cc wrong)
  op_alike asks_size rule a b r q one two first second =
      (subst (λ (z : PrivateMemory). AreAlike z b) (sym one.1) (subst (AreAlike m) (sym two.1) alike), one.0 ∙ ap Size alike.size ∙ sym two.0)

-- Two stacks have the same size and bytes, which are told, and stay so.
pub record AreStacksAlike (s z : PrivateStack) : Type 0 where
  pub size : s.size ≡ z.size
  pub bytes : s.bytes ≡ z.bytes
  pub told : is_some s.bytes ≡ true

module _ (s z : PrivateStack) (alike : AreStacksAlike s z) where
  stacks_moved : (a b : PrivateStack) → a ≡ s → b ≡ z → AreStacksAlike a b
  stacks_moved a b one two = subst (λ (w : PrivateStack). AreStacksAlike w b) (sym one) (subst (λ (w : PrivateStack). AreStacksAlike s w) (sym two) alike)

  stack_bytes_alike : (i : ℕ) (xs : List ℕ) (a b : PrivateStack) (r q : Reply) → StackWrites i xs s a r → StackWrites i xs z b q → AreStacksAlike a b × (r ≡ q)
  stack_bytes_alike i xs a b r q one two =
      writes_alike AreStacksAlike s.size z.size i (length xs) alike.size s z (stack_written i xs s) (stack_written i xs z) alike (record { size = alike.size; bytes = ap (option_map (put i xs)) alike.bytes; told = some_mapped (put i xs) s.bytes alike.told }) a b r q one two

  pub stack_alike : (op : MemoryOp) (a b : PrivateStack) (r q : Reply) → StackMoves op s a r → StackMoves op z b q → IsServed (bytes_in 0 op) r → IsServed (bytes_in 0 op) q → AreStacksAlike a b × (r ≡ q)
  stack_alike (reads i len) a b r q one two first second = (stacks_moved a b one.1 two.1, reads_alike s.size z.size s.bytes z.bytes alike.size alike.bytes alike.told i len r q one.0 two.0 first second)
  stack_alike (writes i xs) a b r q one two first second = stack_bytes_alike i xs a b r q one two
  stack_alike (fills i len byte) a b r q one two first second = stack_bytes_alike i (replicate len byte) a b r q one two
  stack_alike (grows pages) a b r q one two first second = (stacks_moved a b one.1 two.1, one.0 ∙ sym two.0)
  stack_alike asks_size a b r q one two first second = (stacks_moved a b one.1 two.1, one.0 ∙ ap Size alike.size ∙ sym two.0)

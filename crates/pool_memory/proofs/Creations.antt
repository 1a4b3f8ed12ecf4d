-- Memories as the default creator makes them.
use Rattle.std.proofs.Common.{◌≡◌, ℕ, ◌+◌, ◌-◌, ◌^◌, ◌<◌, ◌≤◌, Bool, true, false, List, [], ◌∷◌, length, min, refl, sym, ap, ◌∙◌, inl, inr, arith, slice_range, replicate, Option, Some, None, Result, Ok, Err, ◌⊎◌, ◌==◌, ◌||◌, not, IfSome, is_some, if◌then◌else◌}
use Rattle.pool_memory.proofs.Imports.{list_any, cases_lt, mapped_some, Contents, MakerTold, Planned, calls_of, part_of, plan_for, fails_making, MemoryTunables, OnDemand, Unsupported, Slot, raised, if_mapped, followed, paired, GrowError}
use Rattle.pool_memory.specs.Creators.{IsAsMade, IsBetween, ListsBetween, HasFaulted, IsSameMaker, CreatorLeaves}
use Rattle.pool_memory.specs.Layouts.{Layout, first_layout}
use Rattle.pool_memory.specs.Linear.{Linear}
use Rattle.pool_memory.specs.Malloc.{Malloc, malloc_linear}
use Rattle.pool_memory.specs.Mapped.{Mapped, IsMadeSlot, mapped_linear}
use Rattle.pool_memory.specs.Moving.{CallLeaves, IsAsked, MakingFails, FirstCallFails, MakingLeaves, first_call, slot_for}
use Rattle.pool_memory.specs.declared.memory_error.MemoryError.{MemoryError}
use Rattle.pool_memory.specs.declared.memory_error.MemoryError.TheVariants as refused
use Rattle.pool_memory.proofs.Bytes.{zeros_part}
use Rattle.pool_memory.proofs.Moves.{all_there}

next_risen : (old new : MakerTold) → IsAsked old new → new.next ≡ min (old.next + 1) (2 ^ 32 - 1)
next_risen old new asked = ap (λ (m : MakerTold). m.next) asked

-- the number that was asked for
asked_between : (old new : MakerTold) → IsAsked old new → IsBetween old.next new.next old.next
asked_between old new asked = (
  omega arith,
  elim (cases_lt old.next (2 ^ 32 - 1)) [
    | inl below ↦ inl (omega (arith, next_risen old new asked))
    | inr end ↦ inr end
  ],
)

pub asked_same : (old new : MakerTold) → IsAsked old new → IsSameMaker old new
asked_same old new asked = record {
  same = asked ∙ ap (λ (n : ℕ). record old { next = n; behind = new.behind; faults = new.faults }) (sym (next_risen old new asked));
  rises = omega (arith, next_risen old new asked);
}

plan_if : (b : Bool) (n : ℕ) (s : Slot) → (if b then raised n s else s).region.plan ≡ s.region.plan
plan_if true n s = refl
plan_if false n s = refl

contents_if : (b : Bool) (n : ℕ) (s : Slot) → is_some (if b then raised n s else s).region.contents ≡ is_some s.region.contents
contents_if true n s = mapped_some _ s.region.contents
contents_if false n s = refl

told_if : {X : Type 0} (b : Bool) (x : X) → b ≡ true → is_some (if b then Some x else None) ≡ true
told_if true x is = refl
told_if false x is = absurd cc

-- the memory is as it is made
pub mapped_as_made : (old new : MakerTold) (t : MemoryTunables) (minimum extra : ℕ) (m : Mapped) → m ≡ record { slot = slot_for old (first_layout old.page t minimum) minimum; size = minimum; extra = extra; as_made = true; known = true } → IsMadeSlot (first_layout old.page t minimum) minimum m.slot → IsAsked old new → IsAsMade minimum new.next old (mapped_linear m)
mapped_as_made old new t minimum extra m is made asked =
    let s : Slot = m.slot in
    let size : m.size ≡ minimum = ap (λ (x : Mapped). x.size) is in
    let P : Contents → Type 0 = λ c. s.base.bytes + s.static_size ≤ length c.bytes in
    let Q : Contents → Type 0 = λ c. slice_range c.bytes s.base.bytes (s.base.bytes + s.static_size) ≡ replicate s.static_size 0 in
    let part : (c : Contents) → P c × Q c → slice_range c.bytes s.base.bytes (s.base.bytes + m.size) ≡ replicate minimum 0 =
    λ c both.
    let from : s.base.bytes + 0 ≡ s.base.bytes = omega arith in
    let less : s.static_size - 0 ≡ s.static_size = omega arith in
    let n : m.size - 0 ≡ minimum = omega (arith, size) in
    ap (λ (k : ℕ). slice_range c.bytes k (s.base.bytes + m.size)) (sym from)
    ∙ zeros_part c.bytes s.base.bytes 0 s.static_size 0 m.size both.0 (omega arith) (omega arith) (omega (arith, size, made.inside))
    (ap (λ (k : ℕ). slice_range c.bytes k (s.base.bytes + s.static_size)) from ∙ both.1 ∙ ap (λ (k : ℕ). replicate {A = ℕ} k 0) (sym less))
    ∙ ap (λ (k : ℕ). replicate {A = ℕ} k 0) n in
    record {
      size = size;
      told = λ tells. mapped_some (λ c. slice_range c.bytes s.base.bytes (s.base.bytes + m.size)) s.region.contents ∙ ap (λ (x : Mapped). is_some x.slot.region.contents) is ∙ contents_if _ _ _ ∙ told_if old.tells _ tells;
      zeros = if_mapped (λ c. slice_range c.bytes s.base.bytes (s.base.bytes + m.size)) (λ b. b ≡ replicate minimum 0) s.region.contents
          (followed (λ c. P c × Q c) (λ c. slice_range c.bytes s.base.bytes (s.base.bytes + m.size) ≡ replicate minimum 0) s.region.contents part (paired P Q s.region.contents (all_there s made.fits) made.zeros));
      unmapped = ap is_some made.image;
      page = ap (λ (l : Layout). l.page) made.layout;
      region = (
        old.next,
        (
          asked_between old new asked,
          ap (λ (x : Mapped). x.slot.region.plan) is ∙ plan_if _ _ _,
        ),
      );
    }

some_listed : (p : ℕ → Bool) (b : Bool) (plan : List ℕ) → false ≡ (b || not (list_any p plan)) → 0 < length plan
some_listed p true [] is = absurd (cc is)
some_listed p false [] is = absurd (cc is)
some_listed p b (x ∷ xs) is = omega arith

if_listed : (p : ℕ → Bool) (b : Bool) (o : Option (List ℕ)) → IfSome o (λ plan. false ≡ (b || not (list_any p plan))) → IfSome o (λ plan. 0 < length plan)
if_listed p b None is = tt
if_listed p b (Some plan) is = some_listed p b plan is

part_listed : (o : Option (List Planned)) (layers : List (List Planned)) (n : ℕ) → IfSome (part_of (OnDemand n) o layers) (λ calls. 0 < length calls) → IfSome o (λ plan. 0 < length (calls_of (OnDemand n) plan))
part_listed None layers n told = tt
part_listed (Some plan) layers n told = told

making_listed : (calls : List ℕ) → list_any (λ call. call == 0) calls ≡ true → 0 < length calls
making_listed [] is = absurd (cc is)
making_listed (x ∷ xs) is = omega arith

if_making : (o : Option (List Planned)) (n : ℕ) → IfSome o (λ plan. fails_making (OnDemand n) plan ≡ true) → IfSome o (λ plan. 0 < length (calls_of (OnDemand n) plan))
if_making None n told = tt
if_making (Some plan) n told = making_listed (calls_of (OnDemand n) plan) told

with_number : (o : Option (List Planned)) (from to n : ℕ) → IsBetween from to n → IfSome o (λ plan. 0 < length (calls_of (OnDemand n) plan)) → IfSome o (ListsBetween from to)
with_number None from to n between told = tt
with_number (Some plan) from to n between told = (n, (between, told))

faulted_by : (l : Layout) (size : ℕ) (old new : MakerTold) → IsAsked old new → MakingFails old new ⊎ FirstCallFails l size old new → HasFaulted old new
faulted_by l size old new asked (inl fails) = record {
  rose = inl fails.rose;
  listed = with_number old.plan old.next new.next old.next (asked_between old new asked) (if_making old.plan old.next fails.planned);
}
faulted_by l size old new asked (inr fails) =
    let call = first_call l size in
    let some : IfSome (plan_for (OnDemand old.next) old) (λ plan. 0 < length plan) = if_listed _ _ (plan_for (OnDemand old.next) old) fails.first in
    record {
      rose = inr (old.next, (asked_between old new asked, some));
      listed = with_number old.plan old.next new.next old.next (asked_between old new asked) (part_listed old.plan old.layers old.next some);
    }

-- how the making leaves the maker
pub mapped_leaves : {X : Type 0} (l : Layout) (size : ℕ) (r : Result X MemoryError) (old new : MakerTold) → MakingLeaves l size r old new → CreatorLeaves r old new
mapped_leaves l size (Ok x) old new made = (made.made.faults, made.made.behind)
mapped_leaves l size (Err refused.Memory) old new refusal = (refusal.cause.faults, refusal.cause.behind)
mapped_leaves l size (Err refused.PageFault) old new refusal = faulted_by l size old new refusal.asked refusal.cause
mapped_leaves l size (Err (refused.Unsupported u)) old new refusal = refusal.1.1
mapped_leaves l size (Err (refused.LimiterDenied m)) old new refusal = absurd refusal
mapped_leaves l size (Err (refused.LimiterFault e)) old new refusal = absurd refusal

-- a memory in a list of bytes never calls the maker
pub malloc_calls : (b : Bool) (failure : Option GrowError) (size : ℕ) (m : Malloc) (new : Linear) (told : MakerTold) → CallLeaves b failure size (malloc_linear m) new told told
malloc_calls false failure size m new told = refl
malloc_calls true failure size m new told = refl

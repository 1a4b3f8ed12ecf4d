-- What a request asks of the limiter, question by question, and what comes of the answers.
use Rattle.std.proofs.lemmas.Option.{same_Some}
use Rattle.std.proofs.Common.{◌≡◌, ℕ, zero, suc, ◌+◌, ◌<◌, ◌≤◌, ◌^◌, min, Bool, true, false, List, [], ◌∷◌, ◌++◌, length, map, take, option_map, refl, sym, ap, subst, ◌∙◌, arith, Some, None, Result, Ok, Err, slice_get, nat_lt, nat_le, if◌then◌else◌}
use Rattle.pool_types.specs.MemoryTypes.{allow_growth_to, minimum_byte_size}
use Rattle.pool_types.specs.declared.module_types.MemoryDecl.{MemoryDecl}
use Rattle.pool_types.specs.declared.module_types.MemoryType.{MemoryType}
use Rattle.pool_types.specs.declared.table_type.TableType.{TableType}
use Rattle.pool_types.specs.declared.unsupported.Unsupported.TheVariants.{AddressSpace, InitialSize, MemoryMinimum, TableSize}
use Rattle.pool_pages.specs.Told.{Told}
use Rattle.pool_images.specs.Slots.{Slot}
use Rattle.pool_memory.specs.Static.{static_capacity}
use Rattle.pool_memory.specs.declared.memory_error.MemoryError.TheVariants as unmade
use Rattle.pool_limits.specs.Exchanges.{Exchange, GrowthQuestion, may_grow}
use Rattle.pool_limits.specs.declared.errors.LimiterError.{LimiterError}
use Rattle.pool_memory.specs.Making.{limits_answer, maximum_asked, minimum_question}
use Rattle.pool_table.specs.Making.{making_question}
use Rattle.pool_slots.specs.declared.errors.AllocError.{AllocError}
use Rattle.pool_slots.specs.declared.errors.AllocError.TheVariants as refusal
use Rattle.pool_alloc.specs.CallStages.{Progress, Stage, untested, uncounted, admitted, seeks_single, seeks_stack, tests_heap, seeks_heap, counts_heap, asks, progress_by, stage_by}
use Rattle.pool_alloc.specs.MemorySteps.{made_of, made_of_limits}
use Rattle.pool_alloc.specs.StepReads.{heaps_wanted, memories_wanted, stacks_wanted, tables_wanted}
use Rattle.pool_alloc.specs.TableLeases.{LeasedTable}
use Rattle.pool_alloc.specs.TableSteps.{made_table, made_unless}
use Rattle.pool_alloc.specs.declared.frame.Asked.{Asked}
use Rattle.pool_alloc.specs.declared.frame.Asked.TheVariants as asked_for
use Rattle.pool_alloc.specs.declared.frame.Ending.{Ending}
use Rattle.pool_alloc.specs.declared.frame.Ending.TheVariants.{Granted as granted}
use Rattle.pool_alloc.specs.declared.frame.TakenSlot.{TakenSlot}
use Rattle.pool_alloc.specs.declared.pool_core.Settings.{Settings}
use Rattle.pool_driver.specs.Asking.{AskedSoFar, NamesObject, RefusedAfter, RequestAsked, StoppedBy, YesTo, all_yes, questions}

-- an element that is there
pub there_is : {X : Type 0} (xs : List X) (k : ℕ) → k < length xs → (x : X) × (slice_get xs k ≡ Some x)
there_is [] k below = absurd (omega arith)
there_is (x ∷ xs) zero below = (x, refl)
there_is (x ∷ xs) (suc k) below = there_is xs k (omega arith)

module _ {X Y : Type 0} (f : X → Y) where
  pub mapped_at : (xs : List X) (k : ℕ) (x : X) → slice_get xs k ≡ Some x → slice_get (map f xs) k ≡ Some (f x)
  mapped_at [] k x is = absurd cc
  mapped_at (w ∷ xs) zero x is = ap (option_map f) is
  mapped_at (w ∷ xs) (suc k) x is = mapped_at xs k x is

  pub first_at : (xs : List X) (ys : List Y) (k : ℕ) (x : X) → slice_get xs k ≡ Some x → slice_get (map f xs ++ ys) k ≡ Some (f x)
  first_at [] ys k x is = absurd cc
  first_at (w ∷ xs) ys zero x is = ap (option_map f) is
  first_at (w ∷ xs) ys (suc k) x is = first_at xs ys k x is

  pub later_at : (xs : List X) (ys : List Y) (j : ℕ) → slice_get (map f xs ++ ys) (length xs + j) ≡ slice_get ys j
  later_at [] ys j = let none : length {A = X} [] + j ≡ j = omega arith in ap (slice_get ys) none
  later_at (w ∷ xs) ys j = let more : length (w ∷ xs) + j ≡ suc (length xs + j) = omega arith in ap (slice_get (f w ∷ (map f xs ++ ys))) more ∙ later_at xs ys j

  pub long : (xs : List X) (ys : List Y) → length (map f xs ++ ys) ≡ length xs + length ys
  long [] ys = omega arith
  long (w ∷ xs) ys = let e = long xs ys in omega arith

mapped_long : {X Y : Type 0} (f : X → Y) (xs : List X) → length (map f xs) ≡ length xs
mapped_long f [] = refl
mapped_long f (w ∷ xs) = let e = mapped_long f xs in omega arith

-- one more answer of yes
yes_one : (qs : List GrowthQuestion) (n : ℕ) (q : GrowthQuestion) → slice_get qs n ≡ Some q → all_yes (take n qs) ++ (may_grow q (Ok true) ∷ []) ≡ all_yes (take (suc n) qs)
yes_one [] n q is = absurd cc
yes_one (x ∷ qs) zero q is = ap (λ (z : GrowthQuestion). may_grow z (Ok true) ∷ []) (sym (same_Some x q is))
yes_one (x ∷ qs) (suc n) q is = ap (λ (l : List Exchange). may_grow x (Ok true) ∷ l) (yes_one qs n q is)

pub yes_more : (qs : List GrowthQuestion) (n : ℕ) (q : GrowthQuestion) → slice_get qs n ≡ Some q → all_yes (take n qs) ++ (may_grow q (Ok true) ∷ []) ≡ all_yes (take (n + 1) qs)
yes_more qs n q is = let e : suc n ≡ n + 1 = omega arith in yes_one qs n q is ∙ ap (λ (m : ℕ). all_yes (take m qs)) e

all_taken : (qs : List GrowthQuestion) (n : ℕ) → length qs ≤ n → take n qs ≡ qs
all_taken [] zero within = refl
all_taken [] (suc n) within = refl
all_taken (q ∷ qs) zero within = absurd (omega arith)
all_taken (q ∷ qs) (suc n) within = ap (λ (l : List GrowthQuestion). q ∷ l) (all_taken qs n (omega arith))

questions_long : (a : Asked) → length (questions a) ≡ length (memories_wanted a) + length (tables_wanted a)
questions_long a = let e = long (λ (d : MemoryDecl). minimum_question d.ty) (memories_wanted a) (map making_question (tables_wanted a)) in let g = mapped_long making_question (tables_wanted a) in omega arith

pub all_asked : (a : Asked) (n : ℕ) → length (memories_wanted a) + length (tables_wanted a) ≤ n → all_yes (take n (questions a)) ≡ all_yes (questions a)
all_asked a n within = ap all_yes (all_taken (questions a) n (omega (arith, questions_long a, within)))

-- The answer of the limiter that stands behind a refusal of what it was asked for.
abbrev pub AnswersSo : (Bool → ℕ → Type 0) → Result Bool LimiterError → AllocError → Type 0
AnswersSo Names answer (refusal.LimiterDenied table min) = (answer ≡ Ok false) × Names table min
AnswersSo Names answer (refusal.LimiterFault e) = answer ≡ Err e
AnswersSo Names answer _ = answer ≡ Ok true

abbrev pub EndsSo : {X : Type 0} → (Bool → ℕ → Type 0) → Result Bool LimiterError → Result X AllocError → Type 0
EndsSo Names answer (Ok x) = answer ≡ Ok true
EndsSo Names answer (Err e) = AnswersSo Names answer e

module _ (Names : Bool → ℕ → Type 0) (answer : Result Bool LimiterError) where
  pub memory_ends : (room : ℕ) (slot : Slot) (ty : MemoryType) → Names false ty.limits.min → (r : Result Bool LimiterError) → answer ≡ r → EndsSo Names answer (made_of_limits (limits_answer r ty) ty room slot)
  memory_ends room slot ty names (Err x) is = is
  memory_ends room slot ty names (Ok false) is = (is, names)
  memory_ends room slot ty names (Ok true) is = limited (nat_lt (minimum_byte_size ty) (2 ^ 64)) (allow_growth_to ty (minimum_byte_size ty))
    where
      held : (b : Bool) → EndsSo Names answer (made_of ty (if b then Ok (record { slot = slot; size = minimum_byte_size ty; capacity = static_capacity room (maximum_asked ty) }) else Err (slot, InitialSize)))
      held true = is
      held false = is

      limited : (b d : Bool) → EndsSo Names answer (made_of_limits (if b then (if d then Ok (minimum_byte_size ty, maximum_asked ty) else Err (unmade.Unsupported AddressSpace)) else Err (unmade.Unsupported (MemoryMinimum ty.limits.min))) ty room slot)
      limited true true = held (nat_le (minimum_byte_size ty) room)
      limited true false = is
      limited false d = is

  fitting : (min' room : ℕ) (lease : LeasedTable) → answer ≡ Ok true → (b : Bool) → EndsSo Names answer (made_unless (if b then Some (refusal.Unsupported (TableSize min' room)) else None) lease)
  fitting min' room lease is true = is
  fitting min' room lease is false = is

  pub table_ends : (s : Settings) (at : TakenSlot) (region : Told) (ty : TableType) → Names true ty.limits.min → (r : Result Bool LimiterError) → answer ≡ r → EndsSo Names answer (made_table s r at region (Some ty))
  table_ends s at region ty names (Err x) is = is
  table_ends s at region ty names (Ok false) is = (is, names)
  table_ends s at region ty names (Ok true) is = fitting _ _ _ is _

-- no reason that the limiter gives
abbrev pub IsNoLimiter : AllocError → Type 0
IsNoLimiter (refusal.LimiterDenied table min) = ⊥
IsNoLimiter (refusal.LimiterFault e) = ⊥
IsNoLimiter _ = Unit {0}

-- what passed before a refusal for another reason
pub other_after : (a : Asked) (x : AllocError) (xs : List Exchange) → IsNoLimiter x → (n : ℕ) → YesTo a n xs → RefusedAfter a x xs
other_after a (refusal.LimiterDenied table min') xs other n allowed = absurd other
other_after a (refusal.LimiterFault e) xs other n allowed = absurd other
other_after a refusal.Memory xs other n allowed = (n, allowed)
other_after a (refusal.Unsupported rule) xs other n allowed = (n, allowed)
other_after a (refusal.Limit l) xs other n allowed = (n, allowed)
other_after a refusal.StacksDisabled xs other n allowed = (n, allowed)
other_after a refusal.HeapsDisabled xs other n allowed = (n, allowed)
other_after a refusal.PageFault xs other n allowed = (n, allowed)
other_after a refusal.HeapFault xs other n allowed = (n, allowed)

-- what passed before a refusal of what the limiter was asked for
pub asked_after : (a : Asked) (x : AllocError) (xs : List Exchange) (n : ℕ) (q : GrowthQuestion) (answer : Result Bool LimiterError) → YesTo a n xs → slice_get (questions a) n ≡ Some q → AnswersSo (λ table min'. NamesObject a table min' n) answer x → RefusedAfter a x (xs ++ (may_grow q answer ∷ []))
asked_after a x xs n q answer allowed is = by x
  where
    stopped : (r : Result Bool LimiterError) → answer ≡ r → StoppedBy a r (xs ++ (may_grow q answer ∷ []))
    stopped r same = record { number = n; question = q; is = is; all = ap (λ (l : List Exchange). l ++ (may_grow q answer ∷ [])) allowed ∙ ap (λ (z : Result Bool LimiterError). all_yes (take n (questions a)) ++ (may_grow q z ∷ [])) same }

    more : answer ≡ Ok true → (m : ℕ) × YesTo a m (xs ++ (may_grow q answer ∷ []))
    more same = (n + 1, ap (λ (l : List Exchange). l ++ (may_grow q answer ∷ [])) allowed ∙ ap (λ (z : Result Bool LimiterError). all_yes (take n (questions a)) ++ (may_grow q z ∷ [])) same ∙ yes_more (questions a) n q is)

    by : (y : AllocError) → AnswersSo (λ table min'. NamesObject a table min' n) answer y → RefusedAfter a y (xs ++ (may_grow q answer ∷ []))
    by (refusal.LimiterDenied table min') so = (stopped (Ok false) so.0, so.1)
    by (refusal.LimiterFault e) so = stopped (Err e) so
    by refusal.Memory so = more so
    by (refusal.Unsupported rule) so = more so
    by (refusal.Limit l) so = more so
    by refusal.StacksDisabled so = more so
    by refusal.HeapsDisabled so = more so
    by refusal.PageFault so = more so
    by refusal.HeapFault so = more so

-- what passed until so many objects are made
pub yes_here : (a : Asked) (aim : Ending) (k : ℕ) (s : Stage) (xs : List Exchange) → s ≡ stage_by a aim k → aim ≡ granted → stacks_wanted a ≡ 0 → AskedSoFar a s xs → YesTo a k xs
yes_here a aim k s xs is grants none had = by a none (subst (λ (z : Stage). AskedSoFar a z xs) (is ∙ ap (λ (x : Ending). stage_by a x k) grants) had)
  where
    by : (b : Asked) → stacks_wanted b ≡ 0 → AskedSoFar a (asks (progress_by b k)) xs → YesTo a k xs
    by asked_for.Nothing no_stack so = so
    by (asked_for.Module m) no_stack so = so
    by (asked_for.Memory m) no_stack so = so
    by (asked_for.Table ty) no_stack so = so
    by asked_for.Stack no_stack so = absurd (omega (arith, no_stack))
    by (asked_for.Heap ty) no_stack so = so
    by (asked_for.HeapOver memory) no_stack so = so

pub yes_there : (a b : Asked) (k : ℕ) (xs : List Exchange) → stacks_wanted b ≡ 0 → YesTo a k xs → AskedSoFar a (asks (progress_by b k)) xs
yes_there a asked_for.Nothing k xs none allowed = allowed
yes_there a (asked_for.Module m) k xs none allowed = allowed
yes_there a (asked_for.Memory m) k xs none allowed = allowed
yes_there a (asked_for.Table ty) k xs none allowed = allowed
yes_there a asked_for.Stack k xs none allowed = absurd (omega (arith, none))
yes_there a (asked_for.Heap ty) k xs none allowed = allowed
yes_there a (asked_for.HeapOver memory) k xs none allowed = allowed

pub some_yes : (a : Asked) (p : Progress) (xs : List Exchange) → RequestAsked a p xs → (n : ℕ) × YesTo a n xs
some_yes a untested xs had = (0, had)
some_yes a uncounted xs had = (0, had)
some_yes a (admitted n) xs had = (n, had)
some_yes a (seeks_single n) xs had = (n, had)
some_yes a seeks_stack xs had = (0, had)
some_yes a tests_heap xs had = (0, had)
some_yes a (seeks_heap n) xs had = (n, had)
some_yes a counts_heap xs had = (length (questions a), had ∙ ap all_yes (sym (all_taken (questions a) (length (questions a)) (omega arith))))

pub no_tables : (a : Asked) → heaps_wanted a ≡ 1 → length (tables_wanted a) ≡ 0
no_tables asked_for.Nothing one = refl
no_tables (asked_for.Module m) one = absurd (omega (arith, one))
no_tables (asked_for.Memory m) one = refl
no_tables (asked_for.Table ty) one = absurd (omega (arith, one))
no_tables asked_for.Stack one = refl
no_tables (asked_for.Heap ty) one = refl
no_tables (asked_for.HeapOver memory) one = refl

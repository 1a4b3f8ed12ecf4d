-- What all rows share: the pool and the frame with one part changed, how a call goes on at its stage, and the steps that are
-- left of a request.
use Rattle.std.proofs.Common.{◌≡◌, ℕ, ◌+◌, ◌*◌, ◌-◌, ◌<◌, ◌≤◌, Bool, true, false, List, [], ◌∷◌, ◌++◌, length, zero, suc, refl, sym, ap, subst, inl, inr, arith, Some, None, ◌⊎◌, Ok, Err, nat_lt, if◌then◌else◌, slice_get, IfSome}
use Rattle.pool_alloc.proofs.Imports.{Plan, ltb-true, MakerTold, AllocError, MemoryState}
use Rattle.pool_alloc.specs.PartyTold.{PartyTold}
use Rattle.pool_alloc.specs.StepBounds.{PoolSizes, allocation_bound, give_back_bound, return_bound, flush_bound, returns_left, objects_left, picks_left, next_left, all_shards, flushed_allocators}
use Rattle.pool_alloc.specs.Objects.{objects_in, objects_wanted}
use Rattle.pool_alloc.specs.declared.leases.instance.InstanceLease.{InstanceLease}
use Rattle.pool_alloc.specs.Searches.{IsSearchedBy}
use Rattle.pool_alloc.specs.BetweenSteps.{IsCore, Aims, IsToGrant}
use Rattle.pool_alloc.specs.CallStages.{Progress, asks, seeks_single, FailsObject, HasObject, no_call, refusing, progress_by, stage_by, FindsNone, IsPageFaulted, Makes, Raises, Goes}
use Rattle.pool_alloc.specs.StepReads.{stacks_wanted, singles_wanted, IsForObjects, IsForInstance}
use Rattle.pool_alloc.specs.Stepping.{CanStep}
use Rattle.pool_alloc.specs.Turns.{is_granting, answer_of}
use Rattle.pool_alloc.specs.declared.pool_core.Counters.{Counters}
use Rattle.pool_alloc.specs.declared.pool_core.PoolCore.{PoolCore}
use Rattle.pool_alloc.specs.declared.pool_core.Settings.{Settings}
use Rattle.pool_alloc.specs.declared.frame.Ending.{Ending}
use Rattle.pool_alloc.specs.declared.frame.Ending.TheVariants.{Granted as granted, Returned as returned, Refused as refused}
use Rattle.pool_alloc.specs.StackLeases.{LeasedStack}
use Rattle.pool_alloc.specs.declared.frame.Grant.{Grant}
use Rattle.pool_alloc.specs.declared.frame.Grant.TheVariants.{Stack}
use Rattle.pool_alloc.specs.declared.frame.Outcome.TheVariants as answer
use Rattle.pool_alloc.specs.declared.frame.Frame.{Frame}
use Rattle.pool_alloc.specs.declared.frame.Asked.{Asked}
use Rattle.pool_alloc.specs.declared.frame.Asked.TheVariants.{Memory as memory_asked, Table as table_asked, Stack as stack_asked, Heap as heap_asked, HeapOver as heap_over_asked}
use Rattle.pool_alloc.specs.declared.frame.Phase.{Phase}
use Rattle.pool_alloc.proofs.BeforeTheTurn.{one_more, in_phase, Held, Kept}
use Rattle.pool_alloc.specs.Places.{number_counted}

-- what holds of each element by its place, with one more at the end
pub push_at : {X : Type 0} (Q : ℕ → X → Type 0) (xs : List X) (x : X) → ((k : ℕ) → IfSome (slice_get xs k) (Q k)) → Q (length xs) x → (k : ℕ) → IfSome (slice_get (xs ++ x ∷ []) k) (Q k)
push_at Q [] x each last zero = last
push_at Q [] x each last (suc k) = tt
push_at Q (y ∷ ys) x each last zero = each 0
push_at Q (y ∷ ys) x each last (suc k) = push_at (λ i. Q (suc i)) ys x (λ i. each (suc i)) last k

-- nor does it search
pub searched_still : (e : Ending) (old new : Type 0) → (old → new) → IsSearchedBy e old → IsSearchedBy e new
searched_still granted old new still known = still known
searched_still returned old new still known = tt
searched_still (refused x) old new still known = tt

pub searched_back : (e : Ending) (known : Type 0) → is_granting e ≡ false → IsSearchedBy e known
searched_back granted known back = absurd cc
searched_back returned known back = tt
searched_back (refused x) known back = tt

-- a call that gives back aims at nothing else
pub aims_back : {P : Type 0} (s : Settings) (plan : Plan) (e : Ending) (asked : Asked) (queues : ℕ) (objects : InstanceLease P) → is_granting e ≡ false → Aims s plan e asked queues objects
aims_back s plan granted asked queues objects back = absurd cc
aims_back s plan returned asked queues objects back = tt
aims_back s plan (refused x) asked queues objects back = tt

pub aims_grant : {P : Type 0} (s : Settings) (plan : Plan) (e : Ending) (asked : Asked) (queues : ℕ) (objects : InstanceLease P) → e ≡ granted → IsToGrant s plan asked queues objects → Aims s plan e asked queues objects
aims_grant s plan e asked queues objects is to_grant = let A : Ending → Type 0 = λ x. Aims s plan x asked queues objects in subst A (sym is) to_grant

pub same_times : (m n x : ℕ) → m ≡ n → m * x ≡ n * x
same_times m n x e = ap (λ (i : ℕ). i * x) e

-- what is left once one of so many memories is granted or refused, where so many were granted before it
abbrev left_of : PoolSizes → ℕ → ℕ → ℕ
left_of z wanted some = (wanted - (some + 1)) * (allocation_bound z + give_back_bound z) + return_bound z (some + 1)

abbrev rounds_of : PoolSizes → ℕ
rounds_of z = (z.shards - 0) + ((z.queues - 0) * (flush_bound z + z.shards))

following_left : (z : PoolSizes) (wanted some : ℕ) → some + 1 < wanted → rounds_of z + (6 + left_of z wanted (some + 1)) ≤ left_of z wanted some
following_left z wanted some more =
    omega (
      arith,
      same_times (z.queues - 0) z.queues (flush_bound z + z.shards) (omega arith),
      one_more (wanted - (some + 1)) (wanted - (some + 1 + 1)) (allocation_bound z + give_back_bound z) (omega arith),
    )

first_left : (z : PoolSizes) (wanted : ℕ) → 0 < wanted → rounds_of z + (6 + left_of z wanted 0) + 1 ≤ 2 + wanted * (allocation_bound z + give_back_bound z)
first_left z wanted some =
    omega (
      arith,
      same_times (z.queues - 0) z.queues (flush_bound z + z.shards) (omega arith),
      one_more wanted (wanted - (0 + 1)) (allocation_bound z + give_back_bound z) (omega arith),
    )

-- the number is no more than this where it isn't 0
at_most_if : (b : Bool) (m n : ℕ) → (b ≡ true → m ≤ n) → (if b then m else 0) ≤ n
at_most_if true m n most = most refl
at_most_if false m n most = omega arith

-- another object is granted, and there is a next one, or none
pub next_object : {P : Type 0} (z : PoolSizes) (e : Ending) (asked : Asked) (before after : InstanceLease P) → e ≡ granted → objects_in after ≡ objects_in before + 1 → stacks_wanted asked + singles_wanted asked ≡ 0 → next_left z e 0 asked after ≤ objects_left z asked before
next_object z e (memory_asked m) before after is long none = absurd (omega (arith, none))
next_object z e (table_asked ty) before after is long none = absurd (omega (arith, none))
next_object z e stack_asked before after is long none = absurd (omega (arith, none))
next_object z e (heap_over_asked memory) before after is long none =
    let E : Ending → Type 0 = λ x. next_left z x 0 (heap_over_asked memory) after ≤ objects_left z (heap_over_asked memory) before in
    subst E (sym is) (at_most_if (nat_lt (objects_in after) 1) (picks_left z 0 0 (heap_over_asked memory) after) (objects_left z (heap_over_asked memory) before) (λ more. absurd (omega (arith, ltb-true _ _ more, long))))
next_object z e asked before after is long none =
    let k : ℕ = objects_wanted asked in
    let n : ℕ = objects_in before in
    let E : Ending → Type 0 = λ x. next_left z x 0 asked after ≤ objects_left z asked before in
    let M : ℕ → Type 0 = λ i. rounds_of z + (6 + left_of z k i) ≤ left_of z k n in
    subst E (sym is)
    (at_most_if (nat_lt (objects_in after) k) (picks_left z 0 0 asked after) (objects_left z asked before)
    (λ more. let there : M (objects_in after) = subst M (sym long) (following_left z k n (omega (arith, ltb-true _ _ more, long))) in omega (arith, there)))

-- the first object is allocated, or there is none
pub first_object : {P : Type 0} (z : PoolSizes) (e : Ending) (queues : ℕ) (asked : Asked) (objects : InstanceLease P) → e ≡ granted → queues ≡ 0 → objects_in objects ≡ 0 → IsForInstance asked → next_left z e queues asked objects + 1 ≤ 2 + objects_wanted asked * (allocation_bound z + give_back_bound z)
first_object z e queues (memory_asked m) objects is none_taken none one = absurd (omega (arith, one.no_single))
first_object z e queues (table_asked ty) objects is none_taken none one = absurd (omega (arith, one.no_single))
first_object z e queues stack_asked objects is none_taken none one = absurd (omega (arith, one.no_stack))
first_object z e queues (heap_over_asked memory) objects is none_taken none one = absurd (omega (arith, one.no_heap))
first_object z e queues asked objects is none_taken none one =
    let k : ℕ = objects_wanted asked in
    let most : ℕ = 1 + k * (allocation_bound z + give_back_bound z) in
    let E : Ending → Type 0 = λ x. next_left z x queues asked objects ≤ most in
    let Q : ℕ → Type 0 = λ q. next_left z granted q asked objects ≤ most in
    let M : ℕ → Type 0 = λ i. rounds_of z + (6 + left_of z k i) + 1 ≤ 2 + k * (allocation_bound z + give_back_bound z) in
    let few : next_left z e queues asked objects ≤ most =
    subst E (sym is) (subst Q (sym none_taken)
    (at_most_if (nat_lt (objects_in objects) k) (picks_left z 0 0 asked objects) most
    (λ more. let there : M (objects_in objects) = subst M (sym none) (first_left z k (omega (arith, ltb-true _ _ more, none))) in omega (arith, there)))) in
    omega (arith, few)

-- the search goes on with a round of picks
pub next_round : {P : Type 0} (z : PoolSizes) (e : Ending) (queues : ℕ) (asked : Asked) (objects : InstanceLease P) → e ≡ granted → next_left z e queues asked objects ≤ picks_left z queues 0 asked objects
next_round z e queues asked objects is =
    let E : Ending → Type 0 = λ x. next_left z x queues asked objects ≤ picks_left z queues 0 asked objects in
    subst E (sym is) (at_most_if (nat_lt (objects_in objects) (objects_wanted asked)) (picks_left z queues 0 asked objects) (picks_left z queues 0 asked objects) (λ more. omega arith))

pub next_returns : {P : Type 0} (z : PoolSizes) (e : Ending) (queues : ℕ) (asked : Asked) (objects : InstanceLease P) → is_granting e ≡ false → next_left z e queues asked objects ≡ returns_left z objects
next_returns z granted queues asked objects back = absurd cc
next_returns z returned queues asked objects back = refl
next_returns z (refused x) queues asked objects back = refl

-- a queue less, with its flush
pub next_queue : (z : PoolSizes) (queues flush more : ℕ) → queues < z.queues → flush ≤ 3 * z.slots + all_shards (flushed_allocators z.plan) → flush + (z.shards - 0 + ((z.queues - (queues + 1)) * (flush_bound z + z.shards) + more)) + 1 ≤ (z.queues - queues) * (flush_bound z + z.shards) + more
next_queue z queues flush more below few = omega (arith, one_more (z.queues - queues) (z.queues - (queues + 1)) (flush_bound z + z.shards) (omega arith))

single_progress : (asked : Asked) (n : ℕ) → singles_wanted asked ≡ 1 → progress_by asked n ≡ seeks_single n
single_progress (memory_asked m) n one = refl
single_progress (table_asked ty) n one = refl
single_progress asked n one = absurd (omega (arith, one))

module _ {P H : Type 0} where
  -- the frame of a step may make it
  abbrev pub Can : MakerTold → Phase P H → PoolCore P H → Frame P H → Type 0
  Can maker p c f = CanStep maker c (in_phase p f)

module _ {P H : Type 0} (maker : MakerTold) (old new : PartyTold) (d : PoolCore P H) (e : Frame P H) where
  -- a part was changed
  pub kept_part : (c : PoolCore P H) (f : Frame P H) → IsCore maker c → Held maker c.settings c.plan f → f.asked ≡ e.asked → c.settings ≡ d.settings → c.plan ≡ d.plan → c.counters ≡ d.counters → Kept maker old new d e c f
  kept_part c f core held asked settings plan counters = record {
    core = core;
    held = held;
    asked = asked;
    settings = settings;
    plan = plan;
    by_one = λ k. omega (arith, ap (λ (x : Counters). number_counted k x) counters);
  }

  -- a call stays at its stage,
  pub same_way : (asked : Asked) (ending : Ending) (n : ℕ) → Goes maker old new d e (stage_by asked ending n) (stage_by asked ending n) None
  same_way stack_asked granted n = tt
  same_way (memory_asked m) granted n = inl refl
  same_way (table_asked ty) granted n = inl refl
  same_way (heap_asked ty) granted n = inl refl
  same_way (heap_over_asked memory) granted n = inl refl
  same_way asked granted n = inl refl
  same_way asked returned n = tt
  same_way asked (refused x) n = refl

  -- it fails for a cause,
  pub fails_way : (asked : Asked) (ending : Ending) (n : ℕ) (x : AllocError) → ending ≡ granted → Raises maker old new d e (progress_by asked n) x → Goes maker old new d e (stage_by asked ending n) (refusing x) None
  fails_way asked ending n x is raised = let W : Ending → Type 0 = λ y. Goes maker old new d e (stage_by asked y n) (refusing x) None in subst W (sym is) raised

  -- as one for a memory, which a module has or a heap,
  pub memory_fails_way : (asked : Asked) (ending : Ending) (n : ℕ) (x : AllocError) → ending ≡ granted → stacks_wanted asked ≡ 0 → IsPageFaulted maker d e n x ⊎ Makes old new d e n (Err x) → Goes maker old new d e (stage_by asked ending n) (refusing x) None
  memory_fails_way stack_asked ending n x is none raised = absurd (omega (arith, none))
  memory_fails_way (heap_asked ty) ending n x is none raised =
      fails_way (heap_asked ty) ending n x is (elim raised [
        | inl faulted ↦ inr (inl faulted)
        | inr made ↦ inr (inr (inl made))
      ])
  memory_fails_way (heap_over_asked memory) ending n x is none raised =
      fails_way (heap_over_asked memory) ending n x is (elim raised [
        | inl faulted ↦ inr (inl faulted)
        | inr made ↦ inr (inr (inl made))
      ])
  memory_fails_way asked ending n x is none raised =
      fails_way asked ending n x is (elim raised [
        | inl faulted ↦ inr (inl faulted)
        | inr made ↦ inr (inr (inl made))
      ])

  -- as one for a memory or a table, of an instance or by itself,
  pub object_fails_way : (asked : Asked) (ending : Ending) (n : ℕ) (x : AllocError) → ending ≡ granted → IsForObjects asked → FailsObject maker old new d e n x → Goes maker old new d e (stage_by asked ending n) (refusing x) None
  object_fails_way stack_asked ending n x is none raised = absurd (omega (arith, none.no_stack))
  object_fails_way (heap_asked ty) ending n x is none raised = absurd (omega (arith, none.no_heap))
  object_fails_way (heap_over_asked memory) ending n x is none raised = absurd (omega (arith, none.no_heap))
  object_fails_way asked ending n x is none raised = fails_way asked ending n x is raised

  -- or for want of a slot,
  pub full_way : (asked : Asked) (ending : Ending) (n : ℕ) (x : AllocError) → ending ≡ granted → (asked ≡ stack_asked → n ≡ 0) → FindsNone d e n x → Goes maker old new d e (stage_by asked ending n) (refusing x) None
  full_way stack_asked ending n x is none found = fails_way stack_asked ending n x is (inr (let F : ℕ → Type 0 = λ m. FindsNone d e m x in subst F (none refl) found))
  full_way asked ending n x is none found = fails_way asked ending n x is (inl found)

  -- an object more is made,
  pub memory_made_way : (asked : Asked) (ending : Ending) (n : ℕ) (memory : MemoryState) → ending ≡ granted → stacks_wanted asked ≡ 0 → Makes old new d e n (Ok memory) → Goes maker old new d e (stage_by asked ending n) (stage_by asked ending (n + 1)) None
  memory_made_way stack_asked ending n memory is none made = absurd (omega (arith, none))
  memory_made_way (heap_asked ty) ending n memory is none made = let W : Ending → Type 0 = λ y. Goes maker old new d e (stage_by (heap_asked ty) y n) (stage_by (heap_asked ty) y (n + 1)) None in subst W (sym is) (inr (refl, (memory, made)))
  memory_made_way (heap_over_asked m) ending n memory is none made = let W : Ending → Type 0 = λ y. Goes maker old new d e (stage_by (heap_over_asked m) y n) (stage_by (heap_over_asked m) y (n + 1)) None in subst W (sym is) (inr (refl, (memory, made)))
  memory_made_way asked ending n memory is none made = let W : Ending → Type 0 = λ y. Goes maker old new d e (stage_by asked y n) (stage_by asked y (n + 1)) None in subst W (sym is) (inr (refl, inl (memory, made)))

  pub object_made_way : (asked : Asked) (ending : Ending) (n : ℕ) → ending ≡ granted → IsForObjects asked → HasObject old new d e n (n + 1) → Goes maker old new d e (stage_by asked ending n) (stage_by asked ending (n + 1)) None
  object_made_way stack_asked ending n is none made = absurd (omega (arith, none.no_stack))
  object_made_way (heap_asked ty) ending n is none made = absurd (omega (arith, none.no_heap))
  object_made_way (heap_over_asked memory) ending n is none made = absurd (omega (arith, none.no_heap))
  object_made_way asked ending n is none made = let W : Ending → Type 0 = λ y. Goes maker old new d e (stage_by asked y n) (stage_by asked y (n + 1)) None in subst W (sym is) made

  -- and one that gives back ends as it is to end.
  pub ends_way : (asked : Asked) (ending : Ending) (n : ℕ) → is_granting ending ≡ false → Goes maker old new d e (stage_by asked ending n) no_call (Some (answer_of ending))
  ends_way asked granted n back = absurd cc
  ends_way asked returned n back = tt
  ends_way asked (refused x) n back = refl

  -- A call for a stack that has its slot is still one for a stack, and is granted with it.
  pub sought_way : (asked : Asked) (ending : Ending) (n : ℕ) → asked ≡ stack_asked → Goes maker old new d e (stage_by asked ending n) (stage_by asked ending (n + 1)) None
  sought_way asked ending n is = let W : Asked → Type 0 = λ a. Goes maker old new d e (stage_by a ending n) (stage_by a ending (n + 1)) None in subst W (sym is) (stays_so ending)
    where
      stays_so : (x : Ending) → Goes maker old new d e (stage_by stack_asked x n) (stage_by stack_asked x (n + 1)) None
      stays_so granted = tt
      stays_so returned = tt
      stays_so (refused y) = refl

  -- A call for an object by itself ends with it.
  pub single_way : (asked : Asked) (ending : Ending) (n : ℕ) (grant : Grant P H) → singles_wanted asked ≡ 1 → ending ≡ granted → Goes maker old new d e (asks (seeks_single (n + 1))) no_call (Some (answer.Granted grant)) → Goes maker old new d e (stage_by asked ending (n + 1)) no_call (Some (answer.Granted grant))
  single_way asked ending n grant one is goes =
      let W : Progress → Type 0 = λ p. Goes maker old new d e (asks p) no_call (Some (answer.Granted grant)) in
      let E : Ending → Type 0 = λ x. Goes maker old new d e (stage_by asked x (n + 1)) no_call (Some (answer.Granted grant)) in
      subst E (sym is) (subst W (sym (single_progress asked (n + 1) one)) goes)

  pub granted_stack_way : (asked : Asked) (ending : Ending) (n : ℕ) (lease : LeasedStack) → asked ≡ stack_asked → ending ≡ granted → 0 < d.settings.stack_size → Goes maker old new d e (stage_by asked ending (n + 1)) no_call (Some (answer.Granted (Stack lease)))
  granted_stack_way asked ending n lease is aim enabled =
      let W : Asked → Ending → Type 0 = λ a x. Goes maker old new d e (stage_by a x (n + 1)) no_call (Some (answer.Granted (Stack lease))) in
      subst (λ (a : Asked). W a ending) (sym is) (subst (W stack_asked) (sym aim) (tt, enabled))

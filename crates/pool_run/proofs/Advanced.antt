-- How far a turn takes a party: its call goes on, and has fewer steps left, or it ends, or the next one begins.
use Rattle.std.proofs.Common.{◌≡◌, ℕ, ◌+◌, ◌<◌, ◌≤◌, Bool, true, false, List, length, get_or, Option, Some, None, refl, sym, ap, ◌∙◌, subst, inl, inr, arith, ◌&&◌, not, nat_lt, is_some, IfSome, slice_get, slice_set, slice_index_or}
use Rattle.pool_run.proofs.Imports.{lt-ltb, le-ltb, cases_lt, slice_get_within, slice_get-get_or, MakerTold, one_if, ListedHeaps, PlainHeap, objects_in, bound_of, steps_left, IsIdle, begun_call, After, is_idle, PoolCore, Frame, Grant, ModuleAsked, Outcome, idle_left, at_rest, begun_bounded, ListedStore, stage_of}
use Rattle.pool_slots.specs.declared.errors.AllocError.TheVariants as alloc
use Rattle.pool_alloc.specs.declared.frame.Call.TheVariants as call
use Rattle.pool_alloc.specs.declared.frame.Outcome.TheVariants as answer
use Rattle.pool_run.specs.Rooms.{World}
use Rattle.pool_run.specs.Progress.{begun_by, begins_by, bound_asked, bound_returned, bound_begun, bound_keyed, bound_by}
use Rattle.pool_run.specs.Ties.{CanTurn}
use Rattle.pool_run.specs.Turns.{Turned, one_step, answered, Steps, Turns, Opening, replies, makes_step, drop_opening, OpensRequest, OpensAct, OpensNext, OpensAt, Leaves, OpensWanted}
use Rattle.pool_run.specs.Worlds.{IsCallFor, AreCallsFor}
use Rattle.pool_run.specs.declared.command.Command.{Command}
use Rattle.pool_run.specs.declared.command.Command.TheVariants as command
use Rattle.pool_run.specs.declared.reply.Reply.{Reply}
use Rattle.pool_run.specs.declared.reply.Reply.TheVariants.{Refused}
use Rattle.pool_run.specs.declared.reply.Refusal.TheVariants.{NoSuchGrant, Alloc}
use Rattle.pool_run.specs.declared.running_party.RunningParty.{RunningParty}
use Rattle.pool_run.proofs.Parties.{can_step, called_plain, returned_stage}
use Rattle.pool_run.specs.Acts.{Act, requests, on_memory, on_table, drops, purges, releases, act_of, Wanted, an_instance, a_component, a_stack, a_heap, heap_type}
use Rattle.pool_run.proofs.Opened.{idle_is, IsStep, drops_opened, module_opened, plain_opened}
use Rattle.pool_run.proofs.StageSteps.{is_none, none_idle, is_key}
use Rattle.pool_run.proofs.Stepped.{IsStepped, stepped}
use Rattle.pool_run.specs.RunsMade.{is_drawing}

-- what counts as a call under way
busy_count : (b idle : Bool) → idle ≡ b → one_if (not idle) ≡ one_if (not b)
busy_count b idle is = ap (λ (v : Bool). one_if (not v)) is

module _ {P : Type 0} where
  key_some : (o : Option (Outcome P PlainHeap)) → is_key o ≡ true → is_some o ≡ true
  key_some None key = absurd cc
  key_some (Some x) key = refl

  -- a frame that isn't about to draw a stripe
  abbrev pub IsReady : Frame P PlainHeap → Type 0
  IsReady f = is_drawing (stage_of f) ≡ false

  -- A turn leaves no stripe to be drawn, and so many more calls began. A call under way has fewer steps left, and one
  -- that begins has fewer than its bound.
  pub record HasAdvanced (more bound : ℕ) (c : PoolCore P PlainHeap) (p : RunningParty P) (t : Turned P) : Type 0 where
    pub ready : IsReady t.party.frame
    pub fewer : is_idle p.frame.phase ≡ false → steps_left t.core t.party.frame + 1 ≤ steps_left c p.frame
    pub bounded : is_idle p.frame.phase ≡ true → steps_left t.core t.party.frame + 1 ≤ bound
    pub begun : begun_by t.party ≡ begun_by p + more

  looser : (more bound most : ℕ) (c : PoolCore P PlainHeap) (p : RunningParty P) (t : Turned P) → bound ≤ most → HasAdvanced more bound c p t → HasAdvanced more most c p t
  looser more bound most c p t less on = record { ready = on.ready; fewer = on.fewer; bounded = λ idle. omega (arith, on.bounded idle, less); begun = on.begun }

  -- An answer leaves the pool and the frame as the step did,
  answered_ready : (o : Option (Outcome P PlainHeap)) (c : PoolCore P PlainHeap) (p : RunningParty P) → IsReady p.frame → IsReady (answered o c p).party.frame
  answered_ready None c p ready = ready
  answered_ready (Some answer.Key) c p ready = ready
  answered_ready (Some (answer.Granted grant)) c p ready = ready
  answered_ready (Some answer.Returned) c p ready = ready
  answered_ready (Some (answer.Purged n)) c p ready = ready
  answered_ready (Some (answer.Released n)) c p ready = ready
  answered_ready (Some (answer.Refused e)) c p ready = ready

  answered_left : (o : Option (Outcome P PlainHeap)) (c : PoolCore P PlainHeap) (p : RunningParty P) → steps_left (answered o c p).core (answered o c p).party.frame ≡ steps_left c p.frame
  answered_left None c p = refl
  answered_left (Some answer.Key) c p = refl
  answered_left (Some (answer.Granted grant)) c p = refl
  answered_left (Some answer.Returned) c p = refl
  answered_left (Some (answer.Purged n)) c p = refl
  answered_left (Some (answer.Released n)) c p = refl
  answered_left (Some (answer.Refused e)) c p = refl

  -- and the call that ended with it, if one did, counts on as its command.
  answered_begun : (d : PoolCore P PlainHeap) (p : RunningParty P) (f : Frame P PlainHeap) (o : Option (Outcome P PlainHeap)) → is_idle p.frame.phase ≡ false → is_some o ≡ is_idle f.phase → is_key o ≡ false → begun_by (answered o d (record p { frame = f })).party ≡ begun_by p
  answered_begun d p f None busy ends keyless = omega (arith, busy_count false (is_idle p.frame.phase) busy, busy_count false (is_idle f.phase) (sym ends))
  answered_begun d p f (Some answer.Key) busy ends keyless = absurd cc
  answered_begun d p f (Some (answer.Granted grant)) busy ends keyless = omega (arith, busy_count false (is_idle p.frame.phase) busy, busy_count true (is_idle f.phase) (sym ends))
  answered_begun d p f (Some answer.Returned) busy ends keyless = omega (arith, busy_count false (is_idle p.frame.phase) busy, busy_count true (is_idle f.phase) (sym ends))
  answered_begun d p f (Some (answer.Purged n)) busy ends keyless = omega (arith, busy_count false (is_idle p.frame.phase) busy, busy_count true (is_idle f.phase) (sym ends))
  answered_begun d p f (Some (answer.Released n)) busy ends keyless = omega (arith, busy_count false (is_idle p.frame.phase) busy, busy_count true (is_idle f.phase) (sym ends))
  answered_begun d p f (Some (answer.Refused e)) busy ends keyless = omega (arith, busy_count false (is_idle p.frame.phase) busy, busy_count true (is_idle f.phase) (sym ends))

  -- it ends exactly where the step answers
  ends_where : (b none : Bool) (o : Option (Outcome P PlainHeap)) → is_some o ≡ (not b && none) → b ≡ false → is_some o ≡ none
  ends_where true none o is busy = absurd cc
  ends_where false none o is busy = is

  is_none_of : (f : Frame P PlainHeap) → is_none (stage_of f) ≡ is_idle f.phase
  is_none_of f = none_idle f.phase f.asked f.ending (objects_in f.objects)

  -- A step of the call under way.
  step_advanced : (maker : MakerTold) (bound : ℕ) (c : PoolCore P PlainHeap) (p : RunningParty P) (t : Turned P) → CanTurn maker c p → IsReady p.frame → is_idle p.frame.phase ≡ false → Steps c p t → HasAdvanced 0 bound c p t
  step_advanced maker bound c p t can ready busy steps =
      let a : After P PlainHeap = steps.0 in
      let on : IsStepped maker steps.1.0 steps.1.1 c p.frame a = stepped maker steps.1.0 steps.1.1 c p.frame a (can_step maker c p can) steps.1.3 in
      let left : steps_left a.core a.frame + 1 ≤ steps_left c p.frame = on.fewer busy in
      let r : RunningParty P = record p { heaps = t.party.heaps } in
      let q : RunningParty P = record r { frame = a.frame } in
      let ends : is_some a.outcome ≡ is_idle a.frame.phase = ends_where (is_none (stage_of p.frame)) (is_none (stage_of a.frame)) a.outcome on.staged.answer (is_none_of p.frame ∙ busy) ∙ is_none_of a.frame in
      subst (HasAdvanced 0 bound c p) (sym steps.2)
      (record {
        ready = answered_ready a.outcome a.core q on.staged.drawn;
        fewer = λ on. omega (arith, answered_left a.outcome a.core q, left);
        bounded = λ idle. absurd cc;
        begun = omega (arith, answered_begun a.core r a.frame a.outcome busy ends (on.staged.key ∙ ready));
      })

-- a party that is idle, and may turn
module _ {P : Type 0} (maker : MakerTold) (c : PoolCore P PlainHeap) (p : RunningParty P) (can : CanTurn maker c p) (ready : IsReady p.frame) (is : is_idle p.frame.phase ≡ true) where
  idle : IsIdle p.frame
  idle = idle_is p.frame.phase is

  not_busy : one_if (not (is_idle p.frame.phase)) ≡ 0
  not_busy = ap (λ (v : Bool). one_if (not v)) is

  -- nothing is under way that could have fewer steps left
  never : {X : Type 0} → is_idle p.frame.phase ≡ false → X
  never busy = absurd cc

  none_left : steps_left c p.frame + 1 ≤ 1
  none_left = omega (arith, idle_left c p.frame idle)

  -- a command that ends at once
  replies_on : (live : List (Option (Grant P PlainHeap))) (store : ListedStore) (reply : Reply) (t : Turned P) → Leaves (replies reply live store) c p t → HasAdvanced 1 1 c p t
  replies_on live store reply t leaves = subst (HasAdvanced 1 1 c p) (sym leaves) (record { ready = ready; fewer = λ busy. never busy; bounded = λ idles. omega (arith, idle_left c (one_step p.frame) idle); begun = omega arith })

  -- a call that begins, and makes its first step
  begins_step : (bound : ℕ) (frame : Frame P PlainHeap) (live : List (Option (Grant P PlainHeap))) (t : Turned P) → IsStep maker c p frame live → IsReady frame → steps_left c frame ≤ bound → Leaves (makes_step frame live) c p t → HasAdvanced 1 bound c p t
  begins_step bound frame live t step begun most leaves =
      let q : RunningParty P = record p { frame = frame; live = live } in
      let on : HasAdvanced 0 bound c q t = step_advanced maker bound c q t step.can begun step.busy leaves in
      let one : one_if (not (is_idle frame.phase)) ≡ 1 = ap (λ (v : Bool). one_if (not v)) step.busy in
      record { ready = on.ready; fewer = λ busy. never busy; bounded = λ idles. omega (arith, on.fewer step.busy, most); begun = omega (arith, on.begun, one, not_busy) }

  -- a give-back
  drops_on : (of : ℕ) (x : Option (Grant P PlainHeap)) (t : Turned P) → slice_index_or p.live of None ≡ x → Leaves (drop_opening x of p) c p t → HasAdvanced 1 (bound_returned c x) c p t
  drops_on of None t has leaves = replies_on p.live p.store (Refused NoSuchGrant) t leaves
  drops_on of (Some grant) t has leaves =
      begins_step (bound_of c (call.GiveBack grant)) (begun_call (call.GiveBack grant) p.frame) (slice_set p.live of None) t (drops_opened maker c p can idle of (Some grant) has)
      (ap is_drawing (returned_stage grant p.frame))
      (begun_bounded c (call.GiveBack grant) p.frame (at_rest maker c.settings c.plan p.frame can.party.sound.frame idle) can.core.plan.stripes) leaves

  -- a request for an instance
  requests_on : (w : World) (number : ℕ) (kept : Option ModuleAsked) (o : Opening P) (t : Turned P) → IfSome kept (IsCallFor w.terms c.settings number) → OpensRequest kept p o → Leaves o c p t → p.done < length p.live → HasAdvanced 1 (bound_asked c kept) c p t
  requests_on w number None o t for opens leaves room = absurd opens
  requests_on w number (Some kept) o t for opens leaves room =
      let L : Opening P → Type 0 = λ x. Leaves x c p t in
      elim opens [
        | inl is ↦ looser 1 1 (bound_of c (call.Module kept)) c p t (omega arith) (replies_on p.live p.store (Refused (Alloc alloc.Memory)) t (subst L is leaves))
        | inr is ↦
            begins_step (bound_of c (call.Module kept)) (begun_call (call.Module kept) p.frame) p.live t (module_opened maker c p can idle kept for.fit room)
            refl
            (omega (arith, begun_bounded c (call.Module kept) p.frame (at_rest maker c.settings c.plan p.frame can.party.sound.frame idle) can.core.plan.stripes)) (subst L is leaves)
      ]

  -- a purge
  purges_on : (number : ℕ) (o : Opening P) (t : Turned P) → o ≡ makes_step (begun_call (call.Purge (record { 0 = number })) p.frame) p.live → Leaves o c p t → HasAdvanced 1 (bound_of c (call.Purge (record { 0 = number }))) c p t
  purges_on number o t opens leaves =
      let L : Opening P → Type 0 = λ x. Leaves x c p t in
      begins_step (bound_of c (call.Purge (record { 0 = number }))) (begun_call (call.Purge (record { 0 = number })) p.frame) p.live t (plain_opened maker c p can idle (call.Purge (record { 0 = number })) tt (λ is. absurd cc)) refl (begun_bounded c (call.Purge (record { 0 = number })) p.frame (at_rest maker c.settings c.plan p.frame can.party.sound.frame idle) can.core.plan.stripes) (subst L opens leaves)

  -- a request for whatever it is
  wanted_on : (w : World) (modules : List ModuleAsked) (wanted : Wanted) (o : Opening P) (t : Turned P) → AreCallsFor w.terms c.settings modules → OpensWanted modules wanted p o → Leaves o c p t → p.done < length p.live → HasAdvanced 1 (bound_begun modules (requests wanted) c p) c p t
  wanted_on w modules (an_instance number) o t calls opens leaves room = requests_on w number (slice_get modules number) o t (calls number) opens leaves room
  wanted_on w modules (a_component info) o t calls opens leaves room =
      let L : Opening P → Type 0 = λ x. Leaves x c p t in
      begins_step (bound_of c (call.Component info)) (begun_call (call.Component info) p.frame) p.live t (plain_opened maker c p can idle (call.Component info) tt (λ is. room)) refl (begun_bounded c (call.Component info) p.frame (at_rest maker c.settings c.plan p.frame can.party.sound.frame idle) can.core.plan.stripes) (subst L opens leaves)
  wanted_on w modules a_stack o t calls opens leaves room =
      let L : Opening P → Type 0 = λ x. Leaves x c p t in
      begins_step (bound_of c call.Stack) (begun_call call.Stack p.frame) p.live t (plain_opened maker c p can idle call.Stack tt (λ is. room)) refl (begun_bounded c call.Stack p.frame (at_rest maker c.settings c.plan p.frame can.party.sound.frame idle) can.core.plan.stripes) (subst L opens leaves)
  wanted_on w modules (a_heap limits) o t calls opens leaves room =
      let L : Opening P → Type 0 = λ x. Leaves x c p t in
      begins_step (bound_of c (call.Heap (heap_type limits))) (begun_call (call.Heap (heap_type limits)) p.frame) p.live t (plain_opened maker c p can idle (call.Heap (heap_type limits)) (omega arith) (λ is. room)) refl (begun_bounded c (call.Heap (heap_type limits)) p.frame (at_rest maker c.settings c.plan p.frame can.party.sound.frame idle) can.core.plan.stripes) (subst L opens leaves)

  act_on : (w : World) (modules : List ModuleAsked) (act : Act) (o : Opening P) (t : Turned P) → AreCallsFor w.terms c.settings modules → OpensAct modules act p o → Leaves o c p t → p.done < length p.live → HasAdvanced 1 (bound_begun modules act c p) c p t
  act_on w modules (requests wanted) o t calls opens leaves room = wanted_on w modules wanted o t calls opens leaves room
  act_on w modules (on_memory of k op) o t calls opens leaves room =
      let L : Opening P → Type 0 = λ x. Leaves x c p t in
      replies_on opens.1 p.store opens.0 t (subst L opens.3 leaves)
  act_on w modules (on_table of k op) o t calls opens leaves room =
      let L : Opening P → Type 0 = λ x. Leaves x c p t in
      replies_on opens.1 opens.2 opens.0 t (subst L opens.5 leaves)
  act_on w modules (drops of) o t calls opens leaves room =
      let L : Opening P → Type 0 = λ x. Leaves x c p t in
      drops_on of (slice_index_or p.live of None) t refl (subst L opens leaves)
  act_on w modules (purges number) o t calls opens leaves room = purges_on number o t opens leaves
  act_on w modules releases o t calls opens leaves room =
      let L : Opening P → Type 0 = λ x. Leaves x c p t in
      begins_step (bound_of c call.Release) (begun_call call.Release p.frame) p.live t (plain_opened maker c p can idle call.Release tt (λ is. absurd cc)) refl (begun_bounded c call.Release p.frame (at_rest maker c.settings c.plan p.frame can.party.sound.frame idle) can.core.plan.stripes) (subst L opens leaves)

  -- The stripe is drawn in one turn.
  drawn_by : (o : Option (Outcome P PlainHeap)) (d : PoolCore P PlainHeap) (f : Frame P PlainHeap) (heaps : ListedHeaps) → p.keyed ≡ false → is_key o ≡ true → is_idle f.phase ≡ true → IsReady f → HasAdvanced 1 1 c p (answered o d (record p { frame = f; heaps = heaps }))
  drawn_by (Some answer.Key) d f heaps keyed key idles drawn =
      let none : one_if p.keyed ≡ 0 = ap one_if keyed in
      let over : one_if (not (is_idle f.phase)) ≡ 0 = ap (λ (v : Bool). one_if (not v)) idles in
      let left : steps_left d f ≡ 0 = idle_left d f (idle_is f.phase idles) in
      record { ready = drawn; fewer = λ busy. never busy; bounded = λ i. omega (arith, left); begun = omega (arith, none, over, not_busy) }
  drawn_by _ d f heaps keyed key idles drawn = absurd cc

  drawn_on : (t : Turned P) → p.keyed ≡ false → Steps c (record p { frame = begun_call call.Key p.frame }) t → HasAdvanced 1 1 c p t
  drawn_on t keyed steps =
      let q : RunningParty P = record p { frame = begun_call call.Key p.frame } in
      let a : After P PlainHeap = steps.0 in
      let on : IsStepped maker steps.1.0 steps.1.1 c q.frame a = stepped maker steps.1.0 steps.1.1 c q.frame a (can_step maker c q (called_plain maker call.Key c p tt can idle (λ is. absurd cc))) steps.1.3 in
      let some : is_some a.outcome ≡ true = key_some a.outcome on.staged.key in
      let idles : is_idle a.frame.phase ≡ true = sym (is_none_of a.frame) ∙ ap is_none (on.staged.settled some) in
      subst (HasAdvanced 1 1 c p) (sym steps.2) (drawn_by a.outcome a.core a.frame t.party.heaps keyed on.staged.key idles on.staged.drawn)

  -- where there is no command left one turn is the bound
  none_bound : (keyed : Bool) (modules : List ModuleAsked) → bound_keyed keyed modules None c p ≡ 1
  none_bound true modules = refl
  none_bound false modules = refl

  has_next : (commands : List Command) (next : Option Command) → slice_get commands p.done ≡ next → nat_lt p.done (length commands) ≡ is_some next
  has_next commands None there =
      elim (cases_lt p.done (length commands)) [
        | inl below ↦ absurd (let other : slice_get commands p.done ≡ Some (get_or commands p.done (command.Drop 0)) = slice_get-get_or commands p.done (command.Drop 0) below in cc)
        | inr past ↦ le-ltb p.done (length commands) past
      ]
  has_next commands (Some command) there = lt-ltb p.done (length commands) (slice_get_within commands p.done command there)

  -- a call begins where there is a command left
  counts_next : (commands : List Command) (next : Option Command) → slice_get commands p.done ≡ next → one_if (begins_by (length commands) p) ≡ one_if (is_some next)
  counts_next commands next there =
      let B : Bool → Bool = λ v. v && nat_lt p.done (length commands) in
      ap (λ (v : Bool). one_if (B v)) is ∙ ap one_if (has_next commands next there)

  next_on : (w : World) (modules : List ModuleAsked) (commands : List Command) (next : Option Command) (keyed : Bool) (o : Opening P) (t : Turned P) → AreCallsFor w.terms c.settings modules → slice_get commands p.done ≡ next → p.keyed ≡ keyed → length commands ≤ length p.live → OpensNext modules next keyed p o → Leaves o c p t → HasAdvanced (one_if (is_some next)) (bound_keyed keyed modules next c p) c p t
  next_on w modules commands None keyed o t calls next drawn room opens leaves =
      let L : Opening P → Type 0 = λ x. Leaves x c p t in
      let bound : bound_keyed keyed modules None c p ≡ 1 = none_bound keyed modules in
      let rested : HasAdvanced 0 1 c p t = subst (HasAdvanced 0 1 c p) (sym (subst L opens leaves)) (record { ready = ready; fewer = λ busy. never busy; bounded = λ idles. none_left; begun = omega arith }) in
      looser 0 1 (bound_keyed keyed modules None c p) c p t (omega (arith, bound)) rested
  next_on w modules commands (Some command) false o t calls next drawn room opens leaves =
      let L : Opening P → Type 0 = λ x. Leaves x c p t in
      drawn_on t drawn (subst L opens leaves)
  next_on w modules commands (Some command) true o t calls next drawn room opens leaves = act_on w modules (act_of command) o t calls opens leaves (omega (arith, room, slice_get_within commands p.done command next))

module _ {P : Type 0} where
  advanced_at : (w : World) (modules : List ModuleAsked) (commands : List Command) (c : PoolCore P PlainHeap) (p : RunningParty P) (o : Opening P) (t : Turned P) (b : Bool) → is_idle p.frame.phase ≡ b → AreCallsFor w.terms c.settings modules → CanTurn w.maker c p → IsReady p.frame → length commands ≤ length p.live → OpensAt b modules commands p o → Leaves o c p t → HasAdvanced (one_if (begins_by (length commands) p)) (bound_by modules commands c p) c p t
  advanced_at w modules commands c p o t true idle calls can ready room opens leaves =
      let A : ℕ → Type 0 = λ n. HasAdvanced n (bound_by modules commands c p) c p t in
      subst A (sym (counts_next w.maker c p can ready idle commands (slice_get commands p.done) refl)) (next_on w.maker c p can ready idle w modules commands (slice_get commands p.done) p.keyed o t calls refl refl room opens leaves)
  advanced_at w modules commands c p o t false busy calls can ready room opens leaves =
      let A : ℕ → Type 0 = λ n. HasAdvanced n (bound_by modules commands c p) c p t in
      let L : Opening P → Type 0 = λ x. Leaves x c p t in
      let none : one_if (begins_by (length commands) p) ≡ 0 = ap (λ (v : Bool). one_if (v && nat_lt p.done (length commands))) busy in
      subst A (sym none) (step_advanced w.maker (bound_by modules commands c p) c p t can ready busy (subst L opens leaves))

  -- How far each turn of a party takes it.
  pub has_advanced : (w : World) (modules : List ModuleAsked) (commands : List Command) (c : PoolCore P PlainHeap) (p : RunningParty P) (t : Turned P) → AreCallsFor w.terms c.settings modules → CanTurn w.maker c p → IsReady p.frame → length commands ≤ length p.live → Turns modules commands c p t → HasAdvanced (one_if (begins_by (length commands) p)) (bound_by modules commands c p) c p t
  has_advanced w modules commands c p t calls can ready room turns = advanced_at w modules commands c p turns.0 t (is_idle p.frame.phase) refl calls can ready room turns.1 turns.2

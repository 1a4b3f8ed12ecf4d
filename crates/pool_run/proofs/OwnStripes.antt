-- A party's live memories lie in the stripe that its key gave it, at each moment of a run, and so do those that its replies tell.
use Rattle.std.proofs.Common.{◌≡◌, ℕ, ◌≤◌, ◌%◌, ◌&&◌, Bool, true, false, not, is_some, List, [], ◌∷◌, length, Option, Some, None, refl, sym, ap, ◌∙◌, subst, inl, inr, arith, slice_get, slice_index_or, sum_by, suc}
use Rattle.pool_alloc.specs.declared.frame.Call.TheVariants as call
use Rattle.pool_alloc.specs.declared.frame.Outcome.TheVariants as answer
use Rattle.pool_alloc.specs.StripesOfGrants.{in_hand, right_outside, KeepsToItsStripe}
use Rattle.pool_alloc.specs.Turns.{is_granting}
use Rattle.pool_alloc.proofs.BegunFrames.{idle_weight}
use Rattle.pool_alloc.proofs.StripesKept.{step_stripe}
use Rattle.pool_alloc.proofs.StripesOfGrants.{keeps_on}
use Rattle.pool_slots.specs.declared.errors.AllocError.TheVariants as alloc
use Rattle.pool_slots.specs.SlotQueues.{same_kind}
use Rattle.pool_run.proofs.Imports.{All-map, cases_Bool, cases_lt, get_or-le-sum_by, set_past, sum_by-cons, sum_by-set, same_Some, not_both, one_if, has_number, Allocator, MakerTold, PartyTold, Thing, of_units, frame_weight, frame_units, grant_count, count_granted, instance_count, both_count, memory_slot, After, Asked, memory_asked, table_asked, stack_asked, heap_asked, heap_over_asked, Frame, Grant, Outcome, Phase, PoolCore, PlainHeap, ModuleAsked, Plan, SlotKind, memory_kind, table_kind, stack_kind, heap_kind, stripe_allocator, is_idle, IsIdle, IsFrame, at_rest, begun_call, all_returned, returned_next, Lease, LeasedTable, keys, no_call, stage_of, instance, component, one_memory, one_table, stack, heap, heap_over, objects_in}
use Rattle.pool_run.specs.Acts.{Act, requests, on_memory, on_table, drops, purges, releases, act_of, Wanted, an_instance, a_component, a_stack, a_heap}
use Rattle.pool_run.specs.Exact.{LieInStripe}
use Rattle.pool_run.specs.Rooms.{World}
use Rattle.pool_run.specs.RunsMade.{is_drawing}
use Rattle.pool_run.specs.Ties.{CanTurn, granted_to}
use Rattle.pool_run.specs.Turns.{Turned, Opening, rests, replies, makes_step, answered, drop_opening, granted_reply, OpensRequest, OpensAct, OpensNext, OpensAt, OpensWanted, Leaves, Turns, Steps}
use Rattle.pool_run.specs.Worlds.{AreCallsFor}
use Rattle.pool_run.specs.declared.command.Command.{Command}
use Rattle.pool_run.specs.declared.reply.Reply.{Reply}
use Rattle.pool_run.specs.declared.reply.Reply.TheVariants.{Returned, Purged, Released, Refused}
use Rattle.pool_run.specs.declared.reply.Refusal.TheVariants.{Alloc}
use Rattle.pool_run.specs.declared.running_party.RunningParty.{RunningParty}
use Rattle.pool_run.proofs.Drawn.{IsKeyed, no_keys, opens_keyed}
use Rattle.pool_run.proofs.Opened.{IsOpened, IsStep, idle_is, opened}
use Rattle.pool_run.proofs.Parties.{can_step, HaveSame}
use Rattle.pool_run.proofs.Reserving.{answered_frame}
use Rattle.pool_run.proofs.Sounds.{IsSoundTurn}
use Rattle.pool_run.proofs.StageSteps.{is_key, is_none, none_idle}
use Rattle.pool_run.proofs.Stepped.{IsStepped, stepped}
use Rattle.pool_run.proofs.Turned.{HasTurned, has_turned, turn_sound}
use Rattle.pool_run.proofs.Weighed.{held_units}

-- A right that isn't outside an allocator of memories is to one of its slots.
has_own : (kind : SlotKind) (b : Bool) → kind ≡ memory_kind → one_if (same_kind kind memory_kind && not b) ≡ 0 → b ≡ true
has_own memory_kind true is none = refl
has_own memory_kind false is none = absurd (omega (arith, none))
has_own table_kind b is none = absurd cc
has_own stack_kind b is none = absurd cc
has_own heap_kind b is none = absurd cc

module _ {P : Type 0} where
  -- what live grants have of memories' slots of other stripes
  abbrev pub strays : Plan → ℕ → List (Option (Grant P PlainHeap)) → ℕ
  strays plan stripe live = sum_by (granted_to (grant_count (right_outside (stripe_allocator plan stripe)))) live

  -- The party's live memories lie in its stripe, and its call keeps to that.
  pub record IsInStripe (plan : Plan) (p : RunningParty P) : Type 0 where
    pub live : strays plan p.frame.stripe p.live ≡ 0
    pub call : KeepsToItsStripe plan p.frame

  -- A turn opens with a call that keeps to the stripe.
  abbrev OpensWithin : Plan → Opening P → Type 0
  OpensWithin plan (makes_step frame live) = KeepsToItsStripe plan frame
  OpensWithin plan _ = Unit {0}

  -- A call that gives back isn't to be granted.
  all_back : (asked : Asked) (f : Frame P PlainHeap) → is_granting f.ending ≡ false → is_granting (all_returned asked f).frame.ending ≡ false
  all_back (memory_asked m) f back = refl
  all_back (table_asked ty) f back = refl
  all_back stack_asked f back = refl
  all_back (heap_asked ty) f back = refl
  all_back (heap_over_asked memory) f back = refl
  all_back _ f back = back

  next_back : (ms : List Lease) (ts : List LeasedTable) (f : Frame P PlainHeap) → is_granting f.ending ≡ false → is_granting (returned_next ms ts f).frame.ending ≡ false
  next_back (l ∷ ls) ts f back = back
  next_back [] (l ∷ ls) f back = back
  next_back [] [] f back = all_back f.asked f back

  given_back : (grant : Grant P PlainHeap) (f : Frame P PlainHeap) → is_granting (begun_call (call.GiveBack grant) f).ending ≡ false
  given_back (instance lease) f = next_back lease.memories.items lease.tables.items _ refl
  given_back component f = refl
  given_back (one_memory lease) f = refl
  given_back (one_table lease) f = refl
  given_back (stack lease) f = refl
  given_back (heap lease memory) f = refl
  given_back (heap_over lease) f = refl

  back_keeps : (plan : Plan) (f : Frame P PlainHeap) → is_granting f.ending ≡ false → KeepsToItsStripe plan f
  back_keeps plan f back on = not_both (is_granting f.ending) on back

  -- An idle frame has nothing.
  nothing_in : (maker : MakerTold) (c : PoolCore P PlainHeap) (f : Frame P PlainHeap) (t : Thing) → IsFrame maker c.settings c.plan f → IsIdle f → frame_weight (of_units t) f ≡ 0
  nothing_in maker c f t frame idle = idle_weight (of_units t) f idle (at_rest maker c.settings c.plan f frame idle)

  module _ (maker : MakerTold) (c : PoolCore P PlainHeap) (p : RunningParty P) (frame : IsFrame maker c.settings c.plan p.frame) (idle : IsIdle p.frame) where
    none : (t : Thing) → instance_count t p.frame.objects ≡ 0
    none t = omega (arith, nothing_in maker c p.frame t frame idle, frame_units t p.frame)

    drops_within : (of : ℕ) (x : Option (Grant P PlainHeap)) → OpensWithin c.plan (drop_opening x of p)
    drops_within of None = tt
    drops_within of (Some grant) = back_keeps c.plan (begun_call (call.GiveBack grant) p.frame) (given_back grant p.frame)

    key_within : KeepsToItsStripe c.plan (begun_call call.Key p.frame)
    key_within on = omega (arith, none (right_outside (stripe_allocator c.plan p.frame.stripe)))

    request_within : (kept : Option ModuleAsked) (o : Opening P) → OpensRequest kept p o → OpensWithin c.plan o
    request_within None o opens = absurd opens
    request_within (Some kept) o opens =
        elim opens [
          | inl is ↦ subst (OpensWithin c.plan) (sym is) tt
          | inr is ↦ subst (OpensWithin c.plan) (sym is) (λ on. omega (arith, none (right_outside (stripe_allocator c.plan p.frame.stripe))))
        ]

    wanted_within : (modules : List ModuleAsked) (wanted : Wanted) (o : Opening P) → OpensWanted modules wanted p o → OpensWithin c.plan o
    wanted_within modules (an_instance number) o opens = request_within (slice_get modules number) o opens
    wanted_within modules (a_component info) o opens = subst (OpensWithin c.plan) (sym opens) (λ on. omega (arith, none (right_outside (stripe_allocator c.plan p.frame.stripe))))
    wanted_within modules a_stack o opens = subst (OpensWithin c.plan) (sym opens) (λ on. omega (arith, none (right_outside (stripe_allocator c.plan p.frame.stripe))))
    wanted_within modules (a_heap limits) o opens = subst (OpensWithin c.plan) (sym opens) (λ on. omega (arith, none (right_outside (stripe_allocator c.plan p.frame.stripe))))

    act_within : (modules : List ModuleAsked) (act : Act) (o : Opening P) → OpensAct modules act p o → OpensWithin c.plan o
    act_within modules (requests wanted) o opens = wanted_within modules wanted o opens
    act_within modules (on_memory of k op) o opens = subst (OpensWithin c.plan) (sym opens.3) tt
    act_within modules (on_table of k op) o opens = subst (OpensWithin c.plan) (sym opens.5) tt
    act_within modules (drops of) o opens = subst (OpensWithin c.plan) (sym opens) (drops_within of (slice_index_or p.live of None))
    act_within modules (purges number) o opens = subst (OpensWithin c.plan) (sym opens) (λ on. omega (arith, none (right_outside (stripe_allocator c.plan p.frame.stripe))))
    act_within modules releases o opens = subst (OpensWithin c.plan) (sym opens) (λ on. omega (arith, none (right_outside (stripe_allocator c.plan p.frame.stripe))))

    next_within : (modules : List ModuleAsked) (next : Option Command) (keyed : Bool) (o : Opening P) → OpensNext modules next keyed p o → OpensWithin c.plan o
    next_within modules None keyed o opens = subst (OpensWithin c.plan) (sym opens) tt
    next_within modules (Some command) false o opens = subst (OpensWithin c.plan) (sym opens) key_within
    next_within modules (Some command) true o opens = act_within modules (act_of command) o opens

  module _ (maker : MakerTold) (c : PoolCore P PlainHeap) (p : RunningParty P) (can : CanTurn maker c p) (in_stripe : IsInStripe c.plan p) where
    abbrev outside : Thing
    outside = right_outside (stripe_allocator c.plan p.frame.stripe)

    opens_within : (b : Bool) (modules : List ModuleAsked) (commands : List Command) (o : Opening P) → is_idle p.frame.phase ≡ b → OpensAt b modules commands p o → OpensWithin c.plan o
    opens_within true modules commands o idle opens = next_within maker c p can.party.sound.frame (idle_is p.frame.phase idle) modules (slice_get commands p.done) p.keyed o opens
    opens_within false modules commands o busy opens = subst (OpensWithin c.plan) (sym opens) in_stripe.call

    -- No live grant strays as it opens.
    abbrev OpensLive : Opening P → Type 0
    OpensLive (makes_step frame live) = strays c.plan p.frame.stripe live ≡ 0
    OpensLive _ = Unit {0}

    opens_live : (o : Opening P) → IsOpened maker c p o → (busy : Bool) (modules : List ModuleAsked) (commands : List Command) → is_idle p.frame.phase ≡ busy → OpensAt busy modules commands p o → OpensLive o
    opens_live rests is busy modules commands idle opens = tt
    opens_live (replies reply live store) is busy modules commands idle opens = tt
    opens_live (makes_step frame live) is true modules commands idle opens =
        omega (
          arith,
          is.same (of_units outside),
          held_units outside p,
          held_units outside (record p { frame = frame; live = live }),
          nothing_in maker c p.frame outside can.party.sound.frame (idle_is p.frame.phase idle),
          frame_units outside p.frame,
          in_stripe.live,
        )
    opens_live (makes_step frame live) is false modules commands busy opens = ap (strays c.plan p.frame.stripe) (ap live_in opens) ∙ in_stripe.live
      where
        live_in : Opening P → List (Option (Grant P PlainHeap))
        live_in (makes_step frame live) = live
        live_in _ = []

    replies_live : (live : List (Option (Grant P PlainHeap))) → HaveSame p (record p { live = live }) → strays c.plan p.frame.stripe live ≡ 0
    replies_live live same = omega (arith, same (of_units outside), held_units outside p, held_units outside (record p { live = live }), in_stripe.live)

    -- what a step's outcome leaves of the live grants
    outcome_live : (o : Option (Outcome P PlainHeap)) (d : PoolCore P PlainHeap) (q : RunningParty P) → strays c.plan p.frame.stripe q.live ≡ 0 → count_granted (grant_count outside) o ≡ 0 → strays c.plan p.frame.stripe (answered o d q).party.live ≡ 0
    outcome_live None d q live none = live
    outcome_live (Some answer.Key) d q live none = live
    outcome_live (Some (answer.Granted g)) d q live none =
        elim (cases_lt q.done (length q.live)) [
          | inl inside ↦ omega (arith, live, none, sum_by-set (granted_to (grant_count outside)) q.live q.done (Some g) None inside)
          | inr past ↦ ap (strays c.plan p.frame.stripe) (set_past q.live q.done (Some g) past) ∙ live
        ]
    outcome_live (Some answer.Returned) d q live none = live
    outcome_live (Some (answer.Purged n)) d q live none = live
    outcome_live (Some (answer.Released n)) d q live none = live
    outcome_live (Some (answer.Refused e)) d q live none = live

    -- A step of a call that isn't for a key.
    step_in_stripe : (frame : Frame P PlainHeap) (live : List (Option (Grant P PlainHeap))) (t : Turned P) → (stage_of frame ≡ keys → ⊥) → IsStep maker c p frame live → KeepsToItsStripe c.plan frame → strays c.plan p.frame.stripe live ≡ 0 → Steps c (record p { frame = frame; live = live }) t → IsInStripe c.plan t.party
    step_in_stripe frame live t key step within none steps =
        let q : RunningParty P = record p { frame = frame; live = live } in
        let a : After P PlainHeap = steps.0 in
        let old : PartyTold = steps.1.0 in
        let new : PartyTold = steps.1.1 in
        let can_frame = can_step maker c q step.can in
        let left : RunningParty P = record q { frame = a.frame; heaps = t.party.heaps } in
        let kept = keeps_on maker old new c frame a can_frame key steps.1.3 within in
        let same : a.frame.stripe ≡ p.frame.stripe = step_stripe old new c frame a key steps.1.3 ∙ step.stripe in
        let At : ℕ → Type 0 = λ n. count_granted (grant_count (right_outside (stripe_allocator c.plan n))) a.outcome ≡ 0 in
        let live_now : strays c.plan p.frame.stripe (answered a.outcome a.core left).party.live ≡ 0 = outcome_live a.outcome a.core left none (subst At step.stripe kept.1) in
        let framed : (answered a.outcome a.core left).party.frame ≡ a.frame = answered_frame a.outcome a.core left in
        let Live : ℕ → Type 0 = λ n. strays c.plan n (answered a.outcome a.core left).party.live ≡ 0 in
        let stripe : p.frame.stripe ≡ (answered a.outcome a.core left).party.frame.stripe = sym (ap (λ (f : Frame P PlainHeap). f.stripe) framed ∙ same) in
        subst (IsInStripe c.plan) (sym (ap (λ (x : Turned P). x.party) steps.2))
        (record { live = subst Live stripe live_now; call = subst (KeepsToItsStripe c.plan) (sym framed) kept.0 })

    -- What a turn leaves that opens so.
    left_in_stripe : (o : Opening P) (t : Turned P) → IsOpened maker c p o → IsKeyed p o → OpensWithin c.plan o → OpensLive o → p.keyed ≡ true → Leaves o c p t → IsInStripe c.plan t.party
    left_in_stripe rests t is keyed within live had leaves = subst (IsInStripe c.plan) (sym (ap (λ (x : Turned P). x.party) leaves)) in_stripe
    left_in_stripe (replies reply live store) t is keyed within none had leaves =
        subst (IsInStripe c.plan) (sym (ap (λ (x : Turned P). x.party) leaves)) (record { live = replies_live live is.same; call = in_stripe.call })
    left_in_stripe (makes_step frame live) t is keyed within none had leaves =
        step_in_stripe frame live t (no_keys (stage_of frame) (keyed ∙ ap not had)) is within none leaves

-- What is granted with nothing outside the stripe's allocator lies in the stripe.
module _ (a : Allocator) (stripes stripe : ℕ) (own : (k : ℕ) → has_number a k ≡ true → k % stripes ≡ stripe) (kind : a.kind ≡ memory_kind) where
  one_lies : (l : Lease) → both_count (right_outside a) (memory_slot l.index) l.numbers ≡ 0 → l.index % stripes ≡ stripe
  one_lies l none = own l.index (has_own a.kind (has_number a l.index) kind (omega (arith, none)))

  module _ {P : Type 0} where
    granted_lies : (g : Grant P PlainHeap) → grant_count (right_outside a) g ≡ 0 → LieInStripe stripes stripe (granted_reply g)
    granted_lies (instance lease) none =
        All-map (λ slot. slot % stripes ≡ stripe) (λ (l : Lease). l.index) lease.memories.items
        (λ i d below. one_lies (slice_index_or lease.memories.items i d) (omega (arith, none, get_or-le-sum_by (λ (l : Lease). both_count (right_outside a) (memory_slot l.index) l.numbers) lease.memories.items i d below)))
    granted_lies component none = tt
    granted_lies (one_memory lease) none = tt
    granted_lies (one_table lease) none = tt
    granted_lies (stack lease) none = tt
    granted_lies (heap lease memory) none = one_lies memory (omega (arith, none))
    granted_lies (heap_over lease) none = tt

    -- So it is of the reply to a call.
    answered_lies : (o : Option (Outcome P PlainHeap)) (c : PoolCore P PlainHeap) (q : RunningParty P) (reply : Reply) → count_granted (grant_count (right_outside a)) o ≡ 0 → (answered o c q).reply ≡ Some reply → LieInStripe stripes stripe reply
    answered_lies None c q reply none is = absurd cc
    answered_lies (Some answer.Key) c q reply none is = absurd cc
    answered_lies (Some (answer.Granted g)) c q reply none is = subst (LieInStripe stripes stripe) (same_Some (granted_reply g) reply is) (granted_lies g none)
    answered_lies (Some answer.Returned) c q reply none is = subst (LieInStripe stripes stripe) (same_Some Returned reply is) tt
    answered_lies (Some (answer.Purged n)) c q reply none is = subst (LieInStripe stripes stripe) (same_Some (Purged n) reply is) tt
    answered_lies (Some (answer.Released n)) c q reply none is = subst (LieInStripe stripes stripe) (same_Some (Released n) reply is) tt
    answered_lies (Some (answer.Refused e)) c q reply none is = subst (LieInStripe stripes stripe) (same_Some (Refused (Alloc e)) reply is) tt

module _ {P : Type 0} where
  -- A party with nothing is in every stripe.
  pub nothing_live : (live : List (Option (Grant P PlainHeap))) → ((k : ℕ) → slice_index_or live k None ≡ None) → (of : Grant P PlainHeap → ℕ) → sum_by (granted_to of) live ≡ 0
  nothing_live [] none of = refl
  nothing_live (x ∷ live) none of = omega (arith, sum_by-cons (granted_to of) x live, ap (granted_to of) (none 0), nothing_live live (λ k. none (suc k)) of)

  pub idle_in_stripe : (maker : MakerTold) (c : PoolCore P PlainHeap) (plan : Plan) (p : RunningParty P) → IsFrame maker c.settings c.plan p.frame → IsIdle p.frame → ((t : Thing) → sum_by (granted_to (grant_count t)) p.live ≡ 0) → IsInStripe plan p
  idle_in_stripe maker c plan p frame idle none =
      let t : Thing = right_outside (stripe_allocator plan p.frame.stripe) in
      let H : Phase P PlainHeap → Type 0 = λ phase. in_hand t phase ≡ 0 in
      let hand : in_hand t p.frame.phase ≡ 0 = subst H (sym idle) refl in
      record {
        live = none t;
        call = λ on. omega (arith, hand, nothing_in maker c p.frame t frame idle, frame_units t p.frame);
      }

  -- A step for a key leaves the live grants, and no call.
  key_live : (o : Option (Outcome P PlainHeap)) (c : PoolCore P PlainHeap) (q : RunningParty P) → is_key o ≡ true → (answered o c q).party.live ≡ q.live
  key_live (Some answer.Key) c q key = refl
  key_live _ c q key = absurd cc

  key_silent : (o : Option (Outcome P PlainHeap)) (c : PoolCore P PlainHeap) (q : RunningParty P) → is_key o ≡ true → (answered o c q).reply ≡ None
  key_silent (Some answer.Key) c q key = refl
  key_silent _ c q key = absurd cc

  key_some : (o : Option (Outcome P PlainHeap)) → is_key o ≡ true → is_some o ≡ true
  key_some None key = absurd cc
  key_some (Some x) key = refl

  idle_after : (f : Frame P PlainHeap) → stage_of f ≡ no_call → IsIdle f
  idle_after f settled = idle_is f.phase (sym (none_idle f.phase f.asked f.ending (objects_in f.objects)) ∙ ap is_none settled)

-- A turn of a party.
module _ {P : Type 0} (w : World) (modules : List ModuleAsked) (commands : List Command) (c : PoolCore P PlainHeap) (p : RunningParty P) (t : Turned P) (calls : AreCallsFor w.terms c.settings modules) (can : CanTurn w.maker c p) (room : length commands ≤ length p.live) (drawn : is_drawing (stage_of p.frame) ≡ false) (fresh : p.keyed ≡ false → (p.done ≡ 0) × IsIdle p.frame) (turns : Turns modules commands c p t) where
  abbrev opening : Opening P
  opening = turns.0

  is_opened : IsOpened w.maker c p opening
  is_opened = opened w.maker c p w.terms modules commands opening calls can room turns.1

  is_keyed : IsKeyed p opening
  is_keyed = opens_keyed w.maker c p drawn fresh (is_idle p.frame.phase) modules commands opening refl turns.1

  turned : HasTurned c p t
  turned = has_turned w modules commands c p t calls can room turns

  sound : IsSoundTurn w.maker t
  sound = turn_sound w modules commands c p t calls can room turns

  -- before its key the party has nothing
  nothing_yet : p.keyed ≡ false → (of : Grant P PlainHeap → ℕ) → sum_by (granted_to of) p.live ≡ 0
  nothing_yet none of = nothing_live p.live (λ k. can.party.to_come k (omega (arith, (fresh none).0))) of

  fresh_left : (o : Opening P) (plan : Plan) → p.keyed ≡ false → IsOpened w.maker c p o → IsKeyed p o → Leaves o c p t → IsInStripe plan t.party
  fresh_left rests plan none is keyed leaves =
      subst (IsInStripe plan) (sym (ap (λ (x : Turned P). x.party) leaves)) (idle_in_stripe w.maker c plan p can.party.sound.frame (fresh none).1 (λ x. nothing_yet none (grant_count x)))
  fresh_left (replies reply live store) plan none is keyed leaves = not_both p.keyed keyed none
  fresh_left (makes_step frame live) plan none is keyed steps =
      let q : RunningParty P = record p { frame = frame; live = live } in
      let a : After P PlainHeap = steps.0 in
      let on : IsStepped w.maker steps.1.0 steps.1.1 c frame a = stepped w.maker steps.1.0 steps.1.1 c frame a (can_step w.maker c q is.can) steps.1.3 in
      let left : RunningParty P = record q { frame = a.frame; heaps = t.party.heaps } in
      let draws : is_drawing (stage_of frame) ≡ true = keyed ∙ ap not none in
      let key : is_key a.outcome ≡ true = on.staged.key ∙ draws in
      let party : t.party ≡ (answered a.outcome a.core left).party = ap (λ (x : Turned P). x.party) steps.2 in
      let framed : t.party.frame ≡ a.frame = ap (λ (x : RunningParty P). x.frame) party ∙ answered_frame a.outcome a.core left in
      let live_now : t.party.live ≡ live = ap (λ (x : RunningParty P). x.live) party ∙ key_live a.outcome a.core left key in
      let idle : IsIdle t.party.frame = subst IsIdle (sym framed) (idle_after a.frame (on.staged.settled (key_some a.outcome key))) in
      idle_in_stripe w.maker t.core plan t.party sound.party.frame idle
      (λ x.
      let none_there : sum_by (granted_to (grant_count x)) live ≡ 0 = omega (arith, is.same (of_units x), held_units x p, held_units x q, nothing_in w.maker c p.frame x can.party.sound.frame (fresh none).1, frame_units x p.frame, nothing_yet none (grant_count x)) in
      ap (λ (l : List (Option (Grant P PlainHeap))). sum_by (granted_to (grant_count x)) l) live_now ∙ none_there)

  -- The party stays in its stripe.
  pub turn_in_stripe : IsInStripe c.plan p → IsInStripe t.core.plan t.party
  turn_in_stripe in_stripe =
      elim (cases_Bool p.keyed) [
        | inl had ↦
            let within = opens_within w.maker c p can in_stripe (is_idle p.frame.phase) modules commands opening refl turns.1 in
            let live = opens_live w.maker c p can in_stripe opening is_opened (is_idle p.frame.phase) modules commands refl turns.1 in
            subst (λ (plan : Plan). IsInStripe plan t.party) (sym turned.size.plan) (left_in_stripe w.maker c p can in_stripe opening t is_opened is_keyed within live had turns.2)
        | inr none ↦ fresh_left opening t.core.plan none is_opened is_keyed turns.2
      ]

  -- What it replies to a request lies in the stripe.
  module _ (in_stripe : IsInStripe c.plan p) (stripes : ℕ) (own : (k : ℕ) → has_number (stripe_allocator c.plan p.frame.stripe) k ≡ true → k % stripes ≡ p.frame.stripe) (kind : (stripe_allocator c.plan p.frame.stripe).kind ≡ memory_kind) where
    abbrev Lies : Reply → Type 0
    Lies reply = LieInStripe stripes p.frame.stripe reply

    -- a command that ends at once is no request, or finds no memory
    abbrev EndsSo : Opening P → Type 0
    EndsSo (replies reply live store) = Lies reply
    EndsSo _ = Unit {0}

    request_ends : (kept : Option ModuleAsked) (o : Opening P) → OpensRequest kept p o → EndsSo o
    request_ends None o opens = absurd opens
    request_ends (Some kept) o opens = elim opens [ inl is ↦ subst EndsSo (sym is) tt | inr is ↦ subst EndsSo (sym is) tt ]

    wanted_ends : (wanted : Wanted) (o : Opening P) → OpensWanted modules wanted p o → EndsSo o
    wanted_ends (an_instance number) o opens = request_ends (slice_get modules number) o opens
    wanted_ends (a_component info) o opens = subst EndsSo (sym opens) tt
    wanted_ends a_stack o opens = subst EndsSo (sym opens) tt
    wanted_ends (a_heap limits) o opens = subst EndsSo (sym opens) tt

    next_ends : (next : Option Command) (keyed : Bool) (o : Opening P) (command : Command) (wanted : Wanted) → next ≡ Some command → act_of command ≡ requests wanted → OpensNext modules next keyed p o → EndsSo o
    next_ends None keyed o command wanted at asks opens = absurd cc
    next_ends (Some other) false o command wanted at asks opens = subst EndsSo (sym opens) tt
    next_ends (Some other) true o command wanted at asks opens =
        let same : other ≡ command = same_Some other command at in
        let O : Act → Type 0 = λ act. OpensAct modules act p o in
        let opens_so : O (requests wanted) = subst O (ap act_of same ∙ asks) opens in
        wanted_ends wanted o opens_so

    opening_ends : (busy : Bool) (o : Opening P) (command : Command) (wanted : Wanted) → slice_get commands p.done ≡ Some command → act_of command ≡ requests wanted → OpensAt busy modules commands p o → EndsSo o
    opening_ends true o command wanted at asks opens = next_ends (slice_get commands p.done) p.keyed o command wanted at asks opens
    opening_ends false o command wanted at asks opens = subst EndsSo (sym opens) tt

    opening_lies : (o : Opening P) (reply : Reply) → IsOpened w.maker c p o → OpensWithin c.plan o → EndsSo o → Leaves o c p t → t.reply ≡ Some reply → Lies reply
    opening_lies rests reply is within ends leaves told = absurd (let none : t.reply ≡ None = ap (λ (x : Turned P). x.reply) leaves in let wrong : None ≡ Some reply = sym none ∙ told in cc)
    opening_lies (replies r live store) reply is within ends leaves told = subst Lies (same_Some r reply (sym (ap (λ (x : Turned P). x.reply) leaves) ∙ told)) ends
    opening_lies (makes_step frame live) reply is within ends steps told =
        let q : RunningParty P = record p { frame = frame; live = live } in
        let a : After P PlainHeap = steps.0 in
        let can_frame = can_step w.maker c q is.can in
        let on : IsStepped w.maker steps.1.0 steps.1.1 c frame a = stepped w.maker steps.1.0 steps.1.1 c frame a can_frame steps.1.3 in
        let left : RunningParty P = record q { frame = a.frame; heaps = t.party.heaps } in
        let now : (answered a.outcome a.core left).reply ≡ Some reply = sym (ap (λ (x : Turned P). x.reply) steps.2) ∙ told in
        elim (cases_Bool (is_drawing (stage_of frame))) [
          | inl draws ↦ absurd (let silent : (answered a.outcome a.core left).reply ≡ None = key_silent a.outcome a.core left (on.staged.key ∙ draws) in let wrong : None ≡ Some reply = sym silent ∙ now in cc)
          | inr settled ↦
              let kept = keeps_on w.maker steps.1.0 steps.1.1 c frame a can_frame (no_keys (stage_of frame) settled) steps.1.3 within in
              let At : ℕ → Type 0 = λ n. count_granted (grant_count (right_outside (stripe_allocator c.plan n))) a.outcome ≡ 0 in
              answered_lies (stripe_allocator c.plan p.frame.stripe) stripes p.frame.stripe own kind a.outcome a.core left reply (subst At is.stripe kept.1) now
        ]

    pub turn_lies : (command : Command) (wanted : Wanted) (reply : Reply) → slice_get commands p.done ≡ Some command → act_of command ≡ requests wanted → t.reply ≡ Some reply → Lies reply
    turn_lies command wanted reply at asks told =
        opening_lies opening reply is_opened (opens_within w.maker c p can in_stripe (is_idle p.frame.phase) modules commands opening refl turns.1) (opening_ends (is_idle p.frame.phase) opening command wanted at asks turns.1) turns.2 told

-- A step of a party's call, over a pool that others use at the same time.
use Rattle.std.proofs.Common.{◌≡◌, ℕ, ◌+◌, ◌<◌, ◌≤◌, Bool, true, false, not, List, [], ◌∷◌, length, Option, Some, None, is_some, refl, sym, ap, ◌∙◌, subst, inl, inr, arith, All, IfSome, true≢false}
use Rattle.std.proofs.lemmas.List.Elements.{All-set}
use Rattle.pool_hall.specs.Sum.{total}
use Rattle.pool_hall.specs.declared.view.View.{View}
use Rattle.pool_slots.specs.declared.listed_heaps.ListedHeaps.{ListedHeaps}
use Rattle.pool_slots.specs.declared.listed_heaps.PlainHeap.{PlainHeap}
use Rattle.pool_pages.specs.MakerTold.{MakerTold}
use Rattle.pool_alloc.specs.Calls.{IfGranted, IsIdle}
use Rattle.pool_alloc.specs.Objects.{objects_in}
use Rattle.pool_alloc.specs.CallStages.{stage_of}
use Rattle.pool_alloc.specs.Places.{Thing, away_count, kept_count, frame_count, of_units}
use Rattle.pool_alloc.specs.Stepping.{CanStep}
use Rattle.pool_alloc.specs.Turns.{After}
use Rattle.pool_alloc.specs.declared.frame.Frame.{Frame}
use Rattle.pool_alloc.specs.declared.frame.Grant.{Grant}
use Rattle.pool_alloc.specs.declared.frame.Outcome.{Outcome}
use Rattle.pool_alloc.specs.declared.frame.Outcome.TheVariants as answer
use Rattle.pool_alloc.specs.declared.pool_core.PoolCore.{PoolCore}
use Rattle.pool_alloc.proofs.StepNeeds.{can_still}
use Rattle.pool_driver.specs.Driving.{IsDriven}
use Rattle.pool_driver.specs.Faults.{AnswerKeeps, GrantKeeps}
use Rattle.pool_run.specs.Folds.{seen_by}
use Rattle.pool_run.specs.PartyRules.{rule_of}
use Rattle.pool_run.specs.Private.{no_grants}
use Rattle.pool_run.specs.PrivateTables.{Host}
use Rattle.pool_run.specs.Rooms.{World, in_stripe, under}
use Rattle.pool_run.specs.RunsMade.{is_drawing}
use Rattle.pool_run.specs.Ties.{IsParty, IsPrivate, IsReserved, is_asking}
use Rattle.pool_run.specs.Turns.{Steps, Turned, after_step, answered, host_of_party, leases_listed, slots_after, tables_named, with_reply}
use Rattle.pool_run.specs.Worlds.{IsWorldOf}
use Rattle.pool_run.specs.declared.command.Command.{Command}
use Rattle.pool_run.specs.declared.reply.Reply.{Reply}
use Rattle.pool_run.specs.declared.running_party.RunningParty.{RunningParty}
use Rattle.pool_run.specs.declared.slot_lists.SlotLists.{SlotLists}
use Rattle.pool_run.proofs.Drawn.{TurnStripe, step_leaves, still_private}
use Rattle.pool_run.proofs.Folding.{world_over, world_seen}
use Rattle.pool_run.proofs.Opened.{idle_is}
use Rattle.pool_run.proofs.Reserving.{memories_granted, step_reserved, tables_granted}
use Rattle.pool_run.proofs.Running.{party_over}
use Rattle.pool_run.proofs.Sounds.{IsSoundTurn}
use Rattle.pool_run.proofs.StageSteps.{is_key, is_none, none_idle, place_granted}
use Rattle.pool_run.proofs.Stepped.{IsStepped, stepped}
use Rattle.pool_run.proofs.Turned.{HasTurned, step_left, step_turned}
use Rattle.pool_run.proofs.Turning.{HasItsOwn, SeesTurn, step_private}
use Rattle.pool_run.proofs.TurnsMade.{steps_made}
use Rattle.pool_run.proofs.Weighed.{held_units}
use Rattle.pool_threads.specs.GrowthFaults.{AreGrowthsListed}
use Rattle.pool_threads.specs.Working.{IsAtWork, IsJob, IsToldSoFar, Job, StaysSame, StepsHere, bare_pool, given_by}
use Rattle.pool_threads.proofs.GrowthRuns.{none_told}
use Rattle.pool_threads.proofs.GrowthsTold.{answered_growths}
use Rattle.pool_threads.proofs.LiveNames.{answered_named}
use Rattle.pool_threads.proofs.LiveUnits.{live_weigh}
use Rattle.pool_threads.proofs.Regiven.{driven_answered}

-- the stripe was drawn
had_drawn : (b : Bool) → not b ≡ false → b ≡ true
had_drawn true is = refl
had_drawn false is = absurd (true≢false is)

no_replies : (replies : List Reply) → length replies ≡ 0 → replies ≡ []
no_replies [] none = refl
no_replies (r ∷ rs) none = absurd (omega (arith, none))

module _ {P : Type 0} where
  -- an answer leaves frame and pool as the step left them
  answered_can : (maker : MakerTold) (o : Option (Outcome P PlainHeap)) (c : PoolCore P PlainHeap) (p : RunningParty P) → CanStep maker c p.frame → CanStep maker (answered o c p).core (answered o c p).party.frame
  answered_can maker None c p can = can
  answered_can maker (Some answer.Key) c p can = can
  answered_can maker (Some (answer.Granted grant)) c p can = can
  answered_can maker (Some answer.Returned) c p can = can
  answered_can maker (Some (answer.Purged n)) c p can = can
  answered_can maker (Some (answer.Released n)) c p can = can
  answered_can maker (Some (answer.Refused e)) c p can = can

  -- a grant that comes has lost no faults
  answered_keeps : (o : Option (Outcome P PlainHeap)) (c : PoolCore P PlainHeap) (p : RunningParty P) → AnswerKeeps o → All (λ g. IfSome g GrantKeeps) p.live → All (λ g. IfSome g GrantKeeps) (answered o c p).party.live
  answered_keeps None c p kept all = all
  answered_keeps (Some answer.Key) c p kept all = all
  answered_keeps (Some (answer.Granted grant)) c p kept all = All-set (λ (g : Option (Grant P PlainHeap)). IfSome g GrantKeeps) p.live p.done (Some grant) kept all
  answered_keeps (Some answer.Returned) c p kept all = all
  answered_keeps (Some (answer.Purged n)) c p kept all = all
  answered_keeps (Some (answer.Released n)) c p kept all = all
  answered_keeps (Some (answer.Refused e)) c p kept all = all

  -- The world of a job is that of each pool with its settings and its plan.
  pub job_world : (j : Job) (c : PoolCore P PlainHeap) → IsJob P j → c.settings ≡ j.settings → c.plan ≡ j.plan → IsWorldOf j.world c
  job_world j c is settings plan = world_over j.world (bare_pool j) c (record { settings = settings; plan = plan }) is.world

  -- What a step leaves, where the party's call can make it, and the party was told a private run.
  module _ {T : Type 0} (j : Job) (commands : List Command) (places : ℕ) (v w : View T) (p : RunningParty P) (heaps : ListedHeaps) (next : Frame P PlainHeap) (o : Option (Outcome P PlainHeap))
      (is : IsJob P j) (work : IsAtWork j places v p) (keyed : is_drawing (stage_of p.frame) ≡ not p.keyed)
      (here : StepsHere (given_by j p.live) (rule_of p.limits) p.heaps heaps p.frame next o) (driven : IsDriven places (given_by j p.live) w next o) where
    abbrev c : PoolCore P PlainHeap
    c = here.core

    abbrev a : After P PlainHeap
    a = record { core = here.left; frame = next; outcome = o }

    abbrev u : World
    u = seen_by p j.world

    -- the turn that this step is
    abbrev pub turn : Turned P
    turn = after_step a (record p { heaps = heaps })

    steps : Steps c p turn
    steps = steps_made heaps c p a turn here.row refl

    on : IsStepped j.world.maker here.row.0 here.row.1 c p.frame a
    on = stepped j.world.maker here.row.0 here.row.1 c p.frame a here.stands.can here.row.3

    its : IsParty j.world.maker c p
    its = party_over j.world.maker (bare_pool j) c p (record { settings = here.stands.settings; plan = here.stands.plan }) work.party

    turned : HasTurned c p turn
    turned = step_turned j.world.maker c p turn here.stands.can its steps

    sound : IsSoundTurn j.world.maker turn
    sound = step_left j.world.maker c p turn here.stands.can its.sound steps

    stripes : TurnStripe p turn
    stripes = step_leaves j.world.maker c p p.frame p.live turn here.stands.can refl keyed steps

    own : HasItsOwn u c p
    own = record { can = here.stands.can; units = λ t. omega (arith, here.stands.away t, live_weigh t p.live); counted = λ counts. absurd (true≢false (sym counts ∙ is.counts)) }

    sees : (replies : List Reply) → IsToldSoFar j commands replies p → SeesTurn u (no_grants commands) commands replies turn
    sees replies told = step_private u (no_grants commands) commands replies c p turn told.private (world_seen p j.world c (job_world j c is here.stands.settings here.stands.plan)) own (λ alone. absurd (true≢false (sym alone ∙ is.alone))) refl refl steps

    granted : IfGranted (λ g. p.done < length p.live) o
    granted = place_granted (p.done < length p.live) (is_asking (stage_of p.frame)) o its.place on.staged.granted

    -- It is the party that it was.
    pub step_same : StaysSame p turn.party
    step_same = record {
      host = turned.host;
      stripe = λ drawn. elim stripes.stripe [ inl same ↦ same | inr drew ↦ absurd (true≢false (sym drawn ∙ drew.keyed)) ];
    }

    -- The party is told a private run still,
    pub step_told : (replies : List Reply) → IsToldSoFar j commands replies p → IsToldSoFar j commands (with_reply turn.reply replies) turn.party
    step_told replies told = record {
      room = turned.room ∙ told.room;
      private =
          let By : Host → World = λ host. in_stripe turn.party.frame.stripe (under host j.world) in
          let Is : World → Type 0 = λ x. IsPrivate x (no_grants commands) commands (with_reply turn.reply replies) turn.party in
          let now : Is (By (host_of_party p)) =
          elim stripes.stripe [
            | inl same ↦ subst (λ (n : ℕ). Is (in_stripe n (under (host_of_party p) j.world))) (sym same) (sees replies told)
            | inr drew ↦ still_private u (By (host_of_party p)) (no_grants commands) commands replies turn (sees replies told) (omega (arith, told.private.count, told.fresh drew.keyed)) drew.silent drew.settled
          ] in
          subst (λ (host : Host). Is (By host)) (sym turned.host) now;
      named = answered_named o here.left (record p { frame = next; heaps = heaps }) replies told.private.count granted told.named;
      growths =
          let By : Host → World = λ host. in_stripe turn.party.frame.stripe (under host j.world) in
          let Is : World → Type 0 = λ x. AreGrowthsListed x commands (with_reply turn.reply replies) turn.party.live in
          let now : Is (By (host_of_party p)) =
          elim stripes.stripe [
            | inl same ↦ subst (λ (n : ℕ). Is (in_stripe n (under (host_of_party p) j.world))) (sym same) (answered_growths u commands replies p told.private told.growths o here.left next heaps on.staged)
            | inr drew ↦ none_told (By (host_of_party p)) commands (with_reply turn.reply replies) turn.party.live (ap (λ (r : Option Reply). with_reply r replies) drew.silent ∙ no_replies replies (omega (arith, told.private.count, told.fresh drew.keyed)))
          ] in
          subst (λ (host : Host). Is (By host)) (sym turned.host) now;
      fresh = λ none. (stripes.fresh none).0;
    }

    away_left : (t : Thing) → kept_count t turn.core + (frame_count t turn.party.frame + total t (given_by j turn.party.live).rest) ≤ away_count t turn.core
    away_left t = omega (arith, turned.conserves (of_units t), held_units t p, held_units t turn.party, live_weigh t p.live, live_weigh t turn.party.live, here.stands.away t)

    -- and has its own of the pool.
    pub step_at_work : IsAtWork j places w turn.party
    step_at_work = record {
      core = turn.core;
      stands = record {
        settings = turned.size.settings ∙ here.stands.settings;
        plan = turned.size.plan ∙ here.stands.plan;
        can = answered_can j.world.maker o here.left (record p { frame = next; heaps = heaps }) (can_still j.world.maker here.row.0 here.row.1 c p.frame a here.stands.can here.row.3);
        away = away_left;
      };
      party = party_over j.world.maker turn.core (bare_pool j) turn.party (record { settings = sym (turned.size.settings ∙ here.stands.settings); plan = sym (turned.size.plan ∙ here.stands.plan) }) (record { sound = sound.party; to_come = turned.to_come; place = turned.place });
      driven = driven_answered j places w here.left (record p { frame = next; heaps = heaps }) o granted (its.to_come p.done (omega arith)) driven;
      keeps = answered_keeps o here.left (record p { frame = next; heaps = heaps }) driven.answer work.keeps;
    }

    -- What is told of the answer: a key draws the stripe, and replies to nothing.
    pub step_key : is_key o ≡ not p.keyed
    step_key = on.staged.key ∙ keyed

    -- There is a place for what is granted, and room in the lists for its slots.
    pub step_place : IfGranted (λ g. p.done < length p.live) o
    step_place = granted

    pub step_memories : (slots : SlotLists) → IsReserved p.frame slots → IfGranted (λ g. length (leases_listed g) ≤ slots.memories.room) o
    step_memories slots reserved = memories_granted j.world.maker c p.frame a slots reserved on

    pub step_tables : (slots : SlotLists) → IsReserved p.frame slots → IfGranted (λ g. length (tables_named g) ≤ slots.tables.room) o
    step_tables slots reserved = tables_granted j.world.maker c p.frame a slots reserved on

    -- The lists are reserved still, for what goes on.
    pub step_reserves : (slots left : SlotLists) → IsReserved p.frame slots → left ≡ slots_after o slots → IsReserved next left
    step_reserves slots left reserved is = step_reserved j.world.maker c p.frame a slots left reserved on is

    -- After its answer no call is under way.
    pub step_settled : is_some o ≡ true → IsIdle next
    step_settled some' =
        let none : is_none (stage_of next) ≡ true = ap is_none (on.staged.settled some') in
        idle_is next.phase (sym (none_idle next.phase next.asked next.ending (objects_in next.objects)) ∙ none)

    -- A call that goes on draws the stripe where it did.
    pub step_keyed : o ≡ None → is_drawing (stage_of next) ≡ not p.keyed
    step_keyed none =
        let first : not p.keyed ≡ false = sym step_key ∙ ap is_key none in
        on.staged.drawn ∙ sym first

module _ {P : Type 0} where
  -- An answer but a key is replied to,
  pub replied_to : (o : Option (Outcome P PlainHeap)) (c : PoolCore P PlainHeap) (p : RunningParty P) (keyed : Bool) → is_some o ≡ true → is_key o ≡ not keyed → is_some (answered o c p).reply ≡ keyed
  replied_to None c p keyed some' key = absurd (true≢false (sym some'))
  replied_to (Some answer.Key) c p keyed some' key = sym (was_drawn keyed (sym key))
    where
      was_drawn : (b : Bool) → not b ≡ true → b ≡ false
      was_drawn true is = absurd (true≢false (sym is))
      was_drawn false is = refl
  replied_to (Some (answer.Granted grant)) c p keyed some' key = sym (had_drawn keyed (sym key))
  replied_to (Some answer.Returned) c p keyed some' key = sym (had_drawn keyed (sym key))
  replied_to (Some (answer.Purged n)) c p keyed some' key = sym (had_drawn keyed (sym key))
  replied_to (Some (answer.Released n)) c p keyed some' key = sym (had_drawn keyed (sym key))
  replied_to (Some (answer.Refused e)) c p keyed some' key = sym (had_drawn keyed (sym key))

  -- and after it the party has its stripe.
  pub keyed_after : (o : Option (Outcome P PlainHeap)) (c : PoolCore P PlainHeap) (p : RunningParty P) → is_some o ≡ true → is_key o ≡ not p.keyed → (answered o c p).party.keyed ≡ true
  keyed_after None c p some' key = absurd (true≢false (sym some'))
  keyed_after (Some answer.Key) c p some' key = refl
  keyed_after (Some (answer.Granted grant)) c p some' key = had_drawn p.keyed (sym key)
  keyed_after (Some answer.Returned) c p some' key = had_drawn p.keyed (sym key)
  keyed_after (Some (answer.Purged n)) c p some' key = had_drawn p.keyed (sym key)
  keyed_after (Some (answer.Released n)) c p some' key = had_drawn p.keyed (sym key)
  keyed_after (Some (answer.Refused e)) c p some' key = had_drawn p.keyed (sym key)

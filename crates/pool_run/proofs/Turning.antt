-- A turn of a party, as the party sees it: what it was told stays a private run, with the reply if there is one.
use Rattle.std.proofs.Common.{◌≡◌, ℕ, ◌+◌, List, [], ◌∷◌, ◌++◌, length, Option, Some, None, refl, sym, ap, ◌∙◌, subst, arith, true, ◌≤◌, option_map, slice_get, slice_set, is_some, sum_by}
use Rattle.pool_run.proofs.Imports.{Plan, length_push, PartyTold, objects_in, After, PoolCore, Frame, Outcome, Stage, no_call, stage_of, IfGranted, Thing, Counts, right_to, away_count, kept_count, frame_count, frame_counted, counters_counted, grant_counted, CanStep, is_idle, Conserves, grant_count, count_granted, Grant, of_kind, SlotName, ListedHeaps, PlainHeap, conserves_units}
use Rattle.pool_alloc.specs.declared.frame.Outcome.TheVariants as answer
use Rattle.pool_run.specs.PartyRules.{rule_of}
use Rattle.pool_run.specs.Acts.{Act, act_of, act_at}
use Rattle.pool_run.specs.Private.{Grants, PrivateState, Moves, with_grants}
use Rattle.pool_run.specs.Rooms.{World, PooledStep, TellsOfPool}
use Rattle.pool_run.specs.PrivateTables.{Host}
use Rattle.pool_run.specs.Turns.{host_of_party, Turned, with_reply, granted_reply, answered, Steps}
use Rattle.pool_run.specs.Ties.{seen_by_party, granted_to, TiedAs, IsPrivate, CanTurn, IsAlone}
use Rattle.pool_run.specs.Worlds.{IsWorldOf}
use Rattle.pool_run.specs.declared.command.Command.{Command}
use Rattle.pool_run.specs.declared.reply.Reply.{Reply}
use Rattle.pool_run.specs.declared.reply.Reply.TheVariants.{Refused, Returned, Purged, Released}
use Rattle.pool_run.specs.declared.reply.Refusal.TheVariants.{Alloc}
use Rattle.pool_run.specs.declared.running_party.RunningParty.{RunningParty}
use Rattle.pool_run.proofs.Grants.{one_more}
use Rattle.pool_run.proofs.Parties.{can_step}
use Rattle.pool_run.proofs.Tied.{TiedBy, tied_by}
use Rattle.pool_alloc.proofs.StageCounts.{uncounted_none, uncounted_component}
use Rattle.pool_run.proofs.StageSteps.{is_none, none_idle, stack_is_asked}
use Rattle.pool_run.proofs.HeapCalls.{calls_now}
use Rattle.pool_run.proofs.Stepped.{IsStepped, stepped}
use Rattle.pool_run.proofs.Requests.{IsBefore}
use Rattle.pool_run.proofs.SlotsMade.{made_slot, away_made}
use Rattle.pool_run.proofs.Weighed.{fits_units, fits_counts}

-- the command that does this
command_at : (o : Option Command) (act : Act) → option_map act_of o ≡ Some act → (command : Command) × (o ≡ Some command) × (act_of command ≡ act)
command_at None act is = absurd cc
command_at (Some command) act is = (command, refl, cc)

module _ {P : Type 0} where
  -- the replies are still a private run
  abbrev pub SeesTurn : World → Grants → List Command → List Reply → Turned P → Type 0
  SeesTurn w start commands before t = IsPrivate w start commands (with_reply t.reply before) t.party

  -- One reply more, after which no call is under way.
  pub replied : (w : World) (start : Grants) (commands : List Command) (before : List Reply) (p q : RunningParty P) (act : Act) (reply : Reply) (private : IsPrivate w start commands before p) → q.done ≡ p.done + 1 → stage_of q.frame ≡ no_call → act_at commands p.done ≡ Some act → Moves w.terms p.done private.told act reply (seen_by_party q) → TellsOfPool w private.told.grants act reply → IsPrivate w start commands (before ++ reply ∷ []) q
  replied w start commands before p q act reply private done settled next moves pool =
      let found = command_at (slice_get commands p.done) act next in
      let command : Command = found.0 in
      let old : PrivateState = private.told in
      let new : PrivateState = seen_by_party q in
      let Does : Act → Type 0 = λ a. Moves w.terms p.done old a reply new in
      let Tells : Act → Type 0 = λ a. TellsOfPool w private.told.grants a reply in
      let Next : ℕ → Type 0 = λ n. slice_get commands n ≡ Some command in
      let Step : ℕ → Type 0 = λ n. PooledStep w n old command reply new in
      let step : Step p.done = record { private = subst Does (sym found.2) moves; pool = subst Tells (sym found.2) pool } in
      let Tied : Stage → Type 0 = λ s. TiedAs w s commands q.done q.frame.asked (seen_by_party q) (seen_by_party q) in
      let place : p.done ≡ 0 + length before = omega (arith, private.count) in
      record {
        told = seen_by_party q;
        run = one_more (PooledStep w) 0 commands before command reply (with_grants start) old new private.run (subst Next (sym private.count) found.1) (subst Step place step);
        count = omega (arith, length_push before reply, private.count, done);
        tied = subst Tied (sym settled) refl;
      }

  -- The answer of a call.
  answered_private : (w : World) (start : Grants) (commands : List Command) (before : List Reply) (c : PoolCore P PlainHeap) (p : RunningParty P) (f : Frame P PlainHeap) (o : Option (Outcome P PlainHeap)) (heaps : ListedHeaps) (private : IsPrivate w start commands before p) → (is_some o ≡ true → stage_of f ≡ no_call) → TiedBy w commands p.done p.live p.store.made heaps.made private.told (stage_of f) f.asked o → SeesTurn w start commands before (answered o c (record p { frame = f; heaps = heaps }))
  answered_private w start commands before c p f None heaps private settled tied = record { told = private.told; run = private.run; count = private.count; tied = tied }
  answered_private w start commands before c p f (Some answer.Key) heaps private settled tied = record { told = private.told; run = private.run; count = private.count; tied = tied }
  answered_private w start commands before c p f (Some (answer.Granted grant)) heaps private settled tied = replied w start commands before p (record p { frame = f; heaps = heaps; live = slice_set p.live p.done (Some grant); done = p.done + 1 }) tied.act (granted_reply grant) private refl (settled refl) tied.next tied.moves tied.pool
  answered_private w start commands before c p f (Some answer.Returned) heaps private settled tied = replied w start commands before p (record p { frame = f; heaps = heaps; done = p.done + 1 }) tied.act Returned private refl (settled refl) tied.next tied.moves tied.pool
  answered_private w start commands before c p f (Some (answer.Purged n)) heaps private settled tied = replied w start commands before p (record p { frame = f; heaps = heaps; done = p.done + 1 }) tied.act (Purged n) private refl (settled refl) tied.next tied.moves tied.pool
  answered_private w start commands before c p f (Some (answer.Released n)) heaps private settled tied = replied w start commands before p (record p { frame = f; heaps = heaps; done = p.done + 1 }) tied.act (Released n) private refl (settled refl) tied.next tied.moves tied.pool
  answered_private w start commands before c p f (Some (answer.Refused e)) heaps private settled tied = replied w start commands before p (record p { frame = f; heaps = heaps; done = p.done + 1 }) tied.act (Refused (Alloc e)) private refl (settled refl) tied.next tied.moves tied.pool

  -- what is granted isn't the party's yet, and is made once
  apart : (c : PoolCore P PlainHeap) (f : Frame P PlainHeap) (live : List (Option (Grant P PlainHeap))) (a : After P PlainHeap) (o : Option (Outcome P PlainHeap)) → o ≡ a.outcome → ((t : Thing) → kept_count t c + (frame_count t f + sum_by (granted_to (grant_count t)) live) ≤ away_count t c) → Conserves c f a → ((name : SlotName) → away_count (right_to name) a.core ≤ made_slot name.slot (of_kind name.kind c.plan.totals)) → IfGranted (λ g. (name : SlotName) → grant_count (right_to name) g + sum_by (granted_to (grant_count (right_to name))) live ≤ made_slot name.slot (of_kind name.kind c.plan.totals)) o
  apart c f live a None is once b most = tt
  apart c f live a (Some answer.Key) is once b most = tt
  apart c f live a (Some (answer.Granted grant)) is once b most =
      λ k.
      let here : count_granted (grant_count (right_to k)) a.outcome ≡ grant_count (right_to k) grant = ap (count_granted (grant_count (right_to k))) (sym is) in
      omega (arith, once (right_to k), conserves_units c f a b (right_to k), most k, here)
  apart c f live a (Some answer.Returned) is once b most = tt
  apart c f live a (Some (answer.Purged n)) is once b most = tt
  apart c f live a (Some (answer.Released n)) is once b most = tt
  apart c f live a (Some (answer.Refused e)) is once b most = tt

  -- What a step of a party needs: it can be made; what the party has is given out, and isn't kept; and it is counted, where counters
  -- count it.
  pub record HasItsOwn (w : World) (c : PoolCore P PlainHeap) (p : RunningParty P) : Type 0 where
    pub can : CanStep w.maker c p.frame
    pub units : (t : Thing) → kept_count t c + (frame_count t p.frame + sum_by (granted_to (grant_count t)) p.live) ≤ away_count t c
    pub counted : w.counts ≡ true → (n : Counts) → frame_counted n p.frame + sum_by (granted_to (grant_counted n)) p.live ≤ counters_counted n c.counters

  -- A party whose turn it is has that.
  pub has_its_own : (w : World) (c : PoolCore P PlainHeap) (p : RunningParty P) → CanTurn w.maker c p → HasItsOwn w c p
  has_its_own w c p can = record { can = can_step w.maker c p can; units = fits_units c p can.fits; counted = λ counts. fits_counts c p can.fits }

  -- A step of the call under way.
  pub step_private : (w : World) (start : Grants) (commands : List Command) (before : List Reply) (c : PoolCore P PlainHeap) (p : RunningParty P) (t : Turned P) → IsPrivate w start commands before p → IsWorldOf w c → HasItsOwn w c p → (w.alone ≡ true → IsAlone c p.frame p.live) → host_of_party p ≡ w.terms.host → p.frame.stripe ≡ w.terms.stripe → Steps c p t → SeesTurn w start commands before t
  step_private w start commands before c p t private world own alone ruled striped steps =
      let a : After P PlainHeap = steps.0 in
      let f : Frame P PlainHeap = p.frame in
      let old : PartyTold = steps.1.0 in
      let on : IsStepped w.maker old steps.1.1 c f a = stepped w.maker old steps.1.1 c f a own.can steps.1.3 in
      let is : IsBefore w old steps.1.1 c f p.live private.told.grants =
      record {
        world = world;
        frame = own.can.frame;
        once = λ k. omega (arith, own.units (right_to k), away_made w.maker k c own.can.core);
        counted = own.counted;
        alone = alone;
        rule = steps.1.2 ∙ ap (λ (h : Host). Some h.rule) ruled;
        stripe = striped;
      } in
      let idle : is_none (stage_of a.frame) ≡ is_idle a.frame.phase = none_idle a.frame.phase a.frame.asked a.frame.ending (objects_in a.frame.objects) in
      subst (SeesTurn w start commands before) (sym steps.2)
      (answered_private w start commands before a.core p a.frame a.outcome t.party.heaps private on.staged.settled
      (tied_by w old steps.1.1 c f commands p.done p.live p.store.made p.heaps t.party.heaps private.told is steps.1.4 steps.1.5 (ap (λ (h : Host). h.unmade) ruled) (stage_of f) (stage_of a.frame) a.frame.asked a.outcome
      (calls_now w.maker (rule_of p.limits) p.heaps t.party.heaps c f a own.can.frame steps.1)
      (uncounted_none f.phase f.asked f.ending (objects_in f.objects)) (uncounted_component f.phase f.asked f.ending (objects_in f.objects)) (stack_is_asked w.maker c f own.can.frame) (λ none. on.goes.asked (sym idle ∙ none)) on.granted
      (apart c f p.live a a.outcome refl own.units on.conserves (λ k. omega (arith, away_made w.maker k a.core on.core, ap (λ (plan : Plan). made_slot k.slot (of_kind k.kind plan.totals)) on.size.plan))) on.goes.way private.tied))

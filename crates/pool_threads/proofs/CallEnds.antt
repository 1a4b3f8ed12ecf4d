-- A party's call, step by step: it goes on, or it ends and is answered.
use Rattle.std.proofs.Common.{◌≡◌, ℕ, ◌-◌, true, not, List, [], Option, Some, None, is_some, refl, sym, ap, ◌∙◌, subst, true≢false}
use Rattle.pool_hall.specs.declared.view.View.{View}
use Rattle.pool_slots.specs.declared.listed_heaps.ListedHeaps.{ListedHeaps}
use Rattle.pool_slots.specs.declared.listed_heaps.PlainHeap.{PlainHeap}
use Rattle.pool_alloc.specs.CallStages.{stage_of}
use Rattle.pool_alloc.specs.Calls.{IsIdle}
use Rattle.pool_alloc.specs.declared.frame.Frame.{Frame}
use Rattle.pool_alloc.specs.declared.frame.Outcome.{Outcome}
use Rattle.pool_alloc.specs.declared.pool_core.PoolCore.{PoolCore}
use Rattle.pool_driver.specs.Calling.{GoesOnSince, HasEnded}
use Rattle.pool_driver.specs.Driving.{IsDriven}
use Rattle.pool_run.specs.PartyRules.{rule_of}
use Rattle.pool_run.specs.RunsMade.{is_drawing}
use Rattle.pool_run.specs.Turns.{Turned, answered, with_reply}
use Rattle.pool_run.specs.declared.command.Command.{Command}
use Rattle.pool_run.specs.declared.reply.Reply.{Reply}
use Rattle.pool_run.specs.declared.running_party.RunningParty.{RunningParty}
use Rattle.pool_run.proofs.Reserving.{answered_frame}
use Rattle.pool_threads.specs.Asked.{faulted_in, refused_in}
use Rattle.pool_threads.specs.Noted.{Grows, Notes, call_asks}
use Rattle.pool_threads.specs.Working.{IsAtWork, IsJob, IsToldSoFar, Job, StaysSame, StepsHere, TellsOn, about_job, given_by}
use Rattle.pool_threads.proofs.Adds.{grows_on}
use Rattle.pool_threads.proofs.CallNotes.{call_notes}
use Rattle.pool_threads.proofs.Steps.{keyed_after, replied_to, step_at_work, step_key, step_keyed, step_same, step_settled, step_told}

-- One party after the other is the one that it was.
pub same_on : {P : Type 0} (p q r : RunningParty P) → (p.keyed ≡ true → q.keyed ≡ true) → StaysSame p q → StaysSame q r → StaysSame p r
same_on p q r drawn one two = record { host = two.host ∙ one.host; stripe = λ keyed. two.stripe (drawn keyed) ∙ one.stripe keyed }

module _ {T P : Type 0} (j : Job) (places : ℕ) (v w : View T) (p : RunningParty P) (heaps : ListedHeaps) (next : Frame P PlainHeap) (is : IsJob P j) (work : IsAtWork j places v p) (keyed : is_drawing (stage_of p.frame) ≡ not p.keyed) where
  -- the party with what the step left of its frame and of its maker of heaps
  abbrev pub moved : RunningParty P
  moved = record p { frame = next; heaps = heaps }

  -- The call goes on with the next step.
  pub record WentOn : Type 0 where
    pub at_work : IsAtWork j places w moved
    pub told : (commands : List Command) (before : List Reply) → IsToldSoFar j commands before p → IsToldSoFar j commands before moved
    pub drawn : is_drawing (stage_of next) ≡ not p.keyed
    pub same : StaysSame p moved

  pub went_on : StepsHere (given_by j p.live) (rule_of p.limits) p.heaps heaps p.frame next None → IsDriven places (given_by j p.live) w next None → WentOn
  went_on here driven = record {
    at_work = step_at_work j [] places v w p heaps next None is work keyed here driven;
    told = λ commands before told. step_told j commands places v w p heaps next None is work keyed here driven before told;
    drawn = step_keyed j [] places v w p heaps next None is work keyed here driven refl;
    same = step_same j [] places v w p heaps next None is work keyed here driven;
  }

  -- What the answer to it leaves of the party, and the reply.
  pub record Ended (q : RunningParty P) (reply : Option Reply) : Type 0 where
    pub at_work : IsAtWork j places w q
    pub told : (commands : List Command) (before : List Reply) → IsToldSoFar j commands before p → IsToldSoFar j commands (with_reply reply before) q
    pub idle : IsIdle q.frame
    pub drawn : q.keyed ≡ true
    pub replied : is_some reply ≡ p.keyed
    pub same : StaysSame p q
    pub frame : q.frame ≡ next

  pub call_ended : (o : Option (Outcome P PlainHeap)) (here : StepsHere (given_by j p.live) (rule_of p.limits) p.heaps heaps p.frame next o) → IsDriven places (given_by j p.live) w next o → is_some o ≡ true → (q : RunningParty P) (reply : Option Reply) → ◌≡◌ {A = Turned P} (record { core = here.left; party = q; reply = reply }) (answered o here.left moved) → Ended q reply
  call_ended o here driven some' q reply same =
      let frame : q.frame ≡ next = ap (λ (t : Turned P). t.party.frame) same ∙ answered_frame o here.left moved in
      let key = step_key j [] places v w p heaps next o is work keyed here driven in
      record {
        at_work = subst (λ (t : Turned P). IsAtWork j places w t.party) (sym same) (step_at_work j [] places v w p heaps next o is work keyed here driven);
        told = λ commands before told. subst (λ (t : Turned P). IsToldSoFar j commands (with_reply t.reply before) t.party) (sym same) (step_told j commands places v w p heaps next o is work keyed here driven before told);
        idle = subst (λ (f : Frame P PlainHeap). IsIdle f) (sym frame) (step_settled j [] places v w p heaps next o is work keyed here driven some');
        drawn = ap (λ (t : Turned P). t.party.keyed) same ∙ keyed_after o here.left moved some' key;
        replied = ap (λ (t : Turned P). is_some t.reply) same ∙ replied_to o here.left moved p.keyed some' key;
        same = subst (λ (t : Turned P). StaysSame p t.party) (sym same) (step_same j [] places v w p heaps next o is work keyed here driven);
        frame = frame;
      }

  -- What the seat has noted of the call that ends so.
  pub ended_notes : (base : View T) (first : Frame P PlainHeap) (o : Option (Outcome P PlainHeap)) → TellsOn (about_job j) v w p.frame next o → GoesOnSince (about_job j) base v first p.frame → Grows base v → is_some o ≡ true → (c : PoolCore P PlainHeap) (q : RunningParty P) (reply : Option Reply) → ◌≡◌ {A = Turned P} (record { core = c; party = q; reply = reply }) (answered o c moved)
      → (q.frame.home ≡ first.home) × Notes j.plan first.home q.frame.stripe (λ k. call_asks first k - refused_in k reply) (λ k. refused_in k reply) (faulted_in reply) base w
  ended_notes base first None tells goes grows some' c q reply same = absurd (true≢false (sym some'))
  ended_notes base first (Some answer) tells goes grows some' c q reply same =
      let ended : HasEnded (about_job j) base w first next answer = tells.ended base first answer goes refl in
      let frame : q.frame ≡ next = ap (λ (t : Turned P). t.party.frame) same ∙ answered_frame (Some answer) c moved in
      let noted = call_notes (about_job j) base w first next answer c moved ended (grows_on base v w grows tells.grows) in
      let told : Notes j.plan first.home next.stripe (λ k. call_asks first k - refused_in k reply) (λ k. refused_in k reply) (faulted_in reply) base w =
      subst (λ (t : Turned P). Notes j.plan first.home next.stripe (λ k. call_asks first k - refused_in k t.reply) (λ k. refused_in k t.reply) (faulted_in t.reply) base w) (sym same) noted in
      (ap (λ (f : Frame P PlainHeap). f.home) frame ∙ ended.home, subst (λ (f : Frame P PlainHeap). Notes j.plan first.home f.stripe (λ k. call_asks first k - refused_in k reply) (λ k. refused_in k reply) (faulted_in reply) base w) (sym frame) told)

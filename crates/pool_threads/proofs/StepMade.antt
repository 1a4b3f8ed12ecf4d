-- A step of a party's call, made over the hall: what is so of it, where the call's seat has what else the party has.
use Rattle.std.proofs.Common.{◌≡◌, ℕ, ◌-◌, ◌<◌, ◌≤◌, true, not, [], length, Option, None, is_some, refl, sym, subst}
use Rattle.pool_hall.specs.declared.view.View.{View}
use Rattle.pool_slots.specs.declared.listed_heaps.ListedHeaps.{ListedHeaps}
use Rattle.pool_slots.specs.declared.listed_heaps.PlainHeap.{PlainHeap}
use Rattle.pool_alloc.specs.CallStages.{stage_of}
use Rattle.pool_alloc.specs.Calls.{IfGranted}
use Rattle.pool_alloc.specs.declared.frame.Frame.{Frame}
use Rattle.pool_alloc.specs.declared.frame.Outcome.{Outcome}
use Rattle.pool_alloc.specs.declared.pool_core.PoolCore.{PoolCore}
use Rattle.pool_driver.specs.Calling.{GoesOnSince}
use Rattle.pool_driver.specs.Driving.{Given, IsDriven}
use Rattle.pool_run.specs.PartyRules.{rule_of}
use Rattle.pool_run.specs.RunsMade.{is_drawing}
use Rattle.pool_run.specs.Ties.{IsReserved}
use Rattle.pool_run.specs.Turns.{Turned, answered, leases_listed, slots_after, tables_named}
use Rattle.pool_run.specs.declared.reply.Reply.{Reply}
use Rattle.pool_run.specs.declared.running_party.RunningParty.{RunningParty}
use Rattle.pool_run.specs.declared.slot_lists.SlotLists.{SlotLists}
use Rattle.pool_threads.specs.Asked.{faulted_in, refused_in}
use Rattle.pool_threads.specs.Noted.{Grows, Notes, call_asks}
use Rattle.pool_threads.specs.Working.{IsAtWork, IsJob, Job, StepsHere, TellsOn, about_job, given_by}
use Rattle.pool_threads.proofs.Adds.{grows_on}
use Rattle.pool_threads.proofs.CallEnds.{Ended, WentOn, call_ended, ended_notes, moved, went_on}
use Rattle.pool_threads.proofs.Steps.{step_memories, step_place, step_reserves, step_tables}

module _ {T P : Type 0} (j : Job) (places : ℕ) (given : Given) (v w : View T) (p : RunningParty P) (heaps : ListedHeaps) (next : Frame P PlainHeap) (o : Option (Outcome P PlainHeap))
    (is : IsJob P j) (work : IsAtWork j places v p) (keyed : is_drawing (stage_of p.frame) ≡ not p.keyed) (same : given ≡ given_by j p.live)
    (steps : StepsHere given (rule_of p.limits) p.heaps heaps p.frame next o) (tells : TellsOn given.about v w p.frame next o) (driven : IsDriven places given w next o) where
  here : StepsHere (given_by j p.live) (rule_of p.limits) p.heaps heaps p.frame next o
  here = subst (λ (g : Given). StepsHere g (rule_of p.limits) p.heaps heaps p.frame next o) same steps

  told : TellsOn (about_job j) v w p.frame next o
  told = subst (λ (g : Given). TellsOn g.about v w p.frame next o) same tells

  drives : IsDriven places (given_by j p.live) w next o
  drives = subst (λ (g : Given). IsDriven places g w next o) same driven

  -- The call goes on,
  pub made_went : o ≡ None → WentOn j places v w p heaps next is work keyed
  made_went none =
      went_on j places v w p heaps next is work keyed (subst (λ (x : Option (Outcome P PlainHeap)). StepsHere (given_by j p.live) (rule_of p.limits) p.heaps heaps p.frame next x) none here)
      (subst (λ (x : Option (Outcome P PlainHeap)). IsDriven places (given_by j p.live) w next x) none drives)

  pub made_goes : (base : View T) (first : Frame P PlainHeap) → GoesOnSince (about_job j) base v first p.frame → o ≡ None → GoesOnSince (about_job j) base w first next
  made_goes base first goes none = told.goes base first goes none

  pub made_grows : (base : View T) → Grows base v → Grows base w
  made_grows base grows = grows_on base v w grows told.grows

  -- or it ends, and may be answered,
  pub made_place : IfGranted (λ g. p.done < length p.live) o
  made_place = step_place j [] places v w p heaps next o is work keyed here drives

  pub made_memories : (slots : SlotLists) → IsReserved p.frame slots → IfGranted (λ g. length (leases_listed g) ≤ slots.memories.room) o
  made_memories slots reserved = step_memories j [] places v w p heaps next o is work keyed here drives slots reserved

  pub made_tables : (slots : SlotLists) → IsReserved p.frame slots → IfGranted (λ g. length (tables_named g) ≤ slots.tables.room) o
  made_tables slots reserved = step_tables j [] places v w p heaps next o is work keyed here drives slots reserved

  pub made_reserves : (slots left : SlotLists) → IsReserved p.frame slots → left ≡ slots_after o slots → IsReserved next left
  made_reserves slots left reserved after = step_reserves j [] places v w p heaps next o is work keyed here drives slots left reserved after

  pub made_reserved : (slots : SlotLists) → IsReserved p.frame slots → o ≡ None → IsReserved next slots
  made_reserved slots reserved none = made_reserves slots slots reserved (subst (λ (x : Option (Outcome P PlainHeap)). slots ≡ slots_after x slots) (sym none) refl)

  -- and leaves this once it is answered.
  module _ (some' : is_some o ≡ true) (q : RunningParty P) (reply : Option Reply) (answers : (c : PoolCore P PlainHeap) → ◌≡◌ {A = Turned P} (record { core = c; party = q; reply = reply }) (answered o c (moved j places v w p heaps next is work keyed))) where
    pub made_ended : Ended j places v w p heaps next is work keyed q reply
    made_ended = call_ended j places v w p heaps next is work keyed o here drives some' q reply (answers here.left)

    pub made_notes : (base : View T) (first : Frame P PlainHeap) → GoesOnSince (about_job j) base v first p.frame → Grows base v → (q.frame.home ≡ first.home) × Notes j.plan first.home q.frame.stripe (λ k. call_asks first k - refused_in k reply) (λ k. refused_in k reply) (faulted_in reply) base w
    made_notes base first goes grows = ended_notes j places v w p heaps next is work keyed base first o told goes grows some' here.left q reply (answers here.left)

    pub made_left : (slots left : SlotLists) → IsReserved p.frame slots → left ≡ slots_after o slots → IsReserved q.frame left
    made_left slots left reserved after = subst (λ (f : Frame P PlainHeap). IsReserved f left) (sym made_ended.frame) (made_reserves slots left reserved after)

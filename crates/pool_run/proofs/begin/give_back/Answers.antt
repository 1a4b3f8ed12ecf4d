use Rattle.std.proofs.Common.{◌≡◌, ◌+◌, Some, None, refl, sym, ap, ◌∙◌, subst, List, Option, slice_index_or, slice_set}
use Rattle.pool_run.proofs.Imports.{set-get_or, begun_call, Frame, Grant, PlainHeap}
use Rattle.pool_alloc.specs.declared.frame.Call.TheVariants as call
use Rattle.pool_run.specs.Ties.{IsReserved}
use Rattle.pool_run.specs.Turns.{replies, makes_step, one_step, drop_opening}
use Rattle.pool_run.specs.declared.reply.Reply.TheVariants.{Refused}
use Rattle.pool_run.specs.declared.reply.Refusal.TheVariants.{NoSuchGrant}
use Rattle.pool_run.specs.declared.running_party.RunningParty.{RunningParty}
use Rattle.pool_run.proofs.Reserving.{back_reserved}
use Rattle.pool_run.proofs.begin.give_back.Goals as goal

pub returns-in-None-clause-begins : goal.returns-in-None-clause-begins
returns-in-None-clause-begins g c =
    let P : Type 0 = g.row.P.Denot in
    let p : RunningParty P = c.args.party.now in
    let none : slice_index_or p.live c.args.of None ≡ None = sym c.take.ensures.value ∙ c.in-None.is in
    let same : slice_set p.live c.args.of None ≡ p.live = ap (λ (x : Option (Grant P PlainHeap)). slice_set p.live c.args.of x) (sym none) ∙ set-get_or p.live c.args.of None in
    let End : List (Option (Grant P PlainHeap)) → RunningParty P = λ live. record p { frame = one_step p.frame; done = c.args.party.now.done + 1; live = live } in
    (replies (Refused NoSuchGrant) p.live p.store, sym (ap (λ (x : Option (Grant P PlainHeap)). drop_opening x c.args.of p) none), (c.end_at_once.ensures.party ∙ ap End (c.take.ensures.rest ∙ same), c.end_at_once.ensures.replies))

pub returns-in-Some-clause-begins : goal.returns-in-Some-clause-begins
returns-in-Some-clause-begins g c =
    let P : Type 0 = g.row.P.Denot in
    let p : RunningParty P = c.args.party.now in
    let grant : Grant P PlainHeap = c.in-Some.grant in
    let has : slice_index_or p.live c.args.of None ≡ Some grant = sym c.take.ensures.value ∙ c.in-Some.is in
    let Back : List (Option (Grant P PlainHeap)) → Frame P PlainHeap → RunningParty P = λ live f. record p { frame = f; live = live } in (
      makes_step (begun_call (call.GiveBack grant) p.frame) (slice_set p.live c.args.of None),
      sym (ap (λ (x : Option (Grant P PlainHeap)). drop_opening x c.args.of p) has),
      (ap (λ live. Back live c.begin.new.self) c.take.ensures.rest ∙ ap (Back (slice_set p.live c.args.of None)) c.begin.ensures.value, refl),
    )

pub returns-in-Some-clause-reserved : goal.returns-in-Some-clause-reserved
returns-in-Some-clause-reserved g c = λ slots reserved.
    let R : Frame g.row.P.Denot PlainHeap → Type 0 = λ f. IsReserved f slots in
    subst R (sym c.begin.ensures.value) (back_reserved c.in-Some.grant c.args.party.now.frame slots reserved)

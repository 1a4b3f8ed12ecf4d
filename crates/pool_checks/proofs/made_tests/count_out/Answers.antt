-- Each round takes out the first slot of the kind, and the loop ends where there is none.
use Rattle.std.proofs.Common.{◌≡◌, ◌<◌, true, false, List, length, refl, sym, ap, ◌∙◌, subst, Option, Some, None, is_some}
use Rattle.pool_checks.proofs.Imports.{SlotKind, Queued, Queue, first_of_kind, others_of_kind, without_kind, kind_others, kind_over, kind_fewer}
use Rattle.pool_checks.proofs.made_tests.count_out.Goals as goal

fewer_by : (kind : SlotKind) (ms : List Queued) (o : Option Queued) → first_of_kind kind ms ≡ o → is_some o ≡ true → length (others_of_kind kind ms) < length ms
fewer_by kind ms None e some = absurd (cc some)
fewer_by kind ms (Some m) e some = kind_fewer kind ms m e

none_by : (o : Option Queued) → is_some o ≡ false → o ≡ None
none_by None none = refl
none_by (Some m) none = absurd (cc none)

next_same : (kind : SlotKind) (old now new : Queue) → now ≡ record old { slots = now.slots } → new ≡ record now { slots = others_of_kind kind now.slots } → new ≡ record old { slots = new.slots }
next_same kind old now new same is =
    is
    ∙ ap (λ (q : Queue). record q { slots = others_of_kind kind now.slots }) same
    ∙ ap (λ (l : List Queued). record old { slots = l }) (sym (ap (λ (q : Queue). q.slots) is))

pub loop-kind-smaller : goal.loop-kind-smaller
loop-kind-smaller g c =
    let now = c.loop-kind.queue in
    let some : is_some (first_of_kind c.args.kind now.slots) ≡ true = sym c.take_out.ensures.value ∙ c.loop-kind-test.true in
    subst (λ (q : Queue). length q.slots < length now.slots) (sym c.take_out.ensures.others) (fewer_by c.args.kind now.slots (first_of_kind c.args.kind now.slots) refl some)

pub loop-kind-preserved : goal.loop-kind-preserved
loop-kind-preserved g c =
    let now = c.loop-kind.queue in
    let is = c.take_out.ensures.others in
    record {
      same = next_same c.args.kind c.args.queue.now now c.take_out.new.queue c.loop-kind.invariant.same is;
      others = ap (λ (q : Queue). without_kind c.args.kind q.slots) is ∙ kind_others c.args.kind now.slots ∙ c.loop-kind.invariant.others;
    }

pub returns : goal.returns
returns g c =
    let now = c.loop-kind.queue in
    let is = c.take_out.ensures.others in
    let none : first_of_kind c.args.kind now.slots ≡ None = none_by (first_of_kind c.args.kind now.slots) (sym c.take_out.ensures.value ∙ c.loop-kind-test.false) in
    let over = kind_over c.args.kind now.slots none in
    let slots = ap (λ (q : Queue). q.slots) is ∙ over.2 ∙ sym over.1 ∙ c.loop-kind.invariant.others in
    next_same c.args.kind c.args.queue.now now c.take_out.new.queue c.loop-kind.invariant.same is ∙ ap (λ (l : List Queued). record c.args.queue.now { slots = l }) slots

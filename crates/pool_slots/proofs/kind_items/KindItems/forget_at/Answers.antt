use Rattle.std.proofs.Common.{◌≡◌, ◌<◌, List, length, get_or, set, sym, ap, ◌∙◌, subst, arith}
use Rattle.pool_slots.proofs.Imports.{get_or_read}
use Rattle.pool_slots.specs.SlotQueues.{Queued, QueuedList, forgotten}
use Rattle.pool_slots.proofs.Unzeroed.{noted_set, set_long}
use Rattle.pool_slots.proofs.kind_items.KindItems.forget_at.Goals as goal

pub invariant_of-self : goal.invariant_of-self
invariant_of-self g c =
    let ms : List Queued = c.self.inside.list.items in
    let y : Queued = c.forget.new.self in
    (omega (arith, set_long ms c.args.at y, c.self.invariant.0), c.self.invariant.1, noted_set ms c.args.at y c.self.inside.noted c.is_unzeroed.result c.either-self-inside.result c.self.invariant.2 c.is_unzeroed.ensures c.either-self-inside.ensures)

pub returns : goal.returns
returns g c =
    let ms : List Queued = c.self.inside.list.items in
    let m : Queued = c.index_mut-item.result.now in
    let list : ms ≡ c.args.self.now.items = ap (λ (l : QueuedList). l.items) c.self.view_is in
    let inside : c.args.at < length ms = subst (λ (l : List Queued). c.args.at < length l) (sym list) c.requires in
    let read : (d : Queued) → m ≡ get_or ms c.args.at d = λ d. get_or_read ms c.args.at m inside c.index_mut-item.ensures.value d in
    rw (← c.self.view_is) (λ d. ap (λ (x : Queued). record { items = set ms c.args.at x; room = c.self.inside.room }) (c.forget.ensures ∙ ap (λ (x : Queued). forgotten x) (read d)))

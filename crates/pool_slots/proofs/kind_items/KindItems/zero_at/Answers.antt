use Rattle.std.proofs.Common.{◌≡◌, ◌<◌, List, length, get_or, sym, ap, ◌∙◌, subst, arith, IfSome}
use Rattle.pool_slots.specs.SlotQueues.{Queued, QueuedList, CanBeZeroed, is_unzeroed}
use Rattle.pool_slots.proofs.Unzeroed.{noted_kept, zeroed_is, set_long}
use Rattle.pool_slots.proofs.kind_items.KindItems.zero_at.Goals as goal

pub invariant_of-self : goal.invariant_of-self
invariant_of-self g c =
    let ms : List Queued = c.self.inside.list.items in
    let m : Queued = c.index_mut-item.result.now in
    let list : ms ≡ c.args.self.now.items = ap (λ (l : QueuedList). l.items) c.self.view_is in
    let inside : c.args.at < length ms = subst (λ (l : List Queued). c.args.at < length l) (sym list) c.requires.inside in
    let y : Queued = c.zero.new.self in
    (omega (arith, set_long ms c.args.at y, c.self.invariant.0), c.self.invariant.1, noted_kept ms c.args.at y m c.self.inside.noted c.self.invariant.2 inside (λ was. ap (λ (x : Queued). is_unzeroed x) c.zero.ensures ∙ zeroed_is m))

pub zero-requires : goal.zero-requires
zero-requires g c =
    let ms : List Queued = c.self.inside.list.items in
    let m : Queued = c.index_mut-item.result.now in
    let list : ms ≡ c.args.self.now.items = ap (λ (l : QueuedList). l.items) c.self.view_is in
    let inside : c.args.at < length ms = subst (λ (l : List Queued). c.args.at < length l) (sym list) c.requires.inside in
    let value : m ≡ get_or ms c.args.at m = c.index_mut-item.ensures.value in
    let here : m ≡ get_or c.args.self.now.items c.args.at m = subst (λ (l : List Queued). m ≡ get_or l c.args.at m) list value in
    subst (λ (x : Queued). IfSome x.by_hand (λ n. CanBeZeroed n x.slot)) (sym here) (c.requires.can m)

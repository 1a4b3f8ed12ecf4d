use Rattle.std.proofs.Common.{◌≡◌, ◌<◌, ◌∷◌, [], List, length, refl, sym, ap, ◌∙◌, subst, slice_index_or, slice_set, arith, is_ok}
use Rattle.pool_slots.proofs.Imports.{Follows, HoldsAt, get_or_read, on_ok_weaker, on_err_weaker, IsPart, IsSlot, size_of}
use Rattle.pool_slots.specs.SlotQueues.{decommitted_at, Queued, QueuedList, IsLeftItem, is_unzeroed}
use Rattle.pool_slots.specs.SlotOrders.{decommits}
use Rattle.pool_slots.proofs.Unzeroed.{decommit_same, noted_kept, set_long, set_there}
use Rattle.pool_slots.proofs.kind_items.KindItems.decommit.Goals as goal

pub decommit-requires-clause-part : goal.decommit-requires-clause-part
decommit-requires-clause-part g c =
    let m : Queued = c.index_mut-item.result.now in
    let P : Queued → Type 0 = λ x. IsPart x.slot.region.page (size_of x.slot) c.args.range in
    let part : HoldsAt (λ x. P x × IsSlot x.slot) c.self.inside.list.items c.args.at = rw (← c.self.view_is) at c.requires.part in
    subst P (sym c.index_mut-item.ensures.value) (part m).0

pub decommit-requires-clause-fits : goal.decommit-requires-clause-fits
decommit-requires-clause-fits g c =
    let m : Queued = c.index_mut-item.result.now in
    let P : Queued → Type 0 = λ x. IsPart x.slot.region.page (size_of x.slot) c.args.range in
    let Q : Queued → Type 0 = λ x. IsSlot x.slot in
    let part : HoldsAt (λ x. P x × Q x) c.self.inside.list.items c.args.at = rw (← c.self.view_is) at c.requires.part in
    subst Q (sym c.index_mut-item.ensures.value) (part m).1

pub returns-clause-ok : goal.returns-clause-ok
returns-clause-ok g c =
    let xs : List Queued = c.self.inside.list.items in
    let m : Queued = c.index_mut-item.result.now in
    let inside : c.args.at < length xs = rw (← c.self.view_is) at c.requires.inside in
    let read : (d : Queued) → m ≡ slice_index_or xs c.args.at d = λ d. get_or_read xs c.args.at m inside c.index_mut-item.ensures.value d in
    rw (← c.self.view_is) (on_ok_weaker c.decommit.result
    (λ e d. ap (λ (x : Queued). record { items = slice_set xs c.args.at x; room = c.self.inside.room }) (e ∙ ap (λ (x : Queued). record x { slot = decommitted_at c.args.range x.slot }) (read d)))
    c.decommit.ensures.ok)

pub returns-clause-err : goal.returns-clause-err
returns-clause-err g c =
    let xs : List Queued = c.self.inside.list.items in
    let m : Queued = c.index_mut-item.result.now in
    let inside : c.args.at < length xs = rw (← c.self.view_is) at c.requires.inside in
    let read : (d : Queued) → m ≡ slice_index_or xs c.args.at d = λ d. get_or_read xs c.args.at m inside c.index_mut-item.ensures.value d in
    let L : Queued → Type 0 = λ x. IsLeftItem c.args.range x c.decommit.new.self in
    rw (← c.self.view_is) (on_err_weaker c.decommit.result (λ e d. (c.decommit.new.self, subst L (read d) e, refl)) c.decommit.ensures.err)

pub invariant_of-self : goal.invariant_of-self
invariant_of-self g c =
    let ms : List Queued = c.self.inside.list.items in
    let m : Queued = c.index_mut-item.result.now in
    let list : ms ≡ c.args.self.now.items = ap (λ (l : QueuedList). l.items) c.self.view_is in
    let inside : c.args.at < length ms = subst (λ (l : List Queued). c.args.at < length l) (sym list) c.requires.inside in
    let y : Queued = c.decommit.new.self in
    let same : is_unzeroed y ≡ is_unzeroed m = decommit_same c.decommit.result c.args.range m y (decommitted_at c.args.range m.slot) c.decommit.ensures.ok c.decommit.ensures.err in
    (omega (arith, set_long ms c.args.at y, c.self.invariant.0), c.self.invariant.1, noted_kept ms c.args.at y m c.self.inside.noted c.self.invariant.2 inside (λ was. same ∙ ap (λ (x : Queued). is_unzeroed x) c.index_mut-item.ensures.value ∙ was))

pub returns-clause-order : goal.returns-clause-order
returns-clause-order g c =
    let ms : List Queued = c.self.inside.list.items in
    let m : Queued = c.index_mut-item.result.now in
    let list : ms ≡ c.args.self.now.items = ap (λ (l : QueuedList). l.items) c.self.view_is in
    let inside : c.args.at < length ms = subst (λ (l : List Queued). c.args.at < length l) (sym list) c.requires.inside in
    let y : Queued = c.decommit.new.self in
    let F : Queued → Queued → Type 0 = λ x z. Follows (decommits x.slot.base.bytes (c.args.range ∷ [])) (is_ok c.decommit.result) x.slot.region z.slot.region in
    let read : (d : Queued) → m ≡ slice_index_or c.args.self.now.items c.args.at d = λ d. subst (λ (l : List Queued). m ≡ slice_index_or l c.args.at d) list (get_or_read ms c.args.at m inside c.index_mut-item.ensures.value d) in
    λ d e. subst (λ (x : Queued). F x (slice_index_or (slice_set ms c.args.at y) c.args.at e)) (read d) (subst (λ (z : Queued). F m z) (sym (set_there ms c.args.at y e inside)) c.decommit.ensures.order)

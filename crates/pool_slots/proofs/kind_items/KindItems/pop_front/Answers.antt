use Rattle.std.proofs.Common.{◌≡◌, ℕ, ◌<◌, ◌↔◌, List, length, ap, ◌∙◌, subst, arith, IsSome}
use Rattle.pool_slots.specs.SlotQueues.{Queued, QueuedList}
use Rattle.pool_slots.proofs.Unzeroed.{shorter, noted_rest}
use Rattle.pool_slots.proofs.kind_items.KindItems.pop_front.Goals as goal

pub invariant_of-self : goal.invariant_of-self
invariant_of-self g c =
    let ms : List Queued = c.self.inside.list.items in
    let rest : List Queued = c.pop_front.new.self.items in
    (omega (arith, shorter c.pop_front.result ms rest c.pop_front.ensures.items, c.self.invariant.0), omega (arith, c.self.invariant.1, c.pop_front.ensures.capacity), noted_rest c.pop_front.result ms rest c.self.inside.noted c.pop_front.ensures.items c.self.invariant.2)

pub returns-clause-variant : goal.returns-clause-variant
returns-clause-variant g c =
    let list : c.self.inside.list.items ≡ c.args.self.now.items = ap (λ (l : QueuedList). l.items) c.self.view_is in
    subst (λ (n : ℕ). IsSome c.pop_front.result ↔ (0 < n)) (c.self.inside.list.ok.0 ∙ ap (λ (l : List Queued). length l) list) c.pop_front.ensures.variant

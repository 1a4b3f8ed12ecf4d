use Rattle.std.proofs.Common.{◌≡◌, ◌+◌, ◌++◌, [], false, List, length, sym, ap, ◌∙◌, subst, arith}
use Rattle.pool_slots.proofs.Imports.{length-append}
use Rattle.pool_slots.specs.SlotQueues.{Queued, QueuedList, AreNoted}
use Rattle.pool_slots.proofs.Unzeroed.{noted_joined}
use Rattle.pool_slots.proofs.kind_items.KindItems.append.Goals as goal

pub invariant_of-self : goal.invariant_of-self
invariant_of-self g c =
    let xs : List Queued = c.self.inside.list.items in
    let ys : List Queued = c.other.inside.list.items in
    let list : xs ≡ c.args.self.now.items = ap (λ (l : QueuedList). l.items) c.self.view_is in
    let others : ys ≡ c.args.other.now.items = ap (λ (l : QueuedList). l.items) c.other.view_is in
    let room : c.self.inside.room ≡ c.args.self.now.room = ap (λ (l : QueuedList). l.room) c.self.view_is in
    let all : c.append.new.self.items ≡ xs ++ ys = c.in-Ok.ensures.items in
    let long : length c.append.new.self.items ≡ length xs + length ys = ap (λ (l : List Queued). length l) all ∙ length-append xs ys in
    let had : length xs ≡ length c.args.self.now.items = ap (λ (l : List Queued). length l) list in
    let came : length ys ≡ length c.args.other.now.items = ap (λ (l : List Queued). length l) others in (
      omega (arith, long, had, came, room, c.requires),
      omega (arith, c.self.invariant.1, c.in-Ok.ensures.capacity),
      subst (λ (l : List Queued). AreNoted c.either-self-inside.result l) (sym all)
          (noted_joined xs ys c.may_be_unzeroed.result c.may_be_unzeroed-2.result c.either-self-inside.result
          (subst (λ (l : List Queued). AreNoted c.may_be_unzeroed.result l) (sym list) c.may_be_unzeroed.ensures)
          (subst (λ (l : List Queued). AreNoted c.may_be_unzeroed-2.result l) (sym others) c.may_be_unzeroed-2.ensures)
          c.either-self-inside.ensures),
    )

pub invariant_of-other : goal.invariant_of-other
invariant_of-other g c =
    let none : c.append.new.other.items ≡ [] = c.in-Ok.ensures.other_items in
    let long : length c.append.new.other.items ≡ 0 = ap (λ (l : List Queued). length l) none in
    (omega (arith, long), omega (arith, c.other.invariant.1, c.in-Ok.ensures.other_capacity), subst (λ (l : List Queued). AreNoted false l) (sym none) (λ off. tt))

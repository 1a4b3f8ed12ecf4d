use Rattle.std.proofs.Common.{◌≡◌, ◌+◌, ◌++◌, ◌∷◌, [], List, length, sym, ap, ◌∙◌, subst, arith}
use Rattle.pool_slots.proofs.Imports.{length-append}
use Rattle.pool_slots.specs.SlotQueues.{Queued, QueuedList, AreNoted}
use Rattle.pool_slots.proofs.Unzeroed.{noted_more}
use Rattle.pool_slots.proofs.kind_items.KindItems.push.Goals as goal

pub invariant_of-self : goal.invariant_of-self
invariant_of-self g c =
    let ms : List Queued = c.self.inside.list.items in
    let m : Queued = c.args.item in
    let list : ms ≡ c.args.self.now.items = ap (λ (l : QueuedList). l.items) c.self.view_is in
    let room : c.self.inside.room ≡ c.args.self.now.room = ap (λ (l : QueuedList). l.room) c.self.view_is in
    let more : c.push_back_reserved.new.self.items ≡ ms ++ m ∷ [] = c.push_back_reserved.ensures.items in
    let long : length c.push_back_reserved.new.self.items ≡ length ms + 1 = ap (λ (l : List Queued). length l) more ∙ length-append ms (m ∷ []) in
    let had : length ms ≡ length c.args.self.now.items = ap (λ (l : List Queued). length l) list in (
      omega (arith, long, had, room, c.requires),
      omega (arith, c.self.invariant.1, c.push_back_reserved.ensures.capacity),
      subst (λ (l : List Queued). AreNoted c.either-self-inside.result l) (sym more)
          (noted_more ms m c.may_be_unzeroed.result c.is_unzeroed.result c.either-self-inside.result (subst (λ (l : List Queued). AreNoted c.may_be_unzeroed.result l) (sym list) c.may_be_unzeroed.ensures) c.is_unzeroed.ensures c.either-self-inside.ensures),
    )

use Rattle.std.proofs.Common.{◌<◌, List, length, sym}
use Rattle.pool_slots.specs.SlotQueues.{Queued}
use Rattle.pool_slots.proofs.SlotPops.{one_to_zero, none_to_zero}
use Rattle.pool_slots.proofs.kind_items.KindItems.finds_to_zero.Goals as goal

pub returns-in-Some : goal.returns-in-Some
returns-in-Some g c =
    let ms : List Queued = c.args.self.now.items in
    let inside : c.in-Some.field-0 < length ms = rw c.len.ensures.value at c.in-Some.ensures.0 in
    sym (one_to_zero c.args.kind ms c.in-Some.field-0 inside c.in-Some.ensures.1 c.in-Some.ensures.2)

pub returns-in-None : goal.returns-in-None
returns-in-None g c =
    let ms : List Queued = c.args.self.now.items in
    sym (none_to_zero c.args.kind ms (λ k below. c.in-None.ensures k (rw c.len.ensures.value below))).0

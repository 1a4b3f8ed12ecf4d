use Rattle.std.proofs.Common.{◌≡◌, length, sym, ◌∙◌}
use Rattle.std.proofs.lemmas.Bool.{true≢false}
use Rattle.pool_slots.proofs.SlotLists.{not_there}
use Rattle.pool_slots.proofs.kind_items.KindItems.place_of.Goals as goal

pub unreachable-requires : goal.unreachable-requires
unreachable-requires g c =
    let ms = c.args.self.now.items in
    let len : c.len-len.result ≡ length ms = c.len-len.ensures.value in
    true≢false (sym c.requires ∙ not_there c.args.slot c.min-from.result ms (λ k over below d. c.in-None.ensures k over (rw len below) d) c.in-None-place_within.ensures)

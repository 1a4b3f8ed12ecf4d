use Rattle.std.proofs.Common.{◌∙◌, sym, ap, Some}
use Rattle.pool_slots.specs.declared.slot_name.SlotName.{SlotName}
use Rattle.pool_slots.proofs.KindLists.{none_named, first_named}
use Rattle.pool_slots.proofs.kind_items.KindItems.first_name.Goals as goal

pub returns-then-is_empty : goal.returns-then-is_empty
returns-then-is_empty g c = none_named c.args.self.now.items (sym c.is_empty.ensures ∙ c.if-is_empty.true)

pub returns : goal.returns
returns g c = ap (λ (n : SlotName). Some n) c.name.ensures ∙ first_named c.args.self.now.items c.get.result.now (sym c.is_empty.ensures ∙ c.if-is_empty.false) c.get.ensures

use Rattle.std.proofs.Common.{◌∙◌, ap, sym}
use Rattle.pool_index.specs.Table.{ends_len}
use Rattle.pool_index.proofs.Views.{shown_len}
use Rattle.pool_index.proofs.slot_lists.SlotLists.warm_len.Goals as goal

pub returns-in-Some : goal.returns-in-Some
returns-in-Some c = sym (ap ends_len c.in-Some.is) ∙ shown_len c.self.inside.rows c.self.inside.table c.self.inside.freed c.self.inside.bytes c.self.invariant.slots c.self.invariant.woven c.args.self.now c.self.view_is

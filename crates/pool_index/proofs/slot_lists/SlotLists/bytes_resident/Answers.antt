use Rattle.pool_index.proofs.Views.{shown_bytes}
use Rattle.pool_index.proofs.slot_lists.SlotLists.bytes_resident.Goals as goal

pub returns : goal.returns
returns c = shown_bytes c.self.inside.rows c.self.inside.table c.self.inside.freed c.self.inside.bytes c.self.invariant.slots c.self.invariant.woven c.args.self.now c.self.view_is

use Rattle.std.proofs.Common.{sym}
use Rattle.pool_slots.proofs.Unzeroed.{none_zeroed}
use Rattle.pool_slots.proofs.kind_items.KindItems.has_to_zero.Goals as goal

pub returns-else-may_be_unzeroed : goal.returns-else-may_be_unzeroed
returns-else-may_be_unzeroed g c = sym (none_zeroed c.args.kind c.args.self.now.items (c.may_be_unzeroed.ensures c.if-may_be_unzeroed.false)).0

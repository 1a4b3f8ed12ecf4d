use Rattle.std.proofs.Common.{sym}
use Rattle.pool_slots.proofs.Unzeroed.{none_zeroed}
use Rattle.pool_slots.proofs.kind_items.KindItems.zero_first.Goals as goal

pub returns-else-may_be_unzeroed-clause-value : goal.returns-else-may_be_unzeroed-clause-value
returns-else-may_be_unzeroed-clause-value g c = sym (none_zeroed c.args.kind c.args.self.now.items (c.may_be_unzeroed.ensures c.if-may_be_unzeroed.false)).0

pub returns-else-may_be_unzeroed-clause-zeroed : goal.returns-else-may_be_unzeroed-clause-zeroed
returns-else-may_be_unzeroed-clause-zeroed g c =
    let none = none_zeroed c.args.kind c.args.self.now.items (c.may_be_unzeroed.ensures c.if-may_be_unzeroed.false) in
    λ k. record { items = sym none.1 k; room = c.args.self.now.room }

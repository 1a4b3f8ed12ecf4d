use Rattle.pool_index.proofs.Tables.{none_has}
use Rattle.pool_index.proofs.affinity_table.AffinityTable.put_at.Goals as goal

pub insert-requires-clause-room : goal.insert-requires-clause-room
insert-requires-clause-room c = c.requires.room (none_has c.args.self.now c.args.affinity (c.requires.spot.absent c.in-None-default.is-0))

pub change-requires-clause-inside : goal.change-requires-clause-inside
change-requires-clause-inside c = (c.requires.spot.found c.in-Some-Some.at c.in-Some-Some.is-0).0

pub take_out-requires-clause-inside : goal.take_out-requires-clause-inside
take_out-requires-clause-inside c = (c.requires.spot.found c.in-Some-None.at c.in-Some-None.is-0).0

use Rattle.pool_table.proofs.Fresh.{fresh_room}
use Rattle.pool_table.proofs.making.made_regions_have_room.Goals as goal

pub returns : goal.returns
returns c = fresh_room

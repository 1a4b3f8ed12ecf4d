use Rattle.pool_memory.proofs.Layouts.{guard_past, room_past}
use Rattle.pool_memory.proofs.region_layout.RegionLayout.for_memory.Goals as goal

pub returns-in_default : goal.returns-in_default
returns-in_default c = guard_past c.args.page c.args.tunables.now c.args.minimum c.guard_size.result c.guard_size.ensures c.get-size.ensures.valid c.in_default.ensures.ok

pub returns-in-Err : goal.returns-in-Err
returns-in-Err c = room_past c.args.page c.args.tunables.now c.args.minimum c.in_ok-room.room c.in_ok-room.ensures.1 c.get-size.ensures.valid c.in-Err.ensures.ok

use Rattle.std.proofs.Common.{◌≡◌, length, [], rules}
use Rattle.pool_hall.specs.Seat.{made_with, view}
use Rattle.pool_hall.specs.Tally.{all_portions}
use Rattle.pool_driver.specs.Counts.{IsEven}
use Rattle.pool_driver.specs.Pools.{IsOpen}
use Rattle.pool_callers.specs.Callers.{about_shared, opened}
use Rattle.pool_callers.proofs.Seats.{even_of}
use Rattle.pool_callers.proofs.Settling.{within}
use Rattle.pool_callers.proofs.allocator.PoolingInstanceAllocator+PoolHall+P+H+M+P+H.close.Goals as goal

pub close-requires : goal.close-requires
close-requires g c κs within_here =
    let is : IsOpen {R = g.row.M-Region.Denot} g.M.PageMaker.told (about_shared g.M.PageMaker.told c.args.self.pool) (opened c.args.self c.args.seat) = record { pool = c.requires.pool.pool; lists = c.requires.pool.lists; empty = c.requires.pool.empty; room = c.requires.pool.room; own = c.requires.seat.own; free = c.requires.seat.free } in
    let portions : (view c.args.seat.seat).portions ≡ all_portions = c.requires.portions in
    let units : (view c.args.seat.seat).units ≡ [] = c.requires.nothing.units in
    let even : IsEven (view c.args.seat.seat) = even_of (view c.args.seat.seat) (within (length (made_with c.args.self.pool.hall)) (about_shared g.M.PageMaker.told c.args.self.pool) (view c.args.seat.seat) c.args.seat.frame c.requires.seat.driven c.requires.seat.idle) c.requires.nothing.counted in
    search rules

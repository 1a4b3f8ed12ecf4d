use Rattle.std.proofs.Common.{◌≡◌, ◌+◌, arith, length, rules}
use Rattle.pool_hall.specs.Seat.{made_with, limits_of, view}
use Rattle.pool_slots.specs.Plans.{role_at, shard_role}
use Rattle.pool_driver.specs.Origins.{about_of, inner_of}
use Rattle.pool_driver.specs.Pools.{IsSharedOf}
use Rattle.pool_driver.proofs.Looks.{few_at, shard_there}
use Rattle.pool_driver.proofs.looking.SharedPool+PoolHall+P+H+M.look_at_shard.Goals as goal

pub overflow_add-allocator : goal.overflow_add-allocator
overflow_add-allocator g c =
    let pool : IsSharedOf g.M.PageMaker.told g.about c.args.self.now = search rules in
    let role : role_at g.about.plan (c.args.allocator.first_place + c.args.shard) ≡ shard_role c.args.allocator c.args.shard = search rules in
    let fits = shard_there g.about (length (made_with c.args.self.now.hall)) (c.args.allocator.first_place + c.args.shard) c.args.allocator c.args.shard pool.hall.pool role in
    record { fits = omega (arith, fits.1) }

pub look_at-requires-clause-place : goal.look_at-requires-clause-place
look_at-requires-clause-place g c =
    let pool : IsSharedOf g.M.PageMaker.told g.about c.args.self.now = search rules in
    let role : role_at g.about.plan (c.args.allocator.first_place + c.args.shard) ≡ shard_role c.args.allocator c.args.shard = search rules in
    (shard_there g.about (length (made_with c.args.self.now.hall)) (c.args.allocator.first_place + c.args.shard) c.args.allocator c.args.shard pool.hall.pool role).0

pub returns-clause-few : goal.returns-clause-few
returns-clause-few g c =
    let pool : IsSharedOf g.M.PageMaker.told g.about c.args.self.now = search rules in
    let role : role_at g.about.plan (c.args.allocator.first_place + c.args.shard) ≡ shard_role c.args.allocator c.args.shard = search rules in
    few_at (about_of g.M.PageMaker.told) inner_of (made_with c.args.self.now.hall) (limits_of c.args.self.now.hall) g.about pool.hall.made (c.args.allocator.first_place + c.args.shard) c.args.allocator c.args.shard c.args.kind c.look_at.result role (view c.args.seat.now) c.look_at.ensures.part

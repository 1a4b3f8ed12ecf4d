use Rattle.std.proofs.Common.{◌≡◌, ◌+◌, ◌*◌, [], arith, refl, rules}
use Rattle.pool_hall.specs.Seat.{limits_of, made_with, view, IsFree, IsSeatOf}
use Rattle.pool_slots.specs.Plans.{role_at, shard_role}
use Rattle.pool_driver.specs.Looking.{HasItsShards}
use Rattle.pool_driver.specs.Origins.{about_of, inner_of}
use Rattle.pool_driver.specs.Placed.{pool_meaning}
use Rattle.pool_driver.specs.Pools.{IsSharedOf}
use Rattle.pool_driver.proofs.Looks.{looked_on, not_looked, one_more, sum_none}
use Rattle.pool_driver.proofs.looking.SharedPool+PoolHall+P+H+M.look_at_shards.Goals as goal

pub look_at_shard-seen-requires : goal.look_at_shard-seen-requires
look_at_shard-seen-requires g c κs within =
    let pool : IsSharedOf g.M.PageMaker.told g.about c.args.self.now = search rules in
    let own : IsSeatOf c.args.self.now.hall c.loop-shard.seat = c.loop-shard.invariant.own in
    let free : IsFree c.loop-shard.seat = c.loop-shard.invariant.free in
    let all : HasItsShards g.about.plan c.args.allocator = search rules in
    let role : role_at g.about.plan (c.args.allocator.first_place + c.loop-shard.shard) ≡ shard_role c.args.allocator c.loop-shard.shard = all c.loop-shard.shard c.loop-shard-test.true in
    search rules

pub loop-shard-preserved : goal.loop-shard-preserved
loop-shard-preserved g c =
    let inv = c.loop-shard.invariant in
    let next : (c.loop-shard.shard + 1) * c.args.allocator.slots_per_shard ≡ c.loop-shard.shard * c.args.allocator.slots_per_shard + c.args.allocator.slots_per_shard = omega arith in
    record {
      own = c.look_at_shard-seen.ensures.own;
      free = c.look_at_shard-seen.ensures.free;
      looked = looked_on (view c.args.seat.now) (view c.loop-shard.seat) (view c.look_at_shard-seen.new.seat) inv.looked c.look_at_shard-seen.ensures.looked;
      seen = one_more (pool_meaning (about_of g.M.PageMaker.told) inner_of) inner_of (made_with c.args.self.now.hall) (limits_of c.args.self.now.hall) c.args.kind (view c.args.seat.now) (view c.loop-shard.seat) c.args.allocator c.loop-shard.shard c.look_at_shard-seen.result c.loop-shard.sum c.plus-sum.result inv.looked inv.seen c.look_at_shard-seen.ensures.part c.plus-sum.ensures.slots c.plus-sum.ensures.bytes;
      so_far = omega (arith, next, c.plus-sum.ensures.slots, inv.so_far, c.look_at_shard-seen.ensures.few);
      most = omega (arith, c.plus-sum.ensures.slots, inv.so_far, inv.most, c.look_at_shard-seen.ensures.few);
    }

pub loop-shard-init : goal.loop-shard-init
loop-shard-init g c =
    let own : IsSeatOf c.args.self.now.hall c.args.seat.now = search rules in
    let free : IsFree c.args.seat.now = search rules in
    record { own = own; free = free; looked = not_looked (view c.args.seat.now); seen = ([], (refl, (tt, sum_none))); so_far = omega arith; most = omega arith }

pub returns-clause-counted : goal.returns-clause-counted
returns-clause-counted g c =
    let seen = c.loop-shard.invariant.seen in
    (seen.0, (record { many = omega (arith, seen.1.0, c.loop-shard-test.false, c.loop-shard.auto.shard-end); each = seen.1.1.0 }, seen.1.1.1))

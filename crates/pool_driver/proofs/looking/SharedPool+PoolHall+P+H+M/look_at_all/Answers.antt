use Rattle.std.proofs.Common.{◌≡◌, ◌+◌, ◌<◌, [], arith, drop, length, refl, rules, subst, sym}
use Rattle.std.specs.List.{AllByRecursion}
use Rattle.pool_pages.proofs.Small.{each_at}
use Rattle.pool_hall.specs.Seat.{limits_of, made_with, view, IsFree, IsSeatOf}
use Rattle.pool_alloc.specs.StepReads.{no_allocator}
use Rattle.pool_driver.specs.Looking.{HasItsShards}
use Rattle.pool_driver.specs.Pools.{IsSharedOf}
use Rattle.pool_driver.specs.Origins.{about_of, inner_of}
use Rattle.pool_driver.specs.Placed.{pool_meaning}
use Rattle.pool_driver.proofs.Looks.{all_of, among_from, first_of, looked_on, next_of, none_past, not_looked, sum_none}
use Rattle.pool_driver.proofs.looking.SharedPool+PoolHall+P+H+M.look_at_all.Goals as goal

pub look_at_shards-seen-requires : goal.look_at_shards-seen-requires
look_at_shards-seen-requires g c κs within =
    let pool : IsSharedOf g.M.PageMaker.told g.about c.args.self.now = search rules in
    let own : IsSeatOf c.args.self.now.hall c.loop-number.seat = c.loop-number.invariant.own in
    let free : IsFree c.loop-number.seat = c.loop-number.invariant.free in
    let all : AllByRecursion (HasItsShards g.about.plan) c.args.allocators.now = search rules in
    let inside : c.loop-number.number < length c.args.allocators.now = omega (arith, c.loop-number-test.true, c.loop-number.invariant.all) in
    let shards : HasItsShards g.about.plan c.allocator_at-allocator.result =
    subst (HasItsShards g.about.plan) (sym (c.allocator_at-allocator.ensures no_allocator)) (each_at (HasItsShards g.about.plan) c.args.allocators.now c.loop-number.number no_allocator inside all) in
    search rules

pub loop-number-preserved : goal.loop-number-preserved
loop-number-preserved g c =
    let inv = c.loop-number.invariant in
    let inside : c.loop-number.number < length c.args.allocators.now = omega (arith, c.loop-number-test.true, c.loop-number.invariant.all) in
    record {
      own = c.look_at_shards-seen.ensures.own;
      free = c.look_at_shards-seen.ensures.free;
      looked = looked_on (view c.args.seat.now) (view c.loop-number.seat) (view c.look_at_shards-seen.new.seat) inv.looked c.look_at_shards-seen.ensures.looked;
      seen = next_of (pool_meaning (about_of g.M.PageMaker.told) inner_of) inner_of (made_with c.args.self.now.hall) (limits_of c.args.self.now.hall) c.args.kind (view c.args.seat.now) (view c.loop-number.seat) c.args.allocators.now (drop c.loop-number.number c.args.allocators.now) (drop (c.loop-number.number + 1) c.args.allocators.now) c.allocator_at-allocator.result c.loop-number.sum c.look_at_shards-seen.result c.plus-sum.result inv.looked (first_of c.args.allocators.now c.loop-number.number (c.loop-number.number + 1) c.allocator_at-allocator.result refl c.allocator_at-allocator.ensures inside) inv.seen c.look_at_shards-seen.ensures.counted c.plus-sum.ensures.slots c.plus-sum.ensures.bytes;
      all = inv.all;
      few = omega (arith, c.plus-sum.ensures.slots, c.look_at_shards-seen.ensures.few, inv.few, among_from c.args.allocators.now c.loop-number.number (c.loop-number.number + 1) c.allocator_at-allocator.result refl c.allocator_at-allocator.ensures inside);
    }

pub loop-number-init : goal.loop-number-init
loop-number-init g c =
    let own : IsSeatOf c.args.self.now.hall c.args.seat.now = search rules in
    let free : IsFree c.args.seat.now = search rules in
    record { own = own; free = free; looked = not_looked (view c.args.seat.now); seen = ([], (sum_none, λ rest is. is)); all = search rules; few = omega arith }

pub returns-clause-counted : goal.returns-clause-counted
returns-clause-counted g c =
    all_of (pool_meaning (about_of g.M.PageMaker.told) inner_of) inner_of (made_with c.args.self.now.hall) (limits_of c.args.self.now.hall) c.args.kind (view c.args.seat.now) c.args.allocators.now (drop c.loop-number.number c.args.allocators.now) c.loop-number.sum
    (none_past c.args.allocators.now c.loop-number.number (omega (arith, c.loop-number-test.false, c.loop-number.invariant.all))) c.loop-number.invariant.seen

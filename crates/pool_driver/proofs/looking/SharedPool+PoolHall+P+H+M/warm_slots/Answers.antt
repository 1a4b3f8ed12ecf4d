use Rattle.std.proofs.Common.{◌≡◌, List, length, rules, subst, sym, ap, ◌∙◌}
use Rattle.std.specs.List.{AllByRecursion}
use Rattle.pool_hall.specs.Seat.{limits_of, made_with, view, IsFree, IsSeatOf}
use Rattle.pool_slots.specs.Plans.{allocators_of}
use Rattle.pool_slots.specs.declared.plan.Allocator.{Allocator}
use Rattle.pool_slots.specs.declared.plan.Plan.{Plan}
use Rattle.pool_slots.proofs.Planning.{shards_of}
use Rattle.pool_driver.specs.Looking.{HasItsShards, IsCounted}
use Rattle.pool_driver.specs.Origins.{about_of, inner_of}
use Rattle.pool_driver.specs.Placed.{pool_meaning}
use Rattle.pool_driver.specs.Pools.{IsSharedOf}
use Rattle.pool_driver.proofs.Looks.{driven_looked}
use Rattle.pool_driver.proofs.looking.SharedPool+PoolHall+P+H+M.warm_slots.Goals as goal

pub look_at_all-requires : goal.look_at_all-requires
look_at_all-requires g c κs within =
    let pool : IsSharedOf g.M.PageMaker.told g.about c.args.self.now = search rules in
    let own : IsSeatOf c.args.self.now.hall c.args.seat.now = search rules in
    let free : IsFree c.args.seat.now = search rules in
    let shards : AllByRecursion (HasItsShards g.about.plan) c.allocators_of.result.now =
    subst (λ (all : List Allocator). AllByRecursion (HasItsShards g.about.plan) all) (sym (c.allocators_of.ensures ∙ ap (λ (p : Plan). allocators_of p c.args.kind) pool.plan))
    (shards_of g.about.plan c.args.kind pool.hall.pool.plan.planned.separate) in
    search rules

pub returns-clause-driven : goal.returns-clause-driven
returns-clause-driven g c h f o driven = driven_looked (length (made_with c.args.self.now.hall)) h (view c.args.seat.now) (view c.look_at_all.new.seat) f o c.look_at_all.ensures.looked driven

pub returns-clause-counted : goal.returns-clause-counted
returns-clause-counted g c =
    let pool : IsSharedOf g.M.PageMaker.told g.about c.args.self.now = search rules in
    subst (λ (all : List Allocator). IsCounted (pool_meaning (about_of g.M.PageMaker.told) inner_of) inner_of (made_with c.args.self.now.hall) (limits_of c.args.self.now.hall) (view c.args.seat.now) c.args.kind all c.look_at_all.result) (c.allocators_of.ensures ∙ ap (λ (p : Plan). allocators_of p c.args.kind) pool.plan) c.look_at_all.ensures.counted

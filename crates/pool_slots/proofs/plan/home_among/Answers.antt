use Rattle.std.proofs.Common.{◌<◌, length, refl, sym, ◌∙◌, arith}
use Rattle.pool_slots.proofs.PlanSizes.{search_on, search_here, placed_at}
use Rattle.pool_slots.proofs.plan.home_among.Goals as goal

pub loop-at-init : goal.loop-at-init
loop-at-init c = record { search = record { home = refl; placed = c.requires.placed; some = c.requires.some }; all = refl }

pub has_number-requires : goal.has_number-requires
has_number-requires c =
    let inside : c.loop-at.at < length c.args.allocators.now = omega (arith, c.loop-at-test.true, c.loop-at.invariant.all) in
    (placed_at c.loop-at.at c.args.allocators.now c.allocator_at-allocator.result c.args.number inside c.allocator_at-allocator.ensures c.loop-at.invariant.search).apart

pub home-requires-clause-placed : goal.home-requires-clause-placed
home-requires-clause-placed c =
    let inside : c.loop-at.at < length c.args.allocators.now = omega (arith, c.loop-at-test.true, c.loop-at.invariant.all) in
    placed_at c.loop-at.at c.args.allocators.now c.allocator_at-allocator.result c.args.number inside c.allocator_at-allocator.ensures c.loop-at.invariant.search

pub returns-then-has_number : goal.returns-then-has_number
returns-then-has_number c =
    let inside : c.loop-at.at < length c.args.allocators.now = omega (arith, c.loop-at-test.true, c.loop-at.invariant.all) in
    c.home.ensures ∙ (search_here c.args.number c.loop-at.at c.args.allocators.now c.allocator_at-allocator.result inside c.allocator_at-allocator.ensures (sym c.if-has_number.ensures) c.loop-at.invariant.search).0

pub loop-at-preserved : goal.loop-at-preserved
loop-at-preserved c =
    let inside : c.loop-at.at < length c.args.allocators.now = omega (arith, c.loop-at-test.true, c.loop-at.invariant.all) in
    record {
      search = search_on c.args.number c.loop-at.at c.args.allocators.now c.allocator_at-allocator.result inside c.allocator_at-allocator.ensures (sym c.if-has_number.ensures) c.loop-at.invariant.search;
      all = c.loop-at.invariant.all;
    }

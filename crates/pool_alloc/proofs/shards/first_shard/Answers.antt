use Rattle.std.proofs.Common.{◌≡◌, ◌<◌, length, take, length-take, get_or, refl, sym, ap, ◌∙◌, ◌+◌, arith, min}
use Rattle.pool_alloc.proofs.Imports.{take_more, Home, home_of}
use Rattle.pool_alloc.specs.StepReads.{first_shard}
use Rattle.pool_alloc.proofs.FreeTurns.{first_more}
use Rattle.pool_alloc.proofs.shards.first_shard.Goals as goal

pub loop-at-preserved : goal.loop-at-preserved
loop-at-preserved c =
    let plan = c.args.plan.now in
    let xs = c.args.freed.now.items in
    let i = c.loop-at.at in
    let x = c.get-in-loop-at.result.now in
    let inside : i < length xs = omega (arith, c.loop-at.invariant.all, c.loop-at-test.true) in
    let some : 0 < length (take i xs) = omega (arith, length-take i xs, c.loop-at.invariant.some) in
    let now : (home_of plan (get_or xs i x).name).place ≡ c.home.result.place = ap (λ y. (home_of plan y.name).place) (sym c.get-in-loop-at.ensures) ∙ ap (λ (h : Home). h.place) (sym c.home.ensures) in
    let more : first_shard plan (take (i + 1) xs) ≡ min (first_shard plan (take i xs)) (home_of plan (get_or xs i x).name).place = ap (first_shard plan) (take_more xs i x inside) ∙ first_more plan (take i xs) (get_or xs i x) some in
    record {
      first = rw (c.min-first.ensures, more, now, c.loop-at.invariant.first) refl;
      some = omega (arith, c.loop-at.invariant.some);
      all = c.loop-at.invariant.all;
    }

-- No caller has anything when its thread comes back, and so they have nothing together.
use Rattle.std.proofs.Common.{sym, subst}
use Rattle.pool_hall.specs.Seat.{view}
use Rattle.pool_callers.specs.Callers.{HasNothing}
use Rattle.pool_callers.proofs.Giving.{nothing_kept}
use Rattle.pool_callers.proofs.Seats.{nothing_joined, nothing_left, nothing_new}
use Rattle.pool_cycles.proofs.measure.together.Goals as goal

pub close-parts-requires-clause-nothing : goal.close-parts-requires-clause-nothing
close-parts-requires-clause-nothing g c =
    let all = c.four_work-seat in
    let at = view c.args.seat.seat in
    let once = view c.split_seat.new.seat.seat in
    let twice = view c.split_seat-2.new.seat.seat in
    let left : HasNothing once = subst HasNothing (sym c.in_ok-second.ensures.left) (nothing_left at 1 c.requires.nothing) in
    let second : HasNothing (view c.in_ok-second.second.seat) = subst HasNothing (sym c.in_ok-second.ensures.fresh) (nothing_new at 1) in
    let less : HasNothing twice = subst HasNothing (sym c.in_ok-third.ensures.left) (nothing_left once 1 left) in
    let third : HasNothing (view c.in_ok-third.third.seat) = subst HasNothing (sym c.in_ok-third.ensures.fresh) (nothing_new once 1) in
    let first : HasNothing (view c.split_seat-3.new.seat.seat) = subst HasNothing (sym c.in_ok-fourth.ensures.left) (nothing_left twice 1 less) in
    let fourth : HasNothing (view c.in_ok-fourth.fourth.seat) = subst HasNothing (sym c.in_ok-fourth.ensures.fresh) (nothing_new twice 1) in
    let a = nothing_kept (view c.split_seat-3.new.seat.seat) (view all.result.0.0.0.seat) first all.ensures.first.keeps in
    let b = nothing_kept (view c.in_ok-second.second.seat) (view all.result.0.1.0.seat) second all.ensures.second.keeps in
    let d = nothing_kept (view c.in_ok-third.third.seat) (view all.result.1.0.0.seat) third all.ensures.third.keeps in
    let e = nothing_kept (view c.in_ok-fourth.fourth.seat) (view all.result.1.1.0.seat) fourth all.ensures.fourth.keeps in
    let two : HasNothing (view c.join_seat.new.seat.seat) = subst HasNothing (sym c.join_seat.ensures.joined) (nothing_joined (view all.result.0.0.0.seat) (view all.result.0.1.0.seat) a b) in
    let three : HasNothing (view c.join_seat-2.new.seat.seat) = subst HasNothing (sym c.join_seat-2.ensures.joined) (nothing_joined (view c.join_seat.new.seat.seat) (view all.result.1.0.0.seat) two d) in
    subst HasNothing (sym c.join_seat-3.ensures.joined) (nothing_joined (view c.join_seat-2.new.seat.seat) (view all.result.1.1.0.seat) three e)

-- Neither caller has anything when its thread comes back, and so they have nothing together.
use Rattle.std.proofs.Common.{sym, subst}
use Rattle.pool_hall.specs.Seat.{view}
use Rattle.pool_callers.specs.Callers.{HasNothing}
use Rattle.pool_callers.proofs.Giving.{nothing_kept}
use Rattle.pool_callers.proofs.Seats.{nothing_joined, nothing_left, nothing_new}
use Rattle.pool_checks.proofs.thread_tests.two_threads_hold_each_slot.Goals as goal

pub close-parts-requires-clause-nothing : goal.close-parts-requires-clause-nothing
close-parts-requires-clause-nothing g c =
    let both = c.both_hold_each-seat in
    let left : HasNothing (view c.split_seat.new.seat.seat) = subst HasNothing (sym c.in_ok-other.ensures.left) (nothing_left (view c.in_ok-allocator.seat.seat) 1000 c.in_ok-allocator.ensures.nothing) in
    let fresh : HasNothing (view c.in_ok-other.other.seat) = subst HasNothing (sym c.in_ok-other.ensures.fresh) (nothing_new (view c.in_ok-allocator.seat.seat) 1000) in
    let here = nothing_kept (view c.split_seat.new.seat.seat) (view both.result.0.0.seat) left both.ensures.one.keeps in
    let there = nothing_kept (view c.in_ok-other.other.seat) (view both.result.1.0.seat) fresh both.ensures.other.keeps in
    subst HasNothing (sym c.join_seat.ensures.joined) (nothing_joined (view both.result.0.0.seat) (view both.result.1.0.seat) here there)

use Rattle.pool_hall.specs.Seat.{view}
use Rattle.pool_callers.proofs.Giving.{keeps_twice}
use Rattle.pool_uses.proofs.numbers.count_warm.Goals as goal

pub returns-clause-keeps : goal.returns-clause-keeps
returns-clause-keeps g c =
    let at = view c.args.seat.now.seat in
    let once = keeps_twice at (view c.warm_now-none.new.seat.seat) (view c.two_at_once-both.new.seat.seat) c.warm_now-none.ensures.keeps c.two_at_once-both.ensures.keeps in
    let twice = keeps_twice at (view c.two_at_once-both.new.seat.seat) (view c.warm_now-two.new.seat.seat) once c.warm_now-two.ensures.keeps in
    let thrice = keeps_twice at (view c.warm_now-two.new.seat.seat) (view c.warm_beside-one.new.seat.seat) twice c.warm_beside-one.ensures.keeps in
    keeps_twice at (view c.warm_beside-one.new.seat.seat) (view c.warm_now-again.new.seat.seat) thrice c.warm_now-again.ensures.keeps

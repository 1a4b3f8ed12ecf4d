use Rattle.std.proofs.Common.{ℕ, ◌<◌, sym, subst, arith}
use Rattle.pool_hall.specs.Seat.{view}
use Rattle.pool_hall.proofs.Sharing.{splits}
use Rattle.pool_hall.proofs.hall.Hall.cut.Goals as goal

pub split_seat-other-requires : goal.split_seat-other-requires
split_seat-other-requires g c =
    let own = c.requires.own in
    (own.table, omega (arith, c.args.self.now.words, c.args.self.now.some), splits g.T.Part.meaning _ _ _ _ _ _ (subst (λ (n : ℕ). 0 < n) (sym c.requires.named) c.requires.some) (subst (λ (n : ℕ). n < (view c.args.seat.now).portions) (sym c.requires.named) c.requires.fewer))

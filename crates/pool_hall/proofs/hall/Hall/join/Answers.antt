use Rattle.std.proofs.Common.{arith}
use Rattle.pool_hall.proofs.Sharing.{joins}
use Rattle.pool_hall.proofs.hall.Hall.join.Goals as goal

pub join_seat-requires : goal.join_seat-requires
join_seat-requires g c =
    let own = c.requires.own in
    let free = c.requires.free in
    (own.table, c.requires.other.table, free.slots, omega (arith, c.args.self.now.words, c.args.self.now.some), joins g.T.Part.meaning _ _ _ _ _ _ _ own.portion free.place)

use Rattle.pool_hall.proofs.Counting.{subtracts}
use Rattle.pool_hall.proofs.hall.Hall.subtract_on.Goals as goal

pub fetch_sub-requires : goal.fetch_sub-requires
fetch_sub-requires g c =
    let own = c.requires.own in
    let word = c.counter_word-word.ensures in
    (own.table, word.within, subtracts g.T.Part.meaning _ _ _ _ _ _ _ own.parts own.limits own.portion c.requires.counter _ _ word.value c.requires.named c.requires.more)

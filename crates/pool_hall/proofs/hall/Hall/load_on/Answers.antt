use Rattle.pool_hall.proofs.Counting.{loads}
use Rattle.pool_hall.proofs.hall.Hall.load_on.Goals as goal

pub load-requires : goal.load-requires
load-requires g c =
    let own = c.requires.own in
    let word = c.counter_word-word.ensures in
    (own.table, word.within, loads g.T.Part.meaning _ _ _ _ _ _ _ own.parts own.limits own.portion c.requires.counter _ _ word.value c.requires.named)

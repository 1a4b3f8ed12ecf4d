use Rattle.pool_hall.proofs.Counting.{adds}
use Rattle.pool_hall.proofs.hall.Hall.add_on.Goals as goal

pub fetch_add-requires : goal.fetch_add-requires
fetch_add-requires g c =
    let own = c.requires.own in
    let word = c.counter_word-word.ensures in
    (own.table, word.within, adds g.T.Part.meaning _ _ _ _ _ _ _ own.parts own.limits own.portion c.requires.counter _ _ word.value c.requires.named)

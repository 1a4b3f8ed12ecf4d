use Rattle.std.proofs.Common.{rules, ◌≡◌}
use Rattle.pool_hall.proofs.Hands.{takes_as}
use Rattle.pool_hall.proofs.Takings.{is_taken}
use Rattle.pool_hall.proofs.hall.Hall.try_take.Goals as goal

pub swap-found-requires : goal.swap-found-requires
swap-found-requires g c =
    let own = c.requires.own in
    let word = c.word-word.ensures in
    (own.table, word.within, takes_as g.T.Part.meaning _ _ _ _ _ _ _ _ _ c.requires.free.place own.portion own.parts own.limits c.requires.place word.value c.requires.named)

pub returns-clause-taken : goal.returns-clause-taken
returns-clause-taken g c = λ _. is_taken g.T.Part.meaning _ _ _ _ c.requires.named c.requires.own c.requires.free c.requires.place (let e : c.swap-found.result ≡ 0 = search rules in c.swap-found.ensures.2.0 e)

use Rattle.std.proofs.Common.{length, ap, arith}
use Rattle.pool_hall.proofs.Hands.{puts_as}
use Rattle.pool_hall.proofs.Seated.{stays}
use Rattle.pool_hall.proofs.hall.Hall.put.Goals as goal

pub store-requires : goal.store-requires
store-requires g c =
    let own = c.requires.own in
    let h = c.requires.may.holds in
    let word = c.word-word.ensures in
    (own.table, word.within, puts_as g.T.Part.meaning _ _ _ _ _ _ _ _ _ _ h.place h.slots own.portion own.parts own.limits h.within c.requires.may.may word.value)

pub word-word-requires : goal.word-word-requires
word-word-requires g c =
    let h = c.requires.may.holds in
    let e = ap length c.requires.own.parts in
    omega (arith, h.within)

pub returns-clause-own : goal.returns-clause-own
returns-clause-own g c =
    let h = c.requires.may.holds in
    let e = c.store.ensures in
    let f = e.2 _ _ _ h.place h.slots in
    stays c.args.self.now c.args.seat.now _ c.requires.own e.0 (ap (λ k. k.0.portions) f) (ap (λ k. k.0.parts) f) (ap (λ k. k.0.limits) f)

pub returns-clause-free : goal.returns-clause-free
returns-clause-free g c =
    let h = c.requires.may.holds in
    let f = c.store.ensures.2 _ _ _ h.place h.slots in
    record { place = ap (λ k. k.0.held) f; slots = ap (λ k. k.1) f }

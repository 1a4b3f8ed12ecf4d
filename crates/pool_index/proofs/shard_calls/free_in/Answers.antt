use Rattle.std.proofs.Common.{◌≡◌, ℕ, ◌+◌, ◌∷◌, [], ◌^◌, ◌≤◌, ap, subst, arith, is_some}
use Rattle.pool_hall.specs.Seat.{made_with, limits_of, view}
use Rattle.pool_index.proofs.Imports.{All-cons, All-nil}
use Rattle.pool_index.proofs.Growing.{grows_after}
use Rattle.pool_index.proofs.HallFrees.{can_go, may_go, went_units, went_counts, went_held}
use Rattle.pool_index.proofs.Rounds.{rest_after}
use Rattle.pool_index.specs.Holds.{AddsAt}
use Rattle.pool_index.proofs.shard_calls.free_in.Goals as goal

pub hold-requires-clause-can : goal.hold-requires-clause-can
hold-requires-clause-can g c x told = (
  ap is_some (c.requires.shard x told.stands.fits).is,
  λ s was. (can_go g.T.Part.meaning g.T.MaybeShard.shard g.met.T.MaybeShard.means (made_with c.args.hall.now) (limits_of c.args.hall.now) c.args.at c.requires.shard x s was (view c.args.seat.now) told ((c.args.slot, c.args.bytes_resident) ∷ []) c.requires.unit (All-cons (λ p. p.1 ≤ 2 ^ 32) (c.args.slot, c.args.bytes_resident) [] c.requires.bytes (All-nil (λ p. p.1 ≤ 2 ^ 32)))).0,
)

pub hold-requires-clause-may : goal.hold-requires-clause-may
hold-requires-clause-may g c x y r d told did =
    may_go g.T.Part.meaning g.T.MaybeShard.shard g.met.T.MaybeShard.means (made_with c.args.hall.now) (limits_of c.args.hall.now) c.args.at c.requires.shard x did.0 did.2 (view c.args.seat.now) told ((c.args.slot, c.args.bytes_resident) ∷ []) c.requires.unit (All-cons (λ p. p.1 ≤ 2 ^ 32) (c.args.slot, c.args.bytes_resident) [] c.requires.bytes (All-nil (λ p. p.1 ≤ 2 ^ 32))) y did.1 did.3 (record { after = did.4.after; same = did.4.same; sound = did.4.sound })

pub returns-clause-freed : goal.returns-clause-freed
returns-clause-freed g c =
    let h = c.hold.ensures.held in
    (h.did.0, went_held g.T.Part.meaning g.T.MaybeShard.shard g.met.T.MaybeShard.means (made_with c.args.hall.now) (limits_of c.args.hall.now) c.args.at c.requires.shard h.before h.did.0 h.did.2 (view c.args.seat.now) h.told ((c.args.slot, c.args.bytes_resident) ∷ []) c.requires.unit (All-cons (λ p. p.1 ≤ 2 ^ 32) (c.args.slot, c.args.bytes_resident) [] c.requires.bytes (All-nil (λ p. p.1 ≤ 2 ^ 32))) h.after h.did.1 h.did.3 (record { after = h.did.4.after; same = h.did.4.same; sound = h.did.4.sound }) _ h.view)

pub returns-clause-units : goal.returns-clause-units
returns-clause-units g c =
    let h = c.hold.ensures.held in
    went_units g.T.Part.meaning g.T.MaybeShard.shard g.met.T.MaybeShard.means (made_with c.args.hall.now) (limits_of c.args.hall.now) c.args.at c.requires.shard h.before h.did.0 h.did.2 (view c.args.seat.now) h.told ((c.args.slot, c.args.bytes_resident) ∷ []) c.requires.unit (All-cons (λ p. p.1 ≤ 2 ^ 32) (c.args.slot, c.args.bytes_resident) [] c.requires.bytes (All-nil (λ p. p.1 ≤ 2 ^ 32))) h.after h.did.1 h.did.3 (record { after = h.did.4.after; same = h.did.4.same; sound = h.did.4.sound }) _ h.view

pub returns-clause-counts : goal.returns-clause-counts
returns-clause-counts g c =
    let h = c.hold.ensures.held in
    subst (λ (n : ℕ). AddsAt c.args.at.place n (view c.args.seat.now) (view c.hold.new.seat)) (let q : 0 + c.args.bytes_resident ≡ c.args.bytes_resident = omega arith in q)
    (went_counts g.T.Part.meaning g.T.MaybeShard.shard g.met.T.MaybeShard.means (made_with c.args.hall.now) (limits_of c.args.hall.now) c.args.at c.requires.shard h.before h.did.0 h.did.2 (view c.args.seat.now) h.told ((c.args.slot, c.args.bytes_resident) ∷ []) c.requires.unit (All-cons (λ p. p.1 ≤ 2 ^ 32) (c.args.slot, c.args.bytes_resident) [] c.requires.bytes (All-nil (λ p. p.1 ≤ 2 ^ 32))) h.after h.did.1 h.did.3 (record { after = h.did.4.after; same = h.did.4.same; sound = h.did.4.sound }) _ h.view)

pub returns-clause-grows : goal.returns-clause-grows
returns-clause-grows g c = let h = c.hold.ensures.held in grows_after g.T.Part.meaning c.args.at.place h.before h.after (view c.args.seat.now) _ h.view

pub returns-clause-rest : goal.returns-clause-rest
returns-clause-rest g c = let h = c.hold.ensures.held in rest_after g.T.Part.meaning c.args.at.place h.before h.after (view c.args.seat.now) _ h.view

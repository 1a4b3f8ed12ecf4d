use Rattle.std.proofs.Common.{◌≡◌, ℕ, List, [], ◌∷◌, ◌++◌, replicate, None, Option, ap, ◌∙◌, subst, arith}
use Rattle.pool_run.proofs.Imports.{replicate_more, Grant, PlainHeap}
use Rattle.pool_run.proofs.leases.Leases.new.Goals as goal

pub loop-place-preserved : goal.loop-place-preserved
loop-place-preserved g c =
    let G : Type 0 = Option (Grant g.row.P.Denot PlainHeap) in
    c.in_ok-push.ensures.items ∙ ap (λ (xs : List G). xs ++ None ∷ []) c.loop-place.invariant ∙ replicate_more c.loop-place.place None

pub returns : goal.returns
returns g c =
    let is : c.loop-place.place ≡ c.args.count = omega arith in
    let P : ℕ → Type 0 = λ n. c.loop-place.places.items ≡ replicate {A = Option (Grant g.row.P.Denot PlainHeap)} n None in
    subst P is c.loop-place.invariant

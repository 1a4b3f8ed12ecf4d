use Rattle.std.proofs.Common.{◌≡◌, ◌∙◌, ℕ, List, [], ◌∷◌, false, sym, subst, inl, inr, arith}
use Rattle.std.specs.Option.{IfSome}
use Rattle.std.specs.List.{slice_get}
use Rattle.std.specs.Ordering.{is_gt}
use Rattle.std.specs.Map.Iter.{deref}
use Rattle.std.specs.declared.ops.Bound.TheVariants.{Included, Unbounded}
use Rattle.std.specs.BTreeSet as sorted
use Rattle.std.proofs.lemmas.Map.Iter.{rest_all}
use Rattle.std.proofs.lemmas.Bool.{cases_Bool}
use Rattle.pool_shared.specs.Tickets.{place_cmp}
use Rattle.pool_shared.proofs.First.{from_zero, le_first, le_second}
use Rattle.pool_shared.proofs.spot_state.first_parked.Goals as goal

pub returns-in-Some-clause-first : goal.returns-in-Some-clause-first
returns-in-Some-clause-first c = λ other there.
    let least : is_gt (place_cmp c.in-Some.field-0.now (c.args.addr, other)) ≡ false = subst (λ (ps : List (ℕ × ℕ)). IfSome (slice_get ps 0) (λ p. is_gt (place_cmp p (c.args.addr, other)) ≡ false)) c.in-Some.ensures.steps ((c.range.ensures.in_range tt).2 (c.args.addr, other) (from_zero c.args.addr other, tt) there) in
    le_second c.in-Some.field-0.now (c.args.addr, other) least c.if-at-addr.true

pub returns-in_default-clause-none : goal.returns-in_default-clause-none
returns-in_default-clause-none c = λ other.
    elim (cases_Bool (sorted.contains place_cmp c.args.parked.now (c.args.addr, other))) [
      | inl there ↦
          let least : is_gt (place_cmp c.in-Some.field-0.now (c.args.addr, other)) ≡ false = subst (λ (ps : List (ℕ × ℕ)). IfSome (slice_get ps 0) (λ p. is_gt (place_cmp p (c.args.addr, other)) ≡ false)) c.in-Some.ensures.steps ((c.range.ensures.in_range tt).2 (c.args.addr, other) (from_zero c.args.addr other, tt) there) in
          let inside = subst (λ (ps : List (ℕ × ℕ)). IfSome (slice_get ps 0) (sorted.IsKeyInRange place_cmp (Included (c.args.addr, 0)) Unbounded c.args.parked.now)) c.in-Some.ensures.steps (c.range.ensures.in_range tt).1 in
          let low = le_first (c.args.addr, 0) c.in-Some.field-0.now inside.0.0 in
          let high = le_first c.in-Some.field-0.now (c.args.addr, other) least in
          absurd (c.if-at-addr.false (omega (arith, low, high)))
      | inr none ↦ none
    ]

pub returns-in_default-2-clause-none : goal.returns-in_default-2-clause-none
returns-in_default-2-clause-none c = λ other.
    (c.range.ensures.in_range tt).5 (rest_all deref _ _ c.next.result c.in_default.is c.next.ensures.steps) (c.args.addr, other) (from_zero c.args.addr other, tt)

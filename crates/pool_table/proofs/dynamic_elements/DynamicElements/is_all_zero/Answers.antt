use Rattle.std.proofs.Common.{◌≡◌, ℕ, ◌<◌, length, get_or, true, refl, sym, ap, ◌∙◌, subst, arith, inl, inr, map}
use Rattle.pool_table.proofs.Imports.{cases_lt, length-map, get_or-map}
use Rattle.pool_table.specs.Elements.{Element, empty}
use Rattle.pool_table.specs.Views.{ListedTable}
use Rattle.pool_table.proofs.Mapped.{all_one, not_one}
use Rattle.pool_table.proofs.dynamic_elements.DynamicElements.is_all_zero.Goals as goal

pub loop-index-preserved : goal.loop-index-preserved
loop-index-preserved g c = λ k d below.
    let i = c.self.inside in
    let f = g.K.ElementRule.element in
    let n : ℕ = c.loop-index.index in
    let inside : n < length i.elements.items = omega (arith, c.loop-index-test.true, c.len-index-end.ensures, i.elements.ok.0) in
    let here : get_or (map f i.elements.items) n d ≡ f c.index.result.now = get_or-map f i.elements.items n c.index.result.now d inside ∙ ap f (sym c.index.ensures) in
    let E : ListedTable → Type 0 = λ s. get_or s.elements n d ≡ empty s.kind in
    let is : E c.args.self.now = subst E c.self.view_is (here ∙ c.is_empty.ensures.0 c.if-not-is_empty.false) in
    elim (cases_lt k n) [
      | inl under ↦ c.loop-index.invariant k d under
      | inr over ↦
          let same : n ≡ k = omega (arith, below, over) in
          subst (λ (m : ℕ). get_or c.args.self.now.elements m d ≡ empty c.args.self.now.kind) same is
    ]

pub returns : goal.returns
returns g c =
    let i = c.self.inside in
    let f = g.K.ElementRule.element in
    let L : ListedTable → Type 0 = λ s. length s.elements ≡ i.elements.len in
    let long : length c.args.self.now.elements ≡ i.elements.len = subst L c.self.view_is (length-map i.elements.items f ∙ sym i.elements.ok.0) in (
      λ yes. all_one (empty c.args.self.now.kind) c.args.self.now.elements (λ k d below. c.loop-index.invariant k d (omega (arith, below, long, c.loop-index-test.false, c.len-index-end.ensures))),
      λ same. refl,
    )

pub returns-then-not-is_empty : goal.returns-then-not-is_empty
returns-then-not-is_empty g c =
    let i = c.self.inside in
    let f = g.K.ElementRule.element in
    let n : ℕ = c.loop-index.index in
    let d : Element = empty c.args.self.now.kind in
    let inside : n < length i.elements.items = omega (arith, c.loop-index-test.true, c.len-index-end.ensures, i.elements.ok.0) in
    let here : get_or (map f i.elements.items) n d ≡ f c.index.result.now = get_or-map f i.elements.items n c.index.result.now d inside ∙ ap f (sym c.index.ensures) in
    let L : ListedTable → Type 0 = λ s. length s.elements ≡ i.elements.len in
    let long : length c.args.self.now.elements ≡ i.elements.len = subst L c.self.view_is (length-map i.elements.items f ∙ sym i.elements.ok.0) in
    let E : ListedTable → Type 0 = λ s. get_or s.elements n d ≡ empty s.kind → ⊥ in
    let other : E c.args.self.now = subst E c.self.view_is (λ is. let yes : c.is_empty.result ≡ true = c.is_empty.ensures.1 (sym here ∙ is) in cc (c.if-not-is_empty.true)) in (
      λ no. cc,
      λ same. absurd (not_one d c.args.self.now.elements n d (omega (arith, long, c.loop-index-test.true, c.len-index-end.ensures)) other same),
    )

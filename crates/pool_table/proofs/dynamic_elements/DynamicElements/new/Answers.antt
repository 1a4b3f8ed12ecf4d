use Rattle.std.proofs.Common.{◌≡◌, ℕ, ◌-◌, ◌++◌, List, [], replicate, take, ap, ◌∙◌, arith, map}
use Rattle.pool_table.specs.Elements.{Element, empty}
use Rattle.pool_table.proofs.Mapped.{map_replicate, take_none}
use Rattle.pool_table.proofs.dynamic_elements.DynamicElements.new.Goals as goal

pub returns : goal.returns
returns g c =
    let f = g.K.ElementRule.element in
    let none : c.new-elements.result.items ≡ [] = c.new-elements.ensures.items in
    let count : c.args.size - c.new-elements.result.len ≡ c.args.size = omega (arith, c.new-elements.ensures.len) in
    let kind = g.K.ElementRule.kind c.args.rule in
    let items : map f c.resize.new.self.items ≡ replicate c.args.size (empty kind) =
    ap (map f) (c.in_ok-resize.ensures.items ∙ ap (λ xs. take c.args.size xs ++ replicate (c.args.size - c.new-elements.result.len) c.empty.result) none ∙ take_none c.args.size (replicate (c.args.size - c.new-elements.result.len) c.empty.result) ∙ ap (λ (n : ℕ). replicate n c.empty.result) count)
    ∙ map_replicate f c.args.size c.empty.result
    ∙ ap (λ (e : Element). replicate c.args.size e) c.empty.ensures in
    ap (λ (es : List Element). record { kind = kind; maximum = c.args.maximum; elements = es }) items

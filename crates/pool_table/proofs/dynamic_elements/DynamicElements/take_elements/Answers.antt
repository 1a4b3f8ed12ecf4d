use Rattle.std.proofs.Common.{◌≡◌, ◌-◌, ◌≤◌, ◌++◌, List, length, replicate, sym, ap, ◌∙◌, subst, arith, map}
use Rattle.std.proofs.lemmas.List.{length-map}
use Rattle.pool_table.specs.Elements.{Element, empty}
use Rattle.pool_table.specs.Views.{ListedTable}
use Rattle.pool_table.proofs.Mapped.{map_resized}
use Rattle.pool_table.proofs.dynamic_elements.DynamicElements.take_elements.Goals as goal

pub returns-clause-ok : goal.returns-clause-ok
returns-clause-ok g c =
    let i = c.self.inside in
    let f = g.K.ElementRule.element in
    let kind = g.K.ElementRule.kind i.rule in
    let t : ListedTable = record { kind = kind; maximum = i.maximum; elements = map f i.elements.items } in
    let M : ListedTable → Type 0 = λ s. length s.elements ≤ c.args.size in
    let more : length t.elements ≤ c.args.size = subst M (sym c.self.view_is) c.requires.more in
    let enough : length i.elements.items ≤ c.args.size = omega (arith, more, length-map i.elements.items f) in
    let items : map f c.resize.new.self.items ≡ t.elements ++ replicate (c.args.size - length t.elements) (f c.empty-empty.result) =
    map_resized f c.args.size i.elements.len c.empty-empty.result i.elements.items c.resize.new.self.items i.elements.ok.0 enough c.in_ok-resize.ensures.items in
    let E : ListedTable → Type 0 = λ s. record { kind = kind; maximum = i.maximum; elements = map f c.resize.new.self.items } ≡ record s { elements = s.elements ++ replicate (c.args.size - length s.elements) (empty s.kind) } in
    subst E c.self.view_is (
    ap (λ (es : List Element). record { kind = kind; maximum = i.maximum; elements = es }) (items ∙ ap (λ (e : Element). t.elements ++ replicate (c.args.size - length t.elements) e) c.empty-empty.ensures)
    )

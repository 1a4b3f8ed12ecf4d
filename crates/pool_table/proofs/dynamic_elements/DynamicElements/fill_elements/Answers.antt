use Rattle.std.proofs.Common.{◌≡◌, List, ap, ◌∙◌, subst, map}
use Rattle.pool_pages.specs.Contents.{put_all}
use Rattle.pool_table.specs.Elements.{Element}
use Rattle.pool_table.specs.Views.{ListedTable}
use Rattle.pool_table.proofs.Mapped.{map_put_all}
use Rattle.pool_table.proofs.dynamic_elements.DynamicElements.fill_elements.Goals as goal

pub returns : goal.returns
returns g c =
    let i = c.self.inside in
    let f = g.K.ElementRule.element in
    let kind = g.K.ElementRule.kind i.rule in
    let items : map f c.fill_items.new.items.items ≡ put_all c.args.first c.args.count (f c.args.item) (map f i.elements.items) =
    ap (map f) c.fill_items.ensures ∙ map_put_all f c.args.first c.args.count c.args.item i.elements.items in
    let E : ListedTable → Type 0 = λ s. record { kind = kind; maximum = i.maximum; elements = map f c.fill_items.new.items.items } ≡ record s { elements = put_all c.args.first c.args.count (f c.args.item) s.elements } in
    subst E c.self.view_is (ap (λ (es : List Element). record { kind = kind; maximum = i.maximum; elements = es }) items)

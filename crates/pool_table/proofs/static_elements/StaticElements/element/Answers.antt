use Rattle.std.proofs.Common.{◌≡◌, ◌<◌, ◌≤◌, ℕ, List, length, sym, ◌∙◌, subst, IfSome, Some, slice_get}
use Rattle.pool_table.specs.Elements.{ElementKind, element_of}
use Rattle.pool_table.specs.Tables.{TableState, elements}
use Rattle.pool_table.proofs.Accesses.{width_small, front, front_long, read_element}
use Rattle.pool_table.proofs.static_elements.StaticElements.element.Goals as goal

pub returns : goal.returns
returns g c =
    let i = c.self.inside in
    let kind : ElementKind = g.K.ElementRule.kind i.rule in
    let t : TableState = record { kind = kind; size = i.size; maximum = i.maximum; region = g.P.Pages.told i.region } in
    let w : ℕ = c.width-width.result in
    let small : w ≤ 16 = rw c.width-width.ensures (width_small kind) in
    let long : length c.read.new.out ≡ w = c.read.auto.out ∙ front_long w _ small in
    let L : ℕ → Type 0 = λ n. n ≡ w in
    let D : List ℕ → Type 0 = λ bs. g.K.ElementRule.element c.decode.result ≡ element_of kind bs in
    let S : TableState → Type 0 = λ s. c.args.index < s.size in
    let R : TableState → Type 0 = λ s. IfSome (elements s) (λ es. slice_get es c.args.index ≡ Some (g.K.ElementRule.element c.decode.result)) in
    subst R c.self.view_is
    (read_element t c.args.index w _ c.read.new.out (g.K.ElementRule.element c.decode.result) (subst S (sym c.self.view_is) c.requires) c.width-width.ensures (front_long w _ small) c.read.ensures (subst D (front w c.read.new.out _ long) c.decode.ensures))

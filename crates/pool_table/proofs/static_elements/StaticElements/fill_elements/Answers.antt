use Rattle.std.proofs.Common.{◌≡◌, ◌+◌, ◌*◌, ◌≤◌, ℕ, List, length, sym, ◌∙◌, subst}
use Rattle.pool_table.specs.Elements.{ElementKind, Element, IsElement, width}
use Rattle.pool_table.specs.Tables.{TableState, Rewrites, Fills}
use Rattle.pool_table.proofs.Copies.{copies}
use Rattle.pool_table.proofs.Accesses.{width_small, front, front_long, filled, filled_inside}
use Rattle.pool_table.proofs.Kept.{table_still}
use Rattle.pool_table.proofs.Words.{reads_back}
use Rattle.pool_table.proofs.static_elements.StaticElements.fill_elements.Goals as goal

pub invariant_of-self : goal.invariant_of-self
invariant_of-self g c =
    let i = c.self.inside in
    let kind : ElementKind = g.K.ElementRule.kind i.rule in
    let t : TableState = record { kind = kind; size = i.size; maximum = i.maximum; region = g.P.Pages.told i.region } in
    let w : ℕ = c.width-width.result in
    let small : w ≤ 16 = rw c.width-width.ensures (width_small kind) in
    let long : length c.encode.new.out ≡ w = c.encode.auto.out ∙ front_long w _ small in
    let N : TableState → Type 0 = λ s. c.args.first + c.args.count ≤ s.size in
    let W : ℕ → Type 0 = λ n. Rewrites (c.args.first * n) (copies c.args.count c.encode.new.out) (g.P.Pages.told i.region) (g.P.Pages.told c.write_words.new.region) in
    let B : List ℕ → Type 0 = λ bs. Rewrites (c.args.first * w) (copies c.args.count bs) (g.P.Pages.told i.region) (g.P.Pages.told c.write_words.new.region) in
    let rewrites : W (width kind) = subst W c.width-width.ensures (subst B (front w c.encode.new.out _ long) c.write_words.ensures.words) in
    table_still t (c.args.first * width kind) (copies c.args.count c.encode.new.out) (g.P.Pages.told c.write_words.new.region) c.self.invariant rewrites c.write_words.ensures.shaped
    (filled_inside t c.args.first c.args.count c.encode.new.out (subst N (sym c.self.view_is) c.requires.inside) (long ∙ c.width-width.ensures))

pub returns : goal.returns
returns g c =
    let i = c.self.inside in
    let kind : ElementKind = g.K.ElementRule.kind i.rule in
    let e : Element = g.K.ElementRule.element c.args.item in
    let t : TableState = record { kind = kind; size = i.size; maximum = i.maximum; region = g.P.Pages.told i.region } in
    let r = g.P.Pages.told c.write_words.new.region in
    let w : ℕ = c.width-width.result in
    let small : w ≤ 16 = rw c.width-width.ensures (width_small kind) in
    let long : length c.encode.new.out ≡ w = c.encode.auto.out ∙ front_long w _ small in
    let N : TableState → Type 0 = λ s. c.args.first + c.args.count ≤ s.size in
    let V : TableState → Type 0 = λ s. IsElement s.kind e in
    let F : TableState → Type 0 = λ s. Fills c.args.first c.args.count e s (record t { region = r }) in
    let W : ℕ → Type 0 = λ n. Rewrites (c.args.first * n) (copies c.args.count c.encode.new.out) (g.P.Pages.told i.region) r in
    let B : List ℕ → Type 0 = λ bs. Rewrites (c.args.first * w) (copies c.args.count bs) (g.P.Pages.told i.region) r in
    let rewrites : W (width kind) = subst W c.width-width.ensures (subst B (front w c.encode.new.out _ long) c.write_words.ensures.words) in
    subst F c.self.view_is
    (filled t c.args.first c.args.count e c.encode.new.out r c.self.invariant c.encode.ensures (subst V (sym c.self.view_is) c.requires.valid) (long ∙ c.width-width.ensures) reads_back (subst N (sym c.self.view_is) c.requires.inside) rewrites)

use Rattle.std.proofs.Common.{◌-◌, ◌≤◌, sym, subst}
use Rattle.pool_table.specs.Tables.{TableState, GrowsBy}
use Rattle.pool_table.proofs.Growths.{taken, taken_is_table}
use Rattle.pool_table.proofs.static_elements.StaticElements.take_elements.Goals as goal

pub invariant_of-self : goal.invariant_of-self
invariant_of-self g c =
    let i = c.self.inside in
    let t : TableState = record { kind = g.K.ElementRule.kind i.rule; size = i.size; maximum = i.maximum; region = g.P.Pages.told i.region } in
    let M : TableState → Type 0 = λ s. s.size ≤ c.args.size in
    let N : TableState → Type 0 = λ s. c.args.size ≤ s.maximum in
    taken_is_table t c.args.size c.self.invariant (subst M (sym c.self.view_is) c.requires.more) (subst N (sym c.self.view_is) c.requires.room)

pub returns : goal.returns
returns g c =
    let i = c.self.inside in
    let t : TableState = record { kind = g.K.ElementRule.kind i.rule; size = i.size; maximum = i.maximum; region = g.P.Pages.told i.region } in
    let M : TableState → Type 0 = λ s. s.size ≤ c.args.size in
    let N : TableState → Type 0 = λ s. c.args.size ≤ s.maximum in
    let G : TableState → Type 0 = λ s. GrowsBy (c.args.size - s.size) s (record t { size = c.args.size }) in
    subst G c.self.view_is (taken t c.args.size c.self.invariant (subst M (sym c.self.view_is) c.requires.more) (subst N (sym c.self.view_is) c.requires.room))

use Rattle.std.proofs.Common.{◌+◌, ◌≤◌, replicate, sym, subst}
use Rattle.pool_table.specs.Tables.{TableState}
use Rattle.pool_table.proofs.Zeros.{zeroed_still}
use Rattle.pool_table.proofs.static_elements.StaticElements.zero_range.Goals as goal

pub invariant_of-self : goal.invariant_of-self
invariant_of-self g c =
    let i = c.self.inside in
    let t : TableState = record { kind = g.K.ElementRule.kind i.rule; size = i.size; maximum = i.maximum; region = g.P.Pages.told i.region } in
    let r = g.P.Pages.told c.fill.new.self in
    let N : TableState → Type 0 = λ s. c.args.start + c.args.len ≤ s.region.len in
    zeroed_still t c.args.start c.args.len r c.self.invariant c.fill.ensures.written c.fill.ensures.shaped (subst N (sym c.self.view_is) c.requires.inside)

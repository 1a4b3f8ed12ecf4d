use Rattle.std.proofs.Common.{sym, subst}
use Rattle.pool_pages.specs.Told.{IsRange}
use Rattle.pool_table.specs.Tables.{TableState}
use Rattle.pool_table.proofs.Zeros.{decommitted_still}
use Rattle.pool_table.proofs.static_elements.StaticElements.decommit.Goals as goal

pub invariant_of-self : goal.invariant_of-self
invariant_of-self g c =
    let i = c.self.inside in
    let t : TableState = record { kind = g.K.ElementRule.kind i.rule; size = i.size; maximum = i.maximum; region = g.P.Pages.told i.region } in
    let N : TableState → Type 0 = λ s. IsRange c.args.start c.args.len s.region in
    decommitted_still t c.args.start c.args.len (g.P.Pages.told c.decommit.new.self) c.decommit.result c.self.invariant (subst N (sym c.self.view_is) c.requires) c.decommit.ensures.ok c.decommit.ensures.fault c.decommit.ensures.shaped

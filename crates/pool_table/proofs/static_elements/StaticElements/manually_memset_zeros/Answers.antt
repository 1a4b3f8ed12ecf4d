use Rattle.std.proofs.Common.{◌≡◌, ◌*◌, ℕ, replicate, subst, arith}
use Rattle.pool_pages.specs.Told.{Told, overwritten}
use Rattle.pool_table.proofs.Imports.{mul-le-mul_right}
use Rattle.pool_table.specs.Elements.{width}
use Rattle.pool_table.specs.Tables.{TableState, Empties}
use Rattle.pool_table.proofs.Zeros.{emptied_table, zeroed_still}
use Rattle.pool_table.proofs.static_elements.StaticElements.manually_memset_zeros.Goals as goal

pub invariant_of-self : goal.invariant_of-self
invariant_of-self g c =
    let i = c.self.inside in
    let t : TableState = record { kind = g.K.ElementRule.kind i.rule; size = i.size; maximum = i.maximum; region = g.P.Pages.told i.region } in
    let r : Told = g.P.Pages.told c.fill.new.self in
    let W : ℕ → Type 0 = λ n. r ≡ overwritten 0 (replicate (i.size * n) 0) t.region in
    let written : W (width t.kind) = subst W c.width.ensures c.fill.ensures.written in
    zeroed_still t 0 (t.size * width t.kind) r c.self.invariant written c.fill.ensures.shaped
    (omega (arith, c.self.invariant.room, mul-le-mul_right (width t.kind) c.self.invariant.within))

pub returns : goal.returns
returns g c =
    let i = c.self.inside in
    let t : TableState = record { kind = g.K.ElementRule.kind i.rule; size = i.size; maximum = i.maximum; region = g.P.Pages.told i.region } in
    let r : Told = g.P.Pages.told c.fill.new.self in
    let W : ℕ → Type 0 = λ n. r ≡ overwritten 0 (replicate (i.size * n) 0) t.region in
    let written : W (width t.kind) = subst W c.width.ensures c.fill.ensures.written in
    let E : TableState → Type 0 = λ s. Empties s (record t { region = r }) in
    subst E c.self.view_is (emptied_table t r c.self.invariant written)

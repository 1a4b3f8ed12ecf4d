use Rattle.std.proofs.Common.{◌+◌, ◌^◌, ◌<◌, ◌≤◌, ℕ, Some, Ok, sym, subst, arith, inl}
use Rattle.pool_table.specs.Views.{TableView}
use Rattle.pool_table.specs.TableStates.{table_view}
use Rattle.pool_table.specs.Growing.{TableGrowsAsking}
use Rattle.pool_table.proofs.Growths.{grown_nothing, grown_past_type}
use Rattle.pool_table.proofs.table.Table.grow_asking.Goals as goal

pub returns-then-delta-eq0-clause-growth : goal.returns-then-delta-eq0-clause-growth
returns-then-delta-eq0-clause-growth g c =
    let old : TableView = table_view c.args.self.now in
    let told = g.R.ResourceLimiter.told in
    let leads = g.R.ResourceLimiter.leads in
    let l = c.args.limiter.now in
    let P : ℕ → Type 0 = λ n. TableGrowsAsking told leads c.args.delta old old (Some l) (Some l) (Ok (Some n)) in
    inl (subst P (sym c.size-old.ensures.value) (grown_nothing told leads c.args.delta old l c.if-delta-eq0.true))

pub returns-in-None-clause-growth : goal.returns-in-None-clause-growth
returns-in-None-clause-growth g c =
    let old : TableView = table_view c.args.self.now in
    let no : c.size-old.result + c.args.delta < 2 ^ 64 → ⊥ = c.in-None.ensures in
    let past : 2 ^ 64 ≤ old.size + c.args.delta = omega (arith, c.size-old.ensures.value, no) in
    inl (grown_past_type g.R.ResourceLimiter.told g.R.ResourceLimiter.leads c.args.delta old c.args.limiter.now c.report_failure.new.limiter c.report_failure.result c.if-delta-eq0.false past c.report_failure.ensures)

use Rattle.std.proofs.Common.{◌≡◌, ◌-◌, ◌≤◌, ◌<◌, ℕ, Bool, true, false, nat_lt, Ok, Some, refl, sym, subst, arith, inl, inr}
use Rattle.pool_table.proofs.Imports.{nat_tests, lt-ltb, IsAllowed, allowed_grown, allowed_past}
use Rattle.pool_limits.specs.declared.growing.Growable.TheVariants.{Table}
use Rattle.pool_table.specs.Views.{TableView, GrowsTable}
use Rattle.pool_table.specs.TableStates.{table_view}
use Rattle.pool_table.proofs.table.Table.grow_allowed.Goals as goal

within : (size most : ℕ) → size ≤ most → nat_lt most size ≡ false
within size most below = grind (arith, nat_tests)

pub returns-then-size-maximum-clause-growth : goal.returns-then-size-maximum-clause-growth
returns-then-size-maximum-clause-growth g c =
    let old : TableView = table_view c.args.self.now in
    let told = g.R.ResourceLimiter.told in
    let leads = g.R.ResourceLimiter.leads in
    let above : old.maximum < c.args.size = rw (sym c.maximum.ensures) c.if-size-maximum.true in
    let P : Bool → Type 0 = λ b. IsAllowed told leads Table b old.size (old ≡ old) (GrowsTable (c.args.size - old.size) old old) (λ e. ⊥) c.args.limiter.now c.report_failure.new.limiter c.report_failure.result in
    inl (subst P (sym (lt-ltb old.maximum c.args.size above)) (allowed_past told leads Table old.size (old ≡ old) (GrowsTable (c.args.size - old.size) old old) (λ e. ⊥) c.args.limiter.now c.report_failure.new.limiter c.report_failure.result c.report_failure.ensures refl))

pub returns-in-Ok-clause-growth : goal.returns-in-Ok-clause-growth
returns-in-Ok-clause-growth g c =
    let old : TableView = table_view c.args.self.now in
    let new : TableView = table_view c.take_elements.new.self in
    let told = g.R.ResourceLimiter.told in
    let leads = g.R.ResourceLimiter.leads in
    let l = c.args.limiter.now in
    let most : ℕ = old.maximum in
    let below : c.args.size ≤ most = rw (sym c.maximum.ensures) c.if-size-maximum.false in
    let P : Bool → ℕ → Type 0 = λ b n. IsAllowed told leads Table b old.size (new ≡ old) (GrowsTable (c.args.size - old.size) old new) (λ e. ⊥) l l (Ok (Some n)) in
    let grown : P false old.size = allowed_grown told leads Table old.size (new ≡ old) (GrowsTable (c.args.size - old.size) old new) (λ e. ⊥) l c.in-Ok.ensures.ok in
    inl (subst (λ (n : ℕ). P (nat_lt most c.args.size) n) (sym c.size-old.ensures.value) (subst (λ (b : Bool). P b old.size) (sym (within c.args.size most below)) grown))

pub returns-in-Err-clause-growth : goal.returns-in-Err-clause-growth
returns-in-Err-clause-growth g c =
    let below : c.args.size ≤ (table_view c.args.self.now).maximum = rw (sym c.maximum.ensures) c.if-size-maximum.false in
    inr (record { listed = c.in-Err.ensures.memory; within = below; replies = refl; same = c.in-Err.ensures.err; unasked = refl })

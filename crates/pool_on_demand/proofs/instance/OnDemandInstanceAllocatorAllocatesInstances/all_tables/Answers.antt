use Rattle.std.proofs.Common.{List, arith, refl, subst}
use Rattle.pool_on_demand.proofs.Imports.{limiter_told, TableType, if_leads, lent}
use Rattle.pool_on_demand.specs.InTurn.{InTurn, StopsAtOne}
use Rattle.pool_on_demand.specs.Instances.{TableOf}
use Rattle.pool_on_demand.proofs.Requested.{same_then, same_table}
use Rattle.pool_on_demand.proofs.InTurns.{step_on, step_off, step_end}
use Rattle.pool_on_demand.proofs.instance.OnDemandInstanceAllocatorAllocatesInstances.all_tables.Goals as goal

pub returns-in-Err-clause-made : goal.returns-in-Err-clause-made
returns-in-Err-clause-made g c = λ maker.
    subst (λ (ts : List TableType). StopsAtOne (TableOf (limiter_told g.R.ResourceLimiter.told) (if_leads g.R.ResourceLimiter.leads) c.args.request.now.tunables.now.table_lazy_init) 0 ts c.in-Err.error (record { maker = maker; limiter = lent c.args.request.now.limiter }) (record { maker = maker; limiter = lent c.next_table.new.request.limiter })) c.as_slice-types.ensures
    (step_off (TableOf (limiter_told g.R.ResourceLimiter.told) (if_leads g.R.ResourceLimiter.leads) c.args.request.now.tunables.now.table_lazy_init) c.as_slice-types.result.now c.loop-at.at _ _ c.loop-at.leases.items c.in-Err.error _ _ _ c.loop-at-test.true refl (c.loop-at.invariant.1.1.1 maker) (same_table c.args.request.now c.loop-at.request c.loop-at.invariant.1.1.0 (limiter_told g.R.ResourceLimiter.told) (if_leads g.R.ResourceLimiter.leads) _ _ _ _ (c.in-Err.ensures.made maker)))

pub loop-at-preserved : goal.loop-at-preserved
loop-at-preserved g c = (
  omega (arith, c.push_reserved.ensures.capacity, c.loop-at.invariant.0),
  (
    omega (arith, c.push_reserved.ensures.len, c.loop-at.invariant.1.0),
    (
      same_then c.args.request.now c.loop-at.request c.loop-at.invariant.1.1.0 c.next_table.new.request c.in-Ok.ensures.request,
      λ maker. step_on (TableOf (limiter_told g.R.ResourceLimiter.told) (if_leads g.R.ResourceLimiter.leads) c.args.request.now.tunables.now.table_lazy_init) c.as_slice-types.result.now c.loop-at.at _ _ c.loop-at.leases.items c.push_reserved.new.self.items c.in-Ok.lease _ _ _ c.loop-at-test.true c.push_reserved.ensures.items refl (c.loop-at.invariant.1.1.1 maker) (same_table c.args.request.now c.loop-at.request c.loop-at.invariant.1.1.0 (limiter_told g.R.ResourceLimiter.told) (if_leads g.R.ResourceLimiter.leads) _ _ _ _ (c.in-Ok.ensures.made maker)),
    ),
  ),
)

pub returns-clause-made : goal.returns-clause-made
returns-clause-made g c = λ maker.
    subst (λ (ts : List TableType). InTurn (TableOf (limiter_told g.R.ResourceLimiter.told) (if_leads g.R.ResourceLimiter.leads) c.args.request.now.tunables.now.table_lazy_init) 0 ts c.loop-at.leases.items (record { maker = maker; limiter = lent c.args.request.now.limiter }) (record { maker = maker; limiter = lent c.loop-at.request.limiter })) c.as_slice-types.ensures
    (step_end (TableOf (limiter_told g.R.ResourceLimiter.told) (if_leads g.R.ResourceLimiter.leads) c.args.request.now.tunables.now.table_lazy_init) c.as_slice-types.result.now c.loop-at.at c.loop-at.leases.items _ _ (search) c.loop-at.auto.at-end (c.loop-at.invariant.1.1.1 maker))

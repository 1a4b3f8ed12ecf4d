use Rattle.std.proofs.Common.{◌≡◌, ◌≤◌, length, vec_len, take, vec_capacity}
use Rattle.pool_on_demand.proofs.Imports.{limiter_told, MakerTold, IsSameRequest, if_leads, lent}
use Rattle.pool_on_demand.specs.InTurn.{InTurn}
use Rattle.pool_on_demand.specs.Instances.{TableOf}
use Rattle.pool_on_demand.proofs.instance.OnDemandInstanceAllocatorAllocatesInstances.all_tables.Given as goal

abbrev pub invariant-loop-at : goal.invariant-loop-at
invariant-loop-at g l =
    (length l.types ≤ vec_capacity l.leases)
    × ((vec_len l.leases ≡ l.at)
    × (IsSameRequest l.fn.request l.request
    × ((maker : MakerTold) → InTurn (TableOf (limiter_told g.R.ResourceLimiter.told) (if_leads g.R.ResourceLimiter.leads) l.fn.request.tunables.now.table_lazy_init) 0 (take l.at l.types) l.leases.items (record { maker = maker; limiter = lent l.fn.request.limiter }) (record { maker = maker; limiter = lent l.request.limiter }))))

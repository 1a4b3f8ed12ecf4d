use Rattle.std.proofs.Common.{◌≡◌, ◌≤◌, length, vec_len, take, vec_capacity, option_map}
use Rattle.pool_on_demand.proofs.Imports.{limiter_told, LinearMemory, IsSameRequest, if_leads, lent}
use Rattle.pool_on_demand.specs.InTurn.{InTurn}
use Rattle.pool_on_demand.specs.Instances.{MemoryOf}
use Rattle.pool_on_demand.proofs.instance.OnDemandInstanceAllocatorAllocatesInstances.all_memories.Given as goal

abbrev pub invariant-loop-at : goal.invariant-loop-at
invariant-loop-at g l =
    (length l.decls ≤ vec_capacity l.leases)
    × ((vec_len l.leases ≡ l.at)
    × (IsSameRequest l.fn.request l.request
    × ((g.M.PageMaker.borrows l.maker ≡ g.M.PageMaker.borrows l.fn.maker)
    × (((g.M.PageMaker.told l.maker).page ≡ (g.M.PageMaker.told l.fn.maker).page)
    × InTurn (MemoryOf (limiter_told g.R.ResourceLimiter.told) (if_leads g.R.ResourceLimiter.leads) (g.C.RuntimeMemoryCreator.refuses l.self.creator) (g.C.RuntimeMemoryCreator.designs l.self.creator) (record { tunables = l.fn.request.tunables.now; kind = LinearMemory }) (option_map (λ i. i.now) l.fn.request.images)) 0 (take l.at l.decls) l.leases.items (record { maker = g.M.PageMaker.told l.fn.maker; limiter = lent l.fn.request.limiter }) (record { maker = g.M.PageMaker.told l.maker; limiter = lent l.request.limiter })))))

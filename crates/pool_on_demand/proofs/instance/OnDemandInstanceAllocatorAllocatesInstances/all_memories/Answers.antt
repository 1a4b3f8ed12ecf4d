use Rattle.std.proofs.Common.{List, get_or, ap, ◌∙◌, arith, refl, subst, Some, option_map}
use Rattle.pool_on_demand.proofs.Imports.{limiter_told, MakerTold, MemoryDecl, LinearMemory, if_leads, lent}
use Rattle.pool_on_demand.specs.InTurn.{StopsAtOne}
use Rattle.pool_on_demand.specs.Instances.{MemoryOf}
use Rattle.pool_on_demand.proofs.Requested.{same_then, same_memory}
use Rattle.pool_on_demand.proofs.InTurns.{step_on, step_off}
use Rattle.pool_on_demand.proofs.instance.OnDemandInstanceAllocatorAllocatesInstances.all_memories.Goals as goal

pub returns-in-Err-clause-made : goal.returns-in-Err-clause-made
returns-in-Err-clause-made g c =
    subst (λ (ds : List MemoryDecl). StopsAtOne (MemoryOf (limiter_told g.R.ResourceLimiter.told) (if_leads g.R.ResourceLimiter.leads) (g.C.RuntimeMemoryCreator.refuses c.args.self.now.creator) (g.C.RuntimeMemoryCreator.designs c.args.self.now.creator) (record { tunables = c.args.request.now.tunables.now; kind = LinearMemory }) (option_map (λ i. i.now) c.args.request.now.images)) 0 ds c.in-Err.error (record { maker = g.M.PageMaker.told c.args.maker.now; limiter = lent c.args.request.now.limiter }) (record { maker = g.M.PageMaker.told c.next_memory.new.maker; limiter = lent c.next_memory.new.request.limiter })) c.as_slice-decls.ensures
    (step_off (MemoryOf (limiter_told g.R.ResourceLimiter.told) (if_leads g.R.ResourceLimiter.leads) (g.C.RuntimeMemoryCreator.refuses c.args.self.now.creator) (g.C.RuntimeMemoryCreator.designs c.args.self.now.creator) (record { tunables = c.args.request.now.tunables.now; kind = LinearMemory }) (option_map (λ i. i.now) c.args.request.now.images)) c.as_slice-decls.result.now c.loop-at.at c.index-decls-at.result (get_or c.as_slice-decls.result.now c.loop-at.at c.index-decls-at.result) c.loop-at.leases.items c.in-Err.error _ _ _ c.loop-at-test.true refl c.loop-at.invariant.1.1.1.1.1 (same_memory c.args.request.now c.loop-at.request c.loop-at.invariant.1.1.0 (limiter_told g.R.ResourceLimiter.told) (if_leads g.R.ResourceLimiter.leads) (g.C.RuntimeMemoryCreator.refuses c.args.self.now.creator) (g.C.RuntimeMemoryCreator.designs c.args.self.now.creator) LinearMemory (Some (record { 0 = c.loop-at.at })) _ _ _ _ c.in-Err.ensures.made))

pub loop-at-preserved : goal.loop-at-preserved
loop-at-preserved g c = (
  omega (arith, c.push_reserved.ensures.capacity, c.loop-at.invariant.0),
  (
    omega (arith, c.push_reserved.ensures.len, c.loop-at.invariant.1.0),
    (
      same_then c.args.request.now c.loop-at.request c.loop-at.invariant.1.1.0 c.next_memory.new.request c.in-Ok.ensures.request,
      (
        c.in-Ok.ensures.borrows ∙ c.loop-at.invariant.1.1.1.0,
        (
          ap (λ (m : MakerTold). m.page) c.in-Ok.ensures.made.maker.same ∙ c.loop-at.invariant.1.1.1.1.0,
          step_on (MemoryOf (limiter_told g.R.ResourceLimiter.told) (if_leads g.R.ResourceLimiter.leads) (g.C.RuntimeMemoryCreator.refuses c.args.self.now.creator) (g.C.RuntimeMemoryCreator.designs c.args.self.now.creator) (record { tunables = c.args.request.now.tunables.now; kind = LinearMemory }) (option_map (λ i. i.now) c.args.request.now.images)) c.as_slice-decls.result.now c.loop-at.at c.index-decls-at.result (get_or c.as_slice-decls.result.now c.loop-at.at c.index-decls-at.result) c.loop-at.leases.items c.push_reserved.new.self.items c.in-Ok.lease _ _ _ c.loop-at-test.true c.push_reserved.ensures.items refl c.loop-at.invariant.1.1.1.1.1 (same_memory c.args.request.now c.loop-at.request c.loop-at.invariant.1.1.0 (limiter_told g.R.ResourceLimiter.told) (if_leads g.R.ResourceLimiter.leads) (g.C.RuntimeMemoryCreator.refuses c.args.self.now.creator) (g.C.RuntimeMemoryCreator.designs c.args.self.now.creator) LinearMemory (Some (record { 0 = c.loop-at.at })) _ _ _ _ c.in-Ok.ensures.made),
        ),
      ),
    ),
  ),
)

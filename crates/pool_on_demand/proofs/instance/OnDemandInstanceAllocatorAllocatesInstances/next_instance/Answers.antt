use Rattle.std.proofs.Common.{◌≡◌, List, length, ap, sym, ◌∙◌, refl, None, option_map}
use Rattle.pool_on_demand.proofs.Imports.{limiter_told, LinearMemory, if_leads, lent}
use Rattle.pool_on_demand.specs.Refusals.{module_refused}
use Rattle.pool_on_demand.specs.Instances.{MemoryOf}
use Rattle.pool_on_demand.proofs.Granted.{all_made, table_refused_then}
use Rattle.pool_on_demand.proofs.InTurns.{as_many}
use Rattle.pool_on_demand.proofs.Requested.{same_tables, same_stop}
use Rattle.pool_on_demand.proofs.instance.OnDemandInstanceAllocatorAllocatesInstances.next_instance.Goals as goal

pub returns-in-Ok-all_tables-clause-granted : goal.returns-in-Ok-all_tables-clause-granted
returns-in-Ok-all_tables-clause-granted g c =
    let fine : module_refused c.args.request.now.module.now ≡ None = sym c.module_refused.ensures ∙ c.in_default.is in
    all_made (limiter_told g.R.ResourceLimiter.told) (if_leads g.R.ResourceLimiter.leads) (g.C.RuntimeMemoryCreator.refuses c.args.self.now.creator) (g.C.RuntimeMemoryCreator.designs c.args.self.now.creator) (record { tunables = c.args.request.now.tunables.now; kind = LinearMemory }) c.args.request.now.module.now (option_map (λ i. i.now) c.args.request.now.images) g.row.M-Region.Denot (record { tunables = c.args.request.now.tunables.now; kind = LinearMemory }) c.args.request.now.module.now.memories c.args.request.now.module.now.tables c.in-Ok.memories.items c.in-Ok-all_tables.tables.items _ _ (record { maker = g.M.PageMaker.told c.all_memories.new.maker; limiter = lent c.all_memories.new.request.limiter }) _ fine refl refl refl c.from_vec.ensures c.from_vec-in-Ok-all_tables.ensures c.in-Ok.ensures.made (same_tables c.args.request.now c.all_memories.new.request c.in-Ok.ensures.request (limiter_told g.R.ResourceLimiter.told) (if_leads g.R.ResourceLimiter.leads) _ _ _ (c.in-Ok-all_tables.ensures.made (g.M.PageMaker.told c.all_memories.new.maker)))

pub returns-in-Err-all_tables-clause-granted : goal.returns-in-Err-all_tables-clause-granted
returns-in-Err-all_tables-clause-granted g c =
    let fine : module_refused c.args.request.now.module.now ≡ None = sym c.module_refused.ensures ∙ c.in_default.is in
    table_refused_then (limiter_told g.R.ResourceLimiter.told) (if_leads g.R.ResourceLimiter.leads) (g.C.RuntimeMemoryCreator.refuses c.args.self.now.creator) (g.C.RuntimeMemoryCreator.designs c.args.self.now.creator) (record { tunables = c.args.request.now.tunables.now; kind = LinearMemory }) c.args.request.now.module.now (option_map (λ i. i.now) c.args.request.now.images) g.row.M-Region.Denot (record { tunables = c.args.request.now.tunables.now; kind = LinearMemory }) c.args.request.now.module.now.memories c.args.request.now.module.now.tables c.in-Ok.memories.items c.in-Err-all_tables.error _ (record { maker = g.M.PageMaker.told c.all_memories.new.maker; limiter = lent c.all_memories.new.request.limiter }) _ fine refl refl refl c.in-Ok.ensures.made (same_stop c.args.request.now c.all_memories.new.request c.in-Ok.ensures.request (limiter_told g.R.ResourceLimiter.told) (if_leads g.R.ResourceLimiter.leads) _ _ _ _ (c.in-Err-all_tables.ensures.made (g.M.PageMaker.told c.all_memories.new.maker)))

pub returns-in-Ok-all_tables-clause-memories : goal.returns-in-Ok-all_tables-clause-memories
returns-in-Ok-all_tables-clause-memories g c =
    ap length c.from_vec.ensures
    ∙ as_many (MemoryOf (limiter_told g.R.ResourceLimiter.told) (if_leads g.R.ResourceLimiter.leads) (g.C.RuntimeMemoryCreator.refuses c.args.self.now.creator) (g.C.RuntimeMemoryCreator.designs c.args.self.now.creator) (record { tunables = c.args.request.now.tunables.now; kind = LinearMemory }) (option_map (λ i. i.now) c.args.request.now.images)) 0 c.args.request.now.module.now.memories c.in-Ok.memories.items (record { maker = g.M.PageMaker.told c.args.maker.now; limiter = lent c.args.request.now.limiter }) (record { maker = g.M.PageMaker.told c.all_memories.new.maker; limiter = lent c.all_memories.new.request.limiter }) c.in-Ok.ensures.made

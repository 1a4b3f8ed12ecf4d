use Rattle.pool_memory.specs.Growing.{grown_size}
use Rattle.pool_memory.proofs.Growths.{growth_first}
use Rattle.pool_memory.proofs.local_memory.LocalMemory.grow_from.Goals as goal

pub returns-clause-growth : goal.returns-clause-growth
returns-clause-growth g c =
    let old = c.args.self.now in
    growth_first g.R.ResourceLimiter.told g.R.ResourceLimiter.leads c.args.delta_pages (old.linear.size, grown_size c.args.delta_pages old) old c.grow_asking.new.self (g.L.RuntimeLinearMemory.maker_told c.args.maker.now) (g.L.RuntimeLinearMemory.maker_told c.grow_asking.new.maker) c.args.limiter.now c.grow_asking.new.limiter c.grow_asking.result c.old_size.result c.old_size.ensures c.grow_asking.ensures.growth

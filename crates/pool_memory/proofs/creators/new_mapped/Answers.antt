use Rattle.std.proofs.Common.{ℕ, Err}
use Rattle.pool_memory.specs.Layouts.{first_layout}
use Rattle.pool_memory.proofs.Creations.{mapped_as_made, mapped_leaves}
use Rattle.pool_memory.proofs.creators.new_mapped.Goals as goal

pub returns-in-Ok-clause-made : goal.returns-in-Ok-clause-made
returns-in-Ok-clause-made g c = mapped_as_made (g.M.PageMaker.told c.args.maker.now) (g.M.PageMaker.told c.new.new.maker) c.args.tunables.now c.args.minimum _ c.in-Ok.memory c.in-Ok.ensures.ok c.in-Ok.ensures.made c.in-Ok.ensures.maker.made.asked

pub returns-in-Err-clause-counts : goal.returns-in-Err-clause-counts
returns-in-Err-clause-counts g c = mapped_leaves {X = ℕ} (first_layout (g.M.PageMaker.told c.args.maker.now).page c.args.tunables.now c.args.minimum) c.args.minimum (Err c.in-Err.error) (g.M.PageMaker.told c.args.maker.now) (g.M.PageMaker.told c.new.new.maker) c.in-Err.ensures.maker

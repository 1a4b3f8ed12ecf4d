use Rattle.pool_shared.proofs.Growth.{grows_more}
use Rattle.pool_shared.proofs.kept.Kept.grow.Goals as goal

pub invariant_of-self : goal.invariant_of-self
invariant_of-self g c = record { grown = grows_more g.S.SizeAsMade.size c.args.delta c.args.self.now.state.memory c.grow.new.self.memory c.grow.result c.args.self.now.grown c.ty-ty.ensures.room c.grow.ensures.growth }

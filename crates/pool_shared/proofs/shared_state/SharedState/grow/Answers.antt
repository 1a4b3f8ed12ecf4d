use Rattle.std.proofs.Common.{ap, subst}
use Rattle.pool_limits.specs.LimiterTold.{unlimited}
use Rattle.pool_memory.specs.Memories.{MemoryState}
use Rattle.pool_shared.specs.Shared.{Shared, Grows}
use Rattle.pool_shared.proofs.Growth.{grows_alone}
use Rattle.pool_shared.proofs.shared_state.SharedState.grow.Goals as goal

pub returns-clause-growth : goal.returns-clause-growth
returns-clause-growth g c =
    let told = g.L.RuntimeLinearMemory.maker_told in
    let both = grows_alone {R = Unit {0}} (λ u. unlimited) (λ u e v. Unit {0}) c.args.delta c.self.inside.memory c.grow.new.self (told c.args.maker.now) (told c.grow.new.maker) c.grow.result c.self.invariant.fixed c.ty-ty.ensures.room c.grow.ensures.maker in
    subst (λ (m : MemoryState). Grows c.args.delta m c.grow.new.self c.grow.result) (ap (λ (s : Shared). s.memory) c.self.view_is) both.0

pub returns-clause-maker : goal.returns-clause-maker
returns-clause-maker g c =
    let told = g.L.RuntimeLinearMemory.maker_told in
    let both = grows_alone {R = Unit {0}} (λ u. unlimited) (λ u e v. Unit {0}) c.args.delta c.self.inside.memory c.grow.new.self (told c.args.maker.now) (told c.grow.new.maker) c.grow.result c.self.invariant.fixed c.ty-ty.ensures.room c.grow.ensures.maker in
    both.1

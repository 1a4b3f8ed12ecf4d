use Rattle.std.proofs.Common.{subst}
use Rattle.pool_memory.specs.Static.{Static, IsStatic}
use Rattle.pool_memory.proofs.Statics.{static_is_linear}
use Rattle.pool_memory.proofs.static_memory.StaticMemoryRuntimeLinearMemory.byte_size.Goals as goal

pub returns-clause-always : goal.returns-clause-always
returns-clause-always g c =
    let P : Static → Type 0 = λ m. IsStatic m in
    static_is_linear c.args.self.now c.fits.ensures (subst P c.self.view_is c.self.invariant)

use Rattle.std.proofs.Common.{ℕ, sym, subst}
use Rattle.pool_memory.specs.Static.{IsStatic}
use Rattle.pool_memory.proofs.Statics.{made_is_static}
use Rattle.pool_memory.proofs.static_memory.StaticMemory.new.Goals as goal

pub invariant_of-result : goal.invariant_of-result
invariant_of-result g c =
    let P : ℕ → Type 0 = λ n. IsStatic (record { slot = c.args.slot; size = c.args.initial; capacity = n }) in
    subst P (sym c.capacity_of.ensures) (made_is_static c.args.slot c.args.base_capacity c.args.initial c.args.maximum c.accessible-accessible.ensures.fits c.requires.slot c.if-initial-base_capacity.false c.requires.maximum c.requires.room)

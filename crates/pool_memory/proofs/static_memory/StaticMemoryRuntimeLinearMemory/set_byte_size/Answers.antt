use Rattle.std.proofs.Common.{◌≤◌, sym, subst, arith}
use Rattle.pool_memory.proofs.Imports.{IsSlot, kept_self}
use Rattle.pool_memory.specs.Linear.{ready}
use Rattle.pool_memory.specs.Static.{Static, linear_of}
use Rattle.pool_memory.proofs.Raised.{kept_static}
use Rattle.pool_memory.proofs.static_memory.StaticMemoryRuntimeLinearMemory.set_byte_size.Goals as goal

pub invariant_of-self : goal.invariant_of-self
invariant_of-self g c =
    let i = c.self.inside in
    let m : Static = record { slot = i.slot; size = i.size; capacity = i.capacity } in
    let F : Static → Type 0 = λ s. IsSlot s.slot in
    let M : Static → Type 0 = λ s. s.size ≤ c.args.len in
    let N : Static → Type 0 = λ s. c.args.len ≤ ready (linear_of s) in
    let within : c.args.len ≤ ready (linear_of m) = subst N (sym c.self.view_is) c.requires.ready in
    kept_static m c.args.len i.slot (subst F (sym c.self.view_is) c.fits.ensures) c.self.invariant (kept_self i.slot) (subst M (sym c.self.view_is) c.requires.more) (omega arith) (omega arith)

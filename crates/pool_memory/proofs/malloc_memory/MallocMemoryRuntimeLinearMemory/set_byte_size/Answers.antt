use Rattle.std.proofs.Common.{◌≤◌, length, min, sym, subst, arith}
use Rattle.pool_memory.specs.Malloc.{Malloc}
use Rattle.pool_memory.proofs.Mallocs.{sized_is_malloc}
use Rattle.pool_memory.proofs.malloc_memory.MallocMemoryRuntimeLinearMemory.set_byte_size.Goals as goal

pub invariant_of-self : goal.invariant_of-self
invariant_of-self g c =
    let i = c.self.inside in
    let m : Malloc = record { size = i.size; bytes = i.storage.items; capacity = i.capacity } in
    let M : Malloc → Type 0 = λ s. s.size ≤ c.args.len in
    let N : Malloc → Type 0 = λ s. c.args.len ≤ min (length s.bytes) s.capacity in
    let within : c.args.len ≤ min (length m.bytes) m.capacity = subst N (sym c.self.view_is) c.requires.ready in
    (sized_is_malloc m c.args.len c.self.invariant.0 (subst M (sym c.self.view_is) c.requires.more) (omega arith), c.self.invariant.1)

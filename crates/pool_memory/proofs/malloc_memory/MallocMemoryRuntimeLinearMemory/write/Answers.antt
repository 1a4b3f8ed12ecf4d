use Rattle.std.proofs.Common.{◌≤◌, ◌+◌, ℕ, List, length, sym, subst}
use Rattle.pool_memory.specs.Malloc.{Malloc, IsMalloc}
use Rattle.pool_memory.proofs.Mallocs.{written_is_malloc}
use Rattle.pool_memory.proofs.malloc_memory.MallocMemoryRuntimeLinearMemory.write.Goals as goal

pub invariant_of-self : goal.invariant_of-self
invariant_of-self g c =
    let i = c.self.inside in
    let m : Malloc = record { size = i.size; bytes = i.storage.items; capacity = i.capacity } in
    let N : Malloc → Type 0 = λ s. c.args.at + length c.args.bytes.now ≤ s.size in
    let I : List ℕ → Type 0 = λ b. IsMalloc (record m { bytes = b }) in
    let V : ℕ → Type 0 = λ n. i.capacity ≤ n in (
      subst I (sym c.overwrite.ensures.items) (written_is_malloc m c.args.at c.args.bytes.now c.self.invariant.0 (subst N (sym c.self.view_is) c.requires)),
      subst V (sym c.overwrite.ensures.capacity) c.self.invariant.1,
    )

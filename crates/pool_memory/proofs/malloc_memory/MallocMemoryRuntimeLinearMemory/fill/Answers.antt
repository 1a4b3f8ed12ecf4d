use Rattle.std.proofs.Common.{◌≤◌, ◌+◌, ℕ, List, replicate, sym, subst, arith}
use Rattle.std.proofs.lemmas.List.{length-replicate}
use Rattle.pool_memory.specs.Malloc.{Malloc, IsMalloc}
use Rattle.pool_memory.proofs.Mallocs.{written_is_malloc}
use Rattle.pool_memory.proofs.malloc_memory.MallocMemoryRuntimeLinearMemory.fill.Goals as goal

pub invariant_of-self : goal.invariant_of-self
invariant_of-self g c =
    let i = c.self.inside in
    let m : Malloc = record { size = i.size; bytes = i.storage.items; capacity = i.capacity } in
    let N : Malloc → Type 0 = λ s. c.args.at + c.args.len ≤ s.size in
    let I : List ℕ → Type 0 = λ b. IsMalloc (record m { bytes = b }) in
    let V : ℕ → Type 0 = λ n. i.capacity ≤ n in
    let inside : c.args.at + c.args.len ≤ i.size = subst N (sym c.self.view_is) c.requires in (
      subst I (sym c.fill_range.ensures.items) (written_is_malloc m c.args.at (replicate c.args.len c.args.byte) c.self.invariant.0 (omega (arith, inside, length-replicate c.args.len c.args.byte))),
      subst V (sym c.fill_range.ensures.capacity) c.self.invariant.1,
    )

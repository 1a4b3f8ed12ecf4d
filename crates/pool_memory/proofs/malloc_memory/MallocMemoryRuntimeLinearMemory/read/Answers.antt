use Rattle.std.proofs.Common.{◌≡◌, ◌≤◌, ◌+◌, length, slice_range, take, sym, ap, ◌∙◌, subst}
use Rattle.pool_memory.specs.Malloc.{Malloc}
use Rattle.pool_memory.proofs.Mallocs.{read_malloc}
use Rattle.pool_memory.proofs.malloc_memory.MallocMemoryRuntimeLinearMemory.read.Goals as goal

pub returns : goal.returns
returns g c =
    let i = c.self.inside in
    let m : Malloc = record { size = i.size; bytes = i.storage.items; capacity = i.capacity } in
    let n = length c.args.out.now in
    let N : Malloc → Type 0 = λ s. c.args.at + n ≤ s.size in
    let P : Malloc → Type 0 = λ s. c.copy_out.new.out ≡ slice_range (take s.size s.bytes) c.args.at (c.args.at + n) in
    subst P c.self.view_is (c.copy_out.ensures ∙ ap (λ l. slice_range l c.args.at (c.args.at + n)) c.as_slice.ensures.value ∙ read_malloc m c.args.at n c.self.invariant.0 (subst N (sym c.self.view_is) c.requires))

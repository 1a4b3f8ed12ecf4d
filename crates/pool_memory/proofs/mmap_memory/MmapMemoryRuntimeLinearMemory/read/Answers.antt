use Rattle.std.proofs.Common.{◌≡◌, ◌≤◌, ◌+◌, length, slice_range, sym, subst, IfSome}
use Rattle.pool_memory.specs.Linear.{linear_bytes}
use Rattle.pool_memory.specs.Mapped.{Mapped, held_in, mapped_linear}
use Rattle.pool_memory.proofs.Statics.{read_static}
use Rattle.pool_memory.proofs.mmap_memory.MmapMemoryRuntimeLinearMemory.read.Goals as goal

pub returns : goal.returns
returns g c =
    let i = c.self.inside in
    let m : Mapped = record { slot = i.slot; size = i.size; extra = i.extra_to_reserve_on_growth; as_made = i.as_made; known = i.known } in
    let n = length c.args.out.now in
    let N : Mapped → Type 0 = λ s. c.args.at + n ≤ s.size in
    let P : Mapped → Type 0 = λ s. IfSome (linear_bytes (mapped_linear s)) (λ bytes. c.read.new.out ≡ slice_range bytes c.args.at (c.args.at + n)) in
    subst P c.self.view_is (read_static (held_in m) c.args.at n c.read.new.out (subst N (sym c.self.view_is) c.requires) c.read.ensures)

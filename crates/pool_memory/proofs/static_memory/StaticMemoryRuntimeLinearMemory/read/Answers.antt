use Rattle.std.proofs.Common.{◌≡◌, ◌+◌, length, slice_range, IfSome, sym, subst, ◌≤◌}
use Rattle.pool_memory.specs.Linear.{linear_bytes}
use Rattle.pool_memory.specs.Static.{Static, linear_of}
use Rattle.pool_memory.proofs.Statics.{read_static}
use Rattle.pool_memory.proofs.static_memory.StaticMemoryRuntimeLinearMemory.read.Goals as goal

pub returns : goal.returns
returns g c =
    let i = c.self.inside in
    let m : Static = record { slot = i.slot; size = i.size; capacity = i.capacity } in
    let N : Static → Type 0 = λ s. c.args.at + length c.args.out.now ≤ s.size in
    let P : Static → Type 0 = λ s. IfSome (linear_bytes (linear_of s)) (λ bytes. c.read.new.out ≡ slice_range bytes c.args.at (c.args.at + length c.args.out.now)) in
    subst P c.self.view_is (read_static m c.args.at (length c.args.out.now) c.read.new.out (subst N (sym c.self.view_is) c.requires) c.read.ensures)

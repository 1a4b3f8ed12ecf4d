use Rattle.std.proofs.Common.{ℕ, Option, Result, subst, IfOk}
use Rattle.pool_memory.specs.Making.{Granted}
use Rattle.pool_memory.specs.declared.memory_error.MemoryError.{MemoryError}
use Rattle.pool_memory.proofs.Dynamics.{dynamic_room, begun_supported, refused_alike}
use Rattle.pool_memory.proofs.dynamic.make_dynamic.Goals as goal

pub begin-requires-clause-room : goal.begin-requires-clause-room
begin-requires-clause-room g c =
    let G : Result (ℕ × Option ℕ) MemoryError → Type 0 = λ r. IfOk r (Granted c.args.ty.now) in
    let granted : Granted c.args.ty.now c.in-Ok.limits = subst G c.in-Ok.is c.requires.granted in
    dynamic_room c.args.ty.now c.in-Ok.limits (g.M.PageMaker.told c.new_memory.new.maker).next (g.M.PageMaker.told c.args.maker.now) (g.L.RuntimeLinearMemory.linear c.in-Ok-new_memory.memory) c.requires.page granted c.in-Ok-new_memory.ensures.made

pub returns-in-Ok-new_memory-clause-refused : goal.returns-in-Ok-new_memory-clause-refused
returns-in-Ok-new_memory-clause-refused g c = rw c.in-Ok.is (begun_supported c.begin.result c.new_memory.result c.in-Ok-new_memory.memory _ c.in-Ok-new_memory.is c.new_memory.ensures.unsupported c.begin.ensures.fault)

pub returns-in-Err-new_memory-clause-refused : goal.returns-in-Err-new_memory-clause-refused
returns-in-Err-new_memory-clause-refused g c = rw c.in-Ok.is (refused_alike c.new_memory.result c.in-Err-new_memory.error _ c.in-Err-new_memory.is c.new_memory.ensures.unsupported)

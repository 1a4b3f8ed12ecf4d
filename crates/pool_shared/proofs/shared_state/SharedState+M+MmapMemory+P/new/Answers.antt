use Rattle.std.proofs.Common.{ap}
use Rattle.pool_memory.specs.Mapped.{Mapped}
use Rattle.pool_memory.specs.Memories.{MemoryState}
use Rattle.pool_shared.proofs.Making.{made_room, made_zeros}
use Rattle.pool_shared.proofs.shared_state.SharedState+M+MmapMemory+P.new.Goals as goal

pub with_memory-requires-clause-room : goal.with_memory-requires-clause-room
with_memory-requires-clause-room g c = made_room c.args.ty.now c.in-Ok-new.memory.size c.in-Ok.limits (ap (λ (m : Mapped). m.size) c.in-Ok-new.ensures.ok) c.in-Ok.ensures.ok.1 c.requires

pub returns-in-Ok-new-clause-zeros : goal.returns-in-Ok-new-clause-zeros
returns-in-Ok-new-clause-zeros g c = made_zeros (g.M.PageMaker.told c.args.maker.now) (g.M.PageMaker.told c.new.new.maker) c.args.tunables.now _ c.in-Ok-new.memory c.with_memory.result c.args.ty.now c.in-Ok.limits (ap (λ (s : MemoryState). s.linear) c.with_memory.ensures) c.in-Ok.ensures.ok.1 c.in-Ok-new.ensures.ok c.in-Ok-new.ensures.made c.in-Ok-new.ensures.maker.made.asked

use Rattle.pool_memory.proofs.Mapped.{mapped_is_linear}
use Rattle.pool_memory.proofs.mmap_memory.MmapMemoryRuntimeLinearMemory.byte_size.Goals as goal

pub returns-clause-always : goal.returns-clause-always
returns-clause-always g c = mapped_is_linear c.args.self.now c.fits.ensures.slot c.fits.ensures.mapped

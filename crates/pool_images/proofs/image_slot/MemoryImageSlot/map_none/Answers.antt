use Rattle.pool_images.proofs.Begun.{begun_none}
use Rattle.pool_images.proofs.image_slot.MemoryImageSlot.map_none.Goals as goal

pub returns-clause-begins : goal.returns-clause-begins
returns-clause-begins g c = begun_none c.args.self.now c.fits.ensures c.requires.clean c.requires.none

use Rattle.pool_hall.specs.Seat.{view}
use Rattle.pool_index.proofs.FreedLists.{back_one, gave_one, freed_one, added_one}
use Rattle.pool_index.proofs.allocator.ModuleAffinityIndexAllocator.free.Goals as goal

pub free_in-requires-clause-unit : goal.free_in-requires-clause-unit
free_in-requires-clause-unit g c = back_one c.args.self.now c.args.slot c.args.bytes_resident c.local-place.result.0 c.local-place.ensures.place c.at-at.result c.at-at.ensures.value c.local-place.result.1 c.local-place.ensures.local (view c.args.seat.now) c.requires.unit

pub returns-clause-units : goal.returns-clause-units
returns-clause-units g c = gave_one c.args.self.now c.args.slot c.args.bytes_resident c.local-place.result.0 c.local-place.ensures.place c.at-at.result c.at-at.ensures.value c.local-place.result.1 c.local-place.ensures.local (view c.args.seat.now) (view c.free_in.new.seat) c.free_in.ensures.units

pub returns-clause-freed : goal.returns-clause-freed
returns-clause-freed g c = freed_one c.args.self.now c.args.slot c.args.bytes_resident c.local-place.result.0 c.local-place.ensures.place c.at-at.result c.at-at.ensures.value c.local-place.result.1 c.local-place.ensures.local (view c.args.seat.now) (view c.free_in.new.seat) c.free_in.ensures.freed.0 c.free_in.ensures.freed.1

pub returns-clause-counts : goal.returns-clause-counts
returns-clause-counts g c = added_one c.args.self.now c.args.slot c.args.bytes_resident c.local-place.result.0 c.local-place.ensures.place c.at-at.result c.at-at.ensures.value c.local-place.result.1 c.local-place.ensures.local (view c.args.seat.now) (view c.free_in.new.seat) c.free_in.ensures.counts

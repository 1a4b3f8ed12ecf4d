use Rattle.std.proofs.Common.{rules}
use Rattle.pool_index.specs.ShardFields.{state_of}
use Rattle.pool_index.proofs.Shards.{room_for_free}
use Rattle.pool_index.proofs.shard.Shard.free.Goals as goal

pub free-requires-clause-room : goal.free-requires-clause-room
free-requires-clause-room g c = (room_for_free (state_of c.self.inside) c.args.slot.0 c.args.bytes_resident c.self.invariant (search rules) c.requires.bytes).slots

pub free-requires-clause-bytes : goal.free-requires-clause-bytes
free-requires-clause-bytes g c = (room_for_free (state_of c.self.inside) c.args.slot.0 c.args.bytes_resident c.self.invariant (search rules) c.requires.bytes).bytes

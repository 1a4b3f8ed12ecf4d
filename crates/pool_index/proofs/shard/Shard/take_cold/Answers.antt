use Rattle.std.proofs.Common.{arith, rules}
use Rattle.std.proofs.lemmas.Grind.{common_steps}
use Rattle.pool_index.specs.ShardFields.{state_of}
use Rattle.pool_index.proofs.Shards.{after_cold_sound, cold_apart}
use Rattle.pool_index.proofs.shard.Shard.take_cold.Goals as goal

pub invariant_of-self : goal.invariant_of-self
invariant_of-self g c = after_cold_sound c.args.want (state_of c.self.inside) _ (grind (arith, common_steps)) c.self.invariant (search rules)

pub returns-clause-sound : goal.returns-clause-sound
returns-clause-sound g c = after_cold_sound c.args.want (state_of c.self.inside) _ (grind (arith, common_steps)) c.self.invariant (search rules)

pub take_cold-requires-clause-cold : goal.take_cold-requires-clause-cold
take_cold-requires-clause-cold g c = cold_apart (state_of c.self.inside) c.self.invariant

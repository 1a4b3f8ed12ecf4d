use Rattle.std.proofs.Common.{arith, rules}
use Rattle.std.proofs.lemmas.Grind.{common_steps}
use Rattle.pool_index.specs.Shard.{entry_at}
use Rattle.pool_index.specs.ShardFields.{state_of}
use Rattle.pool_index.proofs.Shards.{IsFree, warm_slot_free, after_warm_sound}
use Rattle.pool_index.proofs.shard.Shard.take_first.Goals as goal

pub invariant_of-self : goal.invariant_of-self
invariant_of-self g c = after_warm_sound c.args.want (state_of c.self.inside) _ 0 (grind (arith, common_steps)) c.self.invariant (search rules)

pub returns-clause-inside : goal.returns-clause-inside
returns-clause-inside g c =
    let free : IsFree (state_of c.self.inside) (entry_at (state_of c.self.inside) 0).slot.0 = warm_slot_free (state_of c.self.inside) 0 c.self.invariant (search rules) in
    grind (arith, common_steps, free)

pub returns-clause-sound : goal.returns-clause-sound
returns-clause-sound g c = after_warm_sound c.args.want (state_of c.self.inside) _ 0 (grind (arith, common_steps)) c.self.invariant (search rules)

use Rattle.std.proofs.Common.{ℕ, arith, subst}
use Rattle.pool_index.specs.declared.ids.SlotId.{SlotId}
use Rattle.std.proofs.lemmas.Grind.{common_steps}
use Rattle.pool_index.specs.Shard.{IsShard}
use Rattle.pool_index.specs.ShardFields.{state_of}
use Rattle.pool_index.proofs.Shards.{IsWarm, affine_slot_known, after_affine_sound, some_weaker}
use Rattle.pool_index.proofs.shard.Shard.take_last_affine.Goals as goal

pub invariant_of-self : goal.invariant_of-self
invariant_of-self g c = after_affine_sound c.args.want (state_of c.self.inside) _ c.args.of (grind (arith, common_steps)) c.self.invariant

pub returns-clause-inside : goal.returns-clause-inside
returns-clause-inside g c = some_weaker _ _ _ (λ (p : SlotId × ℕ) (k : IsWarm c.args.self.now p). k.inside) (affine_slot_known c.args.self.now c.args.of _ (grind (arith, common_steps)) (subst IsShard c.self.view_is c.self.invariant))

pub returns-clause-unused : goal.returns-clause-unused
returns-clause-unused g c = some_weaker _ _ _ (λ (p : SlotId × ℕ) (k : IsWarm c.args.self.now p). k.unused) (affine_slot_known c.args.self.now c.args.of _ (grind (arith, common_steps)) (subst IsShard c.self.view_is c.self.invariant))

pub returns-clause-sound : goal.returns-clause-sound
returns-clause-sound g c = after_affine_sound c.args.want (state_of c.self.inside) _ c.args.of (grind (arith, common_steps)) c.self.invariant

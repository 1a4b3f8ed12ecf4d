use Rattle.std.proofs.Common.{sym, subst, arith, Some}
use Rattle.pool_hall.specs.declared.unit_name.SlotKind.TheVariants.{Memory}
use Rattle.pool_index.specs.Allocator.{made_of, limits_in}
use Rattle.pool_index.specs.Holds.{HasShard}
use Rattle.pool_index.specs.Part.{shard_meaning}
use Rattle.pool_index.proofs.Allocating.{as_many, shard_at_place}
use Rattle.pool_index.proofs.allocator.ModuleAffinityIndexAllocator.at.Goals as goal

pub returns-clause-within : goal.returns-clause-within
returns-clause-within c = let a = as_many _ _ _ _ _ _ c.args.self.now.made in let h = c.requires in omega arith

pub returns-clause-shard : goal.returns-clause-shard
returns-clause-shard c =
    subst (λ (n : _). HasShard shard_meaning Some (made_of c.args.self.now) (limits_in c.args.self.now) (record { place = c.args.place; kind = Memory; first = n; step = 1 })) (sym c.numbers_at-first.ensures.first) (shard_at_place _ _ _ _ _ _ c.args.self.now.made c.args.place c.requires)

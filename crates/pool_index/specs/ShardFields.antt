-- What the fields of a shard stand for.
use Rattle.pool_index.specs.Shard.{ShardState}
use Rattle.pool_index.specs.declared.shard.Shard.TheInside.{Inside}

-- A shard of the code as plain data: its lists of warm and used slots in place of links.
abbrev pub state_of : Inside → ShardState
state_of f = record {
  kind = f.kind;
  first = f.first;
  step = f.step;
  capacity = f.capacity;
  budget = f.budget;
  cold = f.cold;
  warm = f.lists.warm;
  used = f.lists.used;
  full_answers = f.full_answers;
  affine_misses = f.affine_misses;
  warm_takes = f.warm_takes;
}

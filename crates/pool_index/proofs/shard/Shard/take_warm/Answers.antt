use Rattle.std.proofs.Common.{◌∙◌, ◌++◌, ℕ, List, ap}
use Rattle.pool_index.specs.Shard.{taken_slots}
use Rattle.pool_index.specs.declared.ids.SlotId.{SlotId}
use Rattle.pool_index.proofs.WarmTakes.{numbered_same}
use Rattle.pool_index.proofs.shard.Shard.take_warm.Goals as goal

pub returns-clause-taken : goal.returns-clause-taken
returns-clause-taken c = c.take_warm_as.ensures.taken ∙ ap (λ (l : List (SlotId × ℕ)). record c.args.out.now { items = c.args.out.now.items ++ l }) (numbered_same (taken_slots c.args.self.now))

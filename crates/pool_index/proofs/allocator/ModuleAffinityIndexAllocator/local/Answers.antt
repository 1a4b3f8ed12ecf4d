use Rattle.std.proofs.Common.{rules, ◌<◌, ◌≡◌, ℕ, sym, subst, arith}
use Rattle.pool_index.specs.Allocator.{place_in}
use Rattle.pool_index.proofs.Allocating.{some_shards}
use Rattle.pool_index.proofs.allocator.ModuleAffinityIndexAllocator.local.Goals as goal

pub returns-clause-within : goal.returns-clause-within
returns-clause-within c =
    let is : c.min-place.result ≡ place_in c.args.self.now c.args.slot.0 = search rules in
    let some = some_shards _ _ _ _ _ _ c.args.self.now.made in
    subst (λ (n : ℕ). n < c.args.self.now.shards) (sym is) (omega arith)

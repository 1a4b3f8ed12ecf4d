use Rattle.std.proofs.Common.{◌≡◌, ℕ, ◌+◌, ◌*◌, List, sym, ap, ◌∙◌, arith, sum_by}
use Rattle.pool_run.proofs.Imports.{Allocator, Plan}
use Rattle.pool_alloc.specs.StepBounds.{PoolSizes, allocation_bound, flush_bound, give_back_bound, most_shards, purge_bound, release_bound, searched_allocators, sizes_of, stripe_bound, turns_bound}
use Rattle.pool_run.proofs.BoundsFound.{sum_same}
use Rattle.pool_run.specs.declared.bounds.StepBounds.{StepBounds}
use Rattle.pool_run.proofs.bounds.StepBounds.of.Goals as goal

pub returns : goal.returns
returns c =
    let plan : Plan = c.args.plan.now in
    let z : PoolSizes = sizes_of c.args.settings.now plan in
    let s : ℕ = c.shards_searched-shards.result in
    let m : ℕ = c.args.settings.now.max_memories_per_module in
    let q : ℕ = c.queues_for.result in
    let shards : s ≡ most_shards (searched_allocators plan) = c.shards_searched-shards.ensures in
    let flush : c.in_ok-flush.flush ≡ flush_bound z = c.in_ok-flush.ensures in
    let allocation : c.in_ok-allocation.allocation ≡ allocation_bound z =
    c.in_ok-allocation.ensures
    ∙ ap (λ (n : ℕ). (n + 1) * s + n * c.in_ok-flush.flush + 8) c.queues_for.ensures
    ∙ ap (λ (n : ℕ). (z.queues + 1) * n + z.queues * c.in_ok-flush.flush + 8) shards
    ∙ ap (λ (n : ℕ). (z.queues + 1) * z.shards + z.queues * n + 8) flush in
    let back : c.in_ok-checked_add.field-0 ≡ give_back_bound z = omega (arith, c.in_ok-checked_add.ensures, flush) in
    let turns : c.in_ok-purge.purge ≡ sum_by (turns_bound z) plan.memories =
    c.in_ok-purge.ensures
    ∙ ap (λ (xs : List Allocator). sum_by (λ (a : Allocator). a.capacity * (s + 4) + s) xs) c.as_slice.ensures
    ∙ ap (λ (n : ℕ). sum_by (λ (a : Allocator). a.capacity * (n + 4) + n) plan.memories) shards in
    let purge : c.in_ok-checked_add-2.field-0 ≡ purge_bound z = omega (arith, c.in_ok-checked_add-2.ensures, c.in_ok-checked_mul.ensures, ap (λ (n : ℕ). n * m) turns) in
    let stripes : c.in_ok-release.release ≡ sum_by (stripe_bound z) plan.memories =
    c.in_ok-release.ensures
    ∙ ap (λ (xs : List Allocator). sum_by (λ (a : Allocator). a.capacity * 4 + s) xs) c.as_slice-2.ensures
    ∙ ap (λ (n : ℕ). sum_by (λ (a : Allocator). a.capacity * 4 + n) plan.memories) shards
    ∙ sum_same (λ a. a.capacity * 4 + z.shards) (stripe_bound z) plan.memories (λ a. omega arith) in
    let release : c.in_ok-checked_add-3.field-0 ≡ release_bound z = omega (arith, c.in_ok-checked_add-3.ensures, stripes) in
    let B : ℕ → ℕ → ℕ → ℕ → ℕ → StepBounds = λ f a g p r. record { flush = f; allocation = a; give_back = g; purge = p; release = r } in
    ap (λ (n : ℕ). B n c.in_ok-allocation.allocation c.in_ok-checked_add.field-0 c.in_ok-checked_add-2.field-0 c.in_ok-checked_add-3.field-0) flush
    ∙ ap (λ (n : ℕ). B (flush_bound z) n c.in_ok-checked_add.field-0 c.in_ok-checked_add-2.field-0 c.in_ok-checked_add-3.field-0) allocation
    ∙ ap (λ (n : ℕ). B (flush_bound z) (allocation_bound z) n c.in_ok-checked_add-2.field-0 c.in_ok-checked_add-3.field-0) back
    ∙ ap (λ (n : ℕ). B (flush_bound z) (allocation_bound z) (give_back_bound z) n c.in_ok-checked_add-3.field-0) purge
    ∙ ap (B (flush_bound z) (allocation_bound z) (give_back_bound z) (purge_bound z)) release

use Rattle.std.proofs.Common.{get_or, arith, rules, ltb}
use Rattle.std.proofs.lemmas.List.Sorted.{IsPartitionPoint-from_clause, IsPartitionedBy-ltb}
use Rattle.pool_pages.proofs.Imports.{ltb-true, ltb-false}
use Rattle.pool_pages.proofs.CallPlans.{none_between, none_from}
use Rattle.pool_pages.proofs.call_plan.least_from.Goals as goal

pub returns-then-at-rising-clause-from : goal.returns-then-at-rising-clause-from
returns-then-at-rising-clause-from c =
    let xs = c.args.rising.now in
    let n = c.args.from in
    let i = c.partition_point-at.result in
    let first = IsPartitionPoint-from_clause (λ y. ltb y n) xs i c.partition_point-at.ensures.partitioned (IsPartitionedBy-ltb (λ y. y) xs n c.requires) (λ a r q k. search rules) in
    ltb-false (get_or xs i 0) n (first.1 i 0 (omega arith) c.if-at-rising.true)

pub returns-then-at-rising-clause-least : goal.returns-then-at-rising-clause-least
returns-then-at-rising-clause-least c =
    let xs = c.args.rising.now in
    let n = c.args.from in
    let i = c.partition_point-at.result in
    let first = IsPartitionPoint-from_clause (λ y. ltb y n) xs i c.partition_point-at.ensures.partitioned (IsPartitionedBy-ltb (λ y. y) xs n c.requires) (λ a r q k. search rules) in
    none_between xs n i c.requires c.if-at-rising.true (λ k d under. ltb-true (get_or xs k d) n (first.0 k d (omega arith) under))

pub returns-else-at-rising-clause-none : goal.returns-else-at-rising-clause-none
returns-else-at-rising-clause-none c m above =
    let xs = c.args.rising.now in
    let n = c.args.from in
    let i = c.partition_point-at.result in
    let first = IsPartitionPoint-from_clause (λ y. ltb y n) xs i c.partition_point-at.ensures.partitioned (IsPartitionedBy-ltb (λ y. y) xs n c.requires) (λ a r q k. search rules) in
    none_from xs n m (λ k d inside. ltb-true (get_or xs k d) n (first.0 k d (omega arith) (omega (arith, inside, c.if-at-rising.false)))) above

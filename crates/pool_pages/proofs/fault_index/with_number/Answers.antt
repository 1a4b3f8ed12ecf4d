use Rattle.std.proofs.Common.{get_or, arith, rules, ltb, leb}
use Rattle.std.proofs.lemmas.List.Sorted.{IsPartitionPoint-from_clause, IsPartitionedBy-ltb, IsPartitionedBy-leb}
use Rattle.pool_pages.specs.SortedFaults.{has_number}
use Rattle.pool_pages.proofs.SortedFaults.{filter_between, is_below, is_above}
use Rattle.pool_pages.proofs.fault_index.with_number.Goals as goal

pub returns : goal.returns
returns c =
    let n = c.args.number in
    let xs = c.args.sorted.now in
    let first = IsPartitionPoint-from_clause (λ y. ltb y.slot n) xs c.partition_point-first.result c.partition_point-first.ensures.partitioned (IsPartitionedBy-ltb (λ y. y.slot) xs n c.requires) (λ a r q k. search rules) in
    let last = IsPartitionPoint-from_clause (λ y. leb y.slot n) xs c.partition_point-end.result c.partition_point-end.ensures.partitioned (IsPartitionedBy-leb (λ y. y.slot) xs n c.requires) (λ a r q k. search rules) in
    filter_between (has_number n) c.min.result c.partition_point-end.result xs (omega (arith, c.min.ensures)) c.partition_point-end.ensures.bound
    (λ k d under. is_below n (get_or xs k d).slot (first.0 k d (omega arith) (omega (arith, c.min.ensures))))
    (λ k d from below. is_above n (get_or xs k d).slot (last.1 k d from below))

use Rattle.std.proofs.Common.{◌≡◌, length, take}
use Rattle.pool_alloc.specs.PoolTotals.{calls_of_leases}
use Rattle.pool_alloc.proofs.leases.instance.calls_of.Given as goal

-- the calls on the regions of the memories so far
abbrev pub invariant-loop-at : goal.invariant-loop-at
invariant-loop-at g l = record {
  calls : l.calls ≡ calls_of_leases (take l.at l.leases.items);
  all : l.at-end ≡ length l.leases.items;
}

use Rattle.std.proofs.Common.{◌≡◌, drop, fold}
use Rattle.pool_run.specs.Numbers.{with_grant}
use Rattle.pool_run.proofs.leases.Leases.page_calls.Given as goal

-- the calls so far, with those of the grants that are left
abbrev pub invariant-loop-place : goal.invariant-loop-place
invariant-loop-place g l = fold with_grant l.total (drop l.place-index l.place-items) ≡ fold with_grant l.fn.calls l.place-items

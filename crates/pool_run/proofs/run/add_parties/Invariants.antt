use Rattle.std.proofs.Common.{◌≡◌, drop, fold}
use Rattle.pool_run.specs.Numbers.{with_party}
use Rattle.pool_run.proofs.run.add_parties.Given as goal

-- the calls so far, with those of the parties that are left
abbrev pub invariant-loop-party : goal.invariant-loop-party
invariant-loop-party g l = fold with_party l.total (drop l.party-index l.parties) ≡ fold with_party l.fn.calls l.parties

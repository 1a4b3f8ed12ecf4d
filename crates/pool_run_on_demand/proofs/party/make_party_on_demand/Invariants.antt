use Rattle.std.proofs.Common.{◌≡◌, length, replicate, None}
use Rattle.pool_run_on_demand.proofs.party.make_party_on_demand.Given as goal

-- as many places so far, and no grant
abbrev pub invariant-loop-place : goal.invariant-loop-place
invariant-loop-place g l = record {
  places : l.live.items ≡ replicate l.place None;
  all : l.count ≡ length l.party.commands;
}

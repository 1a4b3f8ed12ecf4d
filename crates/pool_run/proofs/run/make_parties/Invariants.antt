use Rattle.std.proofs.Common.{◌≡◌, length, map, take}
use Rattle.pool_run.specs.RunsMade.{party_made_for}
use Rattle.pool_run.proofs.run.make_parties.Given as goal

-- the parties so far
abbrev pub invariant-loop-at : goal.invariant-loop-at
invariant-loop-at g l = record {
  made : l.made.items ≡ map (party_made_for l.core.settings) (take l.at l.parties);
  all : l.count ≡ length l.parties;
}

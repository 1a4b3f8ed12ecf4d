use Rattle.std.proofs.Common.{◌≡◌, map, take}
use Rattle.pool_run.specs.RunsMade.{room_for}
use Rattle.pool_run.proofs.told_run.reserve_replies.Given as goal

-- the lists so far
abbrev pub invariant-loop-party : goal.invariant-loop-party
invariant-loop-party l = l.told.items ≡ map room_for (take l.party-index l.parties)

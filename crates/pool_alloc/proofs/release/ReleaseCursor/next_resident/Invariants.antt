use Rattle.std.proofs.Common.{◌≡◌, ◌+◌, length, drop}
use Rattle.pool_alloc.specs.Releases.{not_resident}
use Rattle.pool_alloc.proofs.release.ReleaseCursor.next_resident.Given as goal

-- the slots so far keep nothing resident
abbrev pub invariant-loop-at : goal.invariant-loop-at
invariant-loop-at l = record {
  passed : l.at + not_resident (drop l.at l.self.taken.items) ≡ l.from + not_resident (drop l.from l.self.taken.items);
  all : l.count ≡ length l.self.taken.items;
}

use Rattle.std.proofs.Common.{map}
use Rattle.pool_checks.proofs.Imports.{Memory, pick_unit, view, IsIndexSeat, HasAll}
use Rattle.pool_checks.proofs.allocator_tests.play.Given as goal

abbrev pub invariant-loop-at : goal.invariant-loop-at
invariant-loop-at g l = record { seat : IsIndexSeat l.allocator l.seat; held : HasAll (map (λ s. pick_unit Memory s.0) l.held.items) (view l.seat) }

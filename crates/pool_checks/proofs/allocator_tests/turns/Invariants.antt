use Rattle.std.proofs.Common.{◌≡◌}
use Rattle.pool_checks.proofs.Imports.{UnitName, times, view, IsIndexSeat}
use Rattle.pool_checks.proofs.allocator_tests.turns.Given as goal

abbrev pub invariant-loop : goal.invariant-loop
invariant-loop g l = record { seat : IsIndexSeat l.allocator l.seat; units : (u : UnitName) → times u (view l.seat).units ≡ times u (view l.initial.seat).units; portions : (view l.seat).portions ≡ (view l.initial.seat).portions }

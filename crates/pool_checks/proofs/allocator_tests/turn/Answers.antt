-- The slot that is allocated has its unit in the seat, which is all that came.
use Rattle.std.proofs.Common.{◌≡◌, ℕ, ◌+◌, ◌<◌, subst, ap, arith, Result, Ok}
use Rattle.pool_checks.proofs.Imports.{result_ok, Memory, UnitName, one_if, same, times, pick_unit, view, same_self, FullNotes, SlotId, slot_answered, found_units}
use Rattle.pool_checks.proofs.allocator_tests.turn.Goals as goal

pub free-requires-clause-unit : goal.free-requires-clause-unit
free-requires-clause-unit g c =
    let w = pick_unit Memory c.in-Ok.slot.0 in
    let F : Result SlotId FullNotes → Type 0 = λ r. times w (view c.alloc.new.seat).units ≡ times w (view c.args.seat.now).units + times w (found_units Memory (slot_answered (result_ok r))) in
    let came : F (Ok c.in-Ok.slot) = subst F c.in-Ok.is (c.alloc.ensures.units w) in
    let one : one_if (same w w) ≡ 1 = ap one_if (same_self w) in
    omega arith

pub returns-clause-units : goal.returns-clause-units
returns-clause-units g c u =
    let F : Result SlotId FullNotes → Type 0 = λ r. times u (view c.alloc.new.seat).units ≡ times u (view c.args.seat.now).units + times u (found_units Memory (slot_answered (result_ok r))) in
    let came : F (Ok c.in-Ok.slot) = subst F c.in-Ok.is (c.alloc.ensures.units u) in
    let went = c.free.ensures.units u in
    omega arith

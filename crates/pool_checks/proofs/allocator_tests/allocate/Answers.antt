-- The slot that is allocated comes to those that are held, and its unit to those of the seat.
use Rattle.std.proofs.Common.{◌≡◌, ℕ, ◌+◌, ◌≤◌, List, [], ◌∷◌, ◌++◌, ap, ◌∙◌, subst, arith, Result, Ok, map}
use Rattle.pool_checks.proofs.Imports.{result_ok, Memory, UnitName, one_if, same, times, pick_unit, view, FullNotes, SlotId, slot_answered, found_units}
use Rattle.pool_checks.proofs.allocator_tests.allocate.Goals as goal

abbrev unit : SlotId → UnitName
unit s = pick_unit Memory s.0

one_more : (u : UnitName) (l : List SlotId) (s : SlotId) → times u (map unit (l ++ s ∷ [])) ≡ times u (map unit l) + one_if (same u (unit s))
one_more u [] s = omega arith
one_more u (x ∷ xs) s = let r = one_more u xs s in omega arith

pub returns-in_ok-push-in-Ok-clause-held : goal.returns-in_ok-push-in-Ok-clause-held
returns-in_ok-push-in-Ok-clause-held g c u =
    let s = c.in-Ok.slot in
    let F : Result SlotId FullNotes → Type 0 = λ r. times u (view c.alloc.new.seat).units ≡ times u (view c.args.seat.now).units + times u (found_units Memory (slot_answered (result_ok r))) in
    let came : F (Ok s) = subst F c.in-Ok.is (c.alloc.ensures.units u) in
    let h = c.requires.held u in
    let m = one_more u c.args.held.now.items s in
    let p : times u (map unit c.push.new.self.items) ≡ times u (map unit (c.args.held.now.items ++ s ∷ [])) = ap (λ (l : List SlotId). times u (map unit l)) c.in_ok-push-in-Ok.ensures.items in
    omega arith

-- A slot that is held has its unit in the seat, and the others keep theirs when it goes.
use Rattle.std.proofs.Common.{◌≡◌, ℕ, zero, suc, ◌+◌, ◌<◌, ◌≤◌, List, [], ◌∷◌, ◌++◌, length, ap, ◌∙◌, sym, subst, arith, map, slice_index_or, remove}
use Rattle.pool_checks.proofs.Imports.{Memory, UnitName, one_if, same, times, pick_unit, view, same_self, SlotId}
use Rattle.pool_checks.proofs.allocator_tests.free_at.Goals as goal

abbrev unit : SlotId → UnitName
unit s = pick_unit Memory s.0

removed : (u : UnitName) (l : List SlotId) (i : ℕ) (d : SlotId) → i < length l → times u (map unit (remove l i)) + one_if (same u (unit (slice_index_or l i d))) ≡ times u (map unit l)
removed u [] i d h = absurd (omega arith)
removed u (s ∷ ss) zero d h = omega arith
removed u (s ∷ ss) (suc i) d h = let r = removed u ss i d (omega arith) in omega arith

pub free-requires-clause-unit : goal.free-requires-clause-unit
free-requires-clause-unit g c =
    let w = unit c.remove-slot.result in
    let e : one_if (same w (unit (slice_index_or c.args.held.now.items c.args.at c.remove-slot.result))) ≡ 1 = ap (λ (s : SlotId). one_if (same w (unit s))) (sym c.remove-slot.ensures.value) ∙ ap one_if (same_self w) in
    let r = removed w c.args.held.now.items c.args.at c.remove-slot.result c.requires.inside in
    let h = c.requires.held w in
    omega arith

pub returns-clause-held : goal.returns-clause-held
returns-clause-held g c u =
    let w = unit c.remove-slot.result in
    let e : one_if (same u (unit (slice_index_or c.args.held.now.items c.args.at c.remove-slot.result))) ≡ one_if (same u w) = ap (λ (s : SlotId). one_if (same u (unit s))) (sym c.remove-slot.ensures.value) in
    let r = removed u c.args.held.now.items c.args.at c.remove-slot.result c.requires.inside in
    let h = c.requires.held u in
    let f = c.free.ensures.units u in
    let m : times u (map unit c.remove-slot.new.self.items) ≡ times u (map unit (remove c.args.held.now.items c.args.at)) = ap (λ (l : List SlotId). times u (map unit l)) c.remove-slot.ensures.items in
    omega arith

use Rattle.std.proofs.Common.{◌≡◌, ℕ, ◌+◌, ap, arith, subst}
use Rattle.pool_images.specs.Slots.{CallFaulted}
use Rattle.pool_alloc.proofs.Imports.{Count, decommitting}
use Rattle.pool_alloc.proofs.release.steps.drained_slot.Goals as goal

pub returns-in-Err-clause-told : goal.returns-in-Err-clause-told
returns-in-Err-clause-told g c =
    let none : c.zero.result.bytes ≡ 0 = ap (λ (n : Count). n.bytes) c.zero.ensures in
    let start : c.args.held.base.bytes + c.zero.result.bytes ≡ c.args.held.base.bytes = omega arith in
    subst (λ (len : Count). CallFaulted (decommitting c.args.held.base.bytes len.bytes) c.args.held c.decommit.new.self) c.new_unchecked-whole.ensures
    (subst (λ (from : ℕ). CallFaulted (decommitting from c.new_unchecked-whole.result.bytes) c.args.held c.decommit.new.self) start c.in-Err.ensures.fault)

use Rattle.std.proofs.Common.{◌≡◌, rules, arith, true, false, List, sym, subst, is_ok}
use Rattle.pool_alloc.proofs.Imports.{Slot, ByteRange, Zero, Queued, IsReset, given_marks, kept_most, slot_of}
use Rattle.pool_alloc.specs.Leases.{slot_taken}
use Rattle.pool_alloc.specs.PageCallAnswers.{Resets}
use Rattle.pool_alloc.proofs.LocalQueues.{memory_queued, memory_reset, reset_told, zeros_of}
use Rattle.pool_alloc.proofs.MemoryReturns.{pushed_reset, reset_as_row}
use Rattle.pool_alloc.proofs.reset.reset_memory.Goals as goal

pub push_reset-requires-clause-reset : goal.push_reset-requires-clause-reset
push_reset-requires-clause-reset g c =
    let slot : Slot = c.unwrap_static_image-slot.result in
    let R : List ByteRange → Type 0 = λ l. IsReset l (memory_queued c.in-Ok.kept c.slot_taken-at.result c.clear_and_remain_ready.new.self) in
    let M : Queued → Type 0 = λ m. IsReset c.as_slice-listed.result.now m in
    subst M (sym c.memory_queued-item.ensures) (subst R (sym c.as_slice-listed.ensures)
    (memory_reset c.args.settings.now.keep_resident.bytes c.in-Ok.kept c.slot_taken-at.result c.clear_and_remain_ready.new.self c.clear_and_remain_ready.new.ranges c.requires.can.kept (omega (arith, c.in-Ok.ensures.resident, kept_most (given_marks c.args.settings.now.dirty_pages slot) slot.region.behaviour c.args.settings.now.keep_resident.bytes slot)) c.clear_and_remain_ready.ensures.fits c.clear_and_remain_ready.ensures.parts c.in-Ok.ensures.clean_after))

pub returns : goal.returns
returns g c =
    let keep = c.args.settings.now.keep_resident.bytes in
    let new : Slot = c.clear_and_remain_ready.new.self in
    let T : Slot → Type 0 = λ s. Resets false c.args.settings.now.dirty_pages keep (slot_taken c.args.lease) s new in
    let told = reset_told c.args.settings.now.dirty_pages keep c.in-Ok.kept (slot_taken c.args.lease) c.unwrap_static_image-slot.result new c.clear_and_remain_ready.new.ranges c.requires.can.kept c.in-Ok.ensures.value c.in-Ok.ensures.resident c.clear_and_remain_ready.ensures.ranges c.clear_and_remain_ready.ensures.fits c.clear_and_remain_ready.ensures.parts c.in-Ok.ensures.clean_after in
    let unwrapped : c.unwrap_static_image-slot.result ≡ slot_of c.args.lease.memory = search rules in
    let pushed = pushed_reset c.args.settings.now.dirty_pages keep c.args.lease c.slot_taken-at.result c.unwrap_static_image-slot.result new c.memory_queued-item.result c.in-Ok.kept c.as_slice-listed.result.now c.clear_and_remain_ready.new.ranges c.args.frame.now.local c.push_reset.new.self
    c.push_reset.ensures.pushed c.memory_queued-item.ensures c.as_slice-listed.ensures c.clear_and_remain_ready.ensures.ranges c.in-Ok.ensures.value c.in-Ok.ensures.resident c.slot_taken-at.ensures unwrapped in
    (false, new, subst T (search rules) told, search rules, λ core. reset_as_row c.args.settings.now c.args.lease new c.args.frame.now c.was_reset.new.frame c.was_reset.new.outcome c.push_reset.new.self c.was_reset.ensures pushed core)

pub returns-in_default : goal.returns-in_default
returns-in_default g c =
    let keep = c.args.settings.now.keep_resident.bytes in
    let slot : Slot = c.unwrap_static_image-slot.result in
    let new : Slot = c.clear_and_remain_ready.new.self in
    let T : Slot → Type 0 = λ s. Resets true c.args.settings.now.dirty_pages keep (slot_taken c.args.lease) s new in
    let zeros : slot.region.behaviour ≡ Zero = zeros_of slot.region.behaviour (is_ok c.clear_and_remain_ready.result) c.clear_and_remain_ready.ensures.restores (search rules) in
    let told : T slot = (zeros, c.in_default.ensures.fault) in
    (true, new, subst T (search rules) told, search rules, search rules)

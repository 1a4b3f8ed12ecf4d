use Rattle.std.proofs.Common.{◌≡◌, true, IfSome}
use Rattle.pool_images.specs.Slots.{IsReady}
use Rattle.pool_checks.proofs.reset_tests.use_ten_pages.Given as goal

-- the slot is in use, and as large as it was
abbrev pub invariant-loop-k : goal.invariant-loop-k
invariant-loop-k g l = record {
  accessible : l.slot.accessible ≡ l.fn.slot.accessible;
  page : l.slot.region.page ≡ l.fn.slot.region.page;
  dirty : l.slot.dirty ≡ true;
  ready : IfSome l.slot.region.contents (IsReady l.slot);
}

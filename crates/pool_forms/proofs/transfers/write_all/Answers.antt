use Rattle.std.proofs.Common.{◌<◌, ◌∙◌, arith}
use Rattle.pool_forms.proofs.Pieces.{taken_on}
use Rattle.pool_forms.proofs.transfers.write_all.Goals as goal

pub loop-done-preserved : goal.loop-done-preserved
loop-done-preserved g c = record {
  within = omega (arith, c.in_ok-taken.ensures.fits);
  taken = taken_on _ _ _ c.args.bytes.now _ c.loop-done.done c.in_ok-taken.taken c.loop-done.invariant.taken c.split_at.ensures.back c.in_ok-taken.ensures.taken;
  faults = let some : 0 < c.in_ok-taken.taken = omega arith in c.in_ok-taken.ensures.faults some ∙ c.loop-done.invariant.faults;
}

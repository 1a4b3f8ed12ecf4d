use Rattle.std.proofs.Common.{arith}
use Rattle.pool_pages.proofs.DenseCalls.{fresh_made}
use Rattle.pool_pages.proofs.dense_pages.DensePages.new.Goals as goal

pub returns : goal.returns
returns c =
    fresh_made c.args.page c.get-size.result c.args.accessible c.args.len c.in_ok-new.field-0 c.in_ok-new-2.field-0 c.set_marks.new.marks.items c.in_ok-marks.marks.items c.in_ok-filled.field-0.items c.in_ok-filled-2.field-0.items c.get-size.ensures.value (omega (arith, c.get-size.ensures.valid.at_least)) c.requires.accessible c.requires.len c.requires.within
    c.in_ok-new.ensures c.in_ok-new-2.ensures c.in_ok-marks.ensures c.set_marks.ensures c.in_ok-filled.ensures c.in_ok-filled-2.ensures

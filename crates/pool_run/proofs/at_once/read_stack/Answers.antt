use Rattle.std.proofs.Common.{◌≡◌, length, arith}
use Rattle.pool_run.proofs.BytesMoved.{stack_read}
use Rattle.pool_run.proofs.at_once.read_stack.Goals as goal

pub returns : goal.returns
returns g c =
    let long : length c.read.new.out ≡ c.in-Ok.bytes.len = omega (arith, c.read.auto.out, c.deref_mut.ensures.len) in
    let same : length c.deref_mut.result.now ≡ c.args.len = omega (arith, c.deref_mut.ensures.len, c.in-Ok.ensures) in
    stack_read c.args.stack.now.slot c.args.at c.args.len c.in-Ok.bytes.len (length c.deref_mut.result.now) c.len.result c.read.new.out _ c.from_vec.result long c.in-Ok.ensures same c.len.ensures.value c.if-not-is_inside.ensures c.read.ensures c.from_vec.ensures

use Rattle.pool_images.proofs.SameBytes.{resets_same}
use Rattle.pool_images.proofs.reset_laws.resets_leave_the_same.Goals as goal

pub returns : goal.returns
returns c = resets_same

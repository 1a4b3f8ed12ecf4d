use Rattle.std.proofs.Common.{refl}
use Rattle.pool_shared.proofs.kept.KeptHeld.validate.Goals as goal

pub validate_atomic_addr-requires : goal.validate_atomic_addr-requires
validate_atomic_addr-requires g c = (2, refl)

pub validate_atomic_addr-requires-in-Word64 : goal.validate_atomic_addr-requires-in-Word64
validate_atomic_addr-requires-in-Word64 g c = (3, refl)

use Rattle.std.proofs.Common.{refl}
use Rattle.pool_shared.proofs.shared_state.SharedState.wait32.Goals as goal

pub validate_atomic_addr-requires : goal.validate_atomic_addr-requires
validate_atomic_addr-requires g c = (2, refl)

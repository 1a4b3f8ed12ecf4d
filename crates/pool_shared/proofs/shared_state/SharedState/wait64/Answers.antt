use Rattle.std.proofs.Common.{refl}
use Rattle.pool_shared.proofs.shared_state.SharedState.wait64.Goals as goal

pub validate_atomic_addr-requires : goal.validate_atomic_addr-requires
validate_atomic_addr-requires g c = (3, refl)

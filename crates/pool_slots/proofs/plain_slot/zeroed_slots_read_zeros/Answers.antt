use Rattle.pool_slots.proofs.ByHand.{zeroed_clean}
use Rattle.pool_slots.proofs.PlainSlots.{clean_slots_read_zeros}
use Rattle.pool_slots.proofs.plain_slot.zeroed_slots_read_zeros.Goals as goal

pub returns-clause-clean : goal.returns-clause-clean
returns-clause-clean c = clean_slots_read_zeros

pub returns-clause-zeroed : goal.returns-clause-zeroed
returns-clause-zeroed c = zeroed_clean

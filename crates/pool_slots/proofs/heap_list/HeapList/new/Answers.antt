use Rattle.pool_slots.proofs.HeapLists.{sound_as_made}
use Rattle.pool_slots.proofs.heap_list.HeapList.new.Goals as goal

pub invariant_of-result : goal.invariant_of-result
invariant_of-result g c = sound_as_made g.row.H.Denot g.H.GcHeap.attached c.loop.counter c.loop.entries.items c.loop.invariant

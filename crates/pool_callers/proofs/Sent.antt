-- A caller may go to another thread where its regions and heaps may, and threads may share an allocator where they may share these too.
use denote.RattleType.{RattleType}
use denote.Param.Send.{IsSend, IsSync}
use Rattle.pool_pages.specs.declared.pages.Pages as Pages
use Rattle.pool_hall.specs.contracts.hall.Hall as Hall
use Rattle.pool_hall.specs.contracts.hall.HallSeat as HallSeat
use Rattle.pool_hall.specs.declared.part.Part as Part
use Rattle.pool_slots.specs.declared.heap_maker.GcHeap as GcHeap
use Rattle.pool_driver.specs.contracts.part.HallPart as HallPart
use Rattle.pool_driver.proofs.Sent.{hall_sync, seat_send}
use Rattle.pool_callers.specs.contracts.allocator.PoolingInstanceAllocator as Allocator
use Rattle.pool_callers.specs.contracts.seat.CallerSeat as CallerSeat
use Rattle.pool_callers.proofs.allocator.PoolingInstanceAllocator.TheSendSync as sent_allocator
use Rattle.pool_callers.proofs.seat.CallerSeat.TheSendSync as sent_caller

module _ (P H M : RattleType) (p : Pages.Ghosts P.Denot) (h : GcHeap.Ghosts H.Denot) (pages : IsSend P) (heaps : IsSend H) where
  abbrev PartRow : RattleType
  PartRow = HallPart.the_row P H M p h

  pub caller_send : IsSend (CallerSeat.the_row (HallSeat.the_row PartRow) P H p h)
  caller_send = sent_caller.the_send (HallSeat.the_row PartRow) P H p h (seat_send P H M p h pages heaps) pages heaps

  pub allocator_sync : (g : Part.Ghosts PartRow.Denot) → IsSync P → IsSync H → IsSync (Allocator.the_row (Hall.the_row PartRow g) P H p h)
  allocator_sync g = sent_allocator.the_sync (Hall.the_row PartRow g) P H p h (hall_sync P H M p h pages heaps g)

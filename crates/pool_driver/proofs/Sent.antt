-- A part of a pool may go to another thread where its regions and its heaps may: what it tells of its pool has no bytes. So may a seat, and threads may
-- share a hall.
use denote.RattleType.{RattleType}
use denote.Param.Send.{IsSend, IsSync}
use denote.Param.SendFields.{declared_send}
use Rattle.std.proofs.Crossing.{crosses}
use Rattle.std.specs.contracts.snapshot.Snapshot as Snapshot
use Rattle.pool_pages.specs.declared.pages.Pages as Pages
use Rattle.pool_hall.specs.contracts.hall.Hall as Hall
use Rattle.pool_hall.specs.contracts.hall.HallSeat as HallSeat
use Rattle.pool_hall.specs.declared.part.Part as Part
use Rattle.pool_hall.proofs.hall.Hall.TheSendSync as sent_hall
use Rattle.pool_hall.proofs.hall.HallSeat.TheSendSync as sent_seat
use Rattle.pool_slots.specs.contracts.plan.Plan as Plan
use Rattle.pool_slots.specs.declared.heap_maker.GcHeap as GcHeap
use Rattle.pool_slots.proofs.part.PoolPart.TheSendSync as sent_part
use Rattle.pool_alloc.specs.contracts.Settings as Settings
use Rattle.pool_driver.specs.contracts.part.HallPart as HallPart
use Rattle.pool_driver.specs.contracts.part.Origin as Origin

told_send : (T : RattleType) → IsSend (Snapshot.the_row T)
told_send T = search crosses

origin_send : (M : RattleType) → IsSend (Origin.the_row M)
origin_send M = declared_send (Origin.the_type M) (told_send M, (told_send Settings.the_row, (told_send Plan.the_row, tt)))

module _ (P H M : RattleType) (p : Pages.Ghosts P.Denot) (h : GcHeap.Ghosts H.Denot) (pages : IsSend P) (heaps : IsSend H) where
  abbrev PartRow : RattleType
  PartRow = HallPart.the_row P H M p h

  pub part_send : IsSend PartRow
  part_send = declared_send (HallPart.the_type P H M p h) (sent_part.the_send P H p h pages heaps, (origin_send M, tt))

  pub seat_send : IsSend (HallSeat.the_row PartRow)
  seat_send = sent_seat.the_send PartRow part_send

  pub hall_sync : (g : Part.Ghosts PartRow.Denot) → IsSync (Hall.the_row PartRow g)
  hall_sync g = sent_hall.the_sync PartRow g part_send

-- A worker may go to a thread of its own where its party's regions may, and threads may share what the workers work on.
use denote.RattleType.{RattleType}
use denote.Ref.{NamedLft}
use denote.Param.Send.{IsSend, IsSync, plain_send, shr_sync, shr_slice_sync, sendable}
use denote.Param.SendFields.{declared_send, declared_sync}
use Rattle.std.proofs.Crossing.{crosses}
use Rattle.std.proofs.alloc.Global.TheSendSync as sent_global
use Rattle.pool_pages.specs.declared.pages.Pages as Pages
use Rattle.pool_types.proofs.plain_list.PlainList.TheSendSync as sent_list
use Rattle.pool_hall.specs.contracts.hall.Hall as Hall
use Rattle.pool_hall.specs.contracts.hall.HallSeat as HallSeat
use Rattle.pool_hall.specs.declared.part.Part as Part
use Rattle.pool_slots.specs.contracts.listed_heaps.PlainHeap as PlainHeap
use Rattle.pool_slots.specs.contracts.listed_heaps.PlainHeapGcHeap.TheImpl as heaps
use Rattle.pool_slots.proofs.listed_heaps.PlainHeap.TheSendSync as sent_heap
use Rattle.pool_alloc.proofs.frame.Frame.TheSendSync as sent_frame
use Rattle.pool_alloc.proofs.frame.ModuleCall.TheSendSync as sent_call
use Rattle.pool_driver.specs.contracts.part.HallPart as HallPart
use Rattle.pool_driver.proofs.Sent.{hall_sync, seat_send}
use Rattle.pool_driver.proofs.shared_pool.SharedPool.TheSendSync as sent_pool
use Rattle.pool_run.proofs.input.Input.TheSendSync as sent_input
use Rattle.pool_run.proofs.reply.Reply.TheSendSync as sent_reply
use Rattle.pool_run.proofs.leases.Leases.TheSendSync as sent_leases
use Rattle.pool_run.specs.contracts.running_party.RunningParty as RunningParty
use Rattle.pool_workers.specs.contracts.worker.Worker as Worker
use Rattle.pool_workers.specs.contracts.workers.Commands as Commands

module _ (P M : RattleType) (p : Pages.Ghosts P.Denot) (pages : IsSend P) where
  abbrev PartRow : RattleType
  PartRow = HallPart.the_row P PlainHeap.the_row M p heaps.ghosts

  abbrev SeatRow : RattleType
  SeatRow = HallSeat.the_row PartRow

  party_send : IsSend (RunningParty.the_row P p)
  party_send =
      declared_send (RunningParty.the_type P p) (
        sent_frame.the_send P PlainHeap.the_row p heaps.ghosts pages sent_heap.the_send,
        (search (sendable, crosses) depth 20, (search (sendable, crosses) depth 20, (search (sendable, crosses) depth 20, (plain_send _ _ _ _ _, (plain_send _ _ _ _ _, (sent_leases.the_send P p pages, tt)))))),
      )

  pub worker_send : IsSend (Worker.the_row SeatRow P p)
  worker_send =
      declared_send (Worker.the_type SeatRow P p)
      (plain_send _ _ _ _ _, (seat_send P PlainHeap.the_row M p heaps.ghosts pages sent_heap.the_send, (party_send, (search (sendable, crosses, sent_list.the_send, sent_reply.the_send) depth 20, tt))))

  module _ (g : Part.Ghosts PartRow.Denot) where
    abbrev HallRow : RattleType
    HallRow = Hall.the_row PartRow g

    pub commands_sync : (κ : NamedLft) (R G : RattleType) → IsSync R → IsSync G → IsSync (Commands.the_row κ HallRow R G)
    commands_sync κ R G handle gate =
        let hall : IsSync HallRow = hall_sync P PlainHeap.the_row M p heaps.ghosts pages sent_heap.the_send g in
        declared_sync (Commands.the_type κ HallRow R G)
        (shr_sync _ _ _ handle, (sent_global.the_sync, (shr_sync _ _ _ (sent_pool.the_sync HallRow hall), (shr_sync _ _ _ sent_input.the_sync, (shr_slice_sync _ _ _ sent_call.the_sync, (shr_sync _ _ _ gate, tt))))))

-- Which closures may go to another thread: what each captures may.
use denote.RattleType.{RattleType}
use denote.Param.{param}
use denote.Param.Send.{AllSend, IsSend, IsSync, plain_send, recorded_send, shr_send, struct_send}
use denote.Param.SendFields.{declared_send}
use denote.Struct.Declared.{shape}
use denote.Struct.Field.{shr_ref_field, u32-field}
use denote.Struct.Tuple.{TupleAt, field_at, type_at}
use base.Fml.{Lft}
use mir.Syntax.{named}
use Rattle.std.proofs.Common.{ℕ, List, [], ◌∷◌}
use Rattle.std.specs.contracts.alloc.Global as Global
use Rattle.std.proofs.alloc.Global.TheSendSync as sent_global
use Rattle.pool_pages.specs.contracts.made_region.MadeRegion as MadeRegion
use Rattle.pool_pages.specs.contracts.made_region.MadeRegionPages.TheImpl as pages
use Rattle.pool_pages.specs.contracts.memory_pages.MemoryPages as MemoryPages
use Rattle.pool_pages.proofs.made_region.MadeRegion.TheSendSync as sent_region
use Rattle.pool_hall.specs.contracts.hall.Hall as Hall
use Rattle.pool_hall.specs.contracts.hall.HallSeat as HallSeat
use Rattle.pool_hall.specs.declared.part.Part as Part
use Rattle.pool_slots.specs.contracts.listed_heaps.PlainHeap as PlainHeap
use Rattle.pool_slots.specs.contracts.listed_heaps.PlainHeapGcHeap.TheImpl as heaps
use Rattle.pool_slots.proofs.listed_heaps.PlainHeap.TheSendSync as sent_heap
use Rattle.pool_alloc.proofs.frame.ModuleCall.TheSendSync as sent_call
use Rattle.pool_driver.specs.contracts.part.HallPart as HallPart
use Rattle.pool_callers.specs.contracts.allocator.PoolingInstanceAllocator as Allocator
use Rattle.pool_callers.specs.contracts.seat.CallerSeat as CallerSeat
use Rattle.pool_callers.proofs.Sent.{allocator_sync, caller_send}
use Rattle.pool_uses.specs.contracts.threads.Worker as Worker

-- Over regions in memory: a part, a caller, and an allocator, whatever a hall sees of its parts
abbrev PartRow : RattleType
PartRow = HallPart.the_row MadeRegion.the_row PlainHeap.the_row MemoryPages.the_row pages.ghosts heaps.ghosts

abbrev pub CallerRow : RattleType
CallerRow = CallerSeat.the_row (HallSeat.the_row PartRow) MadeRegion.the_row PlainHeap.the_row pages.ghosts heaps.ghosts

abbrev pub AllocatorRow : Part.Ghosts PartRow.Denot → RattleType
AllocatorRow g = Allocator.the_row (Hall.the_row PartRow g) MadeRegion.the_row PlainHeap.the_row pages.ghosts heaps.ghosts

pub one_send : IsSend CallerRow
one_send = caller_send MadeRegion.the_row PlainHeap.the_row MemoryPages.the_row pages.ghosts heaps.ghosts sent_region.the_send sent_heap.the_send

all_sync : (g : Part.Ghosts PartRow.Denot) → IsSync (AllocatorRow g)
all_sync g = allocator_sync MadeRegion.the_row PlainHeap.the_row MemoryPages.the_row pages.ghosts heaps.ghosts sent_region.the_send sent_heap.the_send g sent_region.the_sync sent_heap.the_sync

pub worker_send : IsSend Worker.the_row
worker_send = declared_send Worker.the_type (one_send, (sent_call.the_send, (plain_send _ _ _ _ _, tt)))

-- What a closure captures lies in it as in a tuple.
tuple_send : (name : List ℕ) (Rs : List RattleType) → AllSend (shape (type_at name Rs)).fields → IsSend (TupleAt name Rs)
tuple_send name Rs s = recorded_send (field_at name Rs).row _ _ (type_at name Rs).to_one (struct_send (shape (type_at name Rs)) s)

pub two_send : (name : List ℕ) (A B : RattleType) → IsSend A → IsSend B → IsSend (TupleAt name (A ∷ B ∷ []))
two_send name A B a b = tuple_send name (A ∷ B ∷ []) (a, (b, tt))

-- The handle and the allocator are captured by reference, and what goes to the thread by value.
module _ (name : List ℕ) (R : RattleType) (k l : Lft) (g : Part.Ghosts PartRow.Denot) (s : IsSync (param 0 R)) where
  abbrev Handle : RattleType
  Handle = (shr_ref_field record { mir = named 6; lft = k } (param 0 R) tt).row

  abbrev Shared : RattleType
  Shared = (shr_ref_field record { mir = named 7; lft = l } (AllocatorRow g) tt).row

  pub one_captured : (W : RattleType) → IsSend W → IsSend (TupleAt name (Handle ∷ Global.the_row ∷ Shared ∷ W ∷ (u32-field).row ∷ []))
  one_captured W w = tuple_send name (Handle ∷ Global.the_row ∷ Shared ∷ W ∷ (u32-field).row ∷ [])
      (shr_send _ _ (param 0 R) s, (sent_global.the_send, (shr_send _ _ (AllocatorRow g) (all_sync g), (w, (plain_send _ _ _ _ _, tt)))))

  pub two_captured : (V W : RattleType) → IsSend V → IsSend W → IsSend (TupleAt name (Handle ∷ Global.the_row ∷ Shared ∷ V ∷ W ∷ (u32-field).row ∷ []))
  two_captured V W v w = tuple_send name (Handle ∷ Global.the_row ∷ Shared ∷ V ∷ W ∷ (u32-field).row ∷ [])
      (shr_send _ _ (param 0 R) s, (sent_global.the_send, (shr_send _ _ (AllocatorRow g) (all_sync g), (v, (w, (plain_send _ _ _ _ _, tt))))))

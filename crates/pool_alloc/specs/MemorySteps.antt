-- What a party does by itself with what it has taken.
use Rattle.std.specs.Prelude.{ℕ, List, ◌++◌, map, Bool, true, false, Option, Some, None, Result, Ok, Err, slice_get}
use Rattle.pool_alloc.specs.Imports.{count, Told, MemoryDecl, MemoryType, Unsupported, Slot, given_marks, kept_by, left_by, reset_by, LimiterError, MemoryState, Static, made_static, limits_answer, fixed_in, MemoryError, stripe_colour, Queue, Queued, with_slot, QueuedRange, HeapMakeFault, AllocError}
use Rattle.pool_memory.specs.declared.memory_error.MemoryError.TheVariants as unmade
use Rattle.pool_slots.specs.declared.queued_range.QueueKind.TheVariants as queued
use Rattle.pool_slots.specs.declared.heap_maker.HeapMakeFault.TheVariants as no_heap
use Rattle.pool_slots.specs.declared.errors.AllocError.TheVariants as refusal
use Rattle.pool_alloc.specs.Leases.{memory_slot}
use Rattle.pool_alloc.specs.declared.frame.TakenSlot.{TakenSlot}
use Rattle.pool_alloc.specs.declared.pool_core.Settings.{Settings}

-- the image slot that is made of the region of memory slot i, which was never used: in the colour of its stripe
abbrev pub image_made : Settings → ℕ → Told → Slot
image_made s i region = record {
  region = region;
  base = count s.page 0;
  accessible = count s.page 0;
  static_size = s.max_memory_size;
  image = None;
  dirty = false;
  colour = stripe_colour s.num_stripes i;
}

-- the slot of a memory that has ended, once it was reset, by its dirty marks where they are offered, so that as many of its bytes
-- as are wanted stay resident
abbrev pub slot_ended : Bool → ℕ → TakenSlot → Slot → Queued
slot_ended offered keep at slot = record {
  name = memory_slot at.name.slot;
  slot = reset_by (given_marks offered slot) slot.region.behaviour keep slot;
  known = true;
  bytes = kept_by (given_marks offered slot) slot.region.behaviour keep slot;
  by_hand = None;
  numbers = at.numbers;
}

-- what is to be decommitted of it then
abbrev pub reset_listed : Bool → ℕ → ℕ → Slot → List QueuedRange
reset_listed offered keep index slot = map (λ r. record { kind = queued.Memory; slot = record { 0 = index }; range = r }) (left_by (given_marks offered slot) slot.region.behaviour keep slot)

-- the local queue with these ranges and that slot
abbrev pub reset_into : Bool → ℕ → TakenSlot → Slot → Queue → Queue
reset_into offered keep at slot q = with_slot (slot_ended offered keep at slot) (record q { ranges = q.ranges ++ reset_listed offered keep at.name.slot slot })

-- why a memory isn't made, as the refusal of an allocation
abbrev pub refusal_of : MemoryError → AllocError
refusal_of unmade.Memory = refusal.Memory
refusal_of (unmade.Unsupported u) = refusal.Unsupported u
refusal_of (unmade.LimiterDenied min) = refusal.LimiterDenied false min
refusal_of (unmade.LimiterFault e) = refusal.LimiterFault e
refusal_of unmade.PageFault = refusal.PageFault

-- The error of a heap's maker as the allocator's refusal.
abbrev pub heap_refusal : HeapMakeFault → AllocError
heap_refusal no_heap.Memory = refusal.Memory
heap_refusal no_heap.HeapFault = refusal.HeapFault

-- the memory in a slot, or that the slot hasn't the room
abbrev pub made_of : MemoryType → Result Static (Slot × Unsupported) → Result MemoryState AllocError
made_of ty (Ok m) = Ok (fixed_in ty m)
made_of ty (Err refused) = Err (refusal.Unsupported refused.1)

-- the memory that begins with so many bytes and may have so many, or why there is none
abbrev pub made_of_limits : Result (ℕ × Option ℕ) MemoryError → MemoryType → ℕ → Slot → Result MemoryState AllocError
made_of_limits (Err e) ty room slot = Err (refusal_of e)
made_of_limits (Ok limits) ty room slot = made_of ty (made_static room limits.0 limits.1 slot)

-- The memory that is made in a slot for what the module declares; want of memory where it declares none.
abbrev pub made_for : ℕ → Result Bool LimiterError → Slot → Option MemoryDecl → Result MemoryState AllocError
made_for room answer slot None = Err refusal.Memory
made_for room answer slot (Some decl) = made_of_limits (limits_answer answer decl.ty) decl.ty room slot

-- memory k of the module, made in a slot where the limiter gave this answer, or why it isn't
abbrev pub memory_made : Settings → List MemoryDecl → ℕ → Result Bool LimiterError → Slot → Result MemoryState AllocError
memory_made s decls k answer slot = made_for s.max_memory_size answer slot (slice_get decls k)

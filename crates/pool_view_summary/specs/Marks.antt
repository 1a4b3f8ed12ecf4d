-- What is remembered of a run, so that its next steps can be counted: what is known of each slot from the picks so far, how many slots
-- each queue has, and how many the flush of each party put back.
use Rattle.std.specs.Prelude.{ℕ, List, length, replicate, slice_index_or, slice_set, ◌&&◌, Bool, true, false, not, if◌then◌else◌, Option, None}
use Rattle.pool_types.specs.Rising.{risen}
use Rattle.pool_hall.specs.declared.unit_name.SlotKind.{SlotKind}
use Rattle.pool_hall.specs.declared.unit_name.SlotKind.TheVariants.{Heap as heap_kind, Memory as memory_kind, Stack as stack_kind, Table as table_kind}
use Rattle.pool_slots.specs.declared.slot_name.SlotName.{SlotName}
use Rattle.pool_run.specs.declared.input.Input.{Input}
use Rattle.pool_view_summary.specs.declared.made.Made.{Made}
use Rattle.pool_view_summary.specs.declared.marks.Marks.{Marks}
use Rattle.pool_view_summary.specs.declared.marks.SlotPast.{SlotPast}
use Rattle.pool_view_summary.specs.declared.seen.Doing.{Doing}
use Rattle.pool_view_summary.specs.declared.seen.Doing.TheVariants as doing
use Rattle.pool_view_summary.specs.declared.seen.MemoryOf.{MemoryOf}

-- What is remembered, as lists by numbers: of slots, of queues and of parties.
pub record Remembered : Type 0 where
  pub memories : List SlotPast
  pub tables : List SlotPast
  pub stacks : List SlotPast
  pub heaps : List SlotPast
  pub queued : List ℕ
  pub flushing : List ℕ

-- what these marks have in their vectors
abbrev pub marks_of : Marks → Remembered
marks_of m = record { memories = m.memories.items; tables = m.tables.items; stacks = m.stacks.items; heaps = m.heaps.items; queued = m.queued.items; flushing = m.flushing.items }

-- A slot that was never picked.
abbrev pub fresh : SlotPast
fresh = record { used = false; affine = None }

-- A slot that was picked, for this memory of a module last.
abbrev pub used_for : Option MemoryOf → SlotPast
used_for affine = record { used = true; affine = affine }

-- Nothing is remembered as a run of the input begins.
abbrev pub no_marks : Input → Remembered
no_marks input = record {
  memories = replicate input.config.limits.total_memories fresh;
  tables = replicate input.config.limits.total_tables fresh;
  stacks = replicate input.config.limits.total_stacks fresh;
  heaps = replicate input.config.limits.total_gc_heaps fresh;
  queued = replicate input.shards 0;
  flushing = replicate (length input.parties) 0;
}

-- What is known of a slot with this number and kind.
abbrev pub past_in : SlotKind → ℕ → Remembered → SlotPast
past_in memory_kind slot k = slice_index_or k.memories slot fresh
past_in table_kind slot k = slice_index_or k.tables slot fresh
past_in stack_kind slot k = slice_index_or k.stacks slot fresh
past_in heap_kind slot k = slice_index_or k.heaps slot fresh

abbrev pub past_of : SlotName → Remembered → SlotPast
past_of name k = past_in name.kind name.slot k

-- This is known of it now.
abbrev pub past_put : SlotKind → ℕ → SlotPast → Remembered → Remembered
past_put memory_kind slot past k = record k { memories = slice_set k.memories slot past }
past_put table_kind slot past k = record k { tables = slice_set k.tables slot past }
past_put stack_kind slot past k = record k { stacks = slice_set k.stacks slot past }
past_put heap_kind slot past k = record k { heaps = slice_set k.heaps slot past }

abbrev pub with_past : SlotName → SlotPast → Remembered → Remembered
with_past name past k = past_put name.kind name.slot past k

-- How many slots a queue has.
abbrev pub queue_length : ℕ → Remembered → ℕ
queue_length queue k = slice_index_or k.queued queue 0

abbrev pub with_queued : ℕ → ℕ → Remembered → Remembered
with_queued queue slots k = record k { queued = slice_set k.queued queue slots }

-- How many slots the flush of a party put back so far, or its last one.
abbrev pub flushed_by : ℕ → Remembered → ℕ
flushed_by party k = slice_index_or k.flushing party 0

abbrev pub with_flushing : ℕ → ℕ → Remembered → Remembered
with_flushing party slots k = record k { flushing = slice_set k.flushing party slots }

-- The memory that a picked slot is for: only memories are affine.
abbrev pub wanted_for : SlotKind → Option MemoryOf → Option MemoryOf
wanted_for memory_kind wanted = wanted
wanted_for _ wanted = None

-- a step of a flush
abbrev pub is_flush : Doing → Bool
is_flush doing.Clean = true
is_flush doing.PutBack = true
is_flush doing.FreeAll = true
is_flush _ = false

-- After the first step, which was none of a flush, a flush is next.
abbrev pub begins_flush : Doing → Doing → Bool
begins_flush before after = is_flush after && not (is_flush before)

-- A slot was picked, by a request or by a purge, which leaves no affinity.
abbrev pub slots_marked : Doing → Doing → Remembered → Remembered
slots_marked (doing.Pick wanted) (doing.Take name) k = with_past name (used_for (wanted_for name.kind wanted)) k
slots_marked doing.PurgePick (doing.PurgeTake name) k = with_past name (used_for None) k
slots_marked _ _ k = k

-- how many slots a queue has that came to so many: none where a flush is next, which has all of them
abbrev pub length_left : Doing → ℕ → ℕ
length_left after slots = if is_flush after then 0 else slots

-- A slot came into this queue, or the queue was taken.
abbrev pub queue_marked : Doing → ℕ → Doing → Remembered → Remembered
queue_marked doing.Append queue after k = with_queued queue (length_left after (risen (queue_length queue k))) k
queue_marked (doing.TakeQueue tried) queue after k = with_queued queue 0 k
queue_marked _ queue after k = k

abbrev pub queues_marked : Made → Remembered → Remembered
queues_marked m k = queue_marked m.before m.queue m.after k

-- A slot was put back, by a flush that is under way.
abbrev pub put_marked : Doing → ℕ → Remembered → Remembered
put_marked doing.PutBack party k = with_flushing party (risen (flushed_by party k)) k
put_marked _ party k = k

-- A flush begins, or puts a slot back.
abbrev pub flushes_marked : Made → Remembered → Remembered
flushes_marked m k = if begins_flush m.before m.after then with_flushing m.party 0 k else put_marked m.before m.party k

-- What is remembered after a step.
abbrev pub marked : Made → Remembered → Remembered
marked m k = flushes_marked m (queues_marked m (slots_marked m.before m.after k))

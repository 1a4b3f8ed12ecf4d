-- What the steps of a table do that change no part of the pool: a table is made, and reset.
use Rattle.std.specs.Prelude.{◌≡◌, ℕ, ◌*◌, ◌<◌, ◌≤◌, ◌+◌, ◌^◌, length, nat_lt, replicate, if◌then◌else◌, Bool, false, true, Option, Some, None, option_map, Result, Ok, Err, List, [], ◌∷◌, slice_get}
use Rattle.pool_alloc.specs.Imports.{rounded_up, Told, TableType, TableSize, table_answer, LimiterTold, after_answer, LimiterError, IsPlain, IsUnusedFrom, used_kept, used_left, used_marks, used_reset, Queue, Queued, HasOwners, holds, plain_slot, with_slot, with_ranges, SlotName, RegionNumbers, AllocError, data_size, width, empty, Exchange, Exchanged, may_grow, kind_of, room_of, new_table, making_question, type_maximum, in_region, TableError}
use Rattle.pool_slots.specs.declared.queued_range.QueueKind.TheVariants as queued
use Rattle.pool_slots.specs.declared.errors.AllocError.TheVariants as alloc
use Rattle.pool_table.specs.declared.table_error.TableError.TheVariants as unmade
use Rattle.pool_alloc.specs.declared.frame.TakenSlot.{TakenSlot}
use Rattle.pool_alloc.specs.declared.pool_core.Settings.{Settings}
use Rattle.pool_alloc.specs.TableLeases.{LeasedTable, table_slot}

-- how many bytes of its region a table uses: those of its elements, as whole pages
abbrev pub bytes_used : ℕ → LeasedTable → ℕ
bytes_used page l = rounded_up page (l.table.size * width l.table.kind)

-- A table of the pool: the whole of its region is its slot, and what it doesn't use holds zeros.
pub record IsInRegion (page : ℕ) (l : LeasedTable) (region : Told) : Type 0 where
  pub is : l.table.region ≡ Some region
  pub same_page : region.page ≡ page
  pub plain : IsPlain (plain_slot 0 region)
  pub few : region.len ≤ 2 ^ 32
  pub within : bytes_used page l ≤ region.len
  pub unused : IsUnusedFrom (bytes_used page l) (plain_slot 0 region)

-- the queue has room for one slot more and the ranges that its reset may leave, and doesn't hold this one
pub record CanQueue (name : SlotName) (q : Queue) : Type 0 where
  pub ranges : length q.ranges + 8 ≤ q.range_room
  pub slots : length q.slots < q.slot_room
  pub owners : HasOwners q
  pub not_held : holds name q.slots ≡ false

-- the dirty marks that its reset is given
abbrev pub table_marks : Bool → ℕ → LeasedTable → Told → Option (List Bool)
table_marks offered page l region = used_marks offered (bytes_used page l) (plain_slot 0 region)

-- The table's slot once it is reset: so many of the bytes that it used are zeroed at once, and are resident. Where a
-- decommit of the others fails, all of them are zeroed by hand.
abbrev pub table_queued : Bool → ℕ → ℕ → LeasedTable → Told → Queued
table_queued offered page keep l region = record {
  name = table_slot l.index;
  slot = used_reset (table_marks offered page l region) keep (bytes_used page l) (plain_slot 0 region);
  known = true;
  bytes = used_kept (table_marks offered page l region) keep (bytes_used page l) (plain_slot 0 region);
  by_hand = Some (bytes_used page l);
  numbers = l.numbers;
}

-- a table is reset into a queue
abbrev pub table_reset : Bool → ℕ → ℕ → LeasedTable → Told → Queue → Queue
table_reset offered page keep l region q = with_slot (table_queued offered page keep l region) (with_ranges queued.Table l.index (used_left (table_marks offered page l region) keep (bytes_used page l) (plain_slot 0 region)) q)

-- The local queue once a table that lies in a region was reset into it.
abbrev pub reset_in : Bool → ℕ → ℕ → LeasedTable → Option Told → Queue → Queue
reset_in offered page keep l None q = q
reset_in offered page keep l (Some region) q = table_reset offered page keep l region q

-- The local queue once a table was reset into it.
abbrev pub table_reset_into : Settings → LeasedTable → Queue → Queue
table_reset_into s l q = reset_in s.dirty_pages s.page s.table_keep_resident.bytes l l.table.region q

-- what comes of a table's minimum where the limiter answered so: then it must fit the slot
abbrev pub table_refused : Result Bool LimiterError → ℕ → ℕ → Option AllocError
table_refused (Err e) min room = Some (alloc.LimiterFault e)
table_refused (Ok false) min room = Some (alloc.LimiterDenied true min)
table_refused (Ok true) min room = if nat_lt room min then Some (alloc.Unsupported (TableSize min room)) else None

-- the refusal of an error of a table's making
abbrev pub table_refusal : TableError → AllocError
table_refusal unmade.Memory = alloc.Memory
table_refusal (unmade.Unsupported u) = alloc.Unsupported u
table_refusal (unmade.LimiterDenied min) = alloc.LimiterDenied true min
table_refusal (unmade.LimiterFault e) = alloc.LimiterFault e

-- the limiter is asked for a table's minimum, and this is the answer
pub record AsksForTable (answer : Result Bool LimiterError) (asked left : LimiterTold) (ty : TableType) : Type 0 where
  pub answers : answer ≡ table_answer asked.rule answer ty.limits.min (Some (type_maximum ty))
  pub leaves : left ≡ after_answer answer asked

-- a table that is made in a slot: with its minimum of elements, which are empty
pub record IsNewLease (ty : TableType) (lazy : Bool) (bytes slot : ℕ) (numbers : RegionNumbers) (region : Told) (l : LeasedTable) : Type 0 where
  pub slot_is : l.index ≡ slot
  pub numbers_are : l.numbers ≡ numbers
  pub table : l.table ≡ in_region (new_table ty lazy bytes region)
  pub elements : l.table.elements ≡ option_map (λ c. replicate ty.limits.min (empty (kind_of ty.element lazy))) region.contents

-- the table, or its region with the refusal
abbrev pub MakesLease : {P L : Type 0} → (P → Told) → (L → LeasedTable) → Option AllocError → TableType → Bool → ℕ → ℕ → RegionNumbers → P → Result L (P × AllocError) → Type 0
MakesLease told value (Some e) ty lazy bytes slot numbers region result = result ≡ Err (region, e)
MakesLease {L = L} told value None ty lazy bytes slot numbers region result = (lease : L) × ((result ≡ Ok lease) × IsNewLease ty lazy bytes slot numbers (told region) (value lease))

-- how many bytes a table of this type has of its slot
abbrev pub table_bytes : Settings → TableType → ℕ
table_bytes s ty = data_size s.table_elements s.table_slot ty.element

-- The table of this type in the region of a slot, where the limiter gave this answer, or why it isn't made.
abbrev pub made_unless : Option AllocError → LeasedTable → Result LeasedTable AllocError
made_unless (Some e) l = Err e
made_unless None l = Ok l

-- A table with its minimum of empty elements in the region of a slot.
abbrev pub table_in : Settings → TableType → TakenSlot → Told → LeasedTable
table_in s ty at region = record {
  index = at.name.slot;
  table = in_region (new_table ty s.tunables.tunables.table_lazy_init (table_bytes s ty) region);
  numbers = at.numbers;
}

-- The table in the region of a slot, or why it isn't made; want of memory where none is declared.
abbrev pub made_table : Settings → Result Bool LimiterError → TakenSlot → Told → Option TableType → Result LeasedTable AllocError
made_table s answer at region None = Err alloc.Memory
made_table s answer at region (Some ty) = made_unless (table_refused answer ty.limits.min (room_of ty (table_bytes s ty))) (table_in s ty at region)

-- Table k of the module in the region of a slot, or why it isn't made.
abbrev pub table_made : Settings → List TableType → ℕ → Result Bool LimiterError → TakenSlot → Told → Result LeasedTable AllocError
table_made s tables k answer at region = made_table s answer at region (slice_get tables k)

-- What the code's making of a table answers, which hands the region back with a refusal.
abbrev pub handed_back : Told → Result LeasedTable AllocError → Result LeasedTable (Told × AllocError)
handed_back region (Ok l) = Ok l
handed_back region (Err e) = Err (region, e)

-- The limiter is asked for the table, and this comes of making it.
pub record MakesFor {R : Type 0} (told : R → LimiterTold) (leads : R → Exchange → R → Type 0) (s : Settings) (answer : Result Bool LimiterError) (at : TakenSlot) (region : Told) (before after : R) (result : Result LeasedTable (Told × AllocError)) (ty : TableType) : Type 0 where
  pub asks : AsksForTable answer (told before) (told after) ty
  pub exchanged : Exchanged leads (may_grow (making_question ty) answer ∷ []) before after
  pub is : result ≡ handed_back region (made_table s answer at region (Some ty))

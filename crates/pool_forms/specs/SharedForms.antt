-- The events on a shared memory that a JSON value is. `None` says that it has another form than those accepted so far.
use Rattle.std.specs.Prelude.{ℕ, ◌-◌, ◌^◌, List, [], ◌∷◌, codes, min, Bool, true, false, ◌&&◌, if◌then◌else◌, Option, Some, None}
use Rattle.pool_forms.specs.Imports.{option_map_or, bytes_eq, Data, get, as_str, SharedEvent, Wait32, Wait64, Wake, Notify, SharedInput}
use Rattle.pool_run_shared.specs.declared.input.SharedEvent.TheVariants.{Read, Write, Grow, Size}
use Rattle.pool_forms.specs.Fields.{◌>>=◌, only, whole_number, hex_bytes, required, optional, or_null, list_of, is_below}
use Rattle.pool_forms.specs.ModuleForms.{memory_form}
use Rattle.pool_forms.specs.Ranges.{each_passes}

-- a number that 32 bits can't hold stands as the greatest that they can
abbrev pub in_32_bits : ℕ → ℕ
in_32_bits n = min n (2 ^ 32 - 1)

-- the fields of a wait
abbrev pub wait_fields : List (List ℕ)
wait_fields = codes "do" ∷ codes "waiter" ∷ codes "at" ∷ codes "expect" ∷ codes "now" ∷ codes "timeout" ∷ []

-- A wait on a word of four bytes.
unfoldable pub wait32_form : Data → Option SharedEvent
wait32_form value = do
  fields ← only wait_fields value
  waiter ← required whole_number (get (codes "waiter") fields)
  at ← required whole_number (get (codes "at") fields)
  expect ← required whole_number (get (codes "expect") fields)
  now ← required whole_number (get (codes "now") fields)
  timeout ← required (or_null whole_number) (get (codes "timeout") fields)
  Some (Wait32 (in_32_bits waiter) at (in_32_bits expect) now timeout)

-- A wait on a word of eight bytes.
unfoldable pub wait64_form : Data → Option SharedEvent
wait64_form value = do
  fields ← only wait_fields value
  waiter ← required whole_number (get (codes "waiter") fields)
  at ← required whole_number (get (codes "at") fields)
  expect ← required whole_number (get (codes "expect") fields)
  now ← required whole_number (get (codes "now") fields)
  timeout ← required (or_null whole_number) (get (codes "timeout") fields)
  Some (Wait64 (in_32_bits waiter) at expect now timeout)

-- A parked waiter looks again, at a time.
unfoldable pub wake_form : Data → Option SharedEvent
wake_form value = do
  fields ← only (codes "do" ∷ codes "waiter" ∷ codes "now" ∷ []) value
  waiter ← required whole_number (get (codes "waiter") fields)
  now ← required whole_number (get (codes "now") fields)
  Some (Wake (in_32_bits waiter) now)

-- A notification of so many waiters at an address.
unfoldable pub notify_form : Data → Option SharedEvent
notify_form value = do
  fields ← only (codes "do" ∷ codes "at" ∷ codes "count" ∷ []) value
  at ← required whole_number (get (codes "at") fields)
  count ← required whole_number (get (codes "count") fields)
  Some (Notify at (in_32_bits count))

-- A read of the shared memory.
unfoldable pub shared_read_form : Data → Option SharedEvent
shared_read_form value = do
  fields ← only (codes "do" ∷ codes "at" ∷ codes "len" ∷ []) value
  at ← optional 0 whole_number (get (codes "at") fields)
  len ← required whole_number (get (codes "len") fields)
  Some (Read at len)

-- A write to the shared memory.
unfoldable pub shared_write_form : Data → Option SharedEvent
shared_write_form value = do
  fields ← only (codes "do" ∷ codes "at" ∷ codes "hex" ∷ []) value
  at ← required whole_number (get (codes "at") fields)
  hex ← required hex_bytes (get (codes "hex") fields)
  Some (Write at hex)

-- A growth of the shared memory by so many pages.
unfoldable pub shared_grow_form : Data → Option SharedEvent
shared_grow_form value = do
  fields ← only (codes "do" ∷ codes "pages" ∷ []) value
  pages ← required whole_number (get (codes "pages") fields)
  Some (Grow pages)

-- A question for the size of the shared memory.
unfoldable pub shared_size_form : Data → Option SharedEvent
shared_size_form value = do
  fields ← only (codes "do" ∷ []) value
  Some Size

-- the event of this name
abbrev pub event_of_name : List ℕ → Data → Option SharedEvent
event_of_name name value =
    if bytes_eq name (codes "wait32") then wait32_form value
    else if bytes_eq name (codes "wait64") then wait64_form value
    else if bytes_eq name (codes "wake") then wake_form value
    else if bytes_eq name (codes "notify") then notify_form value
    else if bytes_eq name (codes "read") then shared_read_form value
    else if bytes_eq name (codes "write") then shared_write_form value
    else if bytes_eq name (codes "grow") then shared_grow_form value
    else if bytes_eq name (codes "size") then shared_size_form value
    else None

-- an event is an object whose field `do` is its name
unfoldable pub event_form : Data → Option SharedEvent
event_form value = do
  name ← required as_str (get (codes "do") value)
  event_of_name name value

-- An input of events: the size of pages, the type of the shared memory, and the events in order.
unfoldable pub shared_form : Data → Option SharedInput
shared_form value = do
  fields ← only (codes "page" ∷ codes "memory" ∷ codes "events" ∷ []) value
  page ← optional 4096 whole_number (get (codes "page") fields)
  memory ← required memory_form (get (codes "memory") fields)
  events ← required (list_of event_form) (get (codes "events") fields)
  Some (record { page = page; memory = memory; events = events })

-- it is a wait on a word of four bytes
abbrev pub waits32 : Data → Bool
waits32 event = option_map_or (λ name. bytes_eq name (codes "wait32")) (required as_str (get (codes "do") event)) false

-- 32 bits can hold how many are to be woken, and what a word of four bytes is to be
abbrev pub event_fits : Data → Bool
event_fits event = is_below (2 ^ 32) (get (codes "count") event) && (if waits32 event then is_below (2 ^ 32) (get (codes "expect") event) else true)

-- the types of their fields can hold all numbers of an input
abbrev pub events_fit : Data → Bool
events_fit value = each_passes event_fits (get (codes "events") value)

-- The input that a JSON value is. `None` says that it has another form than those accepted so far.
use Rattle.std.specs.Prelude.{ℕ, List, [], ◌∷◌, codes, min, true, false, if◌then◌else◌, Option, Some, None, option_map, is_some}
use Rattle.pool_forms.specs.Imports.{bytes_eq, Data, Items, no_items, item, get, as_str, as_array, as_bool, as_null, default_config, default_offered, default_tunables, Command, Instantiate, Fill, Get, Set, TableFill, TableGrow, TableSize, Drop, Purge, Release, TableValue, Null, Number, Continuation, Input, Party, PartyLimits, ScheduleEntry}
use Rattle.pool_run.specs.declared.command.Command.TheVariants.{Read, Write, Grow, Size, Component, Stack, Heap}
use Rattle.pool_forms.specs.Fields.{◌>>=◌, only, whole_number, number_pair, hex_bytes, required, optional, or_null, list_of}
use Rattle.pool_forms.specs.ModuleForms.{module_form}
use Rattle.pool_forms.specs.SettingsForms.{count_form, config_form, tunables_form, offered_form, fault_form}

-- A request for an instance of the module with a number.
unfoldable pub instantiate_form : Data → Option Command
instantiate_form value = do
  fields ← only (codes "do" ∷ codes "module" ∷ []) value
  module_ ← required whole_number (get (codes "module") fields)
  Some (Instantiate module_)

-- A read of so many bytes of a memory, or of a stack, from its beginning where no place is named.
unfoldable pub read_form : Data → Option Command
read_form value = do
  fields ← only (codes "do" ∷ codes "of" ∷ codes "memory" ∷ codes "at" ∷ codes "len" ∷ []) value
  of ← required whole_number (get (codes "of") fields)
  memory ← optional 0 whole_number (get (codes "memory") fields)
  at ← optional 0 whole_number (get (codes "at") fields)
  len ← required whole_number (get (codes "len") fields)
  Some (Read of memory at len)

-- A write of bytes, in hexadecimal digits, to a memory or a stack.
unfoldable pub write_form : Data → Option Command
write_form value = do
  fields ← only (codes "do" ∷ codes "of" ∷ codes "memory" ∷ codes "at" ∷ codes "hex" ∷ []) value
  of ← required whole_number (get (codes "of") fields)
  memory ← optional 0 whole_number (get (codes "memory") fields)
  at ← required whole_number (get (codes "at") fields)
  hex ← required hex_bytes (get (codes "hex") fields)
  Some (Write of memory at hex)

-- a byte that 8 bits can't hold stands as the greatest that they can
unfoldable pub fill_form : Data → Option Command
fill_form value = do
  fields ← only (codes "do" ∷ codes "of" ∷ codes "memory" ∷ codes "at" ∷ codes "len" ∷ codes "byte" ∷ []) value
  of ← required whole_number (get (codes "of") fields)
  memory ← optional 0 whole_number (get (codes "memory") fields)
  at ← required whole_number (get (codes "at") fields)
  len ← required whole_number (get (codes "len") fields)
  byte ← required whole_number (get (codes "byte") fields)
  Some (Fill of memory at len (min byte 255))

-- A growth of a memory by so many of its pages.
unfoldable pub grow_form : Data → Option Command
grow_form value = do
  fields ← only (codes "do" ∷ codes "of" ∷ codes "memory" ∷ codes "pages" ∷ []) value
  of ← required whole_number (get (codes "of") fields)
  memory ← optional 0 whole_number (get (codes "memory") fields)
  pages ← required whole_number (get (codes "pages") fields)
  Some (Grow of memory pages)

-- A question for the size of a memory.
unfoldable pub size_form : Data → Option Command
size_form value = do
  fields ← only (codes "do" ∷ codes "of" ∷ codes "memory" ∷ []) value
  of ← required whole_number (get (codes "of") fields)
  memory ← optional 0 whole_number (get (codes "memory") fields)
  Some (Size of memory)

-- The value of an element that is a pair of numbers.
abbrev pub pair_value : Items → Option TableValue
pair_value items = option_map (λ p. Continuation (record { contref = p.0; revision = p.1 })) (number_pair items)

-- The value of an element that is a whole number below 2^64.
abbrev pub number_value : Data → Option TableValue
number_value value = option_map Number (whole_number value)

-- The value of an element that isn't null: a pair of numbers in a list, or a number.
abbrev pub number_or_pair : Option Items → Data → Option TableValue
number_or_pair None value = number_value value
number_or_pair (Some items) value = pair_value items

-- The value to which an element is set: null, a number, or a pair of numbers.
unfoldable pub value_form : Data → Option TableValue
value_form value = if is_some (as_null value) then Some Null else number_or_pair (as_array value) value

-- A look at an element of a table.
unfoldable pub get_form : Data → Option Command
get_form value = do
  fields ← only (codes "do" ∷ codes "of" ∷ codes "table" ∷ codes "at" ∷ []) value
  of ← required whole_number (get (codes "of") fields)
  table ← optional 0 whole_number (get (codes "table") fields)
  at ← required whole_number (get (codes "at") fields)
  Some (Get of table at)

-- The setting of one element of a table.
unfoldable pub set_form : Data → Option Command
set_form value = do
  fields ← only (codes "do" ∷ codes "of" ∷ codes "table" ∷ codes "at" ∷ codes "value" ∷ []) value
  of ← required whole_number (get (codes "of") fields)
  table ← optional 0 whole_number (get (codes "table") fields)
  at ← required whole_number (get (codes "at") fields)
  to ← required value_form (get (codes "value") fields)
  Some (Set of table at to)

-- The setting of so many elements of a table to one value.
unfoldable pub table_fill_form : Data → Option Command
table_fill_form value = do
  fields ← only (codes "do" ∷ codes "of" ∷ codes "table" ∷ codes "at" ∷ codes "value" ∷ codes "len" ∷ []) value
  of ← required whole_number (get (codes "of") fields)
  table ← optional 0 whole_number (get (codes "table") fields)
  at ← required whole_number (get (codes "at") fields)
  to ← required value_form (get (codes "value") fields)
  len ← required whole_number (get (codes "len") fields)
  Some (TableFill of table at to len)

-- A growth of a table by so many elements.
unfoldable pub table_grow_form : Data → Option Command
table_grow_form value = do
  fields ← only (codes "do" ∷ codes "of" ∷ codes "table" ∷ codes "by" ∷ []) value
  of ← required whole_number (get (codes "of") fields)
  table ← optional 0 whole_number (get (codes "table") fields)
  by ← required whole_number (get (codes "by") fields)
  Some (TableGrow of table by)

-- A question for the size of a table.
unfoldable pub table_size_form : Data → Option Command
table_size_form value = do
  fields ← only (codes "do" ∷ codes "of" ∷ codes "table" ∷ []) value
  of ← required whole_number (get (codes "of") fields)
  table ← optional 0 whole_number (get (codes "table") fields)
  Some (TableSize of table)

-- The give-back of what an earlier command was granted.
unfoldable pub drop_form : Data → Option Command
drop_form value = do
  fields ← only (codes "do" ∷ codes "of" ∷ []) value
  of ← required whole_number (get (codes "of") fields)
  Some (Drop of)

-- A request for a component, by how many instances, memories and tables it has, and by its bytes.
unfoldable pub component_form : Data → Option Command
component_form value = do
  fields ← only (codes "do" ∷ codes "core_instances" ∷ codes "memories" ∷ codes "tables" ∷ codes "core_bytes" ∷ codes "own_bytes" ∷ []) value
  instances ← optional 0 whole_number (get (codes "core_instances") fields)
  memories ← optional 0 whole_number (get (codes "memories") fields)
  tables ← optional 0 whole_number (get (codes "tables") fields)
  core_bytes ← optional 0 whole_number (get (codes "core_bytes") fields)
  own_bytes ← optional 0 whole_number (get (codes "own_bytes") fields)
  Some (Component instances memories tables core_bytes own_bytes)

-- A request for a heap, whose memory has a minimum of pages and may have a maximum.
unfoldable pub heap_form : Data → Option Command
heap_form value = do
  fields ← only (codes "do" ∷ codes "min" ∷ codes "max" ∷ []) value
  min ← required whole_number (get (codes "min") fields)
  max ← optional None (or_null whole_number) (get (codes "max") fields)
  Some (Heap min max)

-- A purge of the warm slots of a module.
unfoldable pub purge_form : Data → Option Command
purge_form value = do
  fields ← only (codes "do" ∷ codes "module" ∷ []) value
  module_ ← required whole_number (get (codes "module") fields)
  Some (Purge module_)

-- a command without fields
abbrev pub bare_form : Command → Data → Option Command
bare_form command value = option_map (λ fields. command) (only (codes "do" ∷ []) value)

-- the command of this name, which names no earlier one
abbrev pub form_without_grant : List ℕ → Data → Option Command
form_without_grant name value =
    if bytes_eq name (codes "component") then component_form value
    else if bytes_eq name (codes "stack") then bare_form Stack value
    else if bytes_eq name (codes "heap") then heap_form value
    else if bytes_eq name (codes "purge") then purge_form value
    else if bytes_eq name (codes "release") then bare_form Release value
    else None

-- the command on a table of this name, or one that names no earlier one
abbrev pub form_on_table : List ℕ → Data → Option Command
form_on_table name value =
    if bytes_eq name (codes "get") then get_form value
    else if bytes_eq name (codes "set") then set_form value
    else if bytes_eq name (codes "table_fill") then table_fill_form value
    else if bytes_eq name (codes "table_grow") then table_grow_form value
    else if bytes_eq name (codes "table_size") then table_size_form value
    else form_without_grant name value

-- the command of this name
abbrev pub form_of_name : List ℕ → Data → Option Command
form_of_name name value =
    if bytes_eq name (codes "instantiate") then instantiate_form value
    else if bytes_eq name (codes "read") then read_form value
    else if bytes_eq name (codes "write") then write_form value
    else if bytes_eq name (codes "fill") then fill_form value
    else if bytes_eq name (codes "grow") then grow_form value
    else if bytes_eq name (codes "size") then size_form value
    else if bytes_eq name (codes "drop") then drop_form value
    else form_on_table name value

-- a command is an object whose field `do` is its name
unfoldable pub command_form : Data → Option Command
command_form value = do
  name ← required as_str (get (codes "do") value)
  form_of_name name value

-- what a party's memories and tables may grow to
unfoldable pub limits_form : Data → Option PartyLimits
limits_form value = do
  fields ← only (codes "memory_size" ∷ codes "table_elements" ∷ codes "trap_on_grow_failure" ∷ []) value
  size ← optional None (or_null whole_number) (get (codes "memory_size") fields)
  elements ← optional None (or_null whole_number) (get (codes "table_elements") fields)
  trap ← optional false as_bool (get (codes "trap_on_grow_failure") fields)
  Some (record { memory_size = size; table_elements = elements; trap_on_grow_failure = trap })

-- A party: its home, its limits, which calls on its store and makings of its heaps fail, and its commands.
unfoldable pub party_form : Data → Option Party
party_form value = do
  fields ← only (codes "home" ∷ codes "limits" ∷ codes "gc_faults" ∷ codes "heap_faults" ∷ codes "commands" ∷ []) value
  home ← optional 0 whole_number (get (codes "home") fields)
  limits ← optional None (or_null limits_form) (get (codes "limits") fields)
  faults ← optional [] (list_of whole_number) (get (codes "gc_faults") fields)
  heap_faults ← optional [] (list_of whole_number) (get (codes "heap_faults") fields)
  commands ← optional [] (list_of command_form) (get (codes "commands") fields)
  Some (record { home = home; limits = limits; gc_faults = faults; heap_faults = heap_faults; commands = commands })

-- the number of a party: one step of it
unfoldable pub step_form : Data → Option ScheduleEntry
step_form value = do
  party ← whole_number value
  Some (record { party = party; times = 1 })

-- the number of a party, and how many steps of it
abbrev pub pair_form : Items → Option ScheduleEntry
pair_form items = option_map (λ p. record { party = p.0; times = p.1 }) (number_pair items)

-- an entry is a pair where it is a list, and else one step
abbrev pub step_or_pair_form : Option Items → Data → Option ScheduleEntry
step_or_pair_form None value = step_form value
step_or_pair_form (Some items) value = pair_form items

-- An entry of a schedule: a party that makes one step, or a pair of a party and a number of steps.
unfoldable pub schedule_entry_form : Data → Option ScheduleEntry
schedule_entry_form value = step_or_pair_form (as_array value) value

-- There is one shard so far.
unfoldable pub input_form : Data → Option Input
input_form value = do
  fields ← only (codes "page" ∷ codes "shards" ∷ codes "config" ∷ codes "tunables" ∷ codes "offered" ∷ codes "modules" ∷ codes "parties" ∷ codes "schedule" ∷ codes "finish" ∷ codes "faults" ∷ []) value
  page ← optional 4096 whole_number (get (codes "page") fields)
  shards ← optional 1 count_form (get (codes "shards") fields)
  config ← optional default_config config_form (get (codes "config") fields)
  tunables ← optional default_tunables tunables_form (get (codes "tunables") fields)
  offered ← optional default_offered offered_form (get (codes "offered") fields)
  modules ← optional [] (list_of module_form) (get (codes "modules") fields)
  parties ← optional [] (list_of party_form) (get (codes "parties") fields)
  schedule ← optional [] (list_of schedule_entry_form) (get (codes "schedule") fields)
  finish ← optional true as_bool (get (codes "finish") fields)
  faults ← optional [] (list_of fault_form) (get (codes "faults") fields)
  Some (record { page = page; shards = shards; config = config; tunables = tunables; offered = offered; modules = modules; parties = parties; schedule = schedule; finish = finish; faults = faults })

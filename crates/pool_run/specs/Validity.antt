-- When an input can be run: its sizes are within the limits, and what it names is there.
use Rattle.std.specs.Prelude.{ℕ, List, [], ◌∷◌, ◌++◌, length, ◌==◌, ◌^◌, not, ◌&&◌, nat_lt, nat_le, Bool, true, false, Option, Some, None}
use Rattle.pool_run.specs.Imports.{list_all, slice_get, option_map_or, option_and_then, ImageDecl, MemoryDecl, ModuleInfo, Part, TableType, instance_size}
use Rattle.pool_run.specs.TableValues.{is_value_of}
use Rattle.pool_run.specs.Acts.{MemoryOp, reads, writes, TableOp, sets, Act, requests, on_memory, on_table, drops, purges, releases, act_of, act_at, grows, Wanted, an_instance, a_stack, a_heap}
use Rattle.pool_run.specs.declared.command.Command.{Command}
use Rattle.pool_run.specs.declared.input.Input.{Input}
use Rattle.pool_run.specs.declared.input.Party.{Party}
use Rattle.pool_run.specs.declared.input.ScheduleEntry.{ScheduleEntry}
use Rattle.pool_run.specs.Schedules.{turns_of}

-- how many modules there may be
abbrev pub most_modules : ℕ
most_modules = 1000

-- How many memories a module may have.
abbrev pub most_memories : ℕ
most_memories = 100

-- How many tables a module may have.
abbrev pub most_tables : ℕ
most_tables = 100

-- how many bytes the state of an instance of a module may take
abbrev pub most_instance_bytes : ℕ
most_instance_bytes = 2 ^ 32

-- how many parties there may be
abbrev pub most_parties : ℕ
most_parties = 64

-- the home of a party is a number below this
abbrev pub homes : ℕ
homes = 65536

-- how many steps a schedule may have
abbrev pub most_steps : ℕ
most_steps = 10000000

-- how many commands a party may have
abbrev pub most_commands : ℕ
most_commands = 100000

-- how many bytes a command may read or write, and an image may have
abbrev pub most_bytes : ℕ
most_bytes = 1048576

-- the module of which an instance is requested, where one is
abbrev pub module_granted : List ModuleInfo → Option Act → Option ModuleInfo
module_granted modules (Some (requests (an_instance number))) = slice_get modules number
module_granted modules _ = None

-- the module has this memory
abbrev pub has_memory : Option ModuleInfo → ℕ → Bool
has_memory None place = false
has_memory (Some info) place = nat_lt place (length info.memories)

-- a stack is memory 0 alone, and doesn't grow
abbrev pub is_on_stack : MemoryOp → ℕ → Bool
is_on_stack (grows pages) place = false
is_on_stack _ place = place == 0

-- Command `of` of the earlier ones requests a grant that has this memory, or a stack, on which the operation can be one. A
-- heap has one memory.
abbrev pub grants_bytes : List ModuleInfo → MemoryOp → ℕ → Option Act → Bool
grants_bytes modules op place (Some (requests (an_instance number))) = has_memory (slice_get modules number) place
grants_bytes modules op place (Some (requests a_stack)) = is_on_stack op place
grants_bytes modules op place (Some (requests (a_heap limits))) = place == 0
grants_bytes modules op place _ = false

-- The command that is named requested a grant with this memory, on which the operation can be made.
abbrev pub names_memory : List ModuleInfo → List Command → MemoryOp → ℕ → ℕ → Bool
names_memory modules earlier op of memory = grants_bytes modules op memory (act_at earlier of)

-- The type of the table that is named, if the command that is named requested an instance with it.
abbrev pub table_named : List ModuleInfo → List Command → ℕ → ℕ → Option TableType
table_named modules earlier of table = option_and_then (λ (info : ModuleInfo). slice_get info.tables table) (module_granted modules (act_at earlier of))

-- an element of a table of this type can be set to it
abbrev pub can_be_set : TableOp → TableType → Bool
can_be_set (sets at count value) ty = is_value_of ty.element value
can_be_set _ ty = true

-- command `of` requests a grant that has this table, of which the operation can be one
abbrev pub suits : TableOp → Option TableType → Bool
suits op None = false
suits op (Some ty) = can_be_set op ty

-- a grant is requested
abbrev pub requests_grant : Option Act → Bool
requests_grant (Some (requests wanted)) = true
requests_grant _ = false

-- it reads or writes no more bytes than a command may
abbrev pub is_short : MemoryOp → Bool
is_short (reads at len) = nat_le len most_bytes
is_short (writes at bytes) = nat_le (length bytes) most_bytes
is_short _ = true

-- a module of which an instance is requested is there
abbrev pub is_there : ℕ → Wanted → Bool
is_there modules (an_instance number) = nat_lt number modules
is_there modules _ = true

-- a command that does this can stand after the earlier ones of its party
abbrev pub is_valid_act : List ModuleInfo → List Command → Act → Bool
is_valid_act modules earlier (requests wanted) = is_there (length modules) wanted
is_valid_act modules earlier (on_memory of k op) = is_short op && names_memory modules earlier op of k
is_valid_act modules earlier (on_table of k op) = suits op (table_named modules earlier of k)
is_valid_act modules earlier (drops of) = requests_grant (act_at earlier of)
is_valid_act modules earlier (purges number) = nat_lt number (length modules)
is_valid_act modules earlier releases = true

-- so can each of the commands, after the earlier ones and those before it
abbrev pub are_valid_after : List ModuleInfo → List Command → List Command → Bool
are_valid_after modules earlier [] = true
are_valid_after modules earlier (command ∷ rest) = is_valid_act modules earlier (act_of command) && are_valid_after modules (earlier ++ command ∷ []) rest

-- its home is one of those that there are, the calls on its store and its makings of heaps are numbered from 1 on, and its
-- commands are valid one after another
abbrev pub is_valid_party : List ModuleInfo → Party → Bool
is_valid_party modules party =
    list_all (nat_lt 0) party.gc_faults
    && (list_all (nat_lt 0) party.heap_faults
    && (nat_lt party.home homes && (nat_le (length party.commands) most_commands && are_valid_after modules [] party.commands)))

-- each step is one of a party that there is, of so many parties
abbrev pub is_valid_schedule : ℕ → List ScheduleEntry → Bool
is_valid_schedule parties schedule = nat_le (length (turns_of schedule)) most_steps && list_all (λ entry. nat_lt entry.party parties) schedule

-- its image, if it has one, is not too large
abbrev pub is_valid_memory : MemoryDecl → Bool
is_valid_memory decl = option_map_or (λ (image : ImageDecl). nat_le (length image.bytes) most_bytes) decl.image true

-- a byte of a name is a printable one, and no backslash, so that a text with the name stands on one line
abbrev pub is_name_byte : ℕ → Bool
is_name_byte byte = nat_le 32 byte && (nat_le byte 126 && not (byte == 92))

-- The name of a part has only bytes that a line of text can have.
abbrev pub is_named : Part → Bool
is_named part = list_all is_name_byte part.name

-- an instance of it takes not too many bytes, of parts with such names
abbrev pub is_valid_state : ModuleInfo → Bool
is_valid_state info = nat_le (instance_size info) most_instance_bytes && list_all is_named info.parts

-- A module keeps the limits on memories, tables, their types and the state of an instance.
abbrev pub is_valid_module : ModuleInfo → Bool
is_valid_module info = nat_le (length info.memories) most_memories && (nat_le (length info.tables) most_tables && (list_all is_valid_memory info.memories && is_valid_state info))

-- All modules of the input keep their limits, and there aren't too many.
abbrev pub are_valid_modules : List ModuleInfo → Bool
are_valid_modules modules = nat_le (length modules) most_modules && list_all is_valid_module modules

-- The input can be run: its sizes are within the limits, and what its commands name is there.
abbrev pub is_valid : Input → Bool
is_valid input =
    are_valid_modules input.modules
    && (nat_le (length input.parties) most_parties
    && (is_valid_schedule (length input.parties) input.schedule
    && list_all (is_valid_party input.modules) input.parties))

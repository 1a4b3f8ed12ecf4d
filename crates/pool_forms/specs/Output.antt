-- The text of a run's output.
use Rattle.std.specs.Prelude.{ℕ, ◌+◌, ◌==◌, if◌then◌else◌, List, [], ◌∷◌, ◌++◌, codes, Bool, true, false, Option, Some, None, slice_get}
use Rattle.pool_forms.specs.Imports.{decimal, encode_lower, whole_text, ModuleInfo, PageCalls, limit_text, AllocError, NoMemory, Unsupported, Limit, StacksDisabled, HeapsDisabled, LimiterDenied, LimiterFault, PageFault, HeapFault, limiter_text, Trap, MemoryOutOfBounds, TableOutOfBounds, HeapMisaligned, AtomicWaitNonSharedMemory, Metrics, Command, Instantiate, Input, RunOutput, Refusal, NoSuchGrant, GcStoreFault, Alloc, Reply, Instance, Told, Returned, Purged, Released, Refused, Trapped, VMContObj, Element, Uninitialised, Gc}
use Rattle.pool_run.specs.declared.reply.Reply.TheVariants.{Component, Stack, Heap, Bytes, Done, Size, Grown}
use Rattle.pool_alloc.specs.declared.leases.element.Element.TheVariants.{Func, Cont}
use Rattle.pool_forms.specs.declared.print.Allocator.{Allocator}
use Rattle.pool_forms.specs.declared.print.Allocator.TheVariants.{Pooling, OnDemand}
use Rattle.pool_forms.specs.Fields.{◌>>=◌}

-- the end of a line
abbrev pub line_feed : List ℕ
line_feed = 10 ∷ []

-- numbers after the first, a comma before each
abbrev pub more_numbers : List ℕ → List ℕ
more_numbers [] = []
more_numbers (n ∷ ns) = codes "," ++ decimal n ++ more_numbers ns

-- numbers with commas between them, or a dash where there is none
abbrev pub numbers_text : List ℕ → List ℕ
numbers_text [] = codes "-"
numbers_text (n ∷ ns) = decimal n ++ more_numbers ns

-- bytes in hexadecimal, or a dash where there is none
abbrev pub bytes_text : List ℕ → List ℕ
bytes_text [] = codes "-"
bytes_text (b ∷ bs) = encode_lower (b ∷ bs)

-- a text on one line: each line feed is the two characters `\n`
unfoldable pub one_line : List ℕ → List ℕ
one_line [] = []
one_line (byte ∷ bytes) = if byte == 10 then codes "\\n" ++ one_line bytes else byte ∷ one_line bytes

-- what a limiter said no to
abbrev pub denied_text : Bool → ℕ → List ℕ
denied_text false min = codes "memory minimum size of " ++ decimal min ++ codes " pages exceeds memory limits"
denied_text true min = codes "table minimum size of " ++ decimal min ++ codes " elements exceeds table limits"

-- why an allocator has no stacks
abbrev pub no_stacks_text : Allocator → List ℕ
no_stacks_text Pooling = codes "pooling allocator not configured to enable fiber stack allocation"
no_stacks_text OnDemand = codes "fiber stacks are not supported by the allocator"

-- why an allocation was refused; that a module is too large is told with its parts
abbrev pub alloc_error_text : Allocator → Option ModuleInfo → AllocError → List ℕ
alloc_error_text allocator info NoMemory = codes "NoMemory"
alloc_error_text allocator info (Unsupported u) = codes "Unsupported: " ++ one_line (whole_text u info)
alloc_error_text allocator info (Limit e) = codes "PoolConcurrencyLimitError: " ++ limit_text e
alloc_error_text allocator info StacksDisabled = codes "StacksDisabled: " ++ no_stacks_text allocator
alloc_error_text allocator info HeapsDisabled = codes "HeapsDisabled: no GC collector is configured"
alloc_error_text allocator info (LimiterDenied table min) = codes "LimiterDenied: " ++ denied_text table min
alloc_error_text allocator info (LimiterFault e) = codes "LimiterFault: " ++ limiter_text e
alloc_error_text allocator info PageFault = codes "PageFault"
alloc_error_text allocator info HeapFault = codes "HeapFault"

-- Why a command is refused, as it is printed after `refused`.
abbrev pub refusal_text : Allocator → Option ModuleInfo → Refusal → List ℕ
refusal_text allocator info NoSuchGrant = codes "NoSuchGrant"
refusal_text allocator info GcStoreFault = codes "GcStoreFault"
refusal_text allocator info (Alloc e) = alloc_error_text allocator info e

-- The name of a trap, as it is printed after `trap`.
abbrev pub trap_text : Trap → List ℕ
trap_text MemoryOutOfBounds = codes "MemoryOutOfBounds"
trap_text TableOutOfBounds = codes "TableOutOfBounds"
trap_text HeapMisaligned = codes "HeapMisaligned"
trap_text AtomicWaitNonSharedMemory = codes "AtomicWaitNonSharedMemory"

-- the size before a growth, if there was one
abbrev pub grown_text : Option ℕ → List ℕ
grown_text None = codes "grown none"
grown_text (Some old) = codes "grown " ++ decimal old

-- A continuation as it is printed.
abbrev pub cont_text : Option VMContObj → List ℕ
cont_text None = codes "cont null"
cont_text (Some object) = codes "cont " ++ decimal object.contref ++ codes " " ++ decimal object.revision

-- An element of a table as it is printed.
abbrev pub element_text : Element → List ℕ
element_text Uninitialised = codes "uninitialised"
element_text (Func None) = codes "func null"
element_text (Func (Some name)) = codes "func " ++ decimal name
element_text (Gc None) = codes "gc null"
element_text (Gc (Some reference)) = codes "gc " ++ decimal reference
element_text (Cont object) = cont_text object

-- an allocator's reply to a command that asks for an instance of this module, or for something else
abbrev pub reply_text : Allocator → Option ModuleInfo → Reply → List ℕ
reply_text allocator info (Instance memories tables) = codes "granted memories " ++ numbers_text memories ++ codes " tables " ++ numbers_text tables
reply_text allocator info Component = codes "granted component"
reply_text allocator info (Stack slot) = codes "granted stack " ++ decimal slot
reply_text allocator info (Heap heap memory) = codes "granted heap " ++ decimal heap ++ codes " memory " ++ decimal memory
reply_text allocator info (Bytes bytes) = codes "bytes " ++ bytes_text bytes
reply_text allocator info Done = codes "done"
reply_text allocator info (Size size) = codes "size " ++ decimal size
reply_text allocator info (Grown old) = grown_text old
reply_text allocator info (Told element) = element_text element
reply_text allocator info Returned = codes "returned"
reply_text allocator info (Purged slots) = codes "purged " ++ decimal slots
reply_text allocator info (Released bytes) = codes "released " ++ decimal bytes
reply_text allocator info (Refused refusal) = codes "refused " ++ refusal_text allocator info refusal
reply_text allocator info (Trapped trap) = codes "trap " ++ trap_text trap

-- the module of which a command asks for an instance
abbrev pub module_of : List ModuleInfo → Command → Option ModuleInfo
module_of modules (Instantiate n) = slice_get modules n
module_of modules _ = None

-- The module that a party's command asks for, by their numbers.
abbrev pub module_asked : Input → ℕ → ℕ → Option ModuleInfo
module_asked input party command = slice_get input.parties party >>= (λ p. slice_get p.commands command >>= module_of input.modules)

-- The text of a pool's reply to this command of this party.
abbrev pub pool_reply_text : Input → ℕ → ℕ → Reply → List ℕ
pool_reply_text input party command reply = reply_text Pooling (module_asked input party command) reply

-- the line of the reply to a command of a party
abbrev pub reply_line : Allocator → Input → ℕ → ℕ → Reply → List ℕ
reply_line allocator input party command reply = decimal party ++ codes "." ++ decimal command ++ codes ": " ++ reply_text allocator (module_asked input party command) reply ++ line_feed

-- the lines of a party's replies, of which the first is to this command
abbrev pub reply_lines : Allocator → Input → ℕ → ℕ → List Reply → List ℕ
reply_lines allocator input party command [] = []
reply_lines allocator input party command (reply ∷ replies) = reply_line allocator input party command reply ++ reply_lines allocator input party (command + 1) replies

-- the lines of the parties, of which the first has this number
abbrev pub party_lines : Allocator → Input → ℕ → List (List Reply) → List ℕ
party_lines allocator input party [] = []
party_lines allocator input party (replies ∷ parties) = reply_lines allocator input party 0 replies ++ party_lines allocator input (party + 1) parties

-- a number with its name before it
unfoldable pub named : List ℕ → ℕ → List ℕ
named name n = name ++ decimal n

-- a number with its name before it, or none where there is no number
unfoldable pub named_or_none : List ℕ → Option ℕ → List ℕ
named_or_none name None = name ++ codes "none"
named_or_none name (Some n) = named name n

-- how many of each kind are live
abbrev pub live_text : Metrics → List ℕ
live_text m =
    named (codes "metrics core=") m.core_instances
    ++ named (codes " component=") m.component_instances
    ++ named (codes " memories=") m.memories
    ++ named (codes " tables=") m.tables
    ++ named (codes " stacks=") m.stacks
    ++ named (codes " heaps=") m.gc_heaps

-- how many slots are warm, and how many bytes of them are resident
abbrev pub warm_text : Metrics → List ℕ
warm_text m =
    named (codes " warm_memories=") m.unused_warm_memories
    ++ named (codes " memory_resident=") m.unused_memory_bytes_resident
    ++ named (codes " warm_tables=") m.unused_warm_tables
    ++ named (codes " table_resident=") m.unused_table_bytes_resident
    ++ named (codes " warm_stacks=") m.unused_warm_stacks
    ++ named_or_none (codes " stack_resident=") m.unused_stack_bytes_resident

-- The line of the pool's numbers at the end of a run.
abbrev pub metrics_line : Metrics → List ℕ
metrics_line m = live_text m ++ warm_text m ++ line_feed

-- The line that counts the page calls of a run, by kind.
abbrev pub pages_line : PageCalls → List ℕ
pages_line c =
    named (codes "pages expose=") c.expose
    ++ named (codes " hide=") c.hide
    ++ named (codes " map_image=") c.map_image
    ++ named (codes " remap_zeros=") c.remap_zeros
    ++ named (codes " erase=") c.erase
    ++ named (codes " recolour=") c.recolour
    ++ named (codes " decommit=") c.decommit
    ++ line_feed

-- of a run of this input: a line for each reply, then the pool's numbers, then the calls on its regions
abbrev pub output_text : Input → RunOutput → List ℕ
output_text input output = party_lines Pooling input 0 output.replies ++ metrics_line output.metrics ++ pages_line output.calls

-- The text of a run on demand: a line for each reply.
abbrev pub replies_text : Input → List (List Reply) → List ℕ
replies_text input replies = party_lines OnDemand input 0 replies

-- The text of a run with a thread for each party: a line for each reply, then the line that the pool was closed.
abbrev pub threads_text : Input → List (List Reply) → List ℕ
threads_text input replies = party_lines Pooling input 0 replies ++ codes "closed" ++ line_feed

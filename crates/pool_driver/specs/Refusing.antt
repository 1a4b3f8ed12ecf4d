-- What a call may end with, by what it is for: for which reasons it is refused, and which tests it passed where it is granted.
use Rattle.std.specs.Prelude.{◌≡◌, ◌⊎◌, ◌<◌, true, false, None}
use Rattle.pool_types.specs.declared.module_types.ComponentInfo.{ComponentInfo}
use Rattle.pool_types.specs.declared.module_types.ModuleInfo.{ModuleInfo}
use Rattle.pool_types.specs.declared.unsupported.Unsupported.{Unsupported}
use Rattle.pool_types.specs.declared.unsupported.Unsupported.TheVariants.{AddressSpace, TableSize}
use Rattle.pool_slots.specs.declared.errors.AllocError.{AllocError}
use Rattle.pool_slots.specs.declared.errors.AllocError.TheVariants.{Memory, Unsupported as unsupported, Limit, StacksDisabled, HeapsDisabled, LimiterDenied, LimiterFault, PageFault, HeapFault}
use Rattle.pool_slots.specs.declared.errors.ConcurrencyKind.{ConcurrencyKind}
use Rattle.pool_slots.specs.declared.errors.ConcurrencyKind.TheVariants.{CoreInstances, ComponentInstances, MemoryStripe, Tables, Fibers, GcHeaps}
use Rattle.pool_slots.specs.declared.plan.Plan.{Plan}
use Rattle.pool_alloc.specs.CallStages.{IsBroken, Progress, untested, uncounted, admitted, seeks_single, seeks_stack, tests_heap, seeks_heap, counts_heap, Stage, no_call, keys, asks, tests_component, counts_component, returning, refusing, purging, reserving, releasing}
use Rattle.pool_alloc.specs.Refusals.{module_refused, heap_refused, component_refused}
use Rattle.pool_alloc.specs.StepReads.{HasMemories, IsModule, heaps_wanted, info_wanted, singles_wanted}
use Rattle.pool_alloc.specs.StepTable.{no_component_left}
use Rattle.pool_alloc.specs.declared.frame.Asked.{Asked}
use Rattle.pool_alloc.specs.declared.frame.Asked.TheVariants.{Memory as memory_asked, Table as table_asked, Stack as stack_asked, Heap as heap_asked, HeapOver as heap_over_asked}
use Rattle.pool_alloc.specs.declared.frame.Call.{Call}
use Rattle.pool_alloc.specs.declared.frame.Call.TheVariants as call
use Rattle.pool_alloc.specs.declared.frame.Grant.{Grant}
use Rattle.pool_alloc.specs.declared.frame.Grant.TheVariants.{Instance, Component, Memory as memory_granted, Table as table_granted, Stack, Heap, HeapOver}
use Rattle.pool_alloc.specs.declared.frame.Outcome.{Outcome}
use Rattle.pool_alloc.specs.declared.frame.Outcome.TheVariants.{Key, Granted, Returned, Purged, Released, Refused}
use Rattle.pool_alloc.specs.declared.pool_core.Settings.{Settings}

-- A module may be refused by the limit of instances, of memories of a stripe, or of tables.
abbrev pub IsModuleLimit : ConcurrencyKind → Type 0
IsModuleLimit CoreInstances = Unit {0}
IsModuleLimit ComponentInstances = ⊥
IsModuleLimit (MemoryStripe stripe) = Unit {0}
IsModuleLimit Tables = Unit {0}
IsModuleLimit Fibers = ⊥
IsModuleLimit GcHeaps = ⊥

-- A memory by itself may be refused by the limit of memories of a stripe.
abbrev pub IsMemoryLimit : ConcurrencyKind → Type 0
IsMemoryLimit CoreInstances = ⊥
IsMemoryLimit ComponentInstances = ⊥
IsMemoryLimit (MemoryStripe stripe) = Unit {0}
IsMemoryLimit Tables = ⊥
IsMemoryLimit Fibers = ⊥
IsMemoryLimit GcHeaps = ⊥

-- A heap may be refused by the limit of memories of a stripe, or of heaps.
abbrev pub IsHeapLimit : ConcurrencyKind → Type 0
IsHeapLimit CoreInstances = ⊥
IsHeapLimit ComponentInstances = ⊥
IsHeapLimit (MemoryStripe stripe) = Unit {0}
IsHeapLimit Tables = ⊥
IsHeapLimit Fibers = ⊥
IsHeapLimit GcHeaps = Unit {0}

-- Why an object of a module that passed its test isn't made: addresses can't hold the least size of a memory, or its slot that of a
-- table.
abbrev pub IsUnmade : Unsupported → Type 0
IsUnmade AddressSpace = Unit {0}
IsUnmade (TableSize min room) = room < min
IsUnmade _ = ⊥

-- Why the memory of a heap that passed its test isn't made, or one by itself: addresses can't hold its least size.
abbrev pub IsUnmadeMemory : Unsupported → Type 0
IsUnmadeMemory AddressSpace = Unit {0}
IsUnmadeMemory _ = ⊥

-- Why a table by itself isn't made: its slot can't hold its least size.
abbrev pub IsUnmadeTable : Unsupported → Type 0
IsUnmadeTable (TableSize min room) = room < min
IsUnmadeTable _ = ⊥

-- Why a module that passed its test may be refused.
abbrev pub FailsModule : AllocError → Type 0
FailsModule Memory = Unit {0}
FailsModule (unsupported rule) = IsUnmade rule
FailsModule (Limit l) = IsModuleLimit l.kind
FailsModule StacksDisabled = ⊥
FailsModule HeapsDisabled = ⊥
FailsModule (LimiterDenied table min) = Unit {0}
FailsModule (LimiterFault e) = Unit {0}
FailsModule PageFault = Unit {0}
FailsModule HeapFault = ⊥

-- Why a memory by itself may be refused. Its type isn't tested again, and nothing is reserved for it, so there is no want of memory. The
-- limiter is asked for it, and for no table.
abbrev pub FailsMemory : AllocError → Type 0
FailsMemory Memory = ⊥
FailsMemory (unsupported rule) = IsUnmadeMemory rule
FailsMemory (Limit l) = IsMemoryLimit l.kind
FailsMemory StacksDisabled = ⊥
FailsMemory HeapsDisabled = ⊥
FailsMemory (LimiterDenied table min) = table ≡ false
FailsMemory (LimiterFault e) = Unit {0}
FailsMemory PageFault = Unit {0}
FailsMemory HeapFault = ⊥

-- Why a table by itself may be refused. No page call is made for it.
abbrev pub FailsTable : AllocError → Type 0
FailsTable Memory = ⊥
FailsTable (unsupported rule) = IsUnmadeTable rule
FailsTable (Limit l) = l.kind ≡ Tables
FailsTable StacksDisabled = ⊥
FailsTable HeapsDisabled = ⊥
FailsTable (LimiterDenied table min) = table ≡ true
FailsTable (LimiterFault e) = Unit {0}
FailsTable PageFault = ⊥
FailsTable HeapFault = ⊥

-- Why an object by itself may be refused, by what is asked for.
abbrev pub FailsSingle : Asked → AllocError → Type 0
FailsSingle (memory_asked m) e = FailsMemory e
FailsSingle (table_asked ty) e = FailsTable e
FailsSingle _ e = ⊥

-- A memory by itself is asked for,
abbrev pub IsMemoryAsked : Asked → Type 0
IsMemoryAsked (memory_asked m) = Unit {0}
IsMemoryAsked _ = ⊥

-- or a table.
abbrev pub IsTableAsked : Asked → Type 0
IsTableAsked (table_asked ty) = Unit {0}
IsTableAsked _ = ⊥

-- Why a heap that passed its test may be refused. The limiter is asked for its memory, and for no table.
abbrev pub FailsHeap : AllocError → Type 0
FailsHeap Memory = Unit {0}
FailsHeap (unsupported rule) = IsUnmadeMemory rule
FailsHeap (Limit l) = IsHeapLimit l.kind
FailsHeap StacksDisabled = ⊥
FailsHeap HeapsDisabled = ⊥
FailsHeap (LimiterDenied table min) = table ≡ false
FailsHeap (LimiterFault e) = Unit {0}
FailsHeap PageFault = Unit {0}
FailsHeap HeapFault = Unit {0}

-- Why a heap over a memory that there is may be refused where there is a collector: no slot for a heap is left, or its maker makes none.
-- Nothing is reserved for it, so want of memory is the maker's alone.
abbrev pub FailsHeapOver : AllocError → Type 0
FailsHeapOver Memory = Unit {0}
FailsHeapOver (unsupported rule) = ⊥
FailsHeapOver (Limit l) = l.kind ≡ GcHeaps
FailsHeapOver StacksDisabled = ⊥
FailsHeapOver HeapsDisabled = ⊥
FailsHeapOver (LimiterDenied table min) = ⊥
FailsHeapOver (LimiterFault e) = ⊥
FailsHeapOver PageFault = ⊥
FailsHeapOver HeapFault = Unit {0}

-- Why a heap that passed its test may be refused, by whether it has a memory of its own.
abbrev pub FailsHeapFor : Asked → AllocError → Type 0
FailsHeapFor (heap_over_asked memory) e = FailsHeapOver e
FailsHeapFor _ e = FailsHeap e

-- A heap over a memory that there is is asked for.
abbrev pub IsOverAsked : Asked → Type 0
IsOverAsked (heap_over_asked memory) = Unit {0}
IsOverAsked _ = ⊥

-- Why a module may be refused: by the first rule that it breaks; or it breaks none, and it fails.
abbrev pub ModuleRefused : Settings → Plan → ModuleInfo → AllocError → Type 0
ModuleRefused s plan info e = IsBroken (module_refused s plan.totals.table info) e ⊎ ((module_refused s plan.totals.table info ≡ None) × FailsModule e)

-- Why a component may be refused: by the first rule that it breaks; or it breaks none, and as many are granted as may be.
abbrev pub ComponentRefused : Settings → ComponentInfo → AllocError → Type 0
ComponentRefused s info e = IsBroken (component_refused s info) e ⊎ ((component_refused s info ≡ None) × (e ≡ no_component_left s))

-- Why a stack may be refused: the stacks of the pool have no bytes, or no slot is left.
abbrev pub StackRefused : Settings → AllocError → Type 0
StackRefused s StacksDisabled = s.stack_size ≡ 0
StackRefused s (Limit l) = l.kind ≡ Fibers
StackRefused s _ = ⊥

-- A heap passes its test: there is a collector, and its memory breaks no rule.
abbrev pub HeapPasses : Settings → Asked → Type 0
HeapPasses s asked = (s.tunables.tunables.collector ≡ true) × (heap_refused s asked ≡ None)

-- Why a heap may be refused: there is no collector; or there is one, and its memory breaks a rule, this first; or it passes its test,
-- and fails.
abbrev pub HeapRefused : Settings → Asked → AllocError → Type 0
HeapRefused s asked e =
    ((s.tunables.tunables.collector ≡ false) × (e ≡ HeapsDisabled))
    ⊎ (((s.tunables.tunables.collector ≡ true) × IsBroken (heap_refused s asked) e)
    ⊎ (HeapPasses s asked × FailsHeapFor asked e))

-- Why a request that is so far may be refused still.
abbrev pub RequestRefused : Settings → Plan → Asked → Progress → AllocError → Type 0
RequestRefused s plan asked untested e = ModuleRefused s plan (info_wanted asked) e
RequestRefused s plan asked uncounted e = FailsModule e
RequestRefused s plan asked (admitted n) e = FailsModule e
RequestRefused s plan asked (seeks_single n) e = FailsSingle asked e
RequestRefused s plan asked seeks_stack e = StackRefused s e
RequestRefused s plan asked tests_heap e = HeapRefused s asked e
RequestRefused s plan asked (seeks_heap n) e = FailsHeapFor asked e
RequestRefused s plan asked counts_heap e = ⊥

-- A request is for what its progress says: an instance of a module, a memory or a table by itself, a stack or a heap.
abbrev pub IsRequestFor : Progress → Asked → Type 0
IsRequestFor untested asked = IsModule asked
IsRequestFor uncounted asked = IsModule asked
IsRequestFor (admitted n) asked = IsModule asked
IsRequestFor (seeks_single n) asked = singles_wanted asked ≡ 1
IsRequestFor seeks_stack asked = asked ≡ stack_asked
IsRequestFor tests_heap asked = heaps_wanted asked ≡ 1
IsRequestFor (seeks_heap n) asked = heaps_wanted asked ≡ 1
IsRequestFor counts_heap asked = heaps_wanted asked ≡ 1

-- A call asks for what its stage says.
abbrev pub IsCallFor : Stage → Asked → Type 0
IsCallFor no_call asked = Unit {0}
IsCallFor keys asked = Unit {0}
IsCallFor (asks p) asked = IsRequestFor p asked
IsCallFor (tests_component info) asked = Unit {0}
IsCallFor counts_component asked = Unit {0}
IsCallFor returning asked = Unit {0}
IsCallFor (refusing e) asked = Unit {0}
IsCallFor purging asked = Unit {0}
IsCallFor reserving asked = Unit {0}
IsCallFor releasing asked = Unit {0}

module _ {P H : Type 0} where
  -- What a request that is so far may be granted, and which tests it passes until then.
  abbrev pub RequestGranted : Settings → Plan → Asked → Progress → Grant P H → Type 0
  RequestGranted s plan asked untested (Instance lease) = module_refused s plan.totals.table (info_wanted asked) ≡ None
  RequestGranted s plan asked uncounted (Instance lease) = Unit {0}
  RequestGranted s plan asked (admitted n) (Instance lease) = Unit {0}
  RequestGranted s plan asked (seeks_single n) (memory_granted lease) = IsMemoryAsked asked
  RequestGranted s plan asked (seeks_single n) (table_granted lease) = IsTableAsked asked
  RequestGranted s plan asked seeks_stack (Stack lease) = 0 < s.stack_size
  RequestGranted s plan asked tests_heap (Heap lease memory) = HeapPasses s asked × HasMemories asked
  RequestGranted s plan asked (seeks_heap n) (Heap lease memory) = HasMemories asked
  RequestGranted s plan asked counts_heap (Heap lease memory) = HasMemories asked
  RequestGranted s plan asked tests_heap (HeapOver lease) = HeapPasses s asked × IsOverAsked asked
  RequestGranted s plan asked (seeks_heap n) (HeapOver lease) = IsOverAsked asked
  RequestGranted s plan asked counts_heap (HeapOver lease) = IsOverAsked asked
  RequestGranted s plan asked _ _ = ⊥

  -- What a call that is so far may end with.
  abbrev pub MayEnd : Settings → Plan → Asked → Stage → Outcome P H → Type 0
  MayEnd s plan asked keys Key = Unit {0}
  MayEnd s plan asked (asks p) (Granted grant) = RequestGranted s plan asked p grant
  MayEnd s plan asked (asks p) (Refused e) = RequestRefused s plan asked p e
  MayEnd s plan asked (tests_component info) (Granted Component) = component_refused s info ≡ None
  MayEnd s plan asked (tests_component info) (Refused e) = ComponentRefused s info e
  MayEnd s plan asked counts_component (Granted Component) = Unit {0}
  MayEnd s plan asked counts_component (Refused e) = e ≡ no_component_left s
  MayEnd s plan asked returning Returned = Unit {0}
  MayEnd s plan asked (refusing e) (Refused d) = d ≡ e
  MayEnd s plan asked purging (Purged n) = Unit {0}
  MayEnd s plan asked reserving (Released n) = Unit {0}
  MayEnd s plan asked reserving (Refused e) = e ≡ Memory
  MayEnd s plan asked releasing (Released n) = Unit {0}
  MayEnd s plan asked _ _ = ⊥

  -- What a call may be answered. A key, a give-back and a purge are never refused. A module, a component, a memory or a table by
  -- itself, a stack and a heap are granted as what they are, and only where they pass their test, if they have one; they are refused for
  -- their own reasons alone, and a release only for want of memory.
  abbrev pub AnswersCall : Settings → Plan → Call P H → Outcome P H → Type 0
  AnswersCall s plan call.Key Key = Unit {0}
  AnswersCall s plan (call.Module m) (Granted (Instance lease)) = module_refused s plan.totals.table m.info ≡ None
  AnswersCall s plan (call.Module m) (Refused e) = ModuleRefused s plan m.info e
  AnswersCall s plan (call.Component info) (Granted Component) = component_refused s info ≡ None
  AnswersCall s plan (call.Component info) (Refused e) = ComponentRefused s info e
  AnswersCall s plan (call.Memory m) (Granted (memory_granted lease)) = Unit {0}
  AnswersCall s plan (call.Memory m) (Refused e) = FailsMemory e
  AnswersCall s plan (call.Table ty) (Granted (table_granted lease)) = Unit {0}
  AnswersCall s plan (call.Table ty) (Refused e) = FailsTable e
  AnswersCall s plan call.Stack (Granted (Stack lease)) = 0 < s.stack_size
  AnswersCall s plan call.Stack (Refused e) = StackRefused s e
  AnswersCall s plan (call.Heap ty) (Granted (Heap lease memory)) = HeapPasses s (heap_asked ty)
  AnswersCall s plan (call.Heap ty) (Refused e) = HeapRefused s (heap_asked ty) e
  AnswersCall s plan (call.HeapOver memory) (Granted (HeapOver lease)) = HeapPasses s (heap_over_asked memory)
  AnswersCall s plan (call.HeapOver memory) (Refused e) = HeapRefused s (heap_over_asked memory) e
  AnswersCall s plan (call.GiveBack grant) Returned = Unit {0}
  AnswersCall s plan (call.Purge id) (Purged n) = Unit {0}
  AnswersCall s plan call.Release (Released n) = Unit {0}
  AnswersCall s plan call.Release (Refused e) = e ≡ Memory
  AnswersCall s plan _ _ = ⊥

-- What a run relies on from its input: the pool has the sizes that replies speak of, and each call for a module is a call
-- for its memories and their images.
use Rattle.std.specs.Prelude.{◌≡◌, ℕ, ◌+◌, ◌-◌, ◌*◌, ◌<◌, List, length, slice_get, true, IfSome}
use Rattle.pool_run.specs.Imports.{div_ceil, SlotKind, table_kind, stack_kind, heap_kind, has_number, of_kind, Plan, PlainHeap, HasImages, memories_wanted, images_wanted, memory_slots, stripe_allocator, allocator_of, AreImagesOf, PoolCore, Settings, ModuleAsked, module_asked}
use Rattle.pool_run.specs.Private.{Terms}
use Rattle.pool_run.specs.PrivateStacks.{StackTerms}
use Rattle.pool_run.specs.Rooms.{World}
use Rattle.pool_run.specs.Ties.{IsFor}
use Rattle.pool_run.specs.Acts.{Act, requests, purges, act_of, an_instance}
use Rattle.pool_run.specs.declared.command.Command.{Command}

-- So many slots are all that the pool has, and they are dealt out to so many stripes in turn: each has its share, which
-- begins with the slot of the stripe's number.
pub record HasStripes (slots stripes : ℕ) (plan : Plan) : Type 0 where
  pub total : slots ≡ memory_slots plan
  pub some : 0 < stripes
  pub count : length plan.memories ≡ stripes
  pub room : (s : ℕ) → s < stripes → (stripe_allocator plan s).capacity ≡ div_ceil (slots - s) stripes
  pub each : (s j : ℕ) → s < stripes → j < div_ceil (slots - s) stripes → has_number (stripe_allocator plan s) (s + j * stripes) ≡ true

-- The pool has so many slots of a kind other than memories, which have one allocator.
pub record HasSlots (kind : SlotKind) (slots : ℕ) (plan : Plan) : Type 0 where
  pub total : slots ≡ of_kind kind plan.totals
  pub room : (allocator_of plan kind 0).capacity ≡ slots
  pub each : (slot : ℕ) → slot < slots → has_number (allocator_of plan kind 0) slot ≡ true

-- its stacks are these, which have one allocator
pub record HasStacks {P : Type 0} (t : StackTerms) (c : PoolCore P PlainHeap) : Type 0 where
  pub total : t.slots ≡ c.plan.totals.stack
  pub room : (allocator_of c.plan stack_kind 0).capacity ≡ t.slots
  pub each : (slot : ℕ) → slot < t.slots → has_number (allocator_of c.plan stack_kind 0) slot ≡ true
  pub size : t.size ≡ c.settings.stack_size
  pub zeroing : t.zeroing ≡ c.settings.stack_zeroing

-- the pool has the settings and as many slots as the world says, in as many stripes
pub record IsWorldOf {P : Type 0} (w : World) (c : PoolCore P PlainHeap) : Type 0 where
  pub tells : w.terms.tells ≡ w.maker.tells
  pub settings : w.terms.settings ≡ c.settings
  pub plan : HasStripes w.terms.slots w.terms.settings.num_stripes c.plan
  pub tables : HasSlots table_kind w.terms.table_slots c.plan
  pub heaps : HasSlots heap_kind w.terms.heap_slots c.plan
  pub stacks : HasStacks w.terms.stacks c

-- the images that are given are those of the module's memories
pub record IsFit (s : Settings) (m : ModuleAsked) : Type 0 where
  pub images : AreImagesOf s (memories_wanted (module_asked m)) (images_wanted (module_asked m))
  pub places : HasImages (module_asked m)

-- Each call for a module has the images of that module's memories.
abbrev pub AreFit : Settings → List ModuleAsked → Type 0
AreFit s modules = (number : ℕ) → IfSome (slice_get modules number) (IsFit s)

-- the call is one for the module of this number
pub record IsCallFor (t : Terms) (s : Settings) (number : ℕ) (m : ModuleAsked) : Type 0 where
  pub asked : IsFor t number (module_asked m)
  pub fit : IsFit s m

-- each call is one for the module of its number
abbrev pub AreCallsFor : Terms → Settings → List ModuleAsked → Type 0
AreCallsFor t s modules = (number : ℕ) → IfSome (slice_get modules number) (IsCallFor t s number)

-- a module that is requested or purged is one of so many
abbrev pub NamesModule : ℕ → Act → Type 0
NamesModule count (requests (an_instance number)) = number < count
NamesModule count (purges number) = number < count
NamesModule count _ = Unit {0}

-- The commands name only modules that are there.
abbrev pub NameModules : ℕ → List Command → Type 0
NameModules count commands = (k : ℕ) → IfSome (slice_get commands k) (λ command. NamesModule count (act_of command))

-- A run of events on a shared memory: each event has one reply, and happens on what the events before it left.
use Rattle.std.specs.Prelude.{◌≡◌, ℕ, ◌≤◌, List, [], ◌∷◌, length, replicate, if◌then◌else◌, Bool, true, Option, Some, None, IfSome}
use Rattle.std.specs.List.{filter}
use Rattle.pool_types.specs.Config.{default_tunables}
use Rattle.pool_pages.specs.FaultPlans.{failing_maker}
use Rattle.pool_pages.specs.MakerTold.{MakerTold, calls_of}
use Rattle.pool_types.specs.MemoryTypes.{minimum_byte_size}
use Rattle.pool_types.specs.SettingsRules.{is_page_size}
use Rattle.pool_types.specs.declared.bad_config.BadConfig.{BadConfig}
use Rattle.pool_types.specs.declared.bad_config.BadConfig.TheVariants.{PageSize}
use Rattle.pool_pages.specs.declared.maker.MakeFault.TheVariants as making
use Rattle.pool_types.specs.declared.module_types.MemoryTunables.{MemoryTunables}
use Rattle.pool_types.specs.declared.module_types.MemoryKind.TheVariants.{LinearMemory}
use Rattle.pool_types.specs.declared.module_types.MemoryType.{MemoryType}
use Rattle.pool_memory.specs.Layouts.{Layout}
use Rattle.pool_shared.specs.Shared.{layout_for}
use Rattle.pool_memory.specs.Moving.{IsMadeFor, IsRefusedFor, next_name}
use Rattle.pool_run_shared.specs.Events.{SharedView, Happens}
use Rattle.pool_run_shared.specs.declared.input.SharedEvent.{SharedEvent}
use Rattle.pool_run_shared.specs.declared.input.SharedInput.{SharedInput}
use Rattle.pool_run_shared.specs.declared.reply.SharedReply.{SharedReply}

-- the memory's type: it is shared whatever the input says
abbrev pub shared_type : SharedInput → MemoryType
shared_type input = record input.memory.ty { shared = true }

-- the rule that its page breaks, if it is none
abbrev pub broken_page : SharedInput → Option BadConfig
broken_page input = if is_page_size input.page then None else Some (PageSize input.page)

-- the settings that the memory is made with
abbrev pub shared_tunables : MemoryTunables
shared_tunables = record { tunables = default_tunables; kind = LinearMemory }

-- How many bytes the shared memory begins with.
abbrev pub first_size : SharedInput → ℕ
first_size input = minimum_byte_size (shared_type input)

-- How the region of the shared memory is laid out, by its type and the default settings.
abbrev pub shared_layout : SharedInput → Layout
shared_layout input = layout_for input.page (shared_type input) shared_tunables

-- the maker with the input's page, and with no faults before it
abbrev pub with_page : SharedInput → MakerTold → MakerTold
with_page input maker = failing_maker maker input.page [] maker.next maker.faults

-- the memory as it begins: its minimum of zeros, and nobody waits
abbrev pub first_view : SharedInput → Bool → SharedView
first_view input tells = record {
  memory = record {
    slot = 0;
    ty = shared_type input;
    size = first_size input;
    capacity = (shared_layout input).capacity;
    bytes = if tells then Some (replicate (first_size input) 0) else None;
  };
  spot = [];
}

-- The events and their replies one by one, from one state of the memory to another. Of each event is said whether a call on
-- the memory's pages failed in it.
abbrev pub Happen : List SharedEvent → List Bool → List SharedReply → SharedView → SharedView → Type 0
Happen [] [] [] v end = end ≡ v
Happen (event ∷ events) (fault ∷ faults) (reply ∷ replies) v end = (next : SharedView) × Happens event fault v next reply × Happen events faults replies next end
Happen _ _ _ v end = ⊥

-- in how many events a call failed
abbrev pub count_true : List Bool → ℕ
count_true faults = length (filter (λ fault. fault) faults)

-- calls failed in no more of them than the maker lists of the memory's region, where it tells that
abbrev pub FaultsAreListed : SharedInput → MakerTold → List Bool → Type 0
FaultsAreListed input maker faults = IfSome maker.plan (λ plan. count_true faults ≤ length (calls_of (next_name maker) plan))

-- The replies are those of a run of the input by a maker: its region is made, and the events happen on the memory as it
-- begins. In no more of them fails a call on its pages than the maker's plan lists.
pub record IsSharedRun (input : SharedInput) (maker : MakerTold) (replies : List SharedReply) : Type 0 where
  pub left : MakerTold
  pub made : IsMadeFor (shared_layout input) (first_size input) maker left
  pub faults : List Bool
  pub end : SharedView
  pub happen : Happen input.events faults replies (first_view input maker.tells) end
  pub listed : FaultsAreListed input maker faults

-- No region could be made for the input by a maker, or the call that makes it reachable failed, which its plan lists. It
-- leaves the maker behind it like this.
pub record HasNoShared (input : SharedInput) (maker behind : MakerTold) : Type 0 where
  pub left : MakerTold
  pub refused : IsRefusedFor making.PageFault (shared_layout input) (first_size input) maker left
  pub same : behind.faults ≡ left.behind

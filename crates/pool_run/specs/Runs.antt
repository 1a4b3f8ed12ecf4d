-- What a run of an input is: the turns of its schedule over a pool as it is made, and then of each party until it has
-- nothing left; and the output, which tells each party a private run.
use Rattle.std.specs.Prelude.{◌++◌, ◌≡◌, ℕ, ◌<◌, ◌&&◌, ◌||◌, ◌==◌, List, [], ◌∷◌, ◌+◌, length, map, slice_get, nat_lt, if◌then◌else◌, ◌⊎◌, Bool, true, false, Option, Some, None, IfSome}
use Rattle.pool_run.specs.Imports.{Any, list_any, range_with_len, rounded_up, failing_maker, planned_faults, MakerTold, Planned, calls_of, fails_making, plan_for, slab_stripes, Told, Rose, BrokenRule, RegionName, memory_region, table_region, stack_region, ModuleInfo, Tunables, makes_listed_images, IsMadeCore, settings_of, metrics_of, ModuleAsked, PlainHeap, PoolCore, sizes_of}
use Rattle.pool_run.specs.Bounds.{IsInTime, own_turns}
use Rattle.pool_run.specs.Exact.{IsExactRun}
use Rattle.pool_run.specs.Folds.{RunParts, RunState, HoldsThroughout, Folds, Runs, commands_of, replies_to, told_state}
use Rattle.pool_run.specs.Made.{calls_made}
use Rattle.pool_run.specs.Numbers.{calls_of_run}
use Rattle.pool_run.specs.PartyRules.{host_for}
use Rattle.pool_run.specs.PrivateTables.{Host}
use Rattle.pool_run.specs.Private.{Terms, has_images, IsPrivateRun, IsWholeRun}
use Rattle.pool_run.specs.Rooms.{World, open_host, world_at}
use Rattle.pool_run.specs.RunsMade.{commands_in, nothing_told, parties_made}
use Rattle.pool_run.specs.Schedules.{turns_of}
use Rattle.pool_run.specs.declared.command.Command.{Command}
use Rattle.pool_run.specs.declared.input.Input.{Input}
use Rattle.pool_run.specs.declared.output.RunFault.{RunFault}
use Rattle.pool_run.specs.declared.output.RunFault.TheVariants.{BadInput, BadConfig, PageFault, Memory}
use Rattle.pool_run.specs.declared.output.RunOutput.{RunOutput}
use Rattle.pool_run.specs.declared.reply.Reply.{Reply}
use Rattle.pool_run.specs.declared.running_party.RunningParty.{RunningParty}

-- the maker with the input's page, and with the input's faults before it
abbrev pub with_faults : Input → MakerTold → MakerTold
with_faults input maker = failing_maker maker input.page (planned_faults input.faults) maker.next maker.faults

-- what the replies to a party of this input depend on, over regions of this maker, with this host, in the first stripe
abbrev pub terms_of : Input → MakerTold → Host → Terms
terms_of input maker host = record {
  tells = maker.tells;
  modules = input.modules;
  settings = settings_of maker.page input.config input.tunables input.offered;
  slots = input.config.limits.total_memories;
  table_slots = input.config.limits.total_tables;
  heap_slots = input.config.limits.total_gc_heaps;
  stripe = 0;
  stacks = record { slots = input.config.limits.total_stacks; size = rounded_up maker.page input.config.stack_size; zeroing = input.config.async_stack_zeroing };
  host = host;
}

-- what is the same for a whole run of this input
abbrev pub world_of : Input → MakerTold → World
world_of input maker = record {
  maker = maker;
  hosts = map host_for input.parties;
  alone = length input.parties == 1;
  counts = true;
  terms = terms_of input maker open_host;
}

-- the turns of the schedule, and with `finish` those of each party until it has nothing left
abbrev pub Performs : {P : Type 0} → Bool → List ModuleAsked → List (List Command) → List ℕ → RunState P → RunState P → Type 0
Performs true modules inputs schedule s end = Runs modules inputs schedule s end
Performs false modules inputs schedule s end = Folds modules inputs schedule s end

-- what each party was told is a private run of its commands, and with `finish` each command has its reply
abbrev pub IsToldBy : Bool → Terms → List Command → List Reply → Type 0
IsToldBy true t commands replies = IsWholeRun t commands replies
IsToldBy false t commands replies = IsPrivateRun t commands replies

-- a region that is made with the pool, and the numbers of the calls on it that make it, of which 0 is its making
pub record Making : Type 0 where
  pub region : RegionName
  pub calls : List ℕ

-- the regions of so many slots of a kind, each with these calls
abbrev pub makings_of : (ℕ → RegionName) → List ℕ → ℕ → List Making
makings_of region calls total = map (λ slot. record { region = region slot; calls = calls }) (range_with_len 0 total)

-- in how many stripes the slots for memories lie
abbrev pub stripes_of : Input → ℕ
stripes_of input = slab_stripes input.config input.tunables input.page input.offered

-- Where memories lie in two stripes or more, the first call on the region of each gives it the colour of its stripe. The first
-- call on a stack's region hides its guard page.
abbrev pub memory_calls : ℕ → List ℕ
memory_calls stripes = if nat_lt 1 stripes then 0 ∷ 1 ∷ [] else 0 ∷ []

-- All regions that are made with the pool of an input, each with the calls that make it.
abbrev pub makings_for : Input → List Making
makings_for input =
    (makings_of memory_region (memory_calls (stripes_of input)) input.config.limits.total_memories ++ makings_of table_region (0 ∷ []) input.config.limits.total_tables)
    ++ makings_of stack_region (0 ∷ 1 ∷ []) input.config.limits.total_stacks

-- The making of a region is listed as one that fails.
abbrev pub region_unmade : List Planned → Making → Bool
region_unmade plan m = fails_making m.region plan

-- One of the calls that make a region is listed as one that fails.
abbrev pub region_listed : List Planned → Making → Bool
region_listed plan m = list_any (λ call. list_any (λ n. n == call) (calls_of m.region plan)) m.calls

-- images of this module are made, and their making is listed as one that fails
abbrev pub module_listed : Tunables → ℕ → ℕ → List Planned → ModuleInfo → Bool
module_listed tunables page n plan m = has_images tunables page m.memories && makes_listed_images (record { 0 = n }) plan m.memories

-- The images of some module are made and listed as failing; the first module has this number.
abbrev pub images_listed : Tunables → ℕ → ℕ → List Planned → List ModuleInfo → Bool
images_listed tunables page n plan [] = false
images_listed tunables page n plan (m ∷ ms) = module_listed tunables page n plan m || images_listed tunables page (n + 1) plan ms

-- The plan lists the making of a region of the pool, or of an image.
abbrev pub making_listed : Input → List Planned → Bool
making_listed input plan = list_any (region_unmade plan) (makings_for input) || images_listed input.tunables input.page 0 plan input.modules

-- The plan lists some call without which the pool or its images aren't made.
abbrev pub start_listed : Input → List Planned → Bool
start_listed input plan = list_any (region_listed plan) (makings_for input) || images_listed input.tunables input.page 0 plan input.modules

-- The run is as it is made of the input: its pool is, with a call for each module, and no party has done anything. No
-- making for it is one that fails, by the maker's own list, and no call that makes a region of it by the maker's plan.
pub record IsMadeRun {P : Type 0} (input : Input) (maker : MakerTold) (run : RunParts P) : Type 0 where
  pub made : IsMadeCore maker input.config input.tunables input.offered input.shards run.core
  pub calls : run.modules ≡ calls_made input.tunables maker.page 0 input.modules
  pub own : making_listed input maker.listed ≡ false
  pub unlisted : IfSome maker.plan (λ plan. start_listed input plan ≡ false)
  pub parties : run.parties ≡ parties_made run.core.settings input.parties

-- the stripe from which a party has its memories: the one that its key gave it
abbrev pub stripe_of : {P : Type 0} → Option (RunningParty P) → ℕ
stripe_of None = 0
stripe_of (Some p) = p.frame.stripe

-- what is the same for a whole run, as party i sees it
abbrev pub world_seen : {P : Type 0} → Input → MakerTold → List (RunningParty P) → ℕ → World
world_seen input maker parties i = world_at (world_of input maker) i (stripe_of (slice_get parties i))

-- After these turns from the first state to the second the replies to each party have come in time: on a pool with this core's sizes, of
-- commands of this input.
abbrev pub AreInTime : {P : Type 0} → Input → PoolCore P PlainHeap → List ℕ → List (List Reply) → List (List Reply) → Type 0
AreInTime input c turns before after =
    (i : ℕ) → i < length input.parties → IsInTime (sizes_of c.settings c.plan) input.modules (commands_of (commands_in input.parties) i) (own_turns i turns) (replies_to i before) (replies_to i after)

-- The output is that of a run of the input: the turns lead from the run as it is made to an end, of which the output
-- gives the replies and the numbers. The replies to each party tell exactly where there was room. The turns that the schedule has
-- for a party bring it their replies in time.
pub record IsRun (P : Type 0) (input : Input) (maker : MakerTold) (output : RunOutput) : Type 0 where
  pub start : RunParts P
  pub made : IsMadeRun input maker start
  pub end : RunState P
  pub performed : Performs input.finish start.modules (commands_in input.parties) (turns_of input.schedule) (told_state start (nothing_told input.parties)) end
  pub replies : output.replies ≡ end.replies
  pub told : (i : ℕ) → i < length input.parties → IsToldBy input.finish (world_seen input maker end.parties i).terms (commands_of (commands_in input.parties) i) (replies_to i output.replies)
  pub room : (i : ℕ) → i < length input.parties → IsExactRun (world_seen input maker end.parties i) (commands_of (commands_in input.parties) i) (replies_to i output.replies)
  pub in_time : AreInTime input start.core (turns_of input.schedule) (nothing_told input.parties) output.replies
  pub metrics : output.metrics ≡ metrics_of end.core
  pub calls_made : output.calls ≡ calls_of_run end.core end.parties

-- Between any two turns from a run as it is made of the input, of whatever parties in whatever order, pool and parties are
-- sound.
abbrev pub HoldsFromStart : Type 0 → Input → MakerTold → Type 0
HoldsFromStart P input maker = (run : RunParts P) → IsMadeRun input maker run → HoldsThroughout maker run.modules (commands_in input.parties) (told_state run (nothing_told input.parties))

-- nothing is run for what the input says
abbrev pub is_refused : RunFault → Bool
is_refused BadInput = true
is_refused (BadConfig e) = true
is_refused PageFault = false
is_refused Memory = false

-- a broken rule of the settings is named, and each other refusal comes where none is broken
abbrev pub NamesRule : Option BrokenRule → RunFault → Type 0
NamesRule broken BadInput = ⊥
NamesRule broken (BadConfig e) = broken ≡ Some e
NamesRule broken PageFault = broken ≡ None
NamesRule broken Memory = broken ≡ None

-- No image of the module of this number could be made: the maker's count of faults rose. Its own list has that making,
-- or the maker behind it failed; and where its plan is told, that lists it.
pub record ModuleFaults (tunables : Tunables) (page n : ℕ) (m : ModuleInfo) (old new : MakerTold) : Type 0 where
  pub rose : Rose old.faults new.faults
  pub cause : (module_listed tunables page n old.listed m ≡ true) ⊎ Rose old.behind new.behind
  pub planned : IfSome old.plan (λ plan. module_listed tunables page n plan m ≡ true)

-- The images of some module could not be made, for a listed making or a fault of the maker behind.
pub record ModulesFault (tunables : Tunables) (page : ℕ) (ms : List ModuleInfo) (old new : MakerTold) : Type 0 where
  pub rose : Rose old.faults new.faults
  pub cause : (images_listed tunables page 0 old.listed ms ≡ true) ⊎ Rose old.behind new.behind
  pub planned : IfSome old.plan (λ plan. images_listed tunables page 0 plan ms ≡ true)

-- A region of the pool was made and given up, as the first call on it failed, which is one of those that make it. That is
-- counted by the region, which is gone. Where it tells which calls on it fail, this is one.
pub record IsGivenUp {P : Type 0} (told : P → Told) (maker : MakerTold) (m : Making) : Type 0 where
  pub makes : list_any (λ n. n == 1) m.calls ≡ true
  pub region : P
  pub named : (told region).name ≡ m.region
  pub counted : Rose 0 (told region).faults
  pub listed : IfSome (plan_for m.region maker) (λ calls. list_any (λ n. n == 1) calls ≡ true)

-- Some region of the pool was made and given up.
abbrev pub GivesUp : {P : Type 0} → (P → Told) → Input → MakerTold → Type 0
GivesUp told input maker = Any (IsGivenUp told maker) (makings_for input)

-- No region or image could be made: the maker's count of faults rose, or a region was given up. Where none was, the maker's
-- own list has a making for the input, or the maker behind it failed. And where the maker's plan is told, that lists a call
-- that makes one.
pub record FaultsInMaking {P : Type 0} (told : P → Told) (input : Input) (old new : MakerTold) : Type 0 where
  pub rose : Rose old.faults new.faults ⊎ GivesUp told input old
  pub cause : ((making_listed input old.listed ≡ true) ⊎ Rose old.behind new.behind) ⊎ GivesUp told input old
  pub planned : IfSome old.plan (λ plan. start_listed input plan ≡ true)

-- No region or image could be made by a maker with the input's faults before it: the input lists a making, the maker's own
-- count of faults rose, or a region was given up. And where the maker with the input's faults tells its plan, that lists a
-- call that makes one.
pub record HasFaultedMaking {P : Type 0} (told : P → Told) (input : Input) (old new : MakerTold) : Type 0 where
  pub cause : ((making_listed input (planned_faults input.faults) ≡ true) ⊎ Rose old.faults new.faults) ⊎ GivesUp told input (with_faults input old)
  pub planned : IfSome (with_faults input old).plan (λ plan. start_listed input plan ≡ true)

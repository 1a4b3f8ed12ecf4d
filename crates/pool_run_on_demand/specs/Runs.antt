-- What a run of an input is over an allocator that makes each memory, table, stack and heap for the request that asks for it.
use Rattle.std.specs.Prelude.{◌≡◌, ℕ, ◌+◌, ◌<◌, ◌≤◌, ◌==◌, ◌⊎◌, List, length, count_by, sum_by, sum, min, slice_index_or, if◌then◌else◌, Bool, true, false, IfSome}
use Rattle.pool_run_on_demand.specs.Imports.{planned_faults, MakerTold, no_calls, Rose, ModuleAsked, commands_of, replies_to, IsSameMaker, host_of, Terms, with_grants, no_grants, Command, World, under, open_host, world_of, with_faults, images_listed, commands_in, turns_of, NameModules, Input, RunOutput, Reply}
use Rattle.pool_run.specs.Numbers.{no_metrics}
use Rattle.pool_run_on_demand.specs.Faults.{AreListed, IsCounted, StepsMeeting, IsRunOnDemand}
use Rattle.pool_run_on_demand.specs.Left.{live_left, AreLaidLive, laying_of, Spends}
use Rattle.pool_run_on_demand.specs.Seen.{AreCallsOnDemand, AreLive, state_seen}
use Rattle.pool_run_on_demand.specs.declared.party.PartyOnDemand.{PartyOnDemand}

-- what the replies to party i depend on
abbrev pub party_terms : World → ℕ → Terms
party_terms w i = (under (slice_index_or w.hosts i open_host) w).terms

-- How many of these steps are a party's.
abbrev pub steps_in : List ℕ → ℕ → ℕ
steps_in turns i = count_by (λ party. party == i) turns

-- How many commands the schedule lets party i make.
abbrev pub steps_given : Input → ℕ → ℕ
steps_given input i = steps_in (turns_of input.schedule) i

-- so many steps of one party
abbrev pub steps_of : ℕ → ℕ → ℕ → ℕ
steps_of party times i = if party == i then times else 0

-- How many replies a party with so many steps and commands has: each command is one step, and with `finish` each is made.
abbrev pub replies_due : Bool → ℕ → ℕ → ℕ
replies_due true steps commands = commands
replies_due false steps commands = min steps commands

-- what is the same for a whole run: the calls are for the input's modules, which the commands name
pub record IsBackground (w : World) (input : Input) (calls : List ModuleAsked) : Type 0 where
  pub asked : AreCallsOnDemand w.terms input.tunables calls
  pub named : (i : ℕ) → i < length input.parties → NameModules (length calls) (commands_of (commands_in input.parties) i)

module _ {M P : Type 0} where
  -- What holds of a party between two of its commands: the terms are for its own host, each command has a place for its grant
  -- and room for its reply, and live grants are as such grants must be.
  pub record IsPartyReady (t : Terms) (commands : List Command) (p : PartyOnDemand M P) : Type 0 where
    pub host : t.host ≡ host_of p.limits p.store.failing p.heaps.failing
    pub places : length p.live.items ≡ length commands
    pub room : length commands ≤ p.told.room
    pub told : length p.told.items ≤ length commands
    pub held : AreLive t.tells p.live.items

  -- And over a maker that told this at the start: the replies so far are a private run that met so many faults and ends with
  -- its live grants, after as many calls on its store and on its maker of heaps as were made.
  pub record IsPartyOnDemand (t : Terms) (start : MakerTold) (commands : List Command) (met : ℕ) (p : PartyOnDemand M P) : Type 0 where
    pub ready : IsPartyReady t commands p
    pub laid : AreLaidLive (laying_of t start) p.live.items
    pub run : StepsMeeting t 0 commands p.told.items (with_grants (no_grants commands)) met (state_seen t.tells p.live.items p.store p.heaps)

  -- the same after one more command, or after none where it has no more: that met so many faults more, which are paid for
  pub record IsPartyTurned (t : Terms) (start : MakerTold) (commands : List Command) (met : ℕ) (before after : MakerTold) (old new : PartyOnDemand M P) : Type 0 where
    pub more : ℕ
    pub party : IsPartyOnDemand t start commands (met + more) new
    pub spent : Spends before after more (live_left old.live.items) (live_left new.live.items)

  -- what is left of listed calls in the live grants of all parties
  abbrev pub parties_left : List (PartyOnDemand M P) → ℕ
  parties_left parties = sum_by (λ (p : PartyOnDemand M P). live_left p.live.items) parties

  -- What holds of all parties between two steps, and of the maker, which told the world's at the start and tells this now: its
  -- plan pays for the faults that the parties met.
  pub record ArePartiesOnDemand (w : World) (input : Input) (now : MakerTold) (parties : List (PartyOnDemand M P)) : Type 0 where
    pub count : length parties ≡ length input.parties
    pub met : List ℕ
    pub numbered : length met ≡ length input.parties
    pub each : (i : ℕ) (d : PartyOnDemand M P) → i < length input.parties → IsPartyOnDemand (party_terms w i) w.maker (commands_of (commands_in input.parties) i) (slice_index_or met i 0) (slice_index_or parties i d)
    pub maker : IsSameMaker w.maker now
    pub spent : Spends w.maker now (sum met) 0 (parties_left parties)

  -- how many replies a party has
  abbrev pub replies_told : List (PartyOnDemand M P) → ℕ → PartyOnDemand M P → ℕ
  replies_told parties i d = length (slice_index_or parties i d).told.items

  -- Each party has as many replies more as it had steps, up to the number of its commands.
  abbrev pub HaveStepped : Input → (ℕ → ℕ) → List (PartyOnDemand M P) → List (PartyOnDemand M P) → Type 0
  HaveStepped input steps old new = (i : ℕ) (d : PartyOnDemand M P) → i < length input.parties → replies_told new i d ≡ min (replies_told old i d + steps i) (length (commands_of (commands_in input.parties) i))

  -- No party has a reply yet.
  abbrev pub HaveNone : Input → List (PartyOnDemand M P) → Type 0
  HaveNone input parties = (i : ℕ) (d : PartyOnDemand M P) → i < length input.parties → replies_told parties i d ≡ 0

  -- Each of the first so many parties has a reply to each of its commands.
  abbrev pub HaveAll : Input → ℕ → List (PartyOnDemand M P) → Type 0
  HaveAll input count parties = (i : ℕ) (d : PartyOnDemand M P) → i < count → replies_told parties i d ≡ length (commands_of (commands_in input.parties) i)

-- What each party was told is a private run of its commands, with as many replies as are due. All of them met at most as many
-- faults as the maker's plan lists different makings of regions on demand, and calls on them; entries for last numbers aren't
-- counted, where the plan is the maker's own list.
pub record AreToldOnDemand (input : Input) (maker : MakerTold) (replies : List (List Reply)) : Type 0 where
  pub count : length replies ≡ length input.parties
  pub met : List ℕ
  pub numbered : length met ≡ length input.parties
  pub told : (i : ℕ) → i < length input.parties → IsRunOnDemand (party_terms (world_of input maker) i) (commands_of (commands_in input.parties) i) (replies_to i replies) (slice_index_or met i 0)
  pub few : IfSome maker.plan (λ plan. IsCounted maker plan → AreListed maker.next plan (sum met))
  pub due : (i : ℕ) → i < length input.parties → length (replies_to i replies) ≡ replies_due input.finish (steps_given input i) (length (commands_of (commands_in input.parties) i))

-- The output is that of a run of the input: of its replies, and without numbers. No image of a module is one whose making
-- fails, by the maker's own list or by its plan.
pub record IsOnDemand (input : Input) (maker : MakerTold) (output : RunOutput) : Type 0 where
  pub replies : AreToldOnDemand input maker output.replies
  pub own : images_listed input.tunables input.page 0 maker.listed input.modules ≡ false
  pub unlisted : IfSome maker.plan (λ plan. images_listed input.tunables input.page 0 plan input.modules ≡ false)
  pub metrics : output.metrics ≡ no_metrics
  pub calls : output.calls ≡ no_calls

-- No image could be made by a maker with the input's faults before it: the input lists such a making, or the maker's own count
-- of faults rose. And where the maker with the input's faults tells its plan, that lists one.
pub record HasFaultedImages (input : Input) (old new : MakerTold) : Type 0 where
  pub cause : (images_listed input.tunables input.page 0 (planned_faults input.faults) input.modules ≡ true) ⊎ Rose old.faults new.faults
  pub planned : IfSome (with_faults input old).plan (λ plan. images_listed input.tunables input.page 0 plan input.modules ≡ true)

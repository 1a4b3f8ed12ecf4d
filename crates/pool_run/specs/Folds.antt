-- A run of several parties, turn by turn: in the order of the schedule, and then party by party until none has anything
-- left.
use Rattle.std.specs.Prelude.{◌≡◌, ℕ, ◌+◌, ◌<◌, ◌≤◌, List, [], ◌∷◌, ◌++◌, length, map, replicate, slice_get, slice_index_or, slice_set, sum_by, true, false, Option, Some, None, IfSome}
use Rattle.pool_run.specs.Imports.{MakerTold, PoolCore, ModuleAsked, IsIdle, stage_of, is_idle, PlainHeap}
use Rattle.pool_run.specs.Turns.{host_of_party, Turned, Turns, with_reply}
use Rattle.pool_run.specs.Private.{no_grants}
use Rattle.pool_run.specs.Rooms.{World, under, in_stripe}
use Rattle.pool_run.specs.RunsMade.{is_drawing}
use Rattle.pool_run.specs.Ties.{IsPrivate, IsRunning, IsAlone}
use Rattle.pool_run.specs.Limits.{live_instances, live_components, IsWithinCounts}
use Rattle.pool_run.specs.Worlds.{IsWorldOf, AreCallsFor}
use Rattle.pool_run.specs.declared.command.Command.{Command}
use Rattle.pool_run.specs.declared.reply.Reply.{Reply}
use Rattle.pool_run.specs.declared.running_party.RunningParty.{RunningParty}

-- what a run has: the pool, the calls for its modules, and the parties
pub record RunParts (P : Type 0) : Type 0 where
  pub core : PoolCore P PlainHeap
  pub modules : List ModuleAsked
  pub parties : List (RunningParty P)

-- What a run has, and the replies to each party so far.
pub record RunState (P : Type 0) : Type 0 where
  pub core : PoolCore P PlainHeap
  pub modules : List ModuleAsked
  pub parties : List (RunningParty P)
  pub replies : List (List Reply)

-- The commands of party i.
abbrev pub commands_of : List (List Command) → ℕ → List Command
commands_of inputs i = slice_index_or inputs i []

-- The replies to party i so far.
abbrev pub replies_to : ℕ → List (List Reply) → List Reply
replies_to i replies = slice_index_or replies i []

-- the replies after a turn of party i, with one more if a command ended with it
abbrev pub replies_after : ℕ → Option Reply → List (List Reply) → List (List Reply)
replies_after i reply told = slice_set told i (with_reply reply (replies_to i told))

-- so many turns of each party, party by party
abbrev pub party_by_party : ℕ → List ℕ → List ℕ
party_by_party i [] = []
party_by_party i (n ∷ counts) = replicate n i ++ party_by_party (i + 1) counts

module _ {P : Type 0} where
  -- A run as it stands, with the replies to each party so far.
  abbrev pub told_state : RunParts P → List (List Reply) → RunState P
  told_state run told = record { core = run.core; modules = run.modules; parties = run.parties; replies = told }

  -- after a turn of party i
  abbrev pub with_turn : ℕ → Turned P → RunState P → RunState P
  with_turn i t s = record {
    core = t.core;
    modules = s.modules;
    parties = slice_set s.parties i t.party;
    replies = replies_after i t.reply s.replies;
  }

  -- What holds between turns: the pool and what the parties have of it are sound, each slot and each region is in one
  -- place, and no more instances and components are granted than there may be.
  pub record HoldsBetween (maker : MakerTold) (s : RunState P) : Type 0 where
    pub running : IsRunning maker s.core s.parties
    pub instances : sum_by live_instances s.parties ≤ s.core.settings.max_core_instances
    pub components : sum_by live_components s.parties ≤ s.core.settings.max_component_instances

  -- a turn of party i, if there is one
  abbrev pub TurnsIf : List ModuleAsked → List Command → ℕ → Option (RunningParty P) → RunState P → RunState P → Type 0
  TurnsIf modules commands i None s new = new ≡ s
  TurnsIf modules commands i (Some p) s new = (t : Turned P) × Turns modules commands s.core p t × (new ≡ with_turn i t s)

  -- One turn of party i; where there is no such party, nothing happens.
  abbrev pub TurnsOf : List ModuleAsked → List (List Command) → ℕ → RunState P → RunState P → Type 0
  TurnsOf modules inputs i s new = TurnsIf modules (commands_of inputs i) i (slice_get s.parties i) s new

  -- turns of these parties, in order
  abbrev pub Folds : List ModuleAsked → List (List Command) → List ℕ → RunState P → RunState P → Type 0
  Folds modules inputs [] s end = end ≡ s
  Folds modules inputs (i ∷ schedule) s end = (mid : RunState P) × TurnsOf modules inputs i s mid × Folds modules inputs schedule mid end

  -- This holds at a state, and after any turns from there on, of whatever parties in whatever order.
  abbrev pub HoldsThroughout : MakerTold → List ModuleAsked → List (List Command) → RunState P → Type 0
  HoldsThroughout maker modules inputs start = (turns : List ℕ) (s : RunState P) → Folds modules inputs turns start s → HoldsBetween maker s

  -- the party has nothing left: no call is under way, and each of its commands has its reply
  pub record HasNothingLeft (commands : List Command) (p : RunningParty P) : Type 0 where
    pub idle : is_idle p.frame.phase ≡ true
    pub all : length commands ≤ p.done

  -- No party has anything left to do.
  abbrev pub IsFinished : List (List Command) → RunState P → Type 0
  IsFinished inputs s = (i : ℕ) → IfSome (slice_get s.parties i) (HasNothingLeft (commands_of inputs i))

  -- party 0 turns until it has nothing left, then party 1, and so on
  pub record FinishesRun (modules : List ModuleAsked) (inputs : List (List Command)) (s end : RunState P) : Type 0 where
    pub counts : List ℕ
    pub parties : length counts ≡ length s.parties
    pub folds : Folds modules inputs (party_by_party 0 counts) s end
    pub finished : IsFinished inputs end

  -- A whole run: the turns of the schedule, and then of party after party until none has anything left.
  pub record Runs (modules : List ModuleAsked) (inputs : List (List Command)) (schedule : List ℕ) (s end : RunState P) : Type 0 where
    pub scheduled : RunState P
    pub folds : Folds modules inputs schedule s scheduled
    pub finishes : FinishesRun modules inputs scheduled end

  -- The world as a party sees it: with its limits and its store, and with the stripe from which it has its memories.
  abbrev pub seen_by : RunningParty P → World → World
  seen_by p w = in_stripe p.frame.stripe (under (host_of_party p) w)

  -- How far a party is: its replies are a private run of its commands in its world, and it has a place for each of these.
  -- Before it has drawn its stripe it has done nothing, and it draws it in one turn.
  pub record IsRunTo (w : World) (commands : List Command) (replies : List Reply) (p : RunningParty P) : Type 0 where
    pub room : length p.live ≡ length commands
    pub private : IsPrivate (seen_by p w) (no_grants commands) commands replies p
    pub fresh : p.keyed ≡ false → (p.done ≡ 0) × IsIdle p.frame
    pub drawn : is_drawing (stage_of p.frame) ≡ false

  -- there is one party, which has all that the pool hasn't
  pub record IsOfOne (s : RunState P) : Type 0 where
    pub one : length s.parties ≡ 1
    pub alone : (d : RunningParty P) → IsAlone s.core (slice_index_or s.parties 0 d).frame (slice_index_or s.parties 0 d).live

  -- What holds at each moment of a run.
  pub record IsUnderWay (w : World) (modules : List ModuleAsked) (inputs : List (List Command)) (s : RunState P) : Type 0 where
    pub holds : HoldsBetween w.maker s
    pub within : IsWithinCounts s.core s.parties
    pub given : s.modules ≡ modules
    pub world : IsWorldOf w s.core
    pub calls : AreCallsFor w.terms s.core.settings modules
    pub hosts : map host_of_party s.parties ≡ w.hosts
    pub alone : w.alone ≡ true → IsOfOne s
    pub told : length s.replies ≡ length s.parties
    pub each : (i : ℕ) (d : RunningParty P) → i < length s.parties → IsRunTo w (commands_of inputs i) (replies_to i s.replies) (slice_index_or s.parties i d)

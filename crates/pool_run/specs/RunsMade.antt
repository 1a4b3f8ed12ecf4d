-- A run as it is made, and what the type that keeps it promises at each moment.
use Rattle.std.specs.Prelude.{◌≡◌, ℕ, ◌+◌, ◌^◌, ◌<◌, ◌≤◌, List, [], length, map, slice_index_or, replicate, sum_by, All, Bool, true, false, Option, Some, None}
use Rattle.pool_run.specs.Imports.{Stage, keys, stage_of, frame_made, Reserved, with_item, IsPartitioned, PoolCore, Settings, ModuleAsked, PlainHeap}
use Rattle.pool_run.specs.Rooms.{World}
use Rattle.pool_run.specs.Limits.{IsWithinCounts}
use Rattle.pool_run.specs.Ties.{held_by_party, IsReserved}
use Rattle.pool_run.specs.declared.command.Command.{Command}
use Rattle.pool_run.specs.declared.input.Party.{Party}
use Rattle.pool_run.specs.declared.input.PartyLimits.{PartyLimits}
use Rattle.pool_run.specs.declared.reply.Reply.{Reply}
use Rattle.pool_run.specs.declared.running_party.RunningParty.{RunningParty}
use Rattle.pool_run.specs.declared.slot_lists.SlotLists.{SlotLists}

-- the commands of each party
abbrev pub commands_in : List Party → List (List Command)
commands_in parties = map (λ p. p.commands) parties

-- no party was told anything
abbrev pub nothing_told : List Party → List (List Reply)
nothing_told parties = replicate (length parties) []

-- what a run is of: what stays the same for all of it, the calls for its modules, and the commands of each party
pub record Background : Type 0 where
  pub world : World
  pub modules : List ModuleAsked
  pub inputs : List (List Command)

-- What a run is of, and what each party was told so far.
pub record SoFar : Type 0 where
  pub of : Background
  pub told : List (List Reply)

-- An empty list with room for a reply to each command of a party.
abbrev pub room_for : Party → Reserved Reply
room_for p = record { items = []; room = length p.commands }

-- The replies so far, with one more if the turn brought one.
abbrev pub with_told : Option Reply → Reserved Reply → Reserved Reply
with_told None told = told
with_told (Some reply) told = with_item reply told

-- the party is about to draw its stripe
abbrev pub is_drawing : Stage → Bool
is_drawing keys = true
is_drawing _ = false

module _ {P : Type 0} where
  -- a party as it is made, with places for so many commands
  abbrev pub party_made : ℕ → Option PartyLimits → List ℕ → List ℕ → Settings → ℕ → RunningParty P
  party_made home limits failing unmade s places = record {
    frame = frame_made home s;
    limits = limits;
    store = record { failing = failing; made = 0; faults = 0 };
    heaps = record { failing = unmade; made = 0; faults = 0 };
    keyed = false;
    done = 0;
    live = replicate places None;
  }

  -- A party as a run begins, with what its host answers and with room for its grants.
  abbrev pub party_made_for : Settings → Party → RunningParty P
  party_made_for s p = party_made p.home p.limits p.gc_faults p.heap_faults s (length p.commands)

  -- All parties as a run begins.
  abbrev pub parties_made : Settings → List Party → List (RunningParty P)
  parties_made s parties = map (party_made_for s) parties

  -- how many instances parties may have counted at once
  abbrev pub places_in : List (RunningParty P) → ℕ
  places_in parties = sum_by (λ p. 1 + length p.live) parties

  -- Each slot and each region is in one place, the counters count what is granted or under way, and can count on, and no
  -- more instances are granted than there may be. No party is about to draw its stripe, since it does so in one turn.
  pub record IsKept (c : PoolCore P PlainHeap) (parties : List (RunningParty P)) : Type 0 where
    pub whole : IsPartitioned held_by_party c parties
    pub within : IsWithinCounts c parties
    pub few : places_in parties + 1 < 2 ^ 64
    pub drawn : All (λ p. is_drawing (stage_of p.frame) ≡ false) parties

  -- Each party has lists for the slots of what it asks for.
  pub record AreReserved (parties : List (RunningParty P)) (slots : List SlotLists) : Type 0 where
    pub count : length slots ≡ length parties
    pub each : (i : ℕ) (d : RunningParty P) (x : SlotLists) → i < length parties → IsReserved (slice_index_or parties i d).frame (slice_index_or slots i x)

  -- For each party there is a list with room for a reply to each of its commands.
  pub record HaveRoom (parties : List (RunningParty P)) (told : List (Reserved Reply)) : Type 0 where
    pub count : length told ≡ length parties
    pub each : (i : ℕ) (d : RunningParty P) (x : Reserved Reply) → i < length parties → length (slice_index_or parties i d).live ≤ (slice_index_or told i x).room

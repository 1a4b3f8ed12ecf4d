-- What is found in the bytes of an input.
use Rattle.std.specs.Prelude.{◌≡◌, ℕ, List, true, Option, Some, None, Result, Ok, Err}
use Rattle.pool_types.specs.declared.bad_config.BadConfig.{BadConfig}
use Rattle.pool_forms.specs.Reading.{Reading, invalid, accepted, reading, shared_reading}
use Rattle.pool_run.specs.Built.{broken_rule, is_built}
use Rattle.pool_run.specs.declared.input.Input.{Input}
use Rattle.pool_run_shared.specs.Runs.{broken_page}
use Rattle.pool_view.specs.declared.reading.Refusal.{Refusal}
use Rattle.pool_view.specs.declared.reading.Refusal.TheVariants as refusal
use Rattle.pool_view.specs.declared.status.Status.{Status}
use Rattle.pool_view.specs.declared.status.Status.TheVariants.{Ok as Success, BadInput, BadConfig as BadSettings}

-- an input that can be run; none, or one that isn't valid; or one whose settings break a rule
pub data Finding : Type 0 where
  can_run : Finding
  no_input : Finding
  breaks_rule : Finding

-- What a valid input is found to be, by the rule of its settings that is broken, if one is.
abbrev pub finding_of_rules : Option BadConfig → Finding
finding_of_rules None = can_run
finding_of_rules (Some error) = breaks_rule

-- What bytes are found to be, by how they are read.
abbrev pub finding_of : {X : Type 0} → (X → Option BadConfig) → Reading X → Finding
finding_of broken invalid = no_input
finding_of broken (accepted input) = finding_of_rules (broken input)

-- What the bytes are found to be, as an input of a run.
abbrev pub finding : List ℕ → Finding
finding bytes = finding_of broken_rule (reading bytes)

-- The same of an input of events on a shared memory.
abbrev pub shared_finding : List ℕ → Finding
shared_finding bytes = finding_of broken_page (shared_reading bytes)

-- This is what was found, unless memory ran out.
abbrev pub Finds : {X : Type 0} → Finding → Result X Refusal → Type 0
Finds f (Ok input) = f ≡ can_run
Finds f (Err (refusal.NoInput problem)) = f ≡ no_input
Finds f (Err (refusal.BrokenRule problem)) = f ≡ breaks_rule
Finds f (Err refusal.Memory) = Unit {0}

-- The same of a refusal.
abbrev pub Refuses : Finding → Refusal → Type 0
Refuses f (refusal.NoInput problem) = f ≡ no_input
Refuses f (refusal.BrokenRule problem) = f ≡ breaks_rule
Refuses f refusal.Memory = Unit {0}

-- the status of what is found
abbrev pub status_of : Finding → Status
status_of can_run = Success
status_of no_input = BadInput
status_of breaks_rule = BadSettings

-- What is known of an input that was read from these bytes: it is the one that they are, and it can be run.
pub record IsInputOf (bytes : List ℕ) (input : Input) : Type 0 where
  pub read : reading bytes ≡ accepted input
  pub built : is_built input ≡ true

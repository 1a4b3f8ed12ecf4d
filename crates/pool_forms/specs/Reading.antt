-- The input that a text is.
use Rattle.std.specs.Prelude.{◌≡◌, ℕ, List, Bool, if◌then◌else◌, Option, Some, None, Result, Ok, Err}
use Rattle.pool_forms.specs.Imports.{is_utf8, Data, read, view, Value, is_built, is_valid_shared, is_valid, Input, SharedInput}
use Rattle.pool_forms.specs.Forms.{input_form}
use Rattle.pool_forms.specs.Ranges.{numbers_fit}
use Rattle.pool_forms.specs.SharedForms.{shared_form, events_fit}
use Rattle.pool_forms.specs.declared.json_input.InputFault.{InputFault}
use Rattle.pool_forms.specs.declared.json_input.InputFault.TheVariants.{Invalid, Memory}

-- No JSON, JSON of another form, or an input that breaks a limit or names what isn't there; or an input that can be run, but
-- for its settings
pub data Reading (X : Type 0) : Type 0 where
  invalid : Reading X
  accepted : X → Reading X

-- the value of a JSON text, which is in UTF-8 and nests at most 127 levels deep
unfoldable pub json_of : List ℕ → Option Data
json_of bytes = if is_utf8 bytes then read bytes else None

-- The reading of an input that is built and whose numbers fit: accepted where it is valid.
abbrev pub reading_of_fit : Input → Reading Input
reading_of_fit input = if is_valid input then accepted input else invalid

-- The reading of an input of the right form: invalid, or accepted.
abbrev pub reading_of_input : Bool → Input → Reading Input
reading_of_input fit input =
    if is_built input then (if fit then reading_of_fit input else invalid)
    else invalid

-- The reading of a value: invalid where it has no form of an input, else by the tests of the input.
abbrev pub reading_of_form : Bool → Option Input → Reading Input
reading_of_form fit None = invalid
reading_of_form fit (Some input) = reading_of_input fit input

-- The reading of what may be JSON: invalid where it is none.
abbrev pub reading_of_json : Option Data → Reading Input
reading_of_json None = invalid
reading_of_json (Some value) = reading_of_form (numbers_fit value) (input_form value)

-- What the bytes are read as: invalid, or an input.
abbrev pub reading : List ℕ → Reading Input
reading bytes = reading_of_json (json_of bytes)

-- The reading of events whose numbers fit: accepted where they are valid.
abbrev pub shared_reading_of_fit : SharedInput → Reading SharedInput
shared_reading_of_fit input = if is_valid_shared input then accepted input else invalid

-- The reading of a value as events: invalid where it has no such form, or a number is too great.
abbrev pub shared_reading_of_form : Bool → Option SharedInput → Reading SharedInput
shared_reading_of_form fit None = invalid
shared_reading_of_form fit (Some input) = if fit then shared_reading_of_fit input else invalid

-- The reading of what may be JSON as events: invalid where it is none.
abbrev pub shared_reading_of_json : Option Data → Reading SharedInput
shared_reading_of_json None = invalid
shared_reading_of_json (Some value) = shared_reading_of_form (events_fit value) (shared_form value)

-- What the bytes are read as where events on a shared memory are asked for.
abbrev pub shared_reading : List ℕ → Reading SharedInput
shared_reading bytes = shared_reading_of_json (json_of bytes)

-- the value was read, or there is none, unless memory ran out
abbrev pub IsJson : Option Data → Result Value InputFault → Type 0
IsJson json (Ok value) = json ≡ Some (view value)
IsJson json (Err Invalid) = json ≡ None
IsJson json (Err Memory) = Unit {0}

-- This is the reading of what was returned, unless memory ran out. Whether an input is valid is left to whoever runs it.
abbrev pub IsReadAs : {X : Type 0} → (X → Reading X) → Reading X → Result X InputFault → Type 0
IsReadAs of_fit r (Ok input) = r ≡ of_fit input
IsReadAs of_fit r (Err Invalid) = r ≡ invalid
IsReadAs of_fit r (Err Memory) = Unit {0}

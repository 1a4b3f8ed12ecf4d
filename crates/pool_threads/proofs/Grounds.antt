-- What all parties of a valid input rely on, for each of them.
use Rattle.std.proofs.Common.{◌≡◌, ℕ, ◌<◌, ◌≤◌, true, length, refl, arith}
use Rattle.std.proofs.lemmas.Option.{slice_get-get_or}
use Rattle.pool_run.specs.Validity.{is_valid, most_commands}
use Rattle.pool_run.specs.Worlds.{NameModules}
use Rattle.pool_run.specs.declared.input.Input.{Input}
use Rattle.pool_run.proofs.InputsRun.{parties_name}
use Rattle.pool_run.proofs.Valid.{few_commands, valid_parties}
use Rattle.pool_threads.specs.Sharing.{no_party, party_in}

-- Its commands name modules that there are,
pub ground_named : (input : Input) (modules : ℕ) → is_valid input ≡ true → modules ≡ length input.modules → (i : ℕ) → i < length input.parties → NameModules modules (party_in input i).commands
ground_named input modules valid count i below = parties_name input input.parties modules refl count valid i no_party below

-- and aren't too many,
pub ground_few : (input : Input) → is_valid input ≡ true → (i : ℕ) → i < length input.parties → length (party_in input i).commands < 4294967296
ground_few input valid i below =
    let few : length (party_in input i).commands ≤ most_commands = few_commands input i (party_in input i) valid (slice_get-get_or input.parties i no_party below) in
    omega (arith, few)

-- as the parties aren't.
pub ground_number : (input : Input) → is_valid input ≡ true → (i : ℕ) → i < length input.parties → i < 4294967296
ground_number input valid i below = omega (arith, below, valid_parties input valid)

-- What an input has that can be run.
use Rattle.std.proofs.Common.{◌≡◌, ℕ, ◌<◌, ◌≤◌, ◌^◌, [], length, Some, Bool, true, ◌&&◌, arith, nat_le, nat_lt}
use Rattle.pool_run.proofs.Imports.{first_true, second_true, ModuleInfo, list_all, slice_get, leb-true, ltb-true}
use Rattle.pool_run.specs.Schedules.{turns_of}
use Rattle.pool_run.specs.Validity.{is_valid, are_valid_modules, is_valid_module, is_valid_memory, is_valid_state, most_modules, most_memories, most_tables, is_valid_party, is_valid_schedule, are_valid_after, homes, most_commands, most_parties, most_steps}
use Rattle.pool_run.specs.declared.input.Input.{Input}
use Rattle.pool_run.specs.declared.input.Party.{Party}
use Rattle.pool_run.specs.declared.input.ScheduleEntry.{ScheduleEntry}
use Rattle.pool_run.proofs.Tests.{of_all}

valid_rest : (input : Input) → is_valid input ≡ true → (nat_le (length input.parties) most_parties && (is_valid_schedule (length input.parties) input.schedule && list_all (is_valid_party input.modules) input.parties)) ≡ true
valid_rest input valid = second_true (are_valid_modules input.modules) (nat_le (length input.parties) most_parties && (is_valid_schedule (length input.parties) input.schedule && list_all (is_valid_party input.modules) input.parties)) valid

valid_turns : (input : Input) → is_valid input ≡ true → (is_valid_schedule (length input.parties) input.schedule && list_all (is_valid_party input.modules) input.parties) ≡ true
valid_turns input valid = second_true (nat_le (length input.parties) most_parties) (is_valid_schedule (length input.parties) input.schedule && list_all (is_valid_party input.modules) input.parties) (valid_rest input valid)

valid_party : (input : Input) (i : ℕ) (p : Party) → is_valid input ≡ true → slice_get input.parties i ≡ Some p → (nat_lt p.home homes && (nat_le (length p.commands) most_commands && are_valid_after input.modules [] p.commands)) ≡ true
valid_party input i p valid is =
    let rest : Bool = nat_lt p.home homes && (nat_le (length p.commands) most_commands && are_valid_after input.modules [] p.commands) in
    second_true (list_all (nat_lt 0) p.heap_faults) rest (second_true (list_all (nat_lt 0) p.gc_faults) (list_all (nat_lt 0) p.heap_faults && rest) (of_all (is_valid_party input.modules) input.parties i p (second_true (is_valid_schedule (length input.parties) input.schedule) (list_all (is_valid_party input.modules) input.parties) (valid_turns input valid)) is))

-- each module is valid, and has not too many memories
pub valid_modules : (input : Input) → is_valid input ≡ true → list_all is_valid_module input.modules ≡ true
valid_modules input valid =
    let rest : Bool = nat_le (length input.parties) most_parties && (is_valid_schedule (length input.parties) input.schedule && list_all (is_valid_party input.modules) input.parties) in
    second_true (nat_le (length input.modules) most_modules) (list_all is_valid_module input.modules) (first_true (are_valid_modules input.modules) rest valid)

pub few_memories : (m : ModuleInfo) → is_valid_module m ≡ true → length m.memories < 2 ^ 32
few_memories m valid =
    let few : length m.memories ≤ most_memories = leb-true (length m.memories) most_memories (first_true (nat_le (length m.memories) most_memories) (nat_le (length m.tables) most_tables && (list_all is_valid_memory m.memories && is_valid_state m)) valid) in
    omega (arith, few)

-- there are not too many parties
pub valid_parties : (input : Input) → is_valid input ≡ true → length input.parties ≤ most_parties
valid_parties input valid = leb-true (length input.parties) most_parties (first_true (nat_le (length input.parties) most_parties) (is_valid_schedule (length input.parties) input.schedule && list_all (is_valid_party input.modules) input.parties) (valid_rest input valid))

-- each party has a home, and not too many commands, of which each can stand after those before it
pub valid_home : (input : Input) (i : ℕ) (p : Party) → is_valid input ≡ true → slice_get input.parties i ≡ Some p → p.home < homes
valid_home input i p valid is = ltb-true p.home homes (first_true (nat_lt p.home homes) (nat_le (length p.commands) most_commands && are_valid_after input.modules [] p.commands) (valid_party input i p valid is))

valid_rest_of_party : (input : Input) (i : ℕ) (p : Party) → is_valid input ≡ true → slice_get input.parties i ≡ Some p → (nat_le (length p.commands) most_commands && are_valid_after input.modules [] p.commands) ≡ true
valid_rest_of_party input i p valid is = second_true (nat_lt p.home homes) (nat_le (length p.commands) most_commands && are_valid_after input.modules [] p.commands) (valid_party input i p valid is)

pub few_commands : (input : Input) (i : ℕ) (p : Party) → is_valid input ≡ true → slice_get input.parties i ≡ Some p → length p.commands ≤ most_commands
few_commands input i p valid is = leb-true (length p.commands) most_commands (first_true (nat_le (length p.commands) most_commands) (are_valid_after input.modules [] p.commands) (valid_rest_of_party input i p valid is))

pub valid_commands : (input : Input) (i : ℕ) (p : Party) → is_valid input ≡ true → slice_get input.parties i ≡ Some p → are_valid_after input.modules [] p.commands ≡ true
valid_commands input i p valid is = second_true (nat_le (length p.commands) most_commands) (are_valid_after input.modules [] p.commands) (valid_rest_of_party input i p valid is)

valid_schedule : (input : Input) → is_valid input ≡ true → is_valid_schedule (length input.parties) input.schedule ≡ true
valid_schedule input valid = first_true (is_valid_schedule (length input.parties) input.schedule) (list_all (is_valid_party input.modules) input.parties) (valid_turns input valid)

-- each entry of the schedule is of a party that there is
pub valid_entry : (input : Input) (i : ℕ) (entry : ScheduleEntry) → is_valid input ≡ true → slice_get input.schedule i ≡ Some entry → entry.party < length input.parties
valid_entry input i entry valid is =
    let named : (e : ScheduleEntry) → Bool = λ e. nat_lt e.party (length input.parties) in
    ltb-true entry.party (length input.parties) (of_all (λ e. nat_lt e.party (length input.parties)) input.schedule i entry (second_true (nat_le (length (turns_of input.schedule)) most_steps) (list_all (λ e. nat_lt e.party (length input.parties)) input.schedule) (valid_schedule input valid)) is)

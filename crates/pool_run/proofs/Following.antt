-- The turns of a schedule, entry by entry.
use Rattle.std.proofs.Common.{◌≡◌, ℕ, ◌+◌, ◌<◌, ◌≤◌, List, [], ◌∷◌, ◌++◌, length, take, get_or, replicate, refl, sym, ap, ◌∙◌, append_assoc}
use Rattle.std.proofs.lemmas.List.{append-nil, get_or-map, take_all, take_more}
use Rattle.pool_run.specs.Folds.{commands_of}
use Rattle.pool_run.specs.RunsMade.{commands_in}
use Rattle.pool_run.specs.Schedules.{turns_of}
use Rattle.pool_run.specs.declared.command.Command.{Command}
use Rattle.pool_run.specs.declared.input.Party.{Party}
use Rattle.pool_run.specs.declared.input.ScheduleEntry.{ScheduleEntry}

-- the commands of a party are those of its number
pub commands_there : (inputs : List (List Command)) (parties : List Party) (i : ℕ) (d : Party) → inputs ≡ commands_in parties → i < length parties → (get_or parties i d).commands ≡ commands_of inputs i
commands_there inputs parties i d same below = sym (ap (λ (all : List (List Command)). commands_of all i) same ∙ get_or-map (λ (p : Party). p.commands) parties i d [] below)

pub commands_read : (inputs : List (List Command)) (given parties : List Party) (i : ℕ) (d : Party) → inputs ≡ commands_in given → parties ≡ given → i < length given → (get_or parties i d).commands ≡ commands_of inputs i
commands_read inputs given parties i d all same below = ap (λ (ps : List Party). (get_or ps i d).commands) same ∙ commands_there inputs given i d all below

turns_of-append : (first second : List ScheduleEntry) → turns_of (first ++ second) ≡ turns_of first ++ turns_of second
turns_of-append [] second = refl
turns_of-append (entry ∷ first) second =
    ap (λ (turns : List ℕ). replicate entry.times entry.party ++ turns) (turns_of-append first second)
    ∙ sym (append_assoc (replicate entry.times entry.party) (turns_of first) (turns_of second))

-- one entry more
pub turns_more : (schedule : List ScheduleEntry) (i : ℕ) (d : ScheduleEntry) → i < length schedule → turns_of (take i schedule) ++ replicate (get_or schedule i d).times (get_or schedule i d).party ≡ turns_of (take (i + 1) schedule)
turns_more schedule i d below =
    let first : List ScheduleEntry = take i schedule in
    let entry : ScheduleEntry = get_or schedule i d in
    let last : turns_of (entry ∷ []) ≡ replicate entry.times entry.party = append-nil (replicate entry.times entry.party) in
    ap (λ (turns : List ℕ). turns_of first ++ turns) (sym last)
    ∙ sym (turns_of-append first (entry ∷ []))
    ∙ ap turns_of (sym (take_more schedule i d below))

-- all of them
pub turns_all : (schedule : List ScheduleEntry) (i : ℕ) → length schedule ≤ i → turns_of (take i schedule) ≡ turns_of schedule
turns_all schedule i all = ap turns_of (take_all i schedule all)

-- A run of a load: it has a reply for each command, and so few that they can be counted.
use Rattle.std.proofs.Common.{◌≡◌, ℕ, ◌^◌, ◌<◌, ◌≤◌, List, [], ◌∷◌, length, sum_by, All, Bool, true, false, Option, Some, None, slice_get, slice_index_or, refl, ap, ◌∙◌, subst, arith}
use Rattle.std.proofs.lemmas.List.{get_or-map, length-replicate, length-set}
use Rattle.std.proofs.lemmas.List.Elements.{All-from_get_or}
use Rattle.std.proofs.lemmas.List.Sums.{sum_by-le}
use Rattle.std.proofs.lemmas.Option.{slice_get-get_or}
use Rattle.pool_alloc.specs.PlainModules.{ModuleAsked}
use Rattle.pool_pages.specs.FailingRegions.{with_failing}
use Rattle.pool_pages.specs.MakerTold.{MakerTold}
use Rattle.pool_pages.specs.Told.{Told}
use Rattle.pool_pages.specs.declared.failing.Failing.{Failing}
use Rattle.pool_run.specs.Agreeing.{IsOnlyRun}
use Rattle.pool_run.specs.Built.{broken_rule}
use Rattle.pool_run.specs.Folds.{RunState, commands_of, replies_to, party_by_party, TurnsIf, Folds, told_state}
use Rattle.pool_run.specs.Private.{Terms}
use Rattle.pool_run.specs.Runs.{IsRun, IsToldBy, HasFaultedMaking, HoldsFromStart, Performs, with_faults, world_seen}
use Rattle.pool_run.specs.RunsMade.{commands_in, nothing_told}
use Rattle.pool_run.specs.Schedules.{turns_of}
use Rattle.pool_run.specs.Turns.{with_reply}
use Rattle.pool_run.specs.Validity.{is_valid, most_commands}
use Rattle.pool_run.specs.declared.command.Command.{Command}
use Rattle.pool_run.specs.declared.input.Input.{Input}
use Rattle.pool_run.specs.declared.input.Party.{Party}
use Rattle.pool_run.specs.declared.output.RunOutput.{RunOutput}
use Rattle.pool_run.specs.declared.reply.Reply.{Reply}
use Rattle.pool_run.specs.declared.running_party.RunningParty.{RunningParty}
use Rattle.pool_run.proofs.Valid.{few_commands, valid_parties}
use Rattle.pool_load.specs.Load.{load_input}
use Rattle.pool_forms.specs.LoadOutput.{load_text}
use Rattle.pool_forms.specs.Streams.{SourceTold}
use Rattle.pool_cli.specs.Statuses.{HasNoLoadPool, HasRunLoad}

-- a party with nothing to do
idler : Party
idler = record { home = 0; limits = None; gc_faults = []; heap_faults = []; commands = [] }

-- where a run is whole, each command has its reply
all_told : (finish : Bool) (t : Terms) (commands : List Command) (replies : List Reply) → finish ≡ true → IsToldBy finish t commands replies → length replies ≡ length commands
all_told true t commands replies whole told = told.all
all_told false t commands replies whole told = absurd cc

module _ {P : Type 0} where
  -- turns change no number of parties that are replied to
  turn_keeps : (modules : List ModuleAsked) (commands : List Command) (i : ℕ) (o : Option (RunningParty P)) (s new : RunState P) → TurnsIf modules commands i o s new → length new.replies ≡ length s.replies
  turn_keeps modules commands i None s new is = ap (λ (x : RunState P). length x.replies) is
  turn_keeps modules commands i (Some p) s new turns =
      ap (λ (x : RunState P). length x.replies) turns.2 ∙ length-set s.replies i (with_reply turns.0.reply (replies_to i s.replies))

  folds_keep : (modules : List ModuleAsked) (inputs : List (List Command)) (turns : List ℕ) (s end : RunState P) → Folds modules inputs turns s end → length end.replies ≡ length s.replies
  folds_keep modules inputs [] s end is = ap (λ (x : RunState P). length x.replies) is
  folds_keep modules inputs (i ∷ turns) s end folds =
      folds_keep modules inputs turns folds.0 end folds.2 ∙ turn_keeps modules (commands_of inputs i) i (slice_get s.parties i) s folds.0 folds.1

  performed_keeps : (finish : Bool) (modules : List ModuleAsked) (inputs : List (List Command)) (schedule : List ℕ) (s end : RunState P) → Performs finish modules inputs schedule s end → length end.replies ≡ length s.replies
  performed_keeps true modules inputs schedule s end runs =
      folds_keep modules inputs (party_by_party 0 runs.finishes.counts) runs.scheduled end runs.finishes.folds ∙ folds_keep modules inputs schedule s runs.scheduled runs.folds
  performed_keeps false modules inputs schedule s end folds = folds_keep modules inputs schedule s end folds

-- each party is replied to
replied : (P : Type 0) (input : Input) (maker : MakerTold) (output : RunOutput) → IsRun P input maker output → length output.replies ≡ length input.parties
replied P input maker output run =
    ap (length {A = List Reply}) run.replies
    ∙ performed_keeps {P = P} input.finish run.start.modules (commands_in input.parties) (turns_of input.schedule) (told_state run.start (nothing_told input.parties)) run.end run.performed
    ∙ length-replicate {A = List Reply} (length input.parties) []

-- the replies to a whole run of a valid input can be counted
few_replies : (P : Type 0) (input : Input) (maker : MakerTold) (output : RunOutput) → IsRun P input maker output → is_valid input ≡ true → input.finish ≡ true → sum_by length output.replies < 2 ^ 64
few_replies P input maker output run valid whole =
    let count : length output.replies ≡ length input.parties = replied P input maker output run in
    let short : List Reply → Type 0 = λ rs. length rs ≤ most_commands in
    let each : All short output.replies =
    All-from_get_or short output.replies []
    (λ i below.
    let inside : i < length input.parties = omega (arith, below, count) in
    let p : Party = slice_index_or input.parties i idler in
    let all : length (replies_to i output.replies) ≡ length (commands_of (commands_in input.parties) i) =
    all_told input.finish (world_seen input maker run.end.parties i).terms (commands_of (commands_in input.parties) i) (replies_to i output.replies) whole (run.told i inside) in
    let its : length (commands_of (commands_in input.parties) i) ≡ length p.commands = ap (length {A = Command}) (get_or-map (λ (q : Party). q.commands) input.parties i idler [] inside) in
    omega (arith, all, its, few_commands input i p valid (slice_get-get_or input.parties i idler inside))) in
    omega (arith, count, valid_parties input valid, sum_by-le length most_commands output.replies each)

finishes : (seed : ℕ) → (load_input seed).finish ≡ true
unfolding load_input
finishes seed = refl

-- so can those of a load
pub load_counted : (P : Type 0) (seed : ℕ) (input : Input) (maker : MakerTold) (output : RunOutput) → input ≡ load_input seed → is_valid (load_input seed) ≡ true → IsRun P input maker output → sum_by length output.replies < 2 ^ 64
load_counted P seed input maker output made valid run =
    few_replies P input maker output run (ap is_valid made ∙ valid) (ap (λ (i : Input). i.finish) made ∙ finishes seed)

-- what a run of the input that was made says of the load
pub load_done : (P : Type 0) (seed : ℕ) (input : Input) (output : RunOutput) (text : List ℕ) (source : SourceTold) (mo mn : MakerTold) → input ≡ load_input seed → is_valid (load_input seed) ≡ true → broken_rule (load_input seed) ≡ None → IsRun (Failing P) input (with_faults input mo) output → IsOnlyRun (Failing P) input (with_faults input mo) output → HoldsFromStart (Failing P) input (with_faults input mo) → mn.faults ≡ mo.faults → text ≡ load_text seed output → HasRunLoad P seed text source source mo mn
load_done P seed input output text source mo mn made valid rules run only throughout makings is = record {
  output = output;
  unread = refl;
  valid = valid;
  limits = rules;
  run = subst (λ (i : Input). IsRun (Failing P) i (with_faults i mo) output) made run;
  only = subst (λ (i : Input). IsOnlyRun (Failing P) i (with_faults i mo) output) made only;
  throughout = subst (λ (i : Input). HoldsFromStart (Failing P) i (with_faults i mo)) made throughout;
  makings = makings;
  text_is = is;
}

pub load_unmade : {P : Type 0} (told : P → Told) (seed : ℕ) (input : Input) (source : SourceTold) (mo mn : MakerTold) → input ≡ load_input seed → HasFaultedMaking (with_failing told) input mo mn → HasNoLoadPool told seed source source mo mn
load_unmade told seed input source mo mn made faulted = record {
  unread = refl;
  making = subst (λ (i : Input). HasFaultedMaking (with_failing told) i mo mn) made faulted;
}

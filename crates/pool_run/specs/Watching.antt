-- What a watcher of a run is told: each turn that the run makes, in order.
use Rattle.std.specs.Prelude.{◌≡◌, ℕ, List, [], ◌∷◌, ◌++◌, length, nat_le, replicate, slice_get, ◌&&◌, ◌⊎◌, Bool, true, false, not, Option, IfSome}
use Rattle.pool_run.specs.Imports.{MakerTold, ModuleAsked}
use Rattle.pool_run.specs.Folds.{RunParts, RunState, TurnsOf, HasNothingLeft, IsFinished, commands_of, party_by_party, replies_after, told_state}
use Rattle.pool_run.specs.Progress.{is_busy, commands_done}
use Rattle.pool_run.specs.Runs.{IsRun}
use Rattle.pool_run.specs.RunsMade.{commands_in, nothing_told}
use Rattle.pool_run.specs.Schedules.{turns_of}
use Rattle.pool_run.specs.declared.command.Command.{Command}
use Rattle.pool_run.specs.declared.input.Input.{Input}
use Rattle.pool_run.specs.declared.output.RunOutput.{RunOutput}
use Rattle.pool_run.specs.declared.reply.Reply.{Reply}
use Rattle.pool_run.specs.declared.running_party.RunningParty.{RunningParty}

-- What a watcher is told of a turn: whose it was, what the run has after it, and the reply to the command that ended with it.
pub record TurnTold (P : Type 0) : Type 0 where
  pub party : ℕ
  pub run : RunParts P
  pub reply : Option Reply

-- From the first state to the second a watcher was told these things, in order, each by this relation.
abbrev pub LeadsOver : {T W : Type 0} → (T → W → W → Type 0) → List T → W → W → Type 0
LeadsOver Leads [] w out = out ≡ w
LeadsOver {W = W} Leads (t ∷ told) w out = (mid : W) × Leads t w mid × LeadsOver Leads told mid out

module _ {P : Type 0} where
  -- What a run has, without the replies so far.
  abbrev pub parts_of : RunState P → RunParts P
  parts_of s = record { core = s.core; modules = s.modules; parties = s.parties }

  -- The party, which has these commands, has nothing left: no call is under way, and each of them has its reply.
  abbrev pub has_nothing_left : List Command → Option (RunningParty P) → Bool
  has_nothing_left commands o = not (is_busy o) && nat_le (length commands) (commands_done o)

  -- a turn of party i, and what is told of it
  pub record TellsTurn (modules : List ModuleAsked) (inputs : List (List Command)) (i : ℕ) (s new : RunState P) (t : TurnTold P) : Type 0 where
    pub turns : TurnsOf modules inputs i s new
    pub party : t.party ≡ i
    pub run : t.run ≡ parts_of new
    pub reply : new.replies ≡ replies_after i t.reply s.replies

  -- Turns of these parties, in order, and what is told of them. A party that has nothing left makes no turn, and nothing is told.
  abbrev pub Tells : List ModuleAsked → List (List Command) → List ℕ → RunState P → RunState P → List (TurnTold P) → Type 0
  Tells modules inputs [] s end told = (end ≡ s) × (told ≡ [])
  Tells modules inputs (i ∷ turns) s end told =
      ((has_nothing_left (commands_of inputs i) (slice_get s.parties i) ≡ true) × Tells modules inputs turns s end told)
      ⊎ ((has_nothing_left (commands_of inputs i) (slice_get s.parties i) ≡ false)
      × ((mid : RunState P) × (t : TurnTold P) × (rest : List (TurnTold P)) × TellsTurn modules inputs i s mid t × (told ≡ t ∷ rest) × Tells modules inputs turns mid end rest))

  -- These turns were made, and a watcher was told of them.
  pub record Watches {W : Type 0} (Leads : TurnTold P → W → W → Type 0) (modules : List ModuleAsked) (inputs : List (List Command)) (turns : List ℕ) (s end : RunState P) (w out : W) : Type 0 where
    pub told : List (TurnTold P)
    pub tells : Tells modules inputs turns s end told
    pub leads : LeadsOver Leads told w out

  -- some turns of party i, one after another, of which a watcher was told
  pub record WatchesSome {W : Type 0} (Leads : TurnTold P → W → W → Type 0) (modules : List ModuleAsked) (inputs : List (List Command)) (i : ℕ) (s end : RunState P) (w out : W) : Type 0 where
    pub times : ℕ
    pub watched : Watches Leads modules inputs (replicate times i) s end w out

  -- Party 0 turns until it has nothing left, then party 1, and so on; and a watcher was told.
  pub record WatchesFinish {W : Type 0} (Leads : TurnTold P → W → W → Type 0) (modules : List ModuleAsked) (inputs : List (List Command)) (s end : RunState P) (w out : W) : Type 0 where
    pub counts : List ℕ
    pub parties : length counts ≡ length s.parties
    pub watched : Watches Leads modules inputs (party_by_party 0 counts) s end w out
    pub finished : IsFinished inputs end

  -- The turns of a run are those of its schedule, and with `finish` then those of party after party, until none has anything left.
  abbrev pub AreTurnsOfRun : Bool → List (List Command) → List ℕ → List ℕ → RunState P → Type 0
  AreTurnsOfRun false inputs schedule turns end = turns ≡ schedule
  AreTurnsOfRun true inputs schedule turns end = (counts : List ℕ) × (length counts ≡ length end.parties) × (turns ≡ schedule ++ party_by_party 0 counts) × IsFinished inputs end

  -- A whole run, of which a watcher was told: the turns of the schedule, and with `finish` those that come then.
  pub record WatchesRun {W : Type 0} (Leads : TurnTold P → W → W → Type 0) (finish : Bool) (modules : List ModuleAsked) (inputs : List (List Command)) (schedule : List ℕ) (s end : RunState P) (w out : W) : Type 0 where
    pub turns : List ℕ
    pub order : AreTurnsOfRun finish inputs schedule turns end
    pub watched : Watches Leads modules inputs turns s end w out

-- The output is that of a run of the input. A watcher was told of each turn of this run, in order, and of nothing else.
pub record IsWatchedRun (P : Type 0) {W : Type 0} (Leads : TurnTold P → W → W → Type 0) (input : Input) (maker : MakerTold) (output : RunOutput) (w out : W) : Type 0 where
  pub run : IsRun P input maker output
  pub watched : WatchesRun Leads input.finish run.start.modules (commands_in input.parties) (turns_of input.schedule) (told_state run.start (nothing_told input.parties)) run.end w out

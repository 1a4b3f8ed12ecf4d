-- A run that a watcher is told of: what it is told of turns one after another, and that these are the turns of the run.
use Rattle.std.proofs.Common.{◌≡◌, ℕ, zero, suc, ◌+◌, ◌-◌, ◌<◌, ◌≤◌, Bool, true, false, List, [], ◌∷◌, ◌++◌, length, replicate, Option, refl, sym, ap, ◌∙◌, subst, inl, inr, arith, ◌&&◌, not, nat_le, IfOk, IfSome, Result, Ok, Err, slice_get}
use Rattle.std.proofs.Math.Bool.{and-false}
use Rattle.std.proofs.lemmas.Bool.{lt-leb}
use Rattle.pool_run.proofs.Imports.{and_parts, leb-true, not-true, cases_lt, MakerTold, length_push, replicate_more, replicate-append-replicate, slice_get_past, ModuleAsked}
use Rattle.pool_run.specs.Folds.{RunState, commands_of, party_by_party, Folds, Runs, HasNothingLeft, FinishesRun}
use Rattle.pool_run.specs.Progress.{is_busy, commands_done}
use Rattle.pool_run.specs.Runs.{IsRun, Performs}
use Rattle.pool_run.specs.Watching.{TurnTold, LeadsOver, has_nothing_left, TellsTurn, Tells, Watches, WatchesSome, WatchesFinish, WatchesRun, IsWatchedRun}
use Rattle.pool_run.specs.declared.command.Command.{Command}
use Rattle.pool_run.specs.declared.input.Input.{Input}
use Rattle.pool_run.specs.declared.output.RunFault.{RunFault}
use Rattle.pool_run.specs.declared.output.RunOutput.{RunOutput}
use Rattle.pool_run.specs.declared.running_party.RunningParty.{RunningParty}
use Rattle.pool_run.proofs.Ended.{folds_count}
use Rattle.pool_run.proofs.Finishing.{party_by_party-push, folds_others, nothing_is_left, rests_if}

-- what one list of things leads to, and then another
led_on : {T W : Type 0} (Leads : T → W → W → Type 0) (first second : List T) (w mid out : W) → LeadsOver Leads first w mid → LeadsOver Leads second mid out → LeadsOver Leads (first ++ second) w out
led_on {W = W} Leads [] second w mid out led more = let L : W → Type 0 = λ v. LeadsOver Leads second v out in subst L led more
led_on Leads (t ∷ first) second w mid out led more = (led.0, led.1, led_on Leads first second led.0 mid out led.2 more)

-- a run that was watched is one
pub run_of_watched : {P W : Type 0} (Leads : TurnTold P → W → W → Type 0) (input : Input) (maker : MakerTold) (w out : W) (r : Result RunOutput RunFault) → IfOk r (λ output. IsWatchedRun P Leads input maker output w out) → IfOk r (IsRun P input maker)
run_of_watched Leads input maker w out (Ok output) is = is.run
run_of_watched Leads input maker w out (Err fault) is = tt

module _ {P : Type 0} where
  -- A party with a call under way, or with a command that has no reply, has something left.
  pub busy_has_left : (commands : List Command) (o : Option (RunningParty P)) → is_busy o ≡ true → has_nothing_left commands o ≡ false
  busy_has_left commands o busy = ap (λ (b : Bool). not b && nat_le (length commands) (commands_done o)) busy

  pub more_has_left : (commands : List Command) (o : Option (RunningParty P)) → commands_done o < length commands → has_nothing_left commands o ≡ false
  more_has_left commands o more = ap (λ (b : Bool). not (is_busy o) && b) (lt-leb (length commands) (commands_done o) more) ∙ and-false (not (is_busy o))

  left_nothing : (commands : List Command) (o : Option (RunningParty P)) → has_nothing_left commands o ≡ true → IfSome o (HasNothingLeft commands)
  left_nothing commands o left =
      let parts = and_parts (not (is_busy o)) (nat_le (length commands) (commands_done o)) left in
      nothing_is_left commands o (not-true (is_busy o) parts.0) (leb-true (length commands) (commands_done o) parts.1)

  tells_on : (modules : List ModuleAsked) (inputs : List (List Command)) (first second : List ℕ) (s mid end : RunState P) (a b : List (TurnTold P)) → Tells modules inputs first s mid a → Tells modules inputs second mid end b → Tells modules inputs (first ++ second) s end (a ++ b)
  tells_on modules inputs [] second s mid end a b tells more =
      let At : RunState P → Type 0 = λ x. Tells modules inputs second x end (a ++ b) in
      let With : List (TurnTold P) → Type 0 = λ told. Tells modules inputs second mid end (told ++ b) in
      subst At tells.0 (subst With (sym tells.1) more)
  tells_on modules inputs (i ∷ first) second s mid end a b tells more =
      elim tells [
        | inl rests ↦ inl (rests.0, tells_on modules inputs first second s mid end a b rests.1 more)
        | inr made ↦
            inr (made.0, (made.1.0, made.1.1, made.1.2 ++ b, made.1.3, ap (λ (told : List (TurnTold P)). told ++ b) made.1.4, tells_on modules inputs first second made.1.0 mid end made.1.2 b made.1.5 more))
      ]

  tells_rest : (modules : List ModuleAsked) (inputs : List (List Command)) (i n : ℕ) (s : RunState P) → has_nothing_left (commands_of inputs i) (slice_get s.parties i) ≡ true → Tells modules inputs (replicate n i) s s []
  tells_rest modules inputs i zero s left = (refl, refl)
  tells_rest modules inputs i (suc n) s left = inl (left, tells_rest modules inputs i n s left)

  -- The turns are made.
  tells_folds : (modules : List ModuleAsked) (inputs : List (List Command)) (turns : List ℕ) (s end : RunState P) (told : List (TurnTold P)) → Tells modules inputs turns s end told → Folds modules inputs turns s end
  tells_folds modules inputs [] s end told tells = tells.0
  tells_folds modules inputs (i ∷ turns) s end told tells =
      elim tells [
        | inl rests ↦ (s, rests_if modules (commands_of inputs i) i (slice_get s.parties i) s refl (left_nothing (commands_of inputs i) (slice_get s.parties i) rests.0), tells_folds modules inputs turns s end told rests.1)
        | inr made ↦ (made.1.0, made.1.3.turns, tells_folds modules inputs turns made.1.0 end made.1.2 made.1.5)
      ]

  folds_split : (modules : List ModuleAsked) (inputs : List (List Command)) (first second : List ℕ) (s end : RunState P) → Folds modules inputs (first ++ second) s end → (mid : RunState P) × Folds modules inputs first s mid × Folds modules inputs second mid end
  folds_split modules inputs [] second s end folds = (s, refl, folds)
  folds_split modules inputs (i ∷ first) second s end folds =
      let rest = folds_split modules inputs first second folds.0 end folds.2 in
      (rest.0, (folds.0, folds.1, rest.1), rest.2)

  module _ {W : Type 0} (Leads : TurnTold P → W → W → Type 0) (modules : List ModuleAsked) (inputs : List (List Command)) where
    pub watched_none : (s : RunState P) (w : W) → Watches Leads modules inputs [] s s w w
    watched_none s w = record { told = []; tells = (refl, refl); leads = refl }

    pub watched_on : (first second : List ℕ) (s mid end : RunState P) (w v out : W) → Watches Leads modules inputs first s mid w v → Watches Leads modules inputs second mid end v out → Watches Leads modules inputs (first ++ second) s end w out
    watched_on first second s mid end w v out a b = record {
      told = a.told ++ b.told;
      tells = tells_on modules inputs first second s mid end a.told b.told a.tells b.tells;
      leads = led_on Leads a.told b.told w v out a.leads b.leads;
    }

    watched_one : (i : ℕ) (s new : RunState P) (w out : W) → has_nothing_left (commands_of inputs i) (slice_get s.parties i) ≡ false → (t : TurnTold P) × TellsTurn modules inputs i s new t × Leads t w out → Watches Leads modules inputs (i ∷ []) s new w out
    watched_one i s new w out left turn = record {
      told = turn.0 ∷ [];
      tells = inr (left, (new, turn.0, [], turn.1, refl, (refl, refl)));
      leads = (out, turn.2, refl);
    }

    -- One turn of a party more.
    pub watched_more : (i n : ℕ) (s mid new : RunState P) (w v out : W) → Watches Leads modules inputs (replicate n i) s mid w v → has_nothing_left (commands_of inputs i) (slice_get mid.parties i) ≡ false → (t : TurnTold P) × TellsTurn modules inputs i mid new t × Leads t v out → Watches Leads modules inputs (replicate (n + 1) i) s new w out
    watched_more i n s mid new w v out before left turn =
        let Of : List ℕ → Type 0 = λ turns. Watches Leads modules inputs turns s new w out in
        subst Of (replicate_more n i) (watched_on (replicate n i) (i ∷ []) s mid new w v out before (watched_one i mid new v out left turn))

    -- Once it has nothing left, all its turns are made.
    pub watched_rested : (i n times : ℕ) (s end : RunState P) (w out : W) → n ≤ times → Watches Leads modules inputs (replicate n i) s end w out → has_nothing_left (commands_of inputs i) (slice_get end.parties i) ≡ true → Watches Leads modules inputs (replicate times i) s end w out
    watched_rested i n times s end w out few before left =
        let Of : List ℕ → Type 0 = λ turns. Watches Leads modules inputs turns s end w out in
        let all : n + (times - n) ≡ times = omega (arith, few) in
        let rest : Watches Leads modules inputs (replicate (times - n) i) end end out out = record { told = []; tells = tells_rest modules inputs i (times - n) end left; leads = refl } in
        subst Of (replicate-append-replicate n (times - n) i ∙ ap (λ (k : ℕ). replicate k i) all) (watched_on (replicate n i) (replicate (times - n) i) s end end w out out before rest)

    -- no turns of a party, one more, and more after others
    pub some_none : (i : ℕ) (s : RunState P) (w : W) → WatchesSome Leads modules inputs i s s w w
    some_none i s w = record { times = 0; watched = watched_none s w }

    pub some_more : (i : ℕ) (s mid new : RunState P) (w v out : W) → WatchesSome Leads modules inputs i s mid w v → has_nothing_left (commands_of inputs i) (slice_get mid.parties i) ≡ false → (t : TurnTold P) × TellsTurn modules inputs i mid new t × Leads t v out → WatchesSome Leads modules inputs i s new w out
    some_more i s mid new w v out some left turn = record { times = some.times + 1; watched = watched_more i some.times s mid new w v out some.watched left turn }

    pub some_on : (i : ℕ) (s mid end : RunState P) (w v out : W) → WatchesSome Leads modules inputs i s mid w v → WatchesSome Leads modules inputs i mid end v out → WatchesSome Leads modules inputs i s end w out
    some_on i s mid end w v out some more =
        let Of : List ℕ → Type 0 = λ turns. Watches Leads modules inputs turns s end w out in
        record {
          times = some.times + more.times;
          watched = subst Of (replicate-append-replicate some.times more.times i) (watched_on (replicate some.times i) (replicate more.times i) s mid end w v out some.watched more.watched);
        }

    -- the parties below i have nothing left, after so many turns of each
    pub record WatchesBelow (i : ℕ) (s end : RunState P) (w out : W) : Type 0 where
      pub counts : List ℕ
      pub parties : length counts ≡ i
      pub watched : Watches Leads modules inputs (party_by_party 0 counts) s end w out
      pub finished : (k : ℕ) → k < i → IfSome (slice_get end.parties k) (HasNothingLeft (commands_of inputs k))

    pub finishes_none : (s : RunState P) (w : W) → WatchesBelow 0 s s w w
    finishes_none s w = record { counts = []; parties = refl; watched = watched_none s w; finished = λ k below. absurd (omega (arith, below)) }

    pub finishes_more : (i : ℕ) (s mid end : RunState P) (w v out : W) → WatchesBelow i s mid w v → WatchesSome Leads modules inputs i mid end v out → IfSome (slice_get end.parties i) (HasNothingLeft (commands_of inputs i)) → WatchesBelow (i + 1) s end w out
    finishes_more i s mid end w v out below some left =
        let n : ℕ = some.times in
        let Of : List ℕ → Type 0 = λ turns. Watches Leads modules inputs turns s end w out in
        let number : 0 + length below.counts ≡ i = omega (arith, below.parties) in
        let turns : party_by_party 0 (below.counts ++ n ∷ []) ≡ party_by_party 0 below.counts ++ replicate n i = party_by_party-push 0 n below.counts ∙ ap (λ (k : ℕ). party_by_party 0 below.counts ++ replicate n k) number in
        let folds : Folds modules inputs (replicate n i) mid end = tells_folds modules inputs (replicate n i) mid end some.watched.told some.watched.tells in
        record {
          counts = below.counts ++ n ∷ [];
          parties = omega (arith, length_push below.counts n, below.parties);
          watched = subst Of (sym turns) (watched_on (party_by_party 0 below.counts) (replicate n i) s mid end w v out below.watched some.watched);
          finished = λ k inside.
              let Left : ℕ → Type 0 = λ j. IfSome (slice_get end.parties j) (HasNothingLeft (commands_of inputs j)) in
              elim (cases_lt k i) [
                | inl before ↦
                    let Q : Option (RunningParty P) → Type 0 = λ o. IfSome o (HasNothingLeft (commands_of inputs k)) in
                    subst Q (sym (folds_others modules inputs i k n mid end (λ e. omega (arith, e, before)) folds)) (below.finished k before)
                | inr past ↦ subst Left {x = i} {y = k} (omega (arith, inside, past)) left
              ];
        }

    -- All of them have.
    pub finishes_all : (i : ℕ) (s end : RunState P) (w out : W) → WatchesBelow i s end w out → i ≡ length s.parties → length end.parties ≡ length s.parties → WatchesFinish Leads modules inputs s end w out
    finishes_all i s end w out below all same = record {
      counts = below.counts;
      parties = below.parties ∙ all;
      watched = below.watched;
      finished = λ k.
          let Q : Option (RunningParty P) → Type 0 = λ o. IfSome o (HasNothingLeft (commands_of inputs k)) in
          elim (cases_lt k i) [
            | inl before ↦ below.finished k before
            | inr past ↦ subst Q (sym (slice_get_past end.parties k (omega (arith, past, all, same)))) tt
          ];
    }

    -- A run that follows its schedule alone, and one that is finished then.
    pub follows_alone : (finish : Bool) (schedule : List ℕ) (s end : RunState P) (w out : W) → finish ≡ false → Watches Leads modules inputs schedule s end w out → WatchesRun Leads finish modules inputs schedule s end w out
    follows_alone true schedule s end w out is watched = cc
    follows_alone false schedule s end w out is watched = record { turns = schedule; order = refl; watched = watched }

    pub follows_finished : (finish : Bool) (schedule : List ℕ) (s mid end : RunState P) (w v out : W) → finish ≡ true → length end.parties ≡ length mid.parties → Watches Leads modules inputs schedule s mid w v → WatchesFinish Leads modules inputs mid end v out → WatchesRun Leads finish modules inputs schedule s end w out
    follows_finished false schedule s mid end w v out is same watched rest = cc
    follows_finished true schedule s mid end w v out is same watched rest = record {
      turns = schedule ++ party_by_party 0 rest.counts;
      order = (rest.counts, rest.parties ∙ sym same, refl, rest.finished);
      watched = watched_on schedule (party_by_party 0 rest.counts) s mid end w v out watched rest.watched;
    }

    -- It makes its turns.
    pub performs_watched : (finish : Bool) (schedule : List ℕ) (s end : RunState P) (w out : W) → WatchesRun Leads finish modules inputs schedule s end w out → Performs finish modules inputs schedule s end
    performs_watched false schedule s end w out run =
        let F : List ℕ → Type 0 = λ turns. Folds modules inputs turns s end in
        subst F run.order (tells_folds modules inputs run.turns s end run.watched.told run.watched.tells)
    performs_watched true schedule s end w out run =
        let F : List ℕ → Type 0 = λ turns. Folds modules inputs turns s end in
        let counts : List ℕ = run.order.0 in
        let parts = folds_split modules inputs schedule (party_by_party 0 counts) s end (subst F run.order.2 (tells_folds modules inputs run.turns s end run.watched.told run.watched.tells)) in
        record {
          scheduled = parts.0;
          folds = parts.1;
          finishes = record { counts = counts; parties = run.order.1 ∙ folds_count modules inputs (party_by_party 0 counts) parts.0 end parts.2; folds = parts.2; finished = run.order.3 };
        }

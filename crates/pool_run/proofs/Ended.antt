-- No party comes or goes, and where nobody has anything left each command has its reply.
use Rattle.std.proofs.Common.{◌≡◌, ℕ, ◌+◌, ◌<◌, ◌≤◌, List, [], ◌∷◌, length, Option, Some, None, ap, ◌∙◌, subst, arith, IfSome, slice_get, slice_index_or}
use Rattle.pool_run.proofs.Imports.{length-set, slice_get-get_or, ModuleAsked}
use Rattle.pool_run.specs.Private.{PrivateState, StepsBy, with_grants, no_grants}
use Rattle.pool_run.specs.Rooms.{World, PooledStep}
use Rattle.pool_run.specs.Folds.{RunState, commands_of, replies_to, party_by_party, TurnsIf, Folds, HasNothingLeft, IsFinished, Runs, seen_by, IsRunTo, IsUnderWay}
use Rattle.pool_run.specs.declared.command.Command.{Command}
use Rattle.pool_run.specs.declared.reply.Reply.{Reply}
use Rattle.pool_run.specs.declared.running_party.RunningParty.{RunningParty}

-- there are no more replies than commands
pub no_more_replies : (Step : ℕ → PrivateState → Command → Reply → PrivateState → Type 0) (n : ℕ) (commands : List Command) (replies : List Reply) (start end : PrivateState) → StepsBy Step n commands replies start end → length replies ≤ length commands
no_more_replies Step n commands [] start end run = omega arith
no_more_replies Step n [] (r ∷ replies) start end run = absurd run
no_more_replies Step n (c ∷ commands) (r ∷ replies) start end run = omega (arith, no_more_replies Step (n + 1) commands replies run.0 end run.2)

module _ {P : Type 0} where
  -- so that they have places
  pub few_told : (w : World) (commands : List Command) (replies : List Reply) (p : RunningParty P) → IsRunTo w commands replies p → length replies ≤ length p.live
  few_told w commands replies p to = omega (arith, no_more_replies (PooledStep (seen_by p w)) 0 commands replies (with_grants (no_grants commands)) to.private.told to.private.run, to.room)

  pub turned_count : (modules : List ModuleAsked) (commands : List Command) (i : ℕ) (o : Option (RunningParty P)) (s new : RunState P) → TurnsIf modules commands i o s new → length new.parties ≡ length s.parties
  turned_count modules commands i None s new turns = ap (λ (x : RunState P). length x.parties) turns
  turned_count modules commands i (Some p) s new turns = ap (λ (x : RunState P). length x.parties) turns.2 ∙ length-set s.parties i turns.0.party

  -- No party comes or goes.
  pub folds_count : (modules : List ModuleAsked) (inputs : List (List Command)) (schedule : List ℕ) (s end : RunState P) → Folds modules inputs schedule s end → length end.parties ≡ length s.parties
  folds_count modules inputs [] s end folds = ap (λ (x : RunState P). length x.parties) folds
  folds_count modules inputs (i ∷ schedule) s end folds = folds_count modules inputs schedule folds.0 end folds.2 ∙ turned_count modules (commands_of inputs i) i (slice_get s.parties i) s folds.0 folds.1

  pub run_count : (modules : List ModuleAsked) (inputs : List (List Command)) (schedule : List ℕ) (s end : RunState P) → Runs modules inputs schedule s end → length end.parties ≡ length s.parties
  run_count modules inputs schedule s end runs =
      folds_count modules inputs (party_by_party 0 runs.finishes.counts) runs.scheduled end runs.finishes.folds ∙ folds_count modules inputs schedule s runs.scheduled runs.folds

  -- Where nobody has anything left each command has its reply.
  pub all_replied : (w : World) (modules : List ModuleAsked) (inputs : List (List Command)) (s : RunState P) (i : ℕ) (d : RunningParty P) → IsUnderWay w modules inputs s → IsFinished inputs s → i < length s.parties → length (replies_to i s.replies) ≡ length (commands_of inputs i)
  all_replied w modules inputs s i d way finished below =
      let to = way.each i d below in
      let Left : Option (RunningParty P) → Type 0 = λ o. IfSome o (HasNothingLeft (commands_of inputs i)) in
      let none : HasNothingLeft (commands_of inputs i) (slice_index_or s.parties i d) = subst Left (slice_get-get_or s.parties i d below) (finished i) in
      omega (arith, none.all, to.private.count, to.room, few_told w (commands_of inputs i) (replies_to i s.replies) (slice_index_or s.parties i d) to)

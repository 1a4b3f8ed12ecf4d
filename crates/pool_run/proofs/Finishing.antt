-- A party that has nothing left, and the next call of one that has.
use Rattle.std.proofs.Common.{◌≡◌, ◌≢◌, ℕ, zero, suc, ◌+◌, ◌<◌, ◌≤◌, Bool, true, false, List, [], ◌∷◌, ◌++◌, length, replicate, Option, Some, None, refl, sym, ap, ◌∙◌, subst, inl, inr, arith, append_assoc, add-zero, ◌&&◌, not, nat_lt, IfSome, IsSome, slice_get, slice_set, ◌-◌}
use Rattle.pool_run.proofs.Imports.{lt-ltb, not-true, not-false, cases_lt, append-nil, length_push, replicate-append-replicate, set-get_or, slice_get_past, get_or_from_slice_get, one_at_most, is_there, one_if, is_idle, ModuleAsked}
use Rattle.pool_run.specs.Folds.{RunState, commands_of, replies_to, party_by_party, TurnsIf, TurnsOf, Folds, HasNothingLeft, FinishesRun}
use Rattle.pool_run.specs.Progress.{is_busy, commands_done, calls_begun, begins_call}
use Rattle.pool_run.specs.Turns.{OpensAt, OpensNext, rests}
use Rattle.pool_run.specs.declared.command.Command.{Command}
use Rattle.pool_run.specs.declared.reply.Reply.{Reply}
use Rattle.pool_run.specs.declared.running_party.RunningParty.{RunningParty}
use Rattle.pool_run.proofs.Folding.{folds_on}
use Rattle.pool_run.proofs.KeptBetweenTurns.{set_other}
use Rattle.pool_run.proofs.RunMade.{repeated}

-- the turns of one party more
pub party_by_party-push : (i n : ℕ) (counts : List ℕ) → party_by_party i (counts ++ n ∷ []) ≡ party_by_party i counts ++ replicate n (i + length counts)
party_by_party-push i n [] = append-nil (replicate n i) ∙ ap (λ (k : ℕ). replicate n k) (sym (add-zero i))
party_by_party-push i n (m ∷ counts) =
    let next : i + 1 + length counts ≡ i + length (m ∷ counts) = omega arith in
    ap (λ (turns : List ℕ). replicate m i ++ turns) (party_by_party-push (i + 1) n counts)
    ∙ sym (append_assoc (replicate m i) (party_by_party (i + 1) counts) (replicate n (i + 1 + length counts)))
    ∙ ap (λ (k : ℕ). replicate m i ++ party_by_party (i + 1) counts ++ replicate n k) next

-- what is there is put in its place
pub set_same : {X : Type 0} (xs : List X) (i : ℕ) (x : X) → slice_get xs i ≡ Some x → slice_set xs i x ≡ xs
set_same xs i x there = ap (slice_set xs i) (sym (get_or_from_slice_get xs i x x there)) ∙ set-get_or xs i x

module _ {P : Type 0} where
  -- The other parties stay as they are.
  pub turned_others : (modules : List ModuleAsked) (commands : List Command) (i k : ℕ) (o : Option (RunningParty P)) (s new : RunState P) → k ≢ i → TurnsIf modules commands i o s new → slice_get new.parties k ≡ slice_get s.parties k
  turned_others modules commands i k None s new other turns = ap (λ (x : RunState P). slice_get x.parties k) turns
  turned_others modules commands i k (Some p) s new other turns = ap (λ (x : RunState P). slice_get x.parties k) turns.2 ∙ set_other s.parties i k turns.0.party other

  pub folds_others : (modules : List ModuleAsked) (inputs : List (List Command)) (i k n : ℕ) (s end : RunState P) → k ≢ i → Folds modules inputs (replicate n i) s end → slice_get end.parties k ≡ slice_get s.parties k
  folds_others modules inputs i k zero s end other folds = ap (λ (x : RunState P). slice_get x.parties k) folds
  folds_others modules inputs i k (suc n) s end other folds = folds_others modules inputs i k n folds.0 end other folds.2 ∙ turned_others modules (commands_of inputs i) i k (slice_get s.parties i) s folds.0 other folds.1

  -- A party without a call that has all its replies has nothing left.
  pub nothing_is_left : (commands : List Command) (o : Option (RunningParty P)) → is_busy o ≡ false → length commands ≤ commands_done o → IfSome o (HasNothingLeft commands)
  nothing_is_left commands None idle all = tt
  nothing_is_left commands (Some p) idle all = record { idle = not-false (is_idle p.frame.phase) idle; all = all }

  -- A turn of such a party may change nothing, and so may many.
  pub rests_if : (modules : List ModuleAsked) (commands : List Command) (i : ℕ) (o : Option (RunningParty P)) (s : RunState P) → slice_get s.parties i ≡ o → IfSome o (HasNothingLeft commands) → TurnsIf modules commands i o s s
  rests_if modules commands i None s there left = refl
  rests_if modules commands i (Some p) s there left =
      let next : OpensNext modules (slice_get commands p.done) p.keyed p rests = subst (λ (o : Option Command). OpensNext modules o p.keyed p rests) (sym (slice_get_past commands p.done left.all)) refl in
      let opens : OpensAt (is_idle p.frame.phase) modules commands p rests = subst (λ (b : Bool). OpensAt b modules commands p rests) (sym left.idle) next in
      let With : List (RunningParty P) → List (List Reply) → RunState P = λ ps rs. record { core = s.core; modules = s.modules; parties = ps; replies = rs } in
      let same : With (slice_set s.parties i p) (slice_set s.replies i (replies_to i s.replies)) ≡ s =
      ap (λ (ps : List (RunningParty P)). With ps (slice_set s.replies i (replies_to i s.replies))) (set_same s.parties i p there)
      ∙ ap (With s.parties) (set-get_or s.replies i []) in
      (record { core = s.core; party = p; reply = None }, (rests, opens, refl), sym same)

  -- While its call is under way none begins.
  pub none_begins : (count : ℕ) (o : Option (RunningParty P)) → is_busy o ≡ true → one_if (begins_call count o) ≡ 0
  none_begins count None busy = refl
  none_begins count (Some p) busy = ap (λ (v : Bool). one_if (v && nat_lt p.done count)) (not-true (is_idle p.frame.phase) busy)

  -- One that hasn't begins its next call, of which there are no more than commands, and one for its stripe.
  pub record BeginsNext (count : ℕ) (o : Option (RunningParty P)) : Type 0 where
    pub next : begins_call count o ≡ true
    pub few : calls_begun o ≤ count

  begins_some : (count : ℕ) (o : Option (RunningParty P)) → IsSome o → is_busy o ≡ false → commands_done o < count → BeginsNext count o
  begins_some count None there idle more = absurd cc
  begins_some count (Some p) there idle more =
      let is : is_idle p.frame.phase ≡ true = not-false (is_idle p.frame.phase) idle in
      let none : one_if (not (is_idle p.frame.phase)) ≡ 0 = ap one_if idle in
      record {
        next = ap (λ (v : Bool). v && nat_lt p.done count) is ∙ lt-ltb p.done count more;
        few = omega (arith, more, none, one_at_most p.keyed);
      }

  pub begins_there : (count i : ℕ) (s : RunState P) → i < length s.parties → is_busy (slice_get s.parties i) ≡ false → commands_done (slice_get s.parties i) < count → BeginsNext count (slice_get s.parties i)
  begins_there count i s below idle more = begins_some count (slice_get s.parties i) (is_there s.parties i below) idle more

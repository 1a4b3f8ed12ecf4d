-- What frames and queues keep between turns: at the start, and after each turn.
use Rattle.std.proofs.Common.{◌≡◌, ◌≢◌, ℕ, zero, suc, ◌+◌, ◌<◌, ◌≤◌, true, false, List, [], ◌∷◌, length, Option, Some, None, refl, sym, ap, ◌∙◌, subst, arith, All, slice_get, slice_set}
use Rattle.pool_run.proofs.Imports.{not-true, not-false, length-set, get_or-set_same, All-set, All-get_or, slice_get_within, slice_get-get_or, get_or_from_slice_get, one_if, IsSameSize, is_idle, PoolCore, ModuleAsked, steps_left_same, stage_of, PlainHeap}
use Rattle.pool_run.specs.Folds.{RunState, with_turn}
use Rattle.pool_run.specs.Progress.{is_busy, begins_by, calls_begun, begins_call, turns_left, bound_by, bound_next, Advances}
use Rattle.pool_run.specs.RunsMade.{is_drawing}
use Rattle.pool_run.specs.Turns.{Turned}
use Rattle.pool_run.specs.declared.command.Command.{Command}
use Rattle.pool_run.specs.declared.running_party.RunningParty.{RunningParty}
use Rattle.pool_run.proofs.Advanced.{IsReady, HasAdvanced}

-- the elements in other places stay
pub set_other : {X : Type 0} (xs : List X) (i k : ℕ) (x : X) → k ≢ i → slice_get (slice_set xs i x) k ≡ slice_get xs k
set_other [] i k x other = refl
set_other (y ∷ ys) zero zero x other = absurd (other refl)
set_other (y ∷ ys) zero (suc k) x other = refl
set_other (y ∷ ys) (suc i) zero x other = refl
set_other (y ∷ ys) (suc i) (suc k) x other = set_other ys i k x (λ e. other (ap suc e))

module _ {P : Type 0} where
  -- No party is about to draw its stripe between turns,
  abbrev pub IsDrawn : RunningParty P → Type 0
  IsDrawn p = is_drawing (stage_of p.frame) ≡ false

  -- neither one that may turn,
  pub ready_there : (s : RunState P) (i : ℕ) (p : RunningParty P) → All IsDrawn s.parties → slice_get s.parties i ≡ Some p → IsReady p.frame
  ready_there s i p drawn there = subst IsDrawn (get_or_from_slice_get s.parties i p p there) (All-get_or IsDrawn s.parties i p (slice_get_within s.parties i p there) drawn)

  -- nor any after a turn.
  pub still_drawn : (s : RunState P) (i more bound : ℕ) (p : RunningParty P) (t : Turned P) → All IsDrawn s.parties → HasAdvanced more bound s.core p t → All IsDrawn (slice_set s.parties i t.party)
  still_drawn s i more bound p t drawn turned = All-set IsDrawn s.parties i t.party turned.ready drawn

  -- A call has as many turns left over a pool of the same sizes.
  left_over : (c d : PoolCore P PlainHeap) (o : Option (RunningParty P)) → IsSameSize c d → turns_left d o ≡ turns_left c o
  left_over c d None size = refl
  left_over c d (Some p) size = steps_left_same c d p.frame size

  -- The turn takes the party further in the run.
  pub advances : (modules : List ModuleAsked) (commands : List Command) (s : RunState P) (i : ℕ) (p : RunningParty P) (t : Turned P) → slice_get s.parties i ≡ Some p → IsSameSize s.core t.core → HasAdvanced (one_if (begins_by (length commands) p)) (bound_by modules commands s.core p) s.core p t → Advances modules commands i s (with_turn i t s)
  advances modules commands s i p t there size turned =
      let below : i < length s.parties = slice_get_within s.parties i p there in
      let inside : i < length (slice_set s.parties i t.party) = omega (arith, below, length-set s.parties i t.party) in
      let here : slice_get (slice_set s.parties i t.party) i ≡ Some t.party = slice_get-get_or (slice_set s.parties i t.party) i p inside ∙ ap Some (get_or-set_same s.parties i t.party p below) in
      let A : Option (RunningParty P) → Option (RunningParty P) → Type 0 = λ old new. (is_busy old ≡ true → turns_left t.core new + 1 ≤ turns_left s.core old) × (is_busy old ≡ false → turns_left t.core new + 1 ≤ bound_next modules commands s.core old) × (calls_begun new ≡ calls_begun old + one_if (begins_call (length commands) old)) in
      let turn : A (Some p) (Some t.party) = (λ busy. turned.fewer (not-true (is_idle p.frame.phase) busy), λ idle. turned.bounded (not-false (is_idle p.frame.phase) idle), turned.begun) in
      let both : A (slice_get s.parties i) (slice_get (slice_set s.parties i t.party) i) = subst (λ (o : Option (RunningParty P)). A o (slice_get (slice_set s.parties i t.party) i)) (sym there) (subst (A (Some p)) (sym here) turn) in
      record {
        fewer = both.0;
        bounded = both.1;
        begun = both.2;
        others = λ k other. ap (turns_left t.core) (set_other s.parties i k t.party other) ∙ left_over s.core t.core (slice_get s.parties k) size;
      }

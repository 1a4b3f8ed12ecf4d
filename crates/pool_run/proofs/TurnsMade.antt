-- What the steps of a turn leave, as its code makes them.
use Rattle.std.proofs.Common.{◌≡◌, ◌<◌, length, Option, Some, None, Result, Ok, Err, refl, sym, ap, ◌∙◌, subst, IfOk}
use Rattle.pool_run.proofs.Imports.{MakerTold, PartyTold, IfGranted, After, Outcome, PoolCore, stage_of, ListedHeaps, PlainHeap}
use Rattle.pool_alloc.specs.declared.frame.Outcome.TheVariants as answer
use Rattle.pool_run.specs.PartyRules.{rule_of}
use Rattle.pool_run.specs.Ties.{CanTurn, is_asking}
use Rattle.pool_run.specs.Turns.{Turned, Steps, StepsUnder, answered, after_step}
use Rattle.pool_run.specs.declared.running_party.RunningParty.{RunningParty}
use Rattle.pool_run.proofs.StageSteps.{place_granted}
use Rattle.pool_run.proofs.Stepped.{IsStepped}

-- what is told of an answer
pub ok_there : {A E : Type 0} (Q : A → Type 0) (r : Result A E) (x : A) → r ≡ Ok x → IfOk r Q → Q x
ok_there Q (Ok y) x is told = let same : y ≡ x = cc in subst Q same told
ok_there Q (Err e) x is told = absurd cc

module _ {P : Type 0} where
  -- There is a place for what is granted.
  pub place_for : {old new : PartyTold} (maker : MakerTold) (c : PoolCore P PlainHeap) (p : RunningParty P) (a : After P PlainHeap) → CanTurn maker c p → IsStepped maker old new c p.frame a → IfGranted (λ g. p.done < length p.live) a.outcome
  place_for maker c p a can on = place_granted (p.done < length p.live) (is_asking (stage_of p.frame)) a.outcome can.party.place on.staged.granted

  -- An answer leaves the maker of heaps as the step left it.
  answered_heaps : (o : Option (Outcome P PlainHeap)) (c : PoolCore P PlainHeap) (p : RunningParty P) → (answered o c p).party.heaps ≡ p.heaps
  answered_heaps None c p = refl
  answered_heaps (Some answer.Key) c p = refl
  answered_heaps (Some (answer.Granted grant)) c p = refl
  answered_heaps (Some answer.Returned) c p = refl
  answered_heaps (Some (answer.Purged n)) c p = refl
  answered_heaps (Some (answer.Released n)) c p = refl
  answered_heaps (Some (answer.Refused e)) c p = refl

  pub steps_made : (heaps : ListedHeaps) (c : PoolCore P PlainHeap) (p : RunningParty P) (a : After P PlainHeap) (t : Turned P) → StepsUnder (rule_of p.limits) p.heaps heaps c p.frame a → t ≡ after_step a (record p { heaps = heaps }) → Steps c p t
  steps_made heaps c p a t steps is =
      let same : t.party.heaps ≡ heaps = ap (λ (x : Turned P). x.party.heaps) is ∙ answered_heaps a.outcome a.core (record p { frame = a.frame; heaps = heaps }) in
      subst (λ (h : ListedHeaps). (x : After P PlainHeap) × StepsUnder (rule_of p.limits) p.heaps h c p.frame x × (t ≡ after_step x (record p { heaps = h }))) (sym same) (a, steps, is)

-- A refusal by a limit names how many the pool may have, and where it is for want of a memory, the stripe of the call's frame.
use Rattle.std.proofs.Common.{◌≡◌, ◌⊎◌, ⊎_elim, ℕ, sym, refl, ap, subst, ◌∙◌, Option, Some, None}
use Rattle.pool_pages.specs.MakerTold.{MakerTold}
use Rattle.pool_hall.specs.declared.unit_name.SlotKind.{SlotKind}
use Rattle.pool_hall.specs.declared.unit_name.SlotKind.TheVariants.{Memory as memory_kind, Table as table_kind, Stack as stack_kind, Heap as heap_kind}
use Rattle.pool_slots.specs.declared.errors.AllocError.{AllocError}
use Rattle.pool_slots.specs.declared.errors.AllocError.TheVariants as refusal
use Rattle.pool_slots.specs.declared.plan.Plan.{Plan}
use Rattle.pool_alloc.specs.CallStages.{FindsNone, Goes, Stage, refusing}
use Rattle.pool_alloc.specs.PartyTold.{PartyTold}
use Rattle.pool_alloc.specs.StepReads.{allocator_of, kind_next}
use Rattle.pool_alloc.specs.Turns.{limit_of}
use Rattle.pool_alloc.specs.declared.frame.Call.{Call}
use Rattle.pool_alloc.specs.declared.frame.Call.TheVariants as call
use Rattle.pool_alloc.specs.declared.frame.Frame.{Frame}
use Rattle.pool_alloc.specs.declared.frame.Outcome.{Outcome}
use Rattle.pool_alloc.specs.declared.frame.Outcome.TheVariants.{Key, Granted, Returned, Purged, Released, Refused}
use Rattle.pool_alloc.specs.declared.pool_core.PoolCore.{PoolCore}
use Rattle.pool_alloc.specs.declared.pool_core.Settings.{Settings}
use Rattle.pool_driver.specs.Calling.{is_refused, kind_at, kind_of}
use Rattle.pool_driver.specs.Limits.{IfRefused, IfRefusing, KeepsStripe, Names}
use Rattle.pool_driver.proofs.Raising.{answer_so, next_so}
use Rattle.pool_driver.proofs.TellingRows.{IsUnlimited}

-- Both are named of an error that is no limit, and of one for want of room.
module _ (s : Settings) (plan : Plan) (stripe : ℕ) where
  unlimited_names : (e : AllocError) → IsUnlimited e → Names s plan stripe e
  unlimited_names (refusal.Limit l) none = absurd none
  unlimited_names e none = (tt, tt)

  room_names : (k : SlotKind) → Names s plan stripe (refusal.Limit (record { limit = (allocator_of plan k stripe).capacity; kind = limit_of k stripe }))
  room_names memory_kind = (refl, refl)
  room_names table_kind = (refl, tt)
  room_names stack_kind = (refl, tt)
  room_names heap_kind = (refl, tt)

module _ {P H : Type 0} (maker : MakerTold) (old new : PartyTold) (c : PoolCore P H) (f : Frame P H) where
  none_named : (n : ℕ) (e : AllocError) → FindsNone c f n e → Names c.settings c.plan f.stripe e
  none_named n e none = subst (Names c.settings c.plan f.stripe) (sym none.is) (room_names c.settings c.plan f.stripe (kind_next f))

  -- So the refusal with which a call goes on, or ends, names both.
  pub next_named : (s t : Stage) → Goes maker old new c f s t None → IfRefusing (Names c.settings c.plan f.stripe) s → IfRefusing (Names c.settings c.plan f.stripe) t
  next_named s t goes had = next_so maker old new c f (Names c.settings c.plan f.stripe) (unlimited_names c.settings c.plan f.stripe) (Unit {0}) (λ asking. none_named) (refl, tt) (refl, tt) s t (λ p is. tt) goes had

  pub answer_named : (o : Outcome P H) (s t : Stage) → Goes maker old new c f s t (Some o) → IfRefusing (Names c.settings c.plan f.stripe) s → IfRefused (Names c.settings c.plan f.stripe) o
  answer_named o s t goes had = answer_so maker old new c f (Names c.settings c.plan f.stripe) (unlimited_names c.settings c.plan f.stripe) (Unit {0}) (λ asking. none_named) (refl, tt) (refl, tt) o s t (λ p is. tt) goes had

-- A call that isn't to be refused names nothing.
pub none_named_yet : (Q : AllocError → Type 0) (s : Stage) → (kind_at s ≡ is_refused → ⊥) → IfRefusing Q s
none_named_yet Q (refusing e) never = absurd (never refl)
none_named_yet Q s never = tt

-- A call that begins isn't to be refused.
module _ {P H : Type 0} where
  not_refused : (c : Call P H) → kind_of c ≡ is_refused → ⊥
  not_refused call.Key is = absurd cc
  not_refused (call.Module m) is = absurd cc
  not_refused (call.Component info) is = absurd cc
  not_refused (call.Memory m) is = absurd cc
  not_refused (call.Table ty) is = absurd cc
  not_refused call.Stack is = absurd cc
  not_refused (call.Heap ty) is = absurd cc
  not_refused (call.HeapOver memory) is = absurd cc
  not_refused (call.GiveBack grant) is = absurd cc
  not_refused (call.Purge id) is = absurd cc
  not_refused call.Release is = absurd cc

  pub begun_named : (Q : AllocError → Type 0) (c : Call P H) (s : Stage) → kind_at s ≡ kind_of c → IfRefusing Q s
  begun_named Q c s is = none_named_yet Q s (λ refused. not_refused c (sym is ∙ refused))

  -- A stripe that stays is kept, and so is one that a key gave.
  kept_stripe : (o : Outcome P H) (before after : ℕ) → after ≡ before → KeepsStripe o before after
  kept_stripe Key before after same = tt
  kept_stripe (Granted grant) before after same = same
  kept_stripe Returned before after same = same
  kept_stripe (Purged n) before after same = same
  kept_stripe (Released n) before after same = same
  kept_stripe (Refused e) before after same = same

  abbrev answer_or_key : Option (Outcome P H) → Outcome P H
  answer_or_key (Some x) = x
  answer_or_key None = Key

  is_key : (o : Outcome P H) → Some o ≡ Some Key → o ≡ Key
  is_key o same = ap answer_or_key same

  -- What a call ends with that drew a key, or left its stripe.
  pub stripe_ended : (o : Outcome P H) (first was now : ℕ) → was ≡ first → (Some o ≡ Some Key) ⊎ (now ≡ was) → KeepsStripe o first now
  stripe_ended o first was now since = ⊎_elim
      (λ (key : Some o ≡ Some Key). subst (λ (z : Outcome P H). KeepsStripe z first now) (sym (is_key o key)) tt)
      (λ (same : now ≡ was). kept_stripe o first now (same ∙ since))

  pub names_ended : (s : Settings) (plan : Plan) (o : Outcome P H) (was now : ℕ) → IfRefused (Names s plan was) o → (Some o ≡ Some Key) ⊎ (now ≡ was) → IfRefused (Names s plan now) o
  names_ended s plan o was now named = ⊎_elim
      (λ (key : Some o ≡ Some Key). subst (λ (z : Outcome P H). IfRefused (Names s plan now) z) (sym (is_key o key)) tt)
      (λ (same : now ≡ was). subst (λ (n : ℕ). IfRefused (Names s plan n) o) (sym same) named)

-- A call's memories lie in its party's stripe: of slots of other stripes it has none among its objects, nor in hand for the next.
use Rattle.std.specs.Prelude.{◌≡◌, ℕ, ◌+◌, ◌&&◌, true, not}
use Rattle.pool_alloc.specs.Imports.{one_if, same_kind, has_number, Allocator, Plan}
use Rattle.pool_alloc.specs.Places.{Thing, instance_count, phase_count}
use Rattle.pool_alloc.specs.StepReads.{stripe_allocator}
use Rattle.pool_alloc.specs.Turns.{is_granting}
use Rattle.pool_alloc.specs.declared.frame.Frame.{Frame}
use Rattle.pool_alloc.specs.declared.frame.Phase.{Phase}
use Rattle.pool_alloc.specs.declared.frame.Phase.TheVariants.{Purge, Release}

-- The weight that counts the right to each slot of an allocator's kind that isn't one of the allocator's, and nothing else.
abbrev pub right_outside : Allocator → Thing
right_outside a u = one_if (not u.region && (same_kind a.kind u.kind && not (has_number a u.slot)))

module _ {P H : Type 0} where
  -- What a call has in hand for its next object. A purge and a release have slots of each stripe, for no object.
  abbrev pub in_hand : Thing → Phase P H → ℕ
  in_hand t (Purge p step) = 0
  in_hand t (Release step) = 0
  in_hand t p = phase_count t p

  -- A call that is to be granted has no slot of another stripe than its party's.
  abbrev pub KeepsToItsStripe : Plan → Frame P H → Type 0
  KeepsToItsStripe plan f = is_granting f.ending ≡ true → instance_count (right_outside (stripe_allocator plan f.stripe)) f.objects + in_hand (right_outside (stripe_allocator plan f.stripe)) f.phase ≡ 0

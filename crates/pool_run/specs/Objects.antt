-- Objects of live grants. A command names one by the command of its grant, and by its place in that grant.
use Rattle.std.specs.Prelude.{◌≡◌, ℕ, List, slice_get, slice_index_or, slice_set, Option, Some, None, option_map}
use Rattle.std.specs.Option.{option_and_then}
use Rattle.pool_run.specs.declared.reply.Reply.{Reply}
use Rattle.pool_run.specs.declared.reply.Reply.TheVariants.{Refused}
use Rattle.pool_run.specs.declared.reply.Refusal.TheVariants.{NoSuchGrant}

-- which objects of a kind a grant has, and the grant with another in the place of one
pub record Objects (G X : Type 0) : Type 0 where
  pub in_grant : G → List X
  pub put_in : ℕ → X → G → G

-- What a command makes of what it names. Where that isn't there, the command is refused and changes nothing; where it is,
-- a move of it gives the reply, and what is there then is put in its place.
abbrev pub MovesNamed : {X S : Type 0} → (X → X → Reply → Type 0) → Option X → (X → S → S) → S → Reply → S → Type 0
MovesNamed Move None put old reply new = (reply ≡ Refused NoSuchGrant) × (new ≡ old)
MovesNamed {X = X} Move (Some x) put old reply new = (moved : X) × Move x moved reply × (new ≡ put moved old)

module _ {G X : Type 0} (objects : Objects G X) where
  -- Object k of the live grant of a command.
  abbrev pub object_at : ℕ → ℕ → List (Option G) → Option X
  object_at of k live = option_and_then (λ g. slice_get (objects.in_grant g) k) (slice_index_or live of None)

  -- The live grants with one object changed: object k of the grant of a command.
  abbrev pub with_object : ℕ → ℕ → X → List (Option G) → List (Option G)
  with_object of k x live = slice_set live of (option_map (objects.put_in k x) (slice_index_or live of None))

  -- what a command on that object makes of the live grants, and its reply
  abbrev pub MovesObject : (X → X → Reply → Type 0) → ℕ → ℕ → List (Option G) → Reply → List (Option G) → Type 0
  MovesObject Move of k live reply new = MovesNamed Move (object_at of k live) (with_object of k) live reply new

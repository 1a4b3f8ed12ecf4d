-- Holds of shards, one after the other.
use Rattle.std.specs.Prelude.{◌≡◌, ◌≢◌, ℕ, zero, suc, ◌+◌, ◌-◌, ◌<◌, ◌≤◌, nat_lt, if◌then◌else◌, List, [], ◌∷◌, Option, Some, None}
use Rattle.pool_hall.specs.declared.unit_name.SlotKind.{SlotKind}
use Rattle.pool_hall.specs.declared.unit_name.UnitName.{UnitName}
use Rattle.pool_hall.specs.declared.view.View.{View}
use Rattle.pool_hall.specs.Sum.{often}
use Rattle.pool_hall.specs.Unit.{times, pick_unit}
use Rattle.pool_hall.specs.Tally.{counted, number}
use Rattle.pool_hall.specs.Meaning.{Meaning}
use Rattle.pool_hall.specs.Step.{put_view, Taken}
use Rattle.pool_index.specs.Shard.{ShardState, IsShard, IsSameShard}
use Rattle.pool_index.specs.Part.{cold_picks}
use Rattle.pool_index.specs.Probe.{probe_found, after_probe}
use Rattle.pool_index.specs.declared.probe.Probe.{Probe}
use Rattle.pool_index.specs.declared.round.ShardPlaces.{ShardPlaces}

-- the place that is number i of a round that begins so far behind the first place, and goes on at the first after the last
abbrev pub round_place : ShardPlaces → ℕ → ℕ → ℕ
round_place places home i = places.first + (if nat_lt (home + i) places.count then home + i else home + i - places.count)

-- the unit of the slot that was found, if one was
abbrev pub found_units : SlotKind → Option ℕ → List UnitName
found_units kind None = []
found_units kind (Some n) = pick_unit kind n ∷ []

module _ {T : Type 0} (m : Meaning T) (shard : T → Option ShardState) (made : List T) (limits : List ℕ) where
  -- a part that fits one of these places is a shard of this kind
  pub record IsShardOf (of : SlotKind) (x : T) : Type 0 where
    pub state : ShardState
    pub is : shard x ≡ Some state
    pub kind : state.kind ≡ of

  -- Each part that fits at one of these places is a shard of their kind.
  abbrev pub AreShards : ShardPlaces → Type 0
  AreShards places = (p : ℕ) (x : T) → places.first ≤ p → p < places.first + places.count → m.fits made limits p x → IsShardOf places.kind x

  -- a seat with the view v held the place p, found the shard there as s and left it as t, and has the view w then
  pub record HeldShard (p : ℕ) (s t : ShardState) (v w : View T) : Type 0 where
    pub before : T
    pub after : T
    pub was : shard before ≡ Some s
    pub is : shard after ≡ Some t
    pub same : IsSameShard s t
    pub sound : IsShard t
    pub told : Taken m made limits p before v
    pub view : w ≡ put_view m p before after v

  -- the shard at the place p was probed, and this was found
  pub record ProbedAt (c : Probe) (p : ℕ) (r : Option ℕ) (v w : View T) : Type 0 where
    pub state : ShardState
    pub found : r ≡ probe_found c state
    pub held : HeldShard p state (after_probe c state) v w

  -- the shards at the first n places were probed one after the other, and none had a slot
  abbrev pub NoneFound : Probe → (ℕ → ℕ) → ℕ → View T → View T → Type 0
  NoneFound c place zero v w = w ≡ v
  NoneFound c place (suc n) v w = (u : View T) × NoneFound c place n v u × ProbedAt c (place n) None u w

  -- A round over n places: each shard was probed as it was found there, until one had a slot
  abbrev pub IsRound : Probe → (ℕ → ℕ) → ℕ → Option ℕ → View T → View T → Type 0
  IsRound c place n None v w = NoneFound c place n v w
  IsRound c place n (Some slot) v w = (i : ℕ) × (i < n) × (u : View T) × NoneFound c place i v u × ProbedAt c (place i) (Some slot) u w

module _ {T : Type 0} where
  -- units apart, counts, and places noted as topped, the view is as before
  pub record KeepsRest (v w : View T) : Type 0 where
    pub parts : w.parts ≡ v.parts
    pub limits : w.limits ≡ v.limits
    pub added : w.added ≡ v.added
    pub low : w.low ≡ v.low
    pub subtracted : w.subtracted ≡ v.subtracted
    pub portions : w.portions ≡ v.portions

  -- the view has each unit as often as before
  abbrev pub KeepsUnits : View T → View T → Type 0
  KeepsUnits v w = (u : UnitName) → times u w.units ≡ times u v.units

  -- the view has these units more
  abbrev pub Gains : List UnitName → View T → View T → Type 0
  Gains us v w = (u : UnitName) → times u w.units ≡ times u v.units + times u us

  -- the view has these units less
  abbrev pub Gives : List UnitName → View T → View T → Type 0
  Gives us v w = (u : UnitName) → times u w.units + times u us ≡ times u v.units

  -- no count of any place rose
  abbrev pub KeepsCounts : View T → View T → Type 0
  KeepsCounts v w = (p i : ℕ) → number (counted p i) w ≡ number (counted p i) v

  -- What the view notes only grows: no count of any place fell, and each place is noted as topped as often as before at least
  pub record OnlyGrows (v w : View T) : Type 0 where
    pub counts : (p i : ℕ) → number (counted p i) v ≤ number (counted p i) w
    pub topped : (p : ℕ) → often p v.topped ≤ often p w.topped

  -- no slot was picked for the first time
  abbrev pub NoColdPick : View T → View T → Type 0
  NoColdPick v w = (p : ℕ) → number (counted p cold_picks) w ≡ number (counted p cold_picks) v

  -- one slot at most was picked for the first time
  pub record OneColdPick (v w : View T) : Type 0 where
    pub place : ℕ
    pub here : number (counted place cold_picks) w ≤ number (counted place cold_picks) v + 1
    pub elsewhere : (p : ℕ) → p ≢ place → number (counted p cold_picks) w ≡ number (counted p cold_picks) v

  -- each of these places gave one such answer more at least
  abbrev pub AllMissed : ShardPlaces → ℕ → View T → View T → Type 0
  AllMissed places count v w = (p : ℕ) → places.first ≤ p → p < places.first + places.count → number (counted p count) v + 1 ≤ number (counted p count) w

  -- each of these places is noted as topped
  abbrev pub AllTopped : ShardPlaces → View T → Type 0
  AllTopped places w = (p : ℕ) → places.first ≤ p → p < places.first + places.count → 0 < often p w.topped

module _ {T : Type 0} (m : Meaning T) (shard : T → Option ShardState) (made : List T) (limits : List ℕ) where
  -- the shards at these places were held one after the other and found in these states, and each was left as this says
  abbrev pub HeldInTurn : (ShardState → ShardState) → ℕ → List ShardState → View T → View T → Type 0
  HeldInTurn left p [] v w = w ≡ v
  HeldInTurn left p (s ∷ ss) v w = (u : View T) × HeldShard m shard made limits p s (left s) v u × HeldInTurn left (p + 1) ss u w

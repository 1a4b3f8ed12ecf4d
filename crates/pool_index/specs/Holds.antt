-- One hold of a shard that stands among the parts of any hall: what it needs, and what the seat has then.
use Rattle.std.specs.Prelude.{◌≡◌, ℕ, ◌+◌, ◌-◌, ◌*◌, ◌%◌, ◌^◌, ◌<◌, ◌==◌, if◌then◌else◌, true, List, ◌++◌, map, sum_by, Option, Some}
use Rattle.pool_hall.specs.declared.unit_name.UnitName.{UnitName}
use Rattle.pool_hall.specs.declared.view.View.{View}
use Rattle.pool_hall.specs.Meaning.{Meaning}
use Rattle.pool_hall.specs.Tally.{counted, number}
use Rattle.pool_hall.specs.Unit.{times, pick_unit, pick_of}
use Rattle.pool_index.specs.Freed.{HasAll, taken_outside}
use Rattle.pool_index.specs.Part.{warm_takes, bytes_kept}
use Rattle.pool_index.specs.Round.{HeldShard, Gains}
use Rattle.pool_index.specs.Shard.{ShardState, taken_slots, after_take_warm, resident_bytes}
use Rattle.pool_index.specs.Taken.{TakenState}
use Rattle.pool_index.specs.declared.ids.SlotId.{SlotId}
use Rattle.pool_index.specs.declared.shard_calls.ShardAt.{ShardAt}

-- the pick unit of slot k of the shard at a place
abbrev pub unit_at : ShardAt → ℕ → UnitName
unit_at q k = pick_unit q.kind (q.first + k * q.step)

-- the pick units of these slots, each named by its number within the shard at a place
abbrev pub units_at : ShardAt → List (SlotId × ℕ) → List UnitName
units_at q ys = map (λ p. unit_at q p.0.0) ys

-- the bytes that these slots keep resident
abbrev pub all_bytes : List (SlotId × ℕ) → ℕ
all_bytes ys = sum_by (λ p. p.1) ys

module _ {T : Type 0} (m : Meaning T) (shard : T → Option ShardState) (made : List T) (limits : List ℕ) where
  -- a part is a shard of this kind, whose slots are known outside by these numbers
  pub record IsShardAt (q : ShardAt) (x : T) : Type 0 where
    pub state : ShardState
    pub is : shard x ≡ Some state
    pub kind : state.kind ≡ q.kind
    pub first : state.first ≡ q.first
    pub step : state.step ≡ q.step

  -- Whatever part fits the place is this shard.
  abbrev pub HasShard : ShardAt → Type 0
  HasShard q = (x : T) → m.fits made limits q.place x → IsShardAt q x

module _ {T : Type 0} (m : Meaning T) (made : List T) (limits : List ℕ) where
  -- These units may go back to a place: they are of it, the view has each as often as the list, and a region unit that the view has beside one of them is of this place too
  pub record MayGoBack (p : ℕ) (us : List UnitName) (v : View T) : Type 0 where
    pub has : HasAll us v
    pub own : (u : UnitName) → 0 < times u us → m.place made limits u ≡ p
    pub alone : (u : UnitName) → u.region ≡ true → 0 < times (pick_of u) us → 0 < times u v.units → m.place made limits u ≡ p

module _ {T : Type 0} where
  -- the shard at a place keeps so many bytes more, and no other count of any place rose
  abbrev pub AddsAt : ℕ → ℕ → View T → View T → Type 0
  AddsAt p bytes v w = (q i : ℕ) → number (counted q i) w ≡ number (counted q i) v + (if q == p then (if i == bytes_kept then bytes else 0) else 0)

  -- the shard at a place counts one taking of all its warm slots, and modulo 2 ^ 64 no longer the bytes that they kept; no other count of any place rose
  abbrev pub TakesAt : ℕ → ℕ → View T → View T → Type 0
  TakesAt p bytes v w = (q i : ℕ) → number (counted q i) w ≡ number (counted q i) v + (if q == p then (if i == warm_takes then 1 else (if i == bytes_kept then (2 ^ 64 - bytes) % 2 ^ 64 else 0)) else 0)

module _ {T : Type 0} (m : Meaning T) (shard : T → Option ShardState) (made : List T) (limits : List ℕ) where
  -- A shard was held once and all its warm slots were taken: they came behind those that were taken before, and their units are the view's
  pub record TookWarm (q : ShardAt) (old new : TakenState) (v w : View T) : Type 0 where
    pub state : ShardState
    pub held : HeldShard m shard made limits q.place state (after_take_warm state) v w
    pub taken : new ≡ record old { items = old.items ++ taken_outside state }
    pub units : Gains (units_at q (taken_slots state)) v w
    pub counts : TakesAt q.place (resident_bytes state) v w

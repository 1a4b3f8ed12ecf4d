-- How a memory grows: what is asked in which order, what is answered, and what the memory and the limiter are left with.
use Rattle.std.specs.Prelude.{◌≡◌, ℕ, ◌+◌, ◌-◌, ◌*◌, ◌^◌, ◌<◌, ◌≤◌, ◌==◌, ◌&&◌, ◌||◌, List, ◌++◌, replicate, min, is_some, Bool, true, false, not, nat_lt, Option, Some, None, IfSome, option_map, Result, Ok, Err}
use Rattle.pool_memory.specs.Imports.{option_map_or, result_err, rounded_up, MakerTold, passes, page_size, allow_growth_to, LimiterTold, limiter_told, GrowthQuestion, question_of, Exchange, IfExchanged, Obstacles, GrowthGiven, growth_exchanges, IsRuled, IsAllowed, PagesMake, AnswerMakes, MakesBy, GrowthMakes, LimiterError, GrowError, GrowFault, CallFaulted, raising, limited}
use Rattle.pool_limits.specs.declared.growing.Growable.TheVariants.{Memory}
use Rattle.pool_limits.specs.declared.errors.GrowError.TheVariants as failed
use Rattle.pool_memory.specs.Layouts.{layout_of, moved_layout}
use Rattle.pool_memory.specs.Linear.{Storage, in_slot, stored, is_listed, Linear, linear_bytes}
use Rattle.pool_memory.specs.Making.{maximum_asked}
use Rattle.pool_memory.specs.Memories.{MemoryState}
use Rattle.pool_memory.specs.Moving.{MakerLeft}

-- In its place a memory in a slot has more of the slot, and nothing else of it changes.
abbrev pub InPlace : ℕ → Storage → Linear → Linear → Type 0
InPlace size (in_slot s) old new = new ≡ record old { size = size; storage = in_slot (limited size s) }
InPlace size (stored len bytes) old new = new.capacity ≡ old.capacity

-- under the plan of the slot's region the call that it takes succeeds, or fails
abbrev pub IsCallPlanned : Bool → ℕ → Storage → Type 0
IsCallPlanned succeeds size (in_slot s) = IfSome s.region.plan (λ plan. succeeds ≡ passes plan (raising (rounded_up s.region.page size) s) s.region)
IsCallPlanned succeeds size (stored len bytes) = Unit {0}

-- what it may have once it has moved: the size and what it takes beyond that in whole pages, or in whole units
abbrev pub moved_room : ℕ → ℕ → Storage → ℕ
moved_room size extra (in_slot s) = (moved_layout size extra (layout_of s)).capacity
moved_room size extra (stored len bytes) = rounded_up 16 size

-- a memory in a list tells its bytes if it told them
abbrev pub StaysTold : Storage → Option (List ℕ) → Type 0
StaysTold (in_slot s) bytes = Unit {0}
StaysTold (stored len told) bytes = is_some bytes ≡ is_some told

-- It has moved, and has the bytes that it had, with zeros behind them, where both places tell them.
pub record MovesTo (size : ℕ) (old new : Linear) : Type 0 where
  pub bytes : IfSome (linear_bytes old) (λ b. IfSome (linear_bytes new) (λ c. c ≡ b ++ replicate (size - old.size) 0))
  pub told : StaysTold old.storage (linear_bytes new)
  pub room : new.capacity ≡ moved_room size old.extra old.storage

-- The memory has this size: its bytes are the old ones, with zeros behind them. Past what it could have it has moved. One in a
-- list stays in a list, and one in a slot in a slot.
pub record GrowsTo (size : ℕ) (old new : Linear) : Type 0 where
  pub same_size : new.size ≡ size
  pub bytes : size ≤ old.capacity → option_map (λ b. b ++ replicate {A = ℕ} (size - old.size) 0) (linear_bytes old) ≡ linear_bytes new
  pub moves : new.moves ≡ old.moves
  pub extra : new.extra ≡ old.extra
  pub place : is_listed new.storage ≡ is_listed old.storage
  pub moved : old.capacity < size → MovesTo size old new
  pub in_place : size ≤ old.capacity → InPlace size old.storage old new
  pub planned : size ≤ old.capacity → IsCallPlanned true size old.storage

-- why a memory can fail to grow: a call on pages, the sizes of a new region, want of memory
abbrev pub IsGrowthFailure : GrowError → Type 0
IsGrowthFailure failed.TypeLimit = ⊥
IsGrowthFailure failed.MaximumExceeded = ⊥
IsGrowthFailure failed.PageFault = Unit {0}
IsGrowthFailure failed.Memory = Unit {0}
IsGrowthFailure failed.Overflow = Unit {0}

-- one in a list of bytes fails only for want of memory
abbrev pub IsFailureOf : Storage → GrowError → Type 0
IsFailureOf (in_slot s) e = IsGrowthFailure e
IsFailureOf (stored len bytes) e = e ≡ failed.Memory

-- in its place it fails only where a call on the slot's region does
abbrev pub FailsInPlace : GrowError → ℕ → Storage → Storage → Type 0
FailsInPlace e size (in_slot s) (in_slot t) = (e ≡ failed.PageFault) × CallFaulted (raising (rounded_up s.region.page size) s) s t
FailsInPlace e size (in_slot s) (stored len bytes) = ⊥
FailsInPlace e size (stored len bytes) new = ⊥

-- The memory could not grow to this size: its own size and bytes are as before. Where it was to move it is as it was.
pub record IsUngrown (e : GrowError) (size : ℕ) (old new : Linear) : Type 0 where
  pub failure : IsFailureOf old.storage e
  pub same_size : new.size ≡ old.size
  pub capacity : new.capacity ≡ old.capacity
  pub moves : new.moves ≡ old.moves
  pub extra : new.extra ≡ old.extra
  pub bytes : linear_bytes new ≡ linear_bytes old
  pub stays : old.capacity < size → new ≡ old
  pub in_place : size ≤ old.capacity → FailsInPlace e size old.storage new.storage
  pub planned : size ≤ old.capacity → IsCallPlanned false size old.storage

-- The size after a growth by so many pages: at most the greatest whole number of pages that leaves room for one more.
abbrev pub grown_size : ℕ → MemoryState → ℕ
grown_size pages m = min (m.linear.size + pages * page_size m.ty) (2 ^ 64 - page_size m.ty)

-- A size exceeds the maximum, if there is one.
abbrev pub exceeds : Option ℕ → ℕ → Bool
exceeds most size = option_map_or (λ n. nat_lt n size) most false

-- the size is past the maximum, or past the room of a memory that stays where it is
abbrev pub past_room : ℕ → MemoryState → Bool
past_room size m = exceeds (maximum_asked m.ty) size || (not m.may_move && nat_lt m.linear.capacity size)

-- what is found out on the way of a growth by so many pages
abbrev pub obstacles : ℕ → MemoryState → Obstacles
obstacles pages m = record {
  nothing = pages == 0;
  past_type = not (allow_growth_to m.ty (grown_size pages m));
  past_room = past_room (grown_size pages m) m;
}

-- what the limiter is asked
abbrev pub growth_question : ℕ → MemoryState → GrowthQuestion
growth_question pages m = question_of Memory m.linear.size (grown_size pages m) (maximum_asked m.ty)

-- What becomes of the memory: it is as it was where its pages weren't asked for.
abbrev pub PagesLeave : Option GrowError → ℕ → Linear → Linear → Type 0
PagesLeave failure size old new = PagesMake (GrowsTo size old new) (λ e. IsUngrown e size old new) failure

-- What a growth leaves of a memory once the limiter answered: the same after a no or an error.
abbrev pub AnswerLeaves : Bool → Result Bool LimiterError → Option GrowError → ℕ → Linear → Linear → Type 0
AnswerLeaves past answer failure size old new = AnswerMakes (new ≡ old) (GrowsTo size old new) (λ e. IsUngrown e size old new) past answer failure

-- What a growth leaves of a memory, by the first obstacle that it meets.
abbrev pub LeavesBy : Bool → Bool → Bool → GrowthGiven → ℕ → Linear → Linear → Type 0
LeavesBy nothing past_type past_room g size old new = MakesBy (new ≡ old) (GrowsTo size old new) (λ e. IsUngrown e size old new) nothing past_type past_room g

-- What one growth leaves of a memory: the same, the new size with zeros, or the old size where pages failed.
abbrev pub GrowthLeaves : Obstacles → GrowthGiven → ℕ → Linear → Linear → Type 0
GrowthLeaves o g size old new = GrowthMakes (new ≡ old) (GrowsTo size old new) (λ e. IsUngrown e size old new) o g

-- the result of a growth without the size that was granted, but for the old one
abbrev pub first_of : Result (Option (ℕ × ℕ)) GrowFault → Result (Option ℕ) GrowFault
first_of (Ok o) = Ok (option_map (λ sizes. sizes.0) o)
first_of (Err e) = Err e

-- What a growth leaves of the maker that the memory may move by: it is called only where the pages are asked for.
abbrev pub GrowthLeavesMaker : Obstacles → GrowthGiven → ℕ → Linear → Linear → Option MakerTold → Option MakerTold → Type 0
GrowthLeavesMaker o g size old new maker left = GrowthMakes (left ≡ maker) (MakerLeft None size old new maker left) (λ e. MakerLeft (Some e) size old new maker left) o g

-- the pages are asked for a size, unless it is past the room
abbrev pub AskedPages : Bool → ℕ → Linear → Linear → Option MakerTold → Option MakerTold → Result (Unit {0}) GrowError → Type 0
AskedPages true size old new maker left result = (result ≡ Err failed.MaximumExceeded) × ((new ≡ old) × (left ≡ maker))
AskedPages false size old new maker left result = PagesLeave (result_err result) size old new × MakerLeft (result_err result) size old new maker left

-- what is left to say of a growth that the limiter allowed
abbrev pub IsAllowedGrowth : {R X : Type 0} → (R → LimiterTold) → (R → Exchange → R → Type 0) → Bool → ℕ → X → Linear → Linear → Option MakerTold → Option MakerTold → R → R → Result (Option X) GrowFault → Type 0
IsAllowedGrowth told leads past size granted old new maker left before after result =
    IsAllowed told leads Memory past granted ((new ≡ old) × (left ≡ maker)) (GrowsTo size old new × MakerLeft None size old new maker left) (λ e. IsUngrown e size old new × MakerLeft (Some e) size old new maker left) before after result

-- A growth by so many pages of a memory, over a limiter that told this and tells that at the end, and its result:
-- `granted` where it is granted.
pub record IsGrowth {X : Type 0} (given : GrowthGiven) (pages : ℕ) (granted : X) (old new : MemoryState) (asked left : LimiterTold) (result : Result (Option X) GrowFault) : Type 0 where
  pub ruled : IsRuled (growth_question pages old) (obstacles pages old) given granted asked left result
  pub memory : new ≡ record old { linear = new.linear }
  pub linear : GrowthLeaves (obstacles pages old) given (grown_size pages old) old.linear new.linear

-- The same, with what passed between the growth and the limiter, which need not be there: that and no more.
abbrev pub GrowsAsking : {R X : Type 0} → (R → LimiterTold) → (R → Exchange → R → Type 0) → ℕ → X → MemoryState → MemoryState → Option R → Option R → Result (Option X) GrowFault → Type 0
GrowsAsking told leads pages granted old new before after result =
    (given : GrowthGiven) × (IsGrowth given pages granted old new (limiter_told told before) (limiter_told told after) result × IfExchanged leads (growth_exchanges (growth_question pages old) (obstacles pages old) given) before after)

-- A growth with what passed to the limiter, and with what it leaves of the maker.
abbrev pub GrowsMoving : {R X : Type 0} → (R → LimiterTold) → (R → Exchange → R → Type 0) → ℕ → X → MemoryState → MemoryState → Option MakerTold → Option MakerTold → Option R → Option R → Result (Option X) GrowFault → Type 0
GrowsMoving told leads pages granted old new maker left before after result =
    (given : GrowthGiven) × (IsGrowth given pages granted old new (limiter_told told before) (limiter_told told after) result
    × (IfExchanged leads (growth_exchanges (growth_question pages old) (obstacles pages old) given) before after × GrowthLeavesMaker (obstacles pages old) given (grown_size pages old) old.linear new.linear maker left))

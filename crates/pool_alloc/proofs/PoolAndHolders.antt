-- A pool with all that have something of it: each of them fits, and no two have a slot.
use Rattle.std.proofs.Common.{◌≡◌, ◌≢◌, ℕ, zero, suc, ◌+◌, ◌<◌, ◌≤◌, List, [], ◌∷◌, length, refl, ap, arith, All, sum_by, slice_index_or}
use Rattle.pool_alloc.proofs.Imports.{MakerTold, All-head, All-tail, sum_by-cons, get_or-le-sum_by, SlotName}
use Rattle.pool_alloc.specs.Places.{right_to, region_of, kept_count, of_units}
use Rattle.pool_alloc.specs.BetweenSteps.{IsCore, FitsCore}
use Rattle.pool_alloc.specs.PoolAndHolders.{Holding, HasSlots, AddUp, held_by, times_warm, IsPartitioned}
use Rattle.pool_alloc.specs.declared.pool_core.PoolCore.{PoolCore}
use Rattle.pool_alloc.specs.declared.frame.Frame.{Frame}
use Rattle.pool_alloc.proofs.KeptCounts.{out_once}
use Rattle.pool_alloc.proofs.SlotsOfFrames.{frame_regions, kept_regions, not_warm}
use Rattle.pool_alloc.proofs.Weights.{frame_units}

-- two different ones have no more together than all
pub two_of_sum : {X : Type 0} (of : X → ℕ) (xs : List X) (i j : ℕ) (d : X) → i < length xs → j < length xs → i ≢ j → of (slice_index_or xs i d) + of (slice_index_or xs j d) ≤ sum_by of xs
two_of_sum of [] i j d below also other = absurd (omega arith)
two_of_sum of (x ∷ xs) zero zero d below also other = absurd (other refl)
two_of_sum of (x ∷ xs) zero (suc j) d below also other = omega (arith, sum_by-cons of x xs, get_or-le-sum_by of xs j d (omega (arith, also)))
two_of_sum of (x ∷ xs) (suc i) zero d below also other = omega (arith, sum_by-cons of x xs, get_or-le-sum_by of xs i d (omega (arith, below)))
two_of_sum of (x ∷ xs) (suc i) (suc j) d below also other = omega (arith, sum_by-cons of x xs, two_of_sum of xs i j d (omega (arith, below)) (omega (arith, also)) (λ e. other (ap suc e)))

-- all have no region without its slot together
all_have_slots : (k : SlotName) (hs : List Holding) → All HasSlots hs → sum_by (λ h. h (of_units (region_of k))) hs ≤ sum_by (λ h. h (of_units (right_to k))) hs
all_have_slots k [] slots = omega arith
all_have_slots k (h ∷ hs) slots =
    let here : h (of_units (region_of k)) ≤ h (of_units (right_to k)) = All-head HasSlots h hs slots k in
    omega (arith, here, sum_by-cons (λ (x : Holding). x (of_units (region_of k))) h hs, sum_by-cons (λ (x : Holding). x (of_units (right_to k))) h hs, all_have_slots k hs (All-tail HasSlots h hs slots))

-- nor have others than one
others_have_slots : (k : SlotName) (hs : List Holding) (i : ℕ) (d : Holding) → All HasSlots hs → i < length hs → sum_by (λ h. h (of_units (region_of k))) hs + slice_index_or hs i d (of_units (right_to k)) ≤ sum_by (λ h. h (of_units (right_to k))) hs + slice_index_or hs i d (of_units (region_of k))
others_have_slots k [] i d slots below = absurd (omega arith)
others_have_slots k (h ∷ hs) zero d slots below =
    omega (arith, sum_by-cons (λ (x : Holding). x (of_units (region_of k))) h hs, sum_by-cons (λ (x : Holding). x (of_units (right_to k))) h hs, all_have_slots k hs (All-tail HasSlots h hs slots))
others_have_slots k (h ∷ hs) (suc i) d slots below =
    let here : h (of_units (region_of k)) ≤ h (of_units (right_to k)) = All-head HasSlots h hs slots k in
    omega (
      arith,
      here,
      sum_by-cons (λ (x : Holding). x (of_units (region_of k))) h hs,
      sum_by-cons (λ (x : Holding). x (of_units (right_to k))) h hs,
      others_have_slots k hs i d (All-tail HasSlots h hs slots) (omega (arith, below)),
    )

module _ {P H : Type 0} where
  -- A call of one of them fits the pool.
  pub whole_fits : (c : PoolCore P H) (f : Frame P H) (hs : List Holding) (i : ℕ) (d rest : Holding) → IsPartitioned (λ h. h) c hs → All HasSlots hs → i < length hs → AddUp (held_by f) rest (slice_index_or hs i d) → HasSlots rest → FitsCore c f
  whole_fits c f hs i d rest whole each below is slots = record {
    once = λ w. omega (arith, whole w, is w, get_or-le-sum_by (λ (h : Holding). h w) hs i d below);
    others = λ k. omega (
      arith,
      whole (of_units (right_to k)),
      whole (of_units (region_of k)),
      is (of_units (right_to k)),
      is (of_units (region_of k)),
      slots k,
      others_have_slots k hs i d each below,
      kept_regions k c,
      frame_units (right_to k) f,
      frame_units (region_of k) f,
    );
  }

  -- No slot is with two of them.
  pub slots_apart : (maker : MakerTold) (c : PoolCore P H) (hs : List Holding) (i j : ℕ) (k : SlotName) (d : Holding) → IsCore maker c → IsPartitioned (λ h. h) c hs → i < length hs → j < length hs → i ≢ j → slice_index_or hs i d (of_units (right_to k)) + slice_index_or hs j d (of_units (right_to k)) ≤ 1
  slots_apart maker c hs i j k d core whole below also other =
      omega (arith, whole (of_units (right_to k)), (out_once maker k c core).0, two_of_sum (λ (h : Holding). h (of_units (right_to k))) hs i j d below also other)

  -- A slot that is with one of them, or in a queue, isn't warm.
  pub held_not_warm : (maker : MakerTold) (c : PoolCore P H) (hs : List Holding) (k : SlotName) → IsCore maker c → IsPartitioned (λ h. h) c hs → 0 < kept_count (right_to k) c + sum_by (λ h. h (of_units (right_to k))) hs → times_warm k c ≡ 0
  held_not_warm maker c hs k core whole some = not_warm maker k c core (omega (arith, some, whole (of_units (right_to k))))

  -- A call has the slot of each of its regions.
  pub call_has_slots : (f : Frame P H) → HasSlots (held_by f)
  call_has_slots f k = omega (arith, frame_regions k f, frame_units (region_of k) f, frame_units (right_to k) f)

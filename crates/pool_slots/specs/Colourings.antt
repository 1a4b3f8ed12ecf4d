-- The colours of memory slots, how the region of a slot is given its colour, and when that fails.
use Rattle.std.specs.Prelude.{◌≡◌, ℕ, ◌+◌, ◌^◌, ◌<◌, ◌≤◌, ◌⊎◌, ◌==◌, ◌||◌, List, Bool, true, false, nat_lt, if◌then◌else◌, Option, None, Some, IfSome}
use Rattle.pool_slots.specs.Imports.{list_any, Count, count_of, rounded_up, Told, Faulted, recolouring, Rose, coloured, IsFresh, MakerTold, Planned, calls_of, fails_making, made_region, DecommitBehavior}
use Rattle.pool_pages.specs.declared.pages.RegionName.TheVariants.{Memory}
use Rattle.pool_slots.specs.Slabs.{stripe_of}
use Rattle.pool_slots.specs.declared.errors.PoolNewError.{PoolNewError}
use Rattle.pool_slots.specs.declared.errors.PoolNewError.TheVariants as refused

-- The colour of a slot: where there are two stripes or more, the number of its stripe and one more. Otherwise it has none,
-- and its pages have the colour 0, with which they are made.
abbrev pub stripe_colour : ℕ → ℕ → Option ℕ
stripe_colour num_stripes slot = if nat_lt 1 num_stripes then Some (stripe_of slot num_stripes + 1) else None

-- the region of memory slot i as it is made, and then given its colour throughout, where it has one
abbrev pub coloured_region : ℕ → MakerTold → DecommitBehavior → Count → ℕ → Told
coloured_region num_stripes maker behaviour len i = coloured (stripe_colour num_stripes i) 0 len.bytes (made_region (Memory i) behaviour (count_of len.page 0) len maker)

-- The first call on a region, over so many bytes, is among those that fail. Over none there is no call.
abbrev pub fails_first_call : ℕ → List ℕ → Bool
fails_first_call len calls = if len == 0 then false else list_any (λ call. call == 1) calls

-- the giving of the colour is the first call on a region
abbrev pub fails_colouring : Option ℕ → ℕ → List ℕ → Bool
fails_colouring None len calls = false
fails_colouring (Some colour) len calls = fails_first_call len calls

-- the making of the region of slot i is listed as one that fails, or the giving of its colour
abbrev pub fails_region : Option ℕ → ℕ → ℕ → List Planned → Bool
fails_region None len i plan = fails_making (Memory i) plan
fails_region (Some colour) len i plan = fails_making (Memory i) plan || fails_colouring (Some colour) len (calls_of (Memory i) plan)

-- A region was made like this, and the first call on it failed: it is left as that call leaves it, and its own count of
-- faults rose. Where it tells which calls fail, this is one. A body can't claim this by itself: the regions that it has
-- are those that the maker gave it.
pub record LeavesFaulted {P : Type 0} (told : P → Told) (Fault : Told → Told → Type 0) (fails : List ℕ → Bool) (made : Told) : Type 0 where
  pub region : P
  pub faulted : Fault made (told region)
  pub listed : IfSome made.plan (λ calls. fails calls ≡ true)

-- the call failed that gives a region of this length its colour
abbrev pub FaultedColouring : Option ℕ → ℕ → Told → Told → Type 0
FaultedColouring None len old new = ⊥
FaultedColouring (Some colour) len old new = Faulted (recolouring 0 len colour) old new

-- The region of memory slot i was made and given up, since its colour could not be given.
abbrev pub IsUncoloured : {P : Type 0} → (P → Told) → Option ℕ → DecommitBehavior → Count → ℕ → MakerTold → Type 0
IsUncoloured told colour behaviour len i maker = LeavesFaulted told (FaultedColouring colour len.bytes) (fails_colouring colour len.bytes) (made_region (Memory i) behaviour (count_of len.page 0) len maker)

-- What a refusal does to the maker's count of faults: a page fault raises it, unless a region was made and given up, as
-- the first call on it failed; that raised the region's own count, and the region is gone. Want of memory leaves the count, and no other
-- refusal comes.
abbrev pub RaisesUnlessGivenUp : Type 0 → ℕ → ℕ → PoolNewError → Type 0
RaisesUnlessGivenUp given_up old new (refused.BadConfig e) = ⊥
RaisesUnlessGivenUp given_up old new refused.PageFault = Rose old new ⊎ (given_up × (new ≡ old))
RaisesUnlessGivenUp given_up old new refused.Memory = new ≡ old

-- What it does to the count of the maker behind: a page fault raises that, unless the making is one that the maker's own
-- list has, or a region was given up.
abbrev pub RaisesBehindUnlessGivenUp : Type 0 → Bool → ℕ → ℕ → PoolNewError → Type 0
RaisesBehindUnlessGivenUp given_up listed old new (refused.BadConfig e) = ⊥
RaisesBehindUnlessGivenUp given_up listed old new refused.PageFault = ((listed ≡ true) ⊎ Rose old new) ⊎ (given_up × (new ≡ old))
RaisesBehindUnlessGivenUp given_up listed old new refused.Memory = new ≡ old

-- An image slot in its colour can be made of the region of each memory slot, as it is when it was given that colour.
abbrev pub ColouredRegionsAreFresh : Type 0
ColouredRegionsAreFresh = (num_stripes i : ℕ) (maker : MakerTold) (behaviour : DecommitBehavior) (page static_size : ℕ) → 0 < page → static_size + page ≤ 2 ^ 64 →
    IsFresh (count_of page 0) (count_of page 0) static_size (stripe_colour num_stripes i) (coloured_region num_stripes maker behaviour (count_of page (rounded_up page static_size)) i)

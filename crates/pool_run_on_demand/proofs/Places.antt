-- Where a memory lies in its region, and what a growth leaves of that: what lies before it and behind it stays as much, and
-- what it may have there lies within the address space. So there is no growth to a size for which no region can be.
use Rattle.std.proofs.Common.{◌≡◌, ℕ, ◌+◌, ◌-◌, ◌^◌, ◌<◌, ◌≤◌, Bool, true, false, List, Option, Some, None, refl, sym, ap, ◌∙◌, subst, arith, inl, inr, nat_lt, if◌then◌else◌}
use Rattle.pool_run_on_demand.proofs.Imports.{cases_lt, lt-ltb, ltb-true, rounded_up, rounded_up_above, MakerTold, MemoryTunables, Slot, SlotIdentity, identity, raised, limited, Told, GrowError, InPlace, GrowsTo, FailsInPlace, IsUngrown, moved_room, Design, LiesIn, mapped_design, malloc_design, Layout, layout_len, layout_of, first_layout, moved_layout, Storage, in_slot, stored, slot_in, is_listed, storage_written, Linear, takes_image, has_whole_pages, BeginsWith, second_true, Image, region_for, slot_for, slot_of_region, CallLeaves, MakerLeft, PlaceLeaves}
use Rattle.pool_memory.specs.Linear.{is_mapped}
use Rattle.pool_memory.specs.Malloc.{malloc_refusal}
use Rattle.pool_memory.specs.Mapped.{mapped_refusal}
use Rattle.pool_limits.specs.declared.errors.GrowError.TheVariants as failed
use Rattle.pool_types.specs.declared.unsupported.Unsupported.{Unsupported}
use Rattle.pool_types.specs.declared.unsupported.Unsupported.TheVariants.{AddressSpace}
use Rattle.pool_run_on_demand.specs.OnDemand.{most_between}
use Rattle.pool_run_on_demand.specs.Seen.{layout_in, HasAddresses}

-- A region whose slot has more within reach, or bytes written, is laid out as before.
pub slot_layout : (more : Bool) (n : ℕ) (s : Slot) → layout_of (if more then raised n s else s) ≡ layout_of s
slot_layout true n s = refl
slot_layout false n s = refl

abbrev pub has_less : ℕ → Slot → Bool
has_less size s = nat_lt s.accessible.bytes (rounded_up s.region.page size)

pub limited_layout : (size : ℕ) (s : Slot) → layout_of (limited size s) ≡ layout_of s
limited_layout size s = slot_layout (has_less size s) (rounded_up s.region.page size) s

-- how the region is laid out that a slot is made in
made_layout : (m : MakerTold) (l : Layout) → layout_of (slot_of_region (region_for m l) l) ≡ l
made_layout m l = let guard : l.before + l.capacity + l.guard - l.capacity - l.before ≡ l.guard = omega arith in ap (λ (n : ℕ). record l { guard = n }) guard

pub slot_for_layout : (m : MakerTold) (l : Layout) (size : ℕ) → layout_of (slot_for m l size) ≡ l
slot_for_layout m l size = limited_layout size (slot_of_region (region_for m l) l) ∙ made_layout m l

pub written_layout : (i : ℕ) (bytes : List ℕ) (st : Storage) → layout_in (storage_written i bytes st) ≡ layout_in st
written_layout i bytes (in_slot s) = refl
written_layout i bytes (stored len told) = refl

listed_layout : (st : Storage) → is_listed st ≡ true → layout_in st ≡ None
listed_layout (in_slot s) is = absurd cc
listed_layout (stored len bytes) is = refl

-- A growth that failed in its place leaves the region so, too.
failed_layout : (e : GrowError) (size : ℕ) (st to : Storage) → FailsInPlace e size st to → layout_in to ≡ layout_in st
failed_layout e size (in_slot s) (in_slot t) fails =
    let parts : Told → Layout = λ r. record { page = r.page; before = s.base.bytes; capacity = s.static_size; guard = r.len - s.static_size - s.base.bytes } in
    ap Some (ap layout_of fails.1.same ∙ ap parts fails.1.region.same)
failed_layout e size (in_slot s) (stored len bytes) fails = absurd fails
failed_layout e size (stored len bytes) to fails = absurd fails

-- It lies as before, or in a larger region with as much before it and behind it: one can have as much for it, and what it may
-- have there lies within the address space.
abbrev pub StaysWithin : Option Layout → ℕ → Option Layout → Type 0
StaysWithin old capacity new = (most_between new ≡ most_between old) × HasAddresses capacity new

stays_within : (old new : Option Layout) (capacity after : ℕ) → HasAddresses capacity old → new ≡ old → after ≡ capacity → StaysWithin old after new
stays_within old new capacity after has layout same =
    (ap most_between layout, subst (λ (o : Option Layout). HasAddresses after o) (sym layout) (subst (λ (n : ℕ). HasAddresses n old) (sym same) has))

moves_within : (size extra capacity room : ℕ) (st to : Storage) (before after : MakerTold) → HasAddresses capacity (layout_in st) → is_listed to ≡ is_listed st → room ≡ moved_room size extra st → PlaceLeaves None size extra st to before after → StaysWithin (layout_in st) room (layout_in to)
moves_within size extra capacity room (in_slot s) (in_slot t) before after has place is left =
    let l : Layout = moved_layout size extra (layout_of s) in
    let here : layout_of t ≡ l = ap layout_of left.1.same ∙ slot_for_layout before l size in
    let Has : Layout → Type 0 = λ x. HasAddresses room (Some x) in
    let fits : l.before + room + l.guard < 2 ^ 64 = subst (λ (n : ℕ). l.before + n + l.guard < 2 ^ 64) (sym is) left.0.fits in
    (ap (λ (x : Layout). most_between (Some x)) here, subst Has (sym here) (has.0, fits))
moves_within size extra capacity room (in_slot s) (stored len bytes) before after has place is left = absurd cc
moves_within size extra capacity room (stored len bytes) to before after has place is left =
    let none : layout_in to ≡ None = listed_layout to place in
    (ap most_between none, subst (λ (o : Option Layout). HasAddresses room o) (sym none) tt)

grows_within : (size : ℕ) (st : Storage) (old new : Linear) → old.storage ≡ st → HasAddresses old.capacity (layout_in st) → InPlace size st old new → is_listed new.storage ≡ is_listed st → StaysWithin (layout_in st) new.capacity (layout_in new.storage)
grows_within size (in_slot s) old new same has is place =
    stays_within (layout_in (in_slot s)) (layout_in new.storage) old.capacity new.capacity has (ap (λ (l : Linear). layout_in l.storage) is ∙ ap Some (limited_layout size s)) (ap (λ (l : Linear). l.capacity) is)
grows_within size (stored len bytes) old new same has is place = stays_within None (layout_in new.storage) old.capacity new.capacity tt (listed_layout new.storage place) is

-- A size past all that a region can have is past what the memory may have where it is, and a larger region would leave the
-- address space.
past_here : (before capacity guard size : ℕ) → before + capacity + guard < 2 ^ 64 → 2 ^ 64 - 1 - (before + guard) < size → capacity < size
past_here before capacity guard size within past = omega (arith, within, past)

too_long : (before capacity guard size whole more : ℕ) → before + capacity + guard < 2 ^ 64 → 2 ^ 64 - 1 - (before + guard) < size → size ≤ whole → before + (whole + more) + guard < 2 ^ 64 → ⊥
too_long before capacity guard size whole more within past up fits = omega (arith, within, past, up, fits)

pub past_capacity : (size capacity : ℕ) (o : Option Layout) → HasAddresses capacity o → most_between o < size → size < 2 ^ 64 → capacity < size
past_capacity size capacity (Some l) has past small = past_here l.before capacity l.guard size has.1 past
past_capacity size capacity None has past small = absurd (omega (arith, past, small))

-- So its pages fail then by the size of the region.
module _ (size extra capacity : ℕ) (before after : MakerTold) (small : size < 2 ^ 64) where
  no_region : (s : Slot) → HasAddresses capacity (Some (layout_of s)) → most_between (Some (layout_of s)) < size → layout_len (moved_layout size extra (layout_of s)) < 2 ^ 64 → ⊥
  no_region s has past fits =
      let l : Layout = layout_of s in
      too_long l.before capacity l.guard size (rounded_up l.page size) (rounded_up l.page extra) has.1 past (rounded_up_above l.page size has.0) fits

  pub place_overflows : (failure : Option GrowError) (st to : Storage) → HasAddresses capacity (layout_in st) → most_between (layout_in st) < size → PlaceLeaves failure size extra st to before after → (failure ≡ Some failed.Overflow) × (after ≡ before)
  place_overflows None (in_slot s) to has past left = absurd (no_region s has past left.0.fits)
  place_overflows (Some failed.PageFault) (in_slot s) to has past left = absurd (no_region s has past left.fits)
  place_overflows (Some failed.Memory) (in_slot s) to has past left = absurd (no_region s has past left.fits)
  place_overflows (Some failed.Overflow) (in_slot s) to has past left = (refl, left.1)
  place_overflows (Some failed.TypeLimit) (in_slot s) to has past left = absurd left
  place_overflows (Some failed.MaximumExceeded) (in_slot s) to has past left = absurd left
  place_overflows failure (stored len bytes) to has past left = absurd (omega (arith, past, small))

-- A growth of a memory, or one that failed.
module _ (size : ℕ) (old new : Linear) (has : HasAddresses old.capacity (layout_in old.storage)) where
  pub ungrown_within : (e : GrowError) → IsUngrown e size old new → StaysWithin (layout_in old.storage) new.capacity (layout_in new.storage)
  ungrown_within e is =
      let same : layout_in new.storage ≡ layout_in old.storage = elim (cases_lt old.capacity size) [
        | inl past ↦ ap (λ (l : Linear). layout_in l.storage) (is.stays past)
        | inr within ↦ failed_layout e size old.storage new.storage (is.in_place within)
      ] in
      stays_within (layout_in old.storage) (layout_in new.storage) old.capacity new.capacity has same is.capacity

  module _ (before after : MakerTold) where
    past_calls : (failure : Option GrowError) → old.capacity < size → MakerLeft failure size old new (Some before) (Some after) → PlaceLeaves failure size old.extra old.storage new.storage before after
    past_calls failure past left = subst (λ (b : Bool). CallLeaves b failure size old new before after) (lt-ltb old.capacity size past) left

    pub grown_within : GrowsTo size old new → MakerLeft None size old new (Some before) (Some after) → StaysWithin (layout_in old.storage) new.capacity (layout_in new.storage)
    grown_within is left = elim (cases_lt old.capacity size) [
      | inl past ↦ moves_within size old.extra old.capacity new.capacity old.storage new.storage before after has is.place (is.moved past).room (past_calls None past left)
      | inr within ↦ grows_within size old.storage old new refl has (is.in_place within) is.place
    ]

    -- Past all that a region can have nothing changes.
    pub overflows : (failure : Option GrowError) → most_between (layout_in old.storage) < size → size < 2 ^ 64 → MakerLeft failure size old new (Some before) (Some after) → (failure ≡ Some failed.Overflow) × (after ≡ before)
    overflows failure past small left =
        place_overflows size old.extra old.capacity before after small failure old.storage new.storage has past (past_calls failure (past_capacity size old.capacity (layout_in old.storage) has past small) left)

-- A memory that began with an image lies where it was made.
abbrev layout_by : SlotIdentity → Option Layout
layout_by s = Some (record { page = s.page; before = s.base.bytes; capacity = s.static_size; guard = s.len - s.static_size - s.base.bytes })

in_its_slot : (size : ℕ) (made st : Storage) → has_whole_pages size made ≡ true → is_mapped st ≡ true → identity (slot_in st) ≡ identity (slot_in made) → layout_in st ≡ layout_in made
in_its_slot size (in_slot r) (in_slot s) whole mapped same = ap layout_by same
in_its_slot size (in_slot r) (stored len bytes) whole mapped same = absurd cc
in_its_slot size (stored n b) st whole mapped same = absurd cc

pub begun_layout : (b : Bool) (image : Option Image) (made l : Linear) → b ≡ takes_image made → BeginsWith b image made l → layout_in l.storage ≡ layout_in made.storage
begun_layout b None made l takes is = ap (λ (x : Linear). layout_in x.storage) is
begun_layout false (Some i) made l takes is = ap (λ (x : Linear). layout_in x.storage) is
begun_layout true (Some i) made l takes is = in_its_slot made.size made.storage l.storage (second_true made.moves (has_whole_pages made.size made.storage) (sym takes)) is.mapped is.slot

pub lies_layout : (o : Option Layout) (st : Storage) → LiesIn o st → layout_in st ≡ o
lies_layout (Some l) (in_slot s) lies = ap Some lies
lies_layout (Some l) (stored len bytes) lies = absurd lies
lies_layout None (in_slot s) lies = absurd lies
lies_layout None (stored len bytes) lies = refl

-- What isn't refused for its addresses lies within them.
fits_unless : (fits : Bool) (u : Unsupported) → (if fits then None else Some u) ≡ None → fits ≡ true
fits_unless true u is = refl
fits_unless false u is = absurd cc

abbrev design_if : Bool → ℕ → MemoryTunables → ℕ → Option ℕ → Design
design_if b page tunables least most = if b then mapped_design page tunables least most else malloc_design tunables least

pub design_addresses : (b : Bool) (page : ℕ) (tunables : MemoryTunables) (least : ℕ) (most : Option ℕ) → 0 < page → (if b then mapped_refusal page tunables least else malloc_refusal tunables least) ≡ None → HasAddresses (design_if b page tunables least most).capacity (design_if b page tunables least most).layout
design_addresses true page tunables least most paged is =
    let first : Layout = first_layout page tunables least in
    (paged, ltb-true (layout_len first) (2 ^ 64) (fits_unless (nat_lt (layout_len first) (2 ^ 64)) AddressSpace is))
design_addresses false page tunables least most paged is = tt

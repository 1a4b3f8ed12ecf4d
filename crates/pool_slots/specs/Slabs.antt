-- How the memory slots of a slab are laid out, in stripes of protection keys where there are keys.
use Rattle.std.specs.Prelude.{◌≡◌, ℕ, ◌+◌, ◌-◌, ◌*◌, ◌/◌, ◌%◌, ◌^◌, ◌<◌, ◌≤◌, max, min, Bool, ◌&&◌, nat_le, nat_lt, if◌then◌else◌}
use Rattle.pool_slots.specs.Imports.{div_ceil, count, rounded_up, is_address, keys_used, slab_stripes, slab_slot, slab_bytes, slab_fits, rounds_up, PoolingAllocationConfig, Tunables, Offered}
use Rattle.pool_slots.specs.declared.slab.SlabConstraints.{SlabConstraints}
use Rattle.pool_slots.specs.declared.slab.SlabLayout.{SlabLayout}

-- the sizes are counted in one page
pub record HasOnePage (c : SlabConstraints) : Type 0 where
  pub expected : c.expected_slot_bytes.page ≡ c.guard_bytes.page
  pub greatest : c.max_memory_bytes.page ≡ c.guard_bytes.page

-- What a fault of the memory before may reach: what is reserved for a memory, or the greatest memory if that is more, and
-- the guard behind it.
abbrev pub faulting_region : SlabConstraints → ℕ
faulting_region c = max c.expected_slot_bytes.bytes c.max_memory_bytes.bytes + c.guard_bytes.bytes

-- the slots can lie in stripes: there are guards, memories of some size, slots, and two keys or more
abbrev pub is_striped : SlabConstraints → Bool
is_striped c = nat_lt 0 c.guard_bytes.bytes && (nat_lt 0 c.max_memory_bytes.bytes && (nat_lt 0 c.num_slots && nat_le 2 c.num_pkeys_available))

-- how many stripes there are: one for each key, but no more than fill the faulting region and than there are slots
abbrev pub stripe_count : SlabConstraints → ℕ
stripe_count c = if is_striped c then min c.num_pkeys_available (min (div_ceil (faulting_region c) c.max_memory_bytes.bytes) c.num_slots) else 1

-- What a slot takes of a striped slab: an equal share of the faulting region, and at least the greatest memory, in
-- whole pages. The memories of other stripes fill the rest.
abbrev pub striped_slot : SlabConstraints → ℕ
striped_slot c = rounded_up c.guard_bytes.page (max (div_ceil (faulting_region c) (stripe_count c)) c.max_memory_bytes.bytes)

-- How many bytes of the slab a slot takes, by whether the slab is striped.
abbrev pub slot_size : SlabConstraints → ℕ
slot_size c = if is_striped c then striped_slot c else faulting_region c

-- the guard before the slots, where there is one
abbrev pub guard_before : SlabConstraints → ℕ
guard_before c = if c.guard_before_slots then c.guard_bytes.bytes else 0

-- behind the slots lies what is left of the last faulting region
abbrev pub guard_behind : SlabConstraints → ℕ
guard_behind c = faulting_region c - slot_size c

-- The layout of a slab that these constraints lead to.
abbrev pub layout_of : SlabConstraints → SlabLayout
layout_of c = record {
  num_slots = c.num_slots;
  slot_bytes = count c.guard_bytes.page (slot_size c);
  max_memory_bytes = c.max_memory_bytes;
  pre_slab_guard_bytes = count c.guard_bytes.page (guard_before c);
  post_slab_guard_bytes = count c.guard_bytes.page (guard_behind c);
  num_stripes = stripe_count c;
}

-- How many bytes the whole slab takes.
abbrev pub total_bytes : SlabLayout → ℕ
total_bytes l = l.pre_slab_guard_bytes.bytes + l.slot_bytes.bytes * l.num_slots + l.post_slab_guard_bytes.bytes

-- no sum or product of it leaves the address space
abbrev pub has_room : SlabConstraints → Bool
has_room c = is_address (faulting_region c) && is_address (total_bytes (layout_of c))

-- where a slot begins
abbrev pub slot_offset : SlabLayout → ℕ → ℕ
slot_offset l slot = l.pre_slab_guard_bytes.bytes + l.slot_bytes.bytes * slot

-- how far the next slot of the same stripe is
abbrev pub stripe_distance : SlabLayout → ℕ
stripe_distance l = l.slot_bytes.bytes * l.num_stripes

-- The sizes of a layout are counted in one page, and none of its sums and products leaves the address space.
pub record IsLayout (l : SlabLayout) : Type 0 where
  pub before : l.pre_slab_guard_bytes.page ≡ l.slot_bytes.page
  pub behind : l.post_slab_guard_bytes.page ≡ l.slot_bytes.page
  pub total : total_bytes l < 2 ^ 64
  pub distance : stripe_distance l < 2 ^ 64

-- Slots lie inside the slab, in order and apart from each other, and hold the greatest memory. The next slot of a stripe is
-- beyond what a fault may reach, and so is the end of the slab.
pub record SlotsLieApart (c : SlabConstraints) (l : SlabLayout) : Type 0 where
  pub apart : (i j : ℕ) → i < j → slot_offset l i + l.slot_bytes.bytes ≤ slot_offset l j
  pub inside : (i : ℕ) → i < l.num_slots → slot_offset l i + faulting_region c ≤ total_bytes l
  pub holds : c.max_memory_bytes.bytes ≤ l.slot_bytes.bytes
  pub within : l.slot_bytes.bytes ≤ faulting_region c
  pub beyond : faulting_region c ≤ stripe_distance l
  pub striped : 0 < l.num_stripes

-- what the settings of a pool ask of its slab
abbrev pub settings_slab : PoolingAllocationConfig → Tunables → ℕ → Offered → SlabConstraints
settings_slab s t page o = record {
  expected_slot_bytes = count page (rounded_up page t.memory_reservation);
  max_memory_bytes = count page (rounded_up page s.limits.max_memory_size);
  num_slots = s.limits.total_memories;
  num_pkeys_available = keys_used s o;
  guard_bytes = count page (rounded_up page t.memory_guard_size);
  guard_before_slots = t.guard_before_linear_memory;
}

-- The rule on the slab that settings have to keep speaks of this layout: it has as many stripes and bytes as the rule
-- reckons, and the rule is that each size can be rounded up and the layout has room.
pub record RulesSpeakOfLayout (s : PoolingAllocationConfig) (t : Tunables) (page : ℕ) (o : Offered) : Type 0 where
  pub stripes : slab_stripes s t page o ≡ stripe_count (settings_slab s t page o)
  pub slot : slab_slot s t page o ≡ slot_size (settings_slab s t page o)
  pub total : slab_bytes s t page o ≡ total_bytes (layout_of (settings_slab s t page o))
  pub rule : slab_fits s t page o ≡ (rounds_up page t.memory_reservation && (rounds_up page s.limits.max_memory_size && (rounds_up page t.memory_guard_size && has_room (settings_slab s t page o))))

-- For all settings, the rule on the slab reckons with the layout that these settings lead to.
abbrev pub SettingsSpeakOfLayouts : Type 0
SettingsSpeakOfLayouts = (s : PoolingAllocationConfig) (t : Tunables) (page : ℕ) (o : Offered) → 0 < page → RulesSpeakOfLayout s t page o

-- The slot with a number in a stripe: the slots of all stripes are numbered in turn.
abbrev pub unstriped : ℕ → ℕ → ℕ → ℕ
unstriped local stripe stripes = local * stripes + stripe

-- The stripe of a slot: the slots of all stripes are numbered in turn.
abbrev pub stripe_of : ℕ → ℕ → ℕ
stripe_of slot stripes = slot % stripes

-- The number of a slot within its stripe.
abbrev pub local_of : ℕ → ℕ → ℕ
local_of slot stripes = slot / stripes

-- both ways of numbering give the same slots
pub record StripesUndo (stripes : ℕ) : Type 0 where
  pub whole : (slot : ℕ) → unstriped (local_of slot stripes) (stripe_of slot stripes) stripes ≡ slot
  pub below : (slot : ℕ) → stripe_of slot stripes < stripes
  pub stripe : (local stripe : ℕ) → stripe < stripes → stripe_of (unstriped local stripe stripes) stripes ≡ stripe
  pub local : (local stripe : ℕ) → stripe < stripes → local_of (unstriped local stripe stripes) stripes ≡ local

-- A slot's number, and its stripe with its number there, name the same slot.
abbrev pub NumberingsAgree : Type 0
NumberingsAgree = (stripes : ℕ) → 0 < stripes → StripesUndo stripes

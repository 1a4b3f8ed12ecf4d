-- The rules of a pool's settings, in order, and the first that is broken.
use Rattle.std.specs.Prelude.{ℕ, ◌+◌, ◌-◌, ◌*◌, ◌^◌, ◌<◌, ◌≤◌, max, min, Bool, true, false, not, ◌&&◌, ◌||◌, ◌==◌, nat_le, nat_lt, if◌then◌else◌, Option, Some, None}
use Rattle.std.specs.Int.{div_ceil, is_power_of_two}
use Rattle.pool_types.specs.ConfigLimits.{first_too_great, is_batch_size, IsWithinLimits}
use Rattle.pool_types.specs.Count.{IsPageSize, rounded_up}
use Rattle.pool_types.specs.declared.bad_config.BadConfig.{BadConfig}
use Rattle.pool_types.specs.declared.bad_config.BadConfig.TheVariants.{PageSize, Shards, DecommitBatch, Reservation, KeysNotOffered, SlabArithmetic, TableArithmetic, CollectorPair, StackArithmetic, DirtyPagesNotOffered, Regions}
use Rattle.pool_types.specs.declared.bad_config.PairedTunable.TheVariants.{Reservation as PairedReservation, GuardSize, ReservationForGrowth, MayMove}
use Rattle.pool_types.specs.declared.config.Enabled.{Enabled}
use Rattle.pool_types.specs.declared.config.Enabled.TheVariants.{Auto, Yes, No}
use Rattle.pool_types.specs.declared.config.PoolingAllocationConfig.{PoolingAllocationConfig}
use Rattle.pool_types.specs.declared.module_types.Tunables.{Tunables}
use Rattle.pool_types.specs.declared.offered.Offered.{Offered}

-- a page size is a power of two from 16 to 65,536
abbrev pub is_page_size : ℕ → Bool
is_page_size size = nat_le 16 size && (nat_le size 65536 && is_power_of_two size)

-- a pool has 1 to 16 shards
abbrev pub is_shard_count : ℕ → Bool
is_shard_count shards = nat_le 1 shards && nat_le shards 16

-- a feature of the system is asked for, or is used where it is offered
abbrev pub is_required : Enabled → Bool
is_required Yes = true
is_required Auto = false
is_required No = false

-- Something that is off, automatic or required may be used: all but off.
abbrev pub may_use : Enabled → Bool
may_use No = false
may_use Auto = true
may_use Yes = true

-- protection keys are there, or aren't asked for
abbrev pub keys_suffice : PoolingAllocationConfig → Offered → Bool
keys_suffice c o = not (is_required c.memory_protection_keys && o.keys == 0)

-- Dirty pages are offered, or aren't asked for.
abbrev pub dirty_pages_suffice : PoolingAllocationConfig → Offered → Bool
dirty_pages_suffice c o = not (is_required c.pagemap_scan) || o.dirty_pages

-- how many protection keys the pool uses
abbrev pub keys_used : PoolingAllocationConfig → Offered → ℕ
keys_used c o = if may_use c.memory_protection_keys then min o.keys c.max_memory_protection_keys else 0

-- a number lies in the address space
abbrev pub is_address : ℕ → Bool
is_address n = nat_lt n (2 ^ 64)

-- the number can be rounded up to pages within the address space
abbrev pub rounds_up : ℕ → ℕ → Bool
rounds_up page bytes = is_address (bytes + page - 1)

-- What a fault of the memory before may reach: what is reserved for a memory, or the greatest memory if that is more, and
-- the guard behind it.
abbrev pub faulting_bytes : PoolingAllocationConfig → Tunables → ℕ → ℕ
faulting_bytes c t page = max (rounded_up page t.memory_reservation) (rounded_up page c.limits.max_memory_size) + rounded_up page t.memory_guard_size

-- the slab can be striped: there are guards, memories of some size, and two keys or more
abbrev pub may_stripe : PoolingAllocationConfig → Tunables → Offered → Bool
may_stripe c t o = nat_lt 0 t.memory_guard_size && (nat_lt 0 c.limits.max_memory_size && (nat_lt 0 c.limits.total_memories && nat_le 2 (keys_used c o)))

-- how many stripes the slab has: one for each key, but no more than fill the faulting region and than there are slots
abbrev pub slab_stripes : PoolingAllocationConfig → Tunables → ℕ → Offered → ℕ
slab_stripes c t page o = if may_stripe c t o then min (keys_used c o) (min (div_ceil (faulting_bytes c t page) (rounded_up page c.limits.max_memory_size)) c.limits.total_memories) else 1

-- What a slot takes of the slab: an equal share of the faulting region, and at least the greatest memory, in whole pages.
-- The memories of other stripes fill the rest.
abbrev pub slab_slot : PoolingAllocationConfig → Tunables → ℕ → Offered → ℕ
slab_slot c t page o = rounded_up page (max (div_ceil (faulting_bytes c t page) (slab_stripes c t page o)) (rounded_up page c.limits.max_memory_size))

-- the guard before the slab, where there is one
abbrev pub slab_guard : Tunables → ℕ → ℕ
slab_guard t page = if t.guard_before_linear_memory then rounded_up page t.memory_guard_size else 0

-- the whole slab: the guard before it, the slots, and behind them what is left of the last faulting region
abbrev pub slab_bytes : PoolingAllocationConfig → Tunables → ℕ → Offered → ℕ
slab_bytes c t page o = slab_guard t page + c.limits.total_memories * slab_slot c t page o + (faulting_bytes c t page - slab_slot c t page o)

-- no sum, product or rounding of the slab leaves the address space
abbrev pub slab_fits : PoolingAllocationConfig → Tunables → ℕ → Offered → Bool
slab_fits c t page o =
    rounds_up page t.memory_reservation
    && (rounds_up page c.limits.max_memory_size
    && (rounds_up page t.memory_guard_size
    && (is_address (faulting_bytes c t page)
    && is_address (slab_bytes c t page o))))

-- a table's region: 8 bytes an element, in whole pages
abbrev pub table_bytes : PoolingAllocationConfig → ℕ → ℕ
table_bytes c page = rounded_up page (8 * c.limits.table_elements)

-- No rounding or product of the tables' regions leaves the address space.
abbrev pub tables_fit : PoolingAllocationConfig → ℕ → Bool
tables_fit c page =
    is_address (8 * c.limits.table_elements)
    && (rounds_up page (8 * c.limits.table_elements)
    && is_address (c.limits.total_tables * table_bytes c page))

-- a stack's region: its bytes in whole pages, and a guard page
abbrev pub stack_bytes : PoolingAllocationConfig → ℕ → ℕ
stack_bytes c page = page + rounded_up page c.stack_size

-- No rounding or product of the stacks' regions leaves the address space.
abbrev pub stacks_fit : PoolingAllocationConfig → ℕ → Bool
stacks_fit c page =
    rounds_up page c.stack_size
    && (is_address (stack_bytes c page)
    && is_address (c.limits.total_stacks * stack_bytes c page))

-- all regions of the pool
abbrev pub region_bytes : PoolingAllocationConfig → ℕ → ℕ
region_bytes c page =
    c.limits.total_memories * rounded_up page c.limits.max_memory_size
    + (c.limits.total_tables * table_bytes c page
    + c.limits.total_stacks * stack_bytes c page)

-- all regions together are below 2^32 bytes
abbrev pub regions_fit : PoolingAllocationConfig → ℕ → Bool
regions_fit c page = nat_lt (region_bytes c page) (2 ^ 32)

-- this error, unless the test holds
abbrev pub unless : Bool → BadConfig → Option BadConfig
unless holds error = if holds then None else Some error

-- the first error, or else the next
abbrev pub or_else : Option BadConfig → Option BadConfig → Option BadConfig
or_else None next = next
or_else (Some error) next = Some error

-- Two truths are the same.
abbrev pub is_same : Bool → Bool → Bool
is_same true b = b
is_same false b = not b

-- the first setting in which memories and heaps differ
abbrev pub first_unequal : Tunables → Option BadConfig
first_unequal t =
    or_else (unless (t.memory_reservation == t.gc_heap_reservation) (CollectorPair PairedReservation))
    (or_else (unless (t.memory_guard_size == t.gc_heap_guard_size) (CollectorPair GuardSize))
    (or_else (unless (t.memory_reservation_for_growth == t.gc_heap_reservation_for_growth) (CollectorPair ReservationForGrowth))
    (unless (is_same t.memory_may_move t.gc_heap_may_move) (CollectorPair MayMove))))

-- they must not differ where a collector is set, since the pool's memories hold its heaps
abbrev pub broken_pair : Tunables → Option BadConfig
broken_pair t = if t.collector then first_unequal t else None

-- The first broken rule of those on what the whole pool takes and is offered: its slab, its tables, the collector, its
-- stacks, dirty pages, and all its regions.
abbrev pub first_broken_total : PoolingAllocationConfig → Tunables → ℕ → Offered → Option BadConfig
first_broken_total c t page o =
    or_else (unless (slab_fits c t page o) SlabArithmetic)
    (or_else (unless (tables_fit c page) TableArithmetic)
    (or_else (broken_pair t)
    (or_else (unless (stacks_fit c page) StackArithmetic)
    (or_else (unless (dirty_pages_suffice c o) DirtyPagesNotOffered)
    (unless (regions_fit c page) (Regions (region_bytes c page)))))))

-- The first of all rules that is broken: the page, the shards, the batch, the greatest values, the reservation, the keys,
-- and those on totals.
abbrev pub first_broken_rule : PoolingAllocationConfig → Tunables → ℕ → ℕ → Offered → Option BadConfig
first_broken_rule c t page shards o =
    or_else (unless (is_page_size page) (PageSize page))
    (or_else (unless (is_shard_count shards) (Shards shards))
    (or_else (unless (is_batch_size c.decommit_batch_size) (DecommitBatch c.decommit_batch_size))
    (or_else (first_too_great c o)
    (or_else (unless (nat_le c.limits.max_memory_size t.memory_reservation) (Reservation c.limits.max_memory_size t.memory_reservation))
    (or_else (unless (keys_suffice c o) KeysNotOffered)
    (first_broken_total c t page o))))))

-- no rule is broken
pub record IsWithinRules (c : PoolingAllocationConfig) (t : Tunables) (page : ℕ) (shards : ℕ) (o : Offered) : Type 0 where
  pub page_size : IsPageSize page
  pub shards_at_least : 1 ≤ shards
  pub shards_at_most : shards ≤ 16
  pub limits : IsWithinLimits c
  pub offered_keys : o.keys ≤ 15
  pub reserved : c.limits.max_memory_size ≤ t.memory_reservation
  pub rounds : c.limits.max_memory_size + page ≤ 2 ^ 64
  pub slab : slab_bytes c t page o < 2 ^ 64
  pub regions : region_bytes c page < 2 ^ 32

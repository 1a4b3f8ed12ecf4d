-- In how many stripes memories lie, and that settings which break no rule have a layout.
use Rattle.std.proofs.Common.{◌≡◌, ℕ, ◌+◌, ◌-◌, ◌*◌, ◌^◌, zero, suc, ◌<◌, ◌≤◌, Bool, true, false, refl, sym, ◌∙◌, arith, Option, None, Some, min, nat_le, nat_lt, if◌then◌else◌}
use Rattle.pool_alloc.proofs.Imports.{div_ceil, div_ceil_times, ltb-true, leb-true, both_true, rounded_up_above, rounded_up, first_too_great, is_batch_size, faulting_bytes, first_broken_rule, is_page_size, is_shard_count, keys_suffice, keys_used, may_stripe, may_use, or_else, rounds_up, slab_fits, slab_stripes, unless, BadConfig, PageSize, Shards, DecommitBatch, Reservation, KeysNotOffered, SlabArithmetic, PoolingAllocationConfig, Tunables, Offered, has_room, settings_slab, settings_speak}

-- a factor of a number above 0 is above 0
pub some_times : (n k m : ℕ) → 0 < n → n ≤ k * m → 0 < k
some_times n zero m some under = absurd (omega (arith, some, under))
some_times n (suc k) m some under = omega arith

few_if : (b : Bool) (keys rest : ℕ) → keys ≤ 15 → (if b then min keys rest else 1) < 256
few_if true keys rest few = omega (arith, few)
few_if false keys rest few = omega arith

few_keys : (b : Bool) (offered most : ℕ) → offered ≤ 15 → (if b then min offered most else 0) ≤ 15
few_keys true offered most few = omega (arith, few)
few_keys false offered most few = omega arith

pub few_stripes : (c : PoolingAllocationConfig) (t : Tunables) (page : ℕ) (o : Offered) → o.keys ≤ 15 → slab_stripes c t page o < 256
few_stripes c t page o few = few_if (may_stripe c t o) (keys_used c o) _ (few_keys (may_use c.memory_protection_keys) o.keys c.max_memory_protection_keys few)

some_if : (b : Bool) (n : ℕ) → (b ≡ true → 0 < n) → 0 < (if b then n else 1)
some_if true n some = some refl
some_if false n some = omega arith

-- Where the slab can be striped there are guards, memories of some size, slots and keys.
pub some_stripes : (c : PoolingAllocationConfig) (t : Tunables) (page : ℕ) (o : Offered) → 0 < page → 0 < slab_stripes c t page o
some_stripes c t page o paged =
    let greatest : ℕ = rounded_up page c.limits.max_memory_size in
    some_if (may_stripe c t o) _
    (λ striped.
    let guards = both_true (nat_lt 0 t.memory_guard_size) _ striped in
    let sizes = both_true (nat_lt 0 c.limits.max_memory_size) _ guards.1 in
    let slots = both_true (nat_lt 0 c.limits.total_memories) _ sizes.1 in
    let size : 0 < c.limits.max_memory_size = ltb-true _ _ sizes.0 in
    let number : 0 < c.limits.total_memories = ltb-true _ _ slots.0 in
    let keys : 2 ≤ keys_used c o = leb-true _ _ slots.1 in
    let up : c.limits.max_memory_size ≤ greatest = rounded_up_above page c.limits.max_memory_size paged in
    let reach : greatest ≤ faulting_bytes c t page = omega arith in
    let room : 0 < div_ceil (faulting_bytes c t page) greatest = some_times (faulting_bytes c t page) _ greatest (omega (arith, reach, up, size)) (div_ceil_times (faulting_bytes c t page) greatest (omega (arith, up, size))).0 in
    omega (arith, keys, room, number))

within_if : (b : Bool) (keys room slots : ℕ) → 0 < slots → (if b then min keys (min room slots) else 1) ≤ slots
within_if true keys room slots some = omega arith
within_if false keys room slots some = omega (arith, some)

-- Where there are slots, there are no more stripes.
pub within_slots : (c : PoolingAllocationConfig) (t : Tunables) (page : ℕ) (o : Offered) → 0 < c.limits.total_memories → slab_stripes c t page o ≤ c.limits.total_memories
within_slots c t page o some = within_if (may_stripe c t o) (keys_used c o) _ c.limits.total_memories some

neither : (a b : Option BadConfig) → or_else a b ≡ None → (a ≡ None) × (b ≡ None)
neither None b h = (refl, h)
neither (Some e) b h = absurd (cc h)

passed : (b : Bool) (e : BadConfig) → unless b e ≡ None → b ≡ true
passed true e h = refl
passed false e h = absurd (cc h)

-- Where no rule is broken, that on the slab isn't.
pub slab_kept : (c : PoolingAllocationConfig) (t : Tunables) (page shards : ℕ) (o : Offered) → first_broken_rule c t page shards o ≡ None → slab_fits c t page o ≡ true
slab_kept c t page shards o h =
    let sizes = neither (unless (is_page_size page) (PageSize page)) _ h in
    let counts = neither (unless (is_shard_count shards) (Shards shards)) _ sizes.1 in
    let batch = neither (unless (is_batch_size c.decommit_batch_size) (DecommitBatch c.decommit_batch_size)) _ counts.1 in
    let great = neither (first_too_great c o) _ batch.1 in
    let reserved = neither (unless (nat_le c.limits.max_memory_size t.memory_reservation) (Reservation c.limits.max_memory_size t.memory_reservation)) _ great.1 in
    let keys = neither (unless (keys_suffice c o) KeysNotOffered) _ reserved.1 in
    passed (slab_fits c t page o) SlabArithmetic (neither (unless (slab_fits c t page o) SlabArithmetic) _ keys.1).0

-- Then its sizes can be rounded up, and it has a layout.
pub record HasSlab (c : PoolingAllocationConfig) (t : Tunables) (page : ℕ) (o : Offered) : Type 0 where
  pub reserved : t.memory_reservation + page - 1 < 2 ^ 64
  pub greatest : c.limits.max_memory_size + page - 1 < 2 ^ 64
  pub guard : t.memory_guard_size + page - 1 < 2 ^ 64
  pub room : has_room (settings_slab c t page o) ≡ true

pub slab_there : (c : PoolingAllocationConfig) (t : Tunables) (page : ℕ) (o : Offered) → 0 < page → slab_fits c t page o ≡ true → HasSlab c t page o
slab_there c t page o some fits =
    let all = sym (settings_speak c t page o some).rule ∙ fits in
    let reserved = both_true (rounds_up page t.memory_reservation) _ all in
    let greatest = both_true (rounds_up page c.limits.max_memory_size) _ reserved.1 in
    let guard = both_true (rounds_up page t.memory_guard_size) _ greatest.1 in
    record { reserved = ltb-true _ _ reserved.0; greatest = ltb-true _ _ greatest.0; guard = ltb-true _ _ guard.0; room = guard.1 }

-- The lengths of regions that addresses don't reach.
use Rattle.std.proofs.Common.{◌≡◌, ℕ, ◌+◌, ◌-◌, ◌^◌, ◌<◌, ◌≤◌, subst, arith}
use Rattle.pool_memory.proofs.Imports.{IsPageSize, rounded_up, guard_size, MemoryTunables, rounded_past}
use Rattle.pool_memory.specs.Layouts.{Layout, layout_len, first_room, first_layout, moved_layout}

-- a size that can't be rounded up
pub size_past : (l : Layout) (page size extra : ℕ) → page ≡ l.page → IsPageSize page → (size + page - 1 < 2 ^ 64 → ⊥) → layout_len (moved_layout size extra l) < 2 ^ 64 → ⊥
size_past l page size extra same sized past fits =
    let P : ℕ → Type 0 = λ p. 2 ^ 64 ≤ rounded_up p size in
    let over : 2 ^ 64 ≤ rounded_up l.page size = subst P same (rounded_past page size sized past) in
    omega (arith, over, fits)

pub extra_past : (l : Layout) (page size extra : ℕ) → page ≡ l.page → IsPageSize page → (extra + page - 1 < 2 ^ 64 → ⊥) → layout_len (moved_layout size extra l) < 2 ^ 64 → ⊥
extra_past l page size extra same sized past fits =
    let P : ℕ → Type 0 = λ p. 2 ^ 64 ≤ rounded_up p extra in
    let over : 2 ^ 64 ≤ rounded_up l.page extra = subst P same (rounded_past page extra sized past) in
    omega (arith, over, fits)

-- a guard, and what is set aside, that can't be rounded up
pub guard_past : (page : ℕ) (tunables : MemoryTunables) (minimum guard : ℕ) → guard ≡ guard_size tunables → IsPageSize page → (guard + page - 1 < 2 ^ 64 → ⊥) → layout_len (first_layout page tunables minimum) < 2 ^ 64 → ⊥
guard_past page tunables minimum guard same sized past fits =
    let P : ℕ → Type 0 = λ n. 2 ^ 64 ≤ rounded_up page n in
    let over : 2 ^ 64 ≤ rounded_up page (guard_size tunables) = subst P same (rounded_past page guard sized past) in
    omega (arith, over, fits)

pub room_past : (page : ℕ) (tunables : MemoryTunables) (minimum room : ℕ) → room ≡ first_room tunables minimum → IsPageSize page → (room + page - 1 < 2 ^ 64 → ⊥) → layout_len (first_layout page tunables minimum) < 2 ^ 64 → ⊥
room_past page tunables minimum room same sized past fits =
    let P : ℕ → Type 0 = λ n. 2 ^ 64 ≤ rounded_up page n in
    let over : 2 ^ 64 ≤ rounded_up page (first_room tunables minimum) = subst P same (rounded_past page room sized past) in
    omega (arith, over, fits)

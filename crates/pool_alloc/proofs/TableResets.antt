-- What a table's slot is once it is reset.
use Rattle.std.proofs.Common.{◌≡◌, ℕ, ◌≤◌, true, List, All, Some, arith, ◌-◌, ◌^◌}
use Rattle.pool_alloc.proofs.Imports.{ByteRange, Slot, IsPart, IsClean, size_of, decommitted_all, Told, IsPlain, IsUnusedFrom, IsReset, RegionNumbers}
use Rattle.pool_alloc.specs.TableLeases.{LeasedTable, table_slot}
use Rattle.pool_alloc.specs.TableSteps.{IsInRegion, bytes_used}

-- It can be zeroed by hand, and is clean once its ranges are decommitted.
pub table_is_reset : (page : ℕ) (l : LeasedTable) (region : Told) (ranges : List ByteRange) (s : Slot) (kept : ℕ) (numbers : RegionNumbers) → IsInRegion page l region → IsPlain s
    → s.static_size ≡ region.len - 0 → kept ≤ bytes_used page l → IsUnusedFrom (bytes_used page l) s → All (IsPart s.region.page (size_of s)) ranges → IsClean (decommitted_all ranges s)
    → IsReset ranges (record { name = table_slot l.index; slot = s; known = true; bytes = kept; by_hand = Some (bytes_used page l); numbers = numbers })
table_is_reset page l region ranges s kept numbers in_region plain size most unused parts clean =
    let used : ℕ = bytes_used page l in
    let within : used ≤ s.accessible.bytes = omega (arith, in_region.within, size, plain.all) in
    let few : kept ≤ 2 ^ 32 = omega (arith, most, in_region.within, in_region.few) in
    record {
      fits = plain.fits;
      parts = parts;
      clean = λ _. clean;
      by_hand = tt;
      zeroed = record { fits = plain.fits; image = plain.image; not_dirty = plain.not_dirty; all = plain.all; within = within; ready = plain.ready; rest = unused };
      bytes = few;
    }

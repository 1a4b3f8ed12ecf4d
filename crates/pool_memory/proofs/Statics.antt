-- What is kept of a memory that stays in its slot.
use Rattle.std.proofs.Common.{◌≡◌, ℕ, ◌+◌, ◌-◌, ◌<◌, ◌≤◌, List, length, refl, sym, ap, ◌∙◌, arith, slice_range, replicate, Option, Some, None, IfSome, option_map}
use Rattle.pool_memory.proofs.Imports.{rounded_up, Contents, written, range-put_above, range_range, Slot, IsSlot, IsSound, IsReady, size_of, written_at, rounded_up_above, rounded_up_more}
use Rattle.pool_memory.specs.Linear.{IsLinear, linear_bytes, ready}
use Rattle.pool_memory.specs.Static.{Static, IsStatic, CanHold, linear_of, static_capacity}
use Rattle.pool_memory.proofs.Bytes.{zeros_part}

pub some_page : (s : Slot) → IsSlot s → 0 < s.region.page
some_page s fits = omega (arith, fits.sizes.page_size.at_least)

-- the bytes that a slot may have lie in its region
pub static_inside : (s : Slot) → IsSlot s → s.base.bytes + s.static_size ≤ s.region.len
static_inside s fits = omega (arith, fits.sizes.inside, rounded_up_above s.region.page s.static_size (some_page s fits))

-- what a memory may have is what its slot may have
pub capacity_inside : (m : Static) → IsSlot m.slot → IsStatic m → m.capacity ≤ m.slot.static_size
capacity_inside m fits is = omega (arith, is.room, rounded_up_above m.slot.region.page m.capacity (some_page m.slot fits))

-- what was read of the slot is read of the memory
read_of : (m : Static) (from len : ℕ) (out : List ℕ) (o : Option Contents) → from + len ≤ m.size → IfSome o (λ c. out ≡ slice_range c.bytes (m.slot.base.bytes + from) (m.slot.base.bytes + from + len)) → IfSome (option_map (λ c. slice_range c.bytes m.slot.base.bytes (m.slot.base.bytes + m.size)) o) (λ bytes. out ≡ slice_range bytes from (from + len))
read_of m from len out None fits told = told
read_of m from len out (Some c) fits told =
    let place : m.slot.base.bytes + from + len ≡ m.slot.base.bytes + (from + len) = omega arith in
    told
    ∙ ap (λ (n : ℕ). slice_range c.bytes (m.slot.base.bytes + from) n) place
    ∙ sym (range_range c.bytes m.slot.base.bytes (m.slot.base.bytes + m.size) from (from + len) (omega (arith, fits)))

pub read_static : (m : Static) (from len : ℕ) (out : List ℕ) → from + len ≤ m.size → IfSome m.slot.region.contents (λ c. out ≡ slice_range c.bytes (m.slot.base.bytes + from) (m.slot.base.bytes + from + len)) → IfSome (linear_bytes (linear_of m)) (λ bytes. out ≡ slice_range bytes from (from + len))
read_static m from len out fits told = read_of m from len out m.slot.region.contents fits told

zeros_behind : (m : Static) (n : ℕ) (o : Option Contents) → IsSlot m.slot → m.size ≤ n → n ≤ m.slot.static_size → IfSome o (IsSound m.slot.region.page m.slot.region.len m.slot.base.bytes (size_of m.slot)) → IfSome o (λ c. slice_range c.bytes (m.slot.base.bytes + m.size) (m.slot.base.bytes + m.slot.static_size) ≡ replicate (m.slot.static_size - m.size) 0) → IfSome (option_map (λ c. slice_range c.bytes m.slot.base.bytes (m.slot.base.bytes + n)) o) (λ bytes. slice_range bytes m.size n ≡ replicate (n - m.size) 0)
zeros_behind m n None fits from to sound zeros = zeros
zeros_behind m n (Some c) fits from to sound zeros =
    range_range c.bytes m.slot.base.bytes (m.slot.base.bytes + n) m.size n (omega arith)
    ∙ zeros_part c.bytes m.slot.base.bytes m.size m.slot.static_size m.size n (omega (arith, static_inside m.slot fits, sound.shaped.bytes)) (omega arith) from to zeros

-- it is a linear memory
pub static_is_linear : (m : Static) → IsSlot m.slot → IsStatic m → IsLinear (linear_of m)
static_is_linear m fits is =
    record {
      within = is.within;
      reached = is.slot.reached;
      zeros = zeros_behind m (ready (linear_of m)) m.slot.region.contents fits (omega (arith, is.within, is.slot.reached)) (omega (arith, capacity_inside m fits is)) fits.told is.slot.zeros;
    }

zeros_written : (s : Slot) (size at : ℕ) (new : List ℕ) (o : Option Contents) → IsSlot s → size ≤ s.static_size → at + length new ≤ size → IfSome o (IsSound s.region.page s.region.len s.base.bytes (size_of s)) → IfSome o (λ c. slice_range c.bytes (s.base.bytes + size) (s.base.bytes + s.static_size) ≡ replicate (s.static_size - size) 0) → IfSome (option_map (written (s.base.bytes + at) new) o) (λ c. slice_range c.bytes (s.base.bytes + size) (s.base.bytes + s.static_size) ≡ replicate (s.static_size - size) 0)
zeros_written s size at new None fits inside below sound zeros = zeros
zeros_written s size at new (Some c) fits inside below sound zeros =
    range-put_above (s.base.bytes + at) new c.bytes (s.base.bytes + size) (s.base.bytes + s.static_size) (omega (arith, static_inside s fits, sound.shaped.bytes)) (omega (arith, static_inside s fits, sound.shaped.bytes)) (omega arith) ∙ zeros

-- it is one still where bytes of it were written
pub written_is_static : (m : Static) (at : ℕ) (new : List ℕ) → IsSlot m.slot → IsStatic m → at + length new ≤ m.size → IfSome (written_at at new m.slot).region.contents (IsReady (written_at at new m.slot)) → IsStatic (record m { slot = written_at at new m.slot })
written_is_static m at new fits is below ready =
    record {
      slot = record {
        in_use = record { dirty = refl; ready = ready };
        reached = is.slot.reached;
        inside = is.slot.inside;
        zeros = zeros_written m.slot m.size at new m.slot.region.contents fits is.slot.inside below fits.told is.slot.zeros;
      };
      within = is.within;
      room = is.room;
    }

capacity_least : (base_capacity : ℕ) (maximum : Option ℕ) → static_capacity base_capacity maximum ≤ base_capacity
capacity_least base_capacity None = omega arith
capacity_least base_capacity (Some most) = omega arith

capacity_most : (base_capacity initial : ℕ) (maximum : Option ℕ) → initial ≤ base_capacity → IfSome maximum (λ most. initial ≤ most) → initial ≤ static_capacity base_capacity maximum
capacity_most base_capacity initial None inside below = inside
capacity_most base_capacity initial (Some most) inside below = omega arith

-- it is one as it is made
pub made_is_static : (s : Slot) (base_capacity initial : ℕ) (maximum : Option ℕ) → IsSlot s → CanHold initial s → initial ≤ base_capacity → IfSome maximum (λ most. initial ≤ most) → rounded_up s.region.page base_capacity ≤ s.static_size → IsStatic (record { slot = s; size = initial; capacity = static_capacity base_capacity maximum })
made_is_static s base_capacity initial maximum fits holds inside below room =
    record {
      slot = holds;
      within = capacity_most base_capacity initial maximum inside below;
      room = omega (arith, room, rounded_up_more s.region.page (static_capacity base_capacity maximum) base_capacity (some_page s fits) (capacity_least base_capacity maximum));
    }

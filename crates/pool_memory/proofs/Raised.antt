-- A memory that stays in its slot, where more of the slot is exposed.
use Rattle.std.proofs.Common.{◌≡◌, ℕ, ◌+◌, ◌-◌, ◌≤◌, ◌++◌, true, List, length, refl, sym, ap, ◌∙◌, subst, arith, slice_range, replicate, Option, Some, None, IfSome, option_map}
use Rattle.pool_memory.proofs.Imports.{rounded_up, Contents, range_join, Slot, SlotIdentity, IsSlot, IsSound, OnlyExposed, size_of, limited, followed, paired, rounded_up_more}
use Rattle.pool_memory.specs.Growing.{GrowsTo, IsCallPlanned}
use Rattle.pool_memory.specs.Linear.{in_slot}
use Rattle.pool_memory.specs.Static.{Static, IsStatic, linear_of}
use Rattle.pool_memory.proofs.Bytes.{zeros_part}
use Rattle.pool_memory.proofs.Statics.{some_page, static_inside, capacity_inside}

-- what holds of the bytes before holds of them after
pub bytes_carried : (P : List ℕ → Type 0) (old new : Option Contents) → option_map (λ c. c.bytes) new ≡ option_map (λ c. c.bytes) old → IfSome old (λ c. P c.bytes) → IfSome new (λ c. P c.bytes)
bytes_carried P None None same h = h
bytes_carried P None (Some d) same h = absurd cc
bytes_carried P (Some c) None same h = absurd cc
bytes_carried P (Some c) (Some d) same h = let e : d.bytes ≡ c.bytes = cc in subst P (sym e) h

-- the bytes of the slot are there, and zeros behind the memory
record HasZeros (s : Slot) (size : ℕ) (bytes : List ℕ) : Type 0 where
  long : s.base.bytes + s.static_size ≤ length bytes
  zeros : slice_range bytes (s.base.bytes + size) (s.base.bytes + s.static_size) ≡ replicate (s.static_size - size) 0

has_zeros : (m : Static) → IsSlot m.slot → IsStatic m → IfSome m.slot.region.contents (λ c. HasZeros m.slot m.size c.bytes)
has_zeros m fits is =
    let s : Slot = m.slot in
    let Sound : Contents → Type 0 = IsSound s.region.page s.region.len s.base.bytes (size_of s) in
    let Zeros : Contents → Type 0 = λ c. slice_range c.bytes (s.base.bytes + m.size) (s.base.bytes + s.static_size) ≡ replicate (s.static_size - m.size) 0 in
    followed (λ c. Sound c × Zeros c) (λ c. HasZeros s m.size c.bytes) s.region.contents
    (λ c both. record { long = omega (arith, static_inside s fits, both.0.shaped.bytes); zeros = both.1 })
    (paired Sound Zeros s.region.contents fits.told is.slot.zeros)

less_zeros : (s : Slot) (size n : ℕ) (bytes : List ℕ) → size ≤ n → n ≤ s.static_size → HasZeros s size bytes → slice_range bytes (s.base.bytes + n) (s.base.bytes + s.static_size) ≡ replicate (s.static_size - n) 0
less_zeros s size n bytes more within has = zeros_part bytes s.base.bytes size s.static_size n s.static_size has.long more within (omega arith) has.zeros

-- it is one still, with any size that can be reached
pub kept_static : (m : Static) (n : ℕ) (t : Slot) → IsSlot m.slot → IsStatic m → OnlyExposed m.slot t → m.size ≤ n → n ≤ m.capacity → n ≤ t.accessible.bytes → IsStatic (record m { slot = t; size = n })
kept_static m n t fits is kept more within reached =
    let s : Slot = m.slot in
    let base : t.base.bytes ≡ s.base.bytes = ap (λ (i : SlotIdentity). i.base.bytes) kept.same in
    let size : t.static_size ≡ s.static_size = ap (λ (i : SlotIdentity). i.static_size) kept.same in
    let inside : n ≤ s.static_size = omega (arith, capacity_inside m fits is) in
    let zeros : IfSome t.region.contents (λ c. slice_range c.bytes (s.base.bytes + n) (s.base.bytes + s.static_size) ≡ replicate (s.static_size - n) 0) =
    bytes_carried (λ bytes. slice_range bytes (s.base.bytes + n) (s.base.bytes + s.static_size) ≡ replicate (s.static_size - n) 0) s.region.contents t.region.contents kept.bytes
    (followed (λ c. HasZeros s m.size c.bytes) (λ c. slice_range c.bytes (s.base.bytes + n) (s.base.bytes + s.static_size) ≡ replicate (s.static_size - n) 0) s.region.contents (λ c has. less_zeros s m.size n c.bytes more inside has) (has_zeros m fits is)) in
    let Z : ℕ → ℕ → Type 0 = λ b all. IfSome t.region.contents (λ c. slice_range c.bytes (b + n) (b + all) ≡ replicate (all - n) 0) in
    let half : Z t.base.bytes s.static_size = subst (λ (b : ℕ). Z b s.static_size) (sym base) zeros in
    let R : ℕ → ℕ → Type 0 = λ page all. rounded_up page m.capacity ≤ all in
    let room : R t.region.page s.static_size = subst (λ (page : ℕ). R page s.static_size) (sym (ap (λ (i : SlotIdentity). i.page) kept.same)) is.room in
    record {
      slot = record {
        in_use = record { dirty = kept.dirty ∙ is.slot.in_use.dirty; ready = kept.ready is.slot.in_use.ready };
        reached = reached;
        inside = omega (arith, size);
        zeros = subst (λ (all : ℕ). Z t.base.bytes all) (sym size) half;
      };
      within = within;
      room = subst (λ (all : ℕ). R t.region.page all) (sym size) room;
    }

-- the condition of the call on the slot
pub raise_room : (m : Static) (n : ℕ) → IsSlot m.slot → IsStatic m → n ≤ m.capacity → rounded_up m.slot.region.page n ≤ m.slot.static_size
raise_room m n fits is within = omega (arith, is.room, rounded_up_more m.slot.region.page n m.capacity (some_page m.slot fits) within)

longer_bytes : (s : Slot) (size n base : ℕ) (old new : Option Contents) → base ≡ s.base.bytes → size ≤ n → n ≤ s.static_size → option_map (λ c. c.bytes) new ≡ option_map (λ c. c.bytes) old → IfSome old (λ c. HasZeros s size c.bytes) → option_map (λ b. b ++ replicate {A = ℕ} (n - size) 0) (option_map (λ c. slice_range c.bytes s.base.bytes (s.base.bytes + size)) old) ≡ option_map (λ c. slice_range c.bytes base (base + n)) new
longer_bytes s size n base None None at more within same has = refl
longer_bytes s size n base None (Some d) at more within same has = absurd cc
longer_bytes s size n base (Some c) None at more within same has = absurd cc
longer_bytes s size n base (Some c) (Some d) at more within same has =
    let e : d.bytes ≡ c.bytes = cc in
    let zeros : slice_range c.bytes (s.base.bytes + size) (s.base.bytes + n) ≡ replicate (n - size) 0 = zeros_part c.bytes s.base.bytes size s.static_size size n has.long (omega arith) more within has.zeros in
    let whole : slice_range c.bytes s.base.bytes (s.base.bytes + size) ++ replicate (n - size) 0 ≡ slice_range c.bytes s.base.bytes (s.base.bytes + n) =
    ap (λ (l : List ℕ). slice_range c.bytes s.base.bytes (s.base.bytes + size) ++ l) (sym zeros)
    ∙ range_join c.bytes s.base.bytes (s.base.bytes + size) (s.base.bytes + n) (omega arith) (omega arith) (omega (arith, has.long)) in
    let moved : slice_range c.bytes s.base.bytes (s.base.bytes + n) ≡ slice_range d.bytes base (base + n) =
    ap (λ (l : List ℕ). slice_range l s.base.bytes (s.base.bytes + n)) (sym e) ∙ ap (λ (b : ℕ). slice_range d.bytes b (b + n)) (sym at) in
    ap (λ (l : List ℕ). Some l) (whole ∙ moved)

-- it has grown
pub raised_grows : (m : Static) (n : ℕ) (t : Slot) → IsSlot m.slot → IsStatic m → OnlyExposed m.slot t → m.size ≤ n → n ≤ m.capacity → t ≡ limited n m.slot → IsCallPlanned true n (in_slot m.slot) → GrowsTo n (linear_of m) (linear_of (record m { slot = t; size = n }))
raised_grows m n t fits is kept more within raised planned =
    record {
      same_size = refl;
      bytes = λ _. longer_bytes m.slot m.size n t.base.bytes m.slot.region.contents t.region.contents (ap (λ (i : SlotIdentity). i.base.bytes) kept.same) more (omega (arith, capacity_inside m fits is)) kept.bytes (has_zeros m fits is);
      moves = refl;
      extra = refl;
      place = refl;
      moved = λ past. absurd (omega arith);
      in_place = λ _. ap (λ (x : Slot). linear_of (record m { slot = x; size = n })) raised;
      planned = λ _. planned;
    }

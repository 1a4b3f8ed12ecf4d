-- Parts of a region that are set to what they go back to.
use Rattle.std.proofs.Common.{◌≡◌, ℕ, ◌+◌, ◌-◌, ◌/◌, ◌≤◌, true, Bool, List, [], length, take, drop, refl, sym, ap, ◌∙◌, subst, arith, slice_range, Option, Some, None, IfSome, option_map}
use Rattle.pool_images.proofs.Imports.{Count, Contents, IsShaped, CanReach, put, put_all, written, put_back, Told, TellsShaped, restored, length-put, length-range, range-put, range-put_both, put_empty, put_range}
use Rattle.pool_images.specs.Slots.{Slot, IsSlot, Keeps, IsSound, IsReady, size_of, cleared}
use Rattle.pool_images.proofs.Making.{reach_slot}
use Rattle.pool_images.proofs.Ready.{followed}

-- where a part is put back, it is what it goes back to
pub back_here : (i n : ℕ) (bytes origin : List ℕ) → i + n ≤ length bytes → i + n ≤ length origin → slice_range (put i (slice_range origin i (i + n)) bytes) i (i + n) ≡ slice_range origin i (i + n)
back_here i n bytes origin fits room =
    let long : length (slice_range origin i (i + n)) ≡ n = length-range origin i (i + n) room ∙ omega arith in
    let E : ℕ → Type 0 = λ m. slice_range (put i (slice_range origin i (i + n)) bytes) i (i + m) ≡ slice_range origin i (i + n) in
    subst E long (range-put i (slice_range origin i (i + n)) bytes (omega arith))

-- what is what it goes back to still is once a part is put back
pub back_there : (i n a b : ℕ) (bytes origin : List ℕ) → length bytes ≡ length origin → i + n ≤ length origin → b ≤ length origin → slice_range bytes a b ≡ slice_range origin a b → slice_range (put i (slice_range origin i (i + n)) bytes) a b ≡ slice_range origin a b
back_there i n a b bytes origin same fits within holds =
    let long : length (slice_range origin i (i + n)) ≡ n = length-range origin i (i + n) fits ∙ omega arith in
    range-put_both i (slice_range origin i (i + n)) bytes origin a b (omega arith) (sym same) (omega arith) holds
    ∙ ap (λ (l : List ℕ). slice_range l a b) (put_range origin i (i + n) (omega arith) fits)

pub length-back : (i n : ℕ) (bytes origin : List ℕ) → length bytes ≡ length origin → i + n ≤ length origin → length (put i (slice_range origin i (i + n)) bytes) ≡ length origin
length-back i n bytes origin same fits =
    let long : length (slice_range origin i (i + n)) ≡ n = length-range origin i (i + n) fits ∙ omega arith in
    length-put i (slice_range origin i (i + n)) bytes (omega arith) ∙ same

-- no byte is put back
back_none : (i : ℕ) (c : Contents) → put_back i 0 c ≡ c
back_none i c =
    let count : i + 0 - i ≡ 0 = omega arith in
    let none : slice_range c.origin i (i + 0) ≡ [] = ap (λ (n : ℕ). take n (drop i c.origin)) count in
    ap (λ (ys : List ℕ). written i ys c) none
    ∙ ap (λ (xs : List ℕ). record c { bytes = xs; dirty = put_all (i / c.page) 0 true c.dirty }) (put_empty i c.bytes)
    ∙ ap (λ d. record c { dirty = d }) (put_empty (i / c.page) c.dirty)

none_told : (i : ℕ) (o : Option Contents) → option_map (put_back i 0) o ≡ o
none_told i None = refl
none_told i (Some c) = ap (λ (x : Contents). Some x) (back_none i c)

pub restored_none : (i n : ℕ) (t : Told) → n ≡ 0 → t ≡ restored i n t
restored_none i n t none =
    let E : ℕ → Type 0 = λ m. t ≡ restored i m t in
    subst E (sym none) (ap (λ o. record t { contents = o }) (sym (none_told i t.contents)) ∙ ap (λ (ms : List Bool). record t { contents = option_map (put_back i 0) t.contents; marks = ms }) (sym (put_empty (i / t.page) t.marks)))

-- the first bytes of the slot can be reached
pub reach_first : (s : Slot) (n : ℕ) → IsSlot s → IfSome s.region.contents (IsReady s) → n ≤ s.accessible.bytes → IfSome s.region.contents (CanReach s.base.bytes n)
reach_first s n fits ready within =
    let zero : s.base.bytes + 0 ≡ s.base.bytes = omega arith in
    let P : ℕ → Type 0 = λ i. IfSome s.region.contents (CanReach i n) in
    subst P zero (reach_slot s 0 n fits ready (omega arith))

pub tells_shaped : (s : Slot) → IsSlot s → TellsShaped s.region
tells_shaped s fits = followed (IsSound s.region.page s.region.len s.base.bytes (size_of s)) (IsShaped s.region.page s.region.len) s.region.contents (λ c h. h.shaped) fits.told

back_sound : (page len base size i n : ℕ) (o : Option Contents) → IfSome o (IsSound page len base size) → IfSome (option_map (put_back i n) o) (IsShaped page len) → IfSome (option_map (put_back i n) o) (IsSound page len base size)
back_sound page len base size i n None sound shaped = shaped
back_sound page len base size i n (Some c) sound shaped = record { shaped = shaped; outside = sound.outside }

-- a reset by hand leaves the slot's sizes
pub cleared_keeps : (whole : Count) (s : Slot) (kept : ℕ) → Keeps whole s → TellsShaped (cleared kept s).region → Keeps whole (cleared kept s)
cleared_keeps whole s kept keeps shaped = record {
  size = keeps.size;
  fits = record {
    sizes = keeps.fits.sizes;
    told = back_sound s.region.page s.region.len s.base.bytes (size_of s) s.base.bytes kept s.region.contents keeps.fits.told shaped;
  };
}

-- A memory that moves to another region.
use Rattle.std.proofs.Common.{◌≡◌, ℕ, ◌+◌, ◌-◌, ◌%◌, ◌≤◌, ◌++◌, true, false, List, length, refl, sym, ap, ◌∙◌, subst, arith, slice_range, replicate, Option, Some, None, IfSome, option_map}
use Rattle.pool_memory.proofs.Imports.{range_join, length-put, range-put, range-put_above, followed, rounded_same, rounded_up, Contents, put, Slot, IsSlot, IsSound, size_of}
use Rattle.pool_memory.proofs.Bytes.{zeros_part}
use Rattle.pool_memory.proofs.Copies.{none_copied}
use Rattle.pool_memory.proofs.Mapped.{used_ready}
use Rattle.pool_memory.proofs.Statics.{static_inside}
use Rattle.pool_memory.specs.Copying.{IsCopied}
use Rattle.pool_memory.specs.Layouts.{Layout, layout_len}
use Rattle.pool_memory.specs.Linear.{linear_bytes}
use Rattle.pool_memory.specs.Mapped.{Mapped, IsMapped, KeepsLayout, IsMadeSlot, HasMoved, used, mapped_linear}
use Rattle.pool_memory.specs.Static.{IsStatic}

-- all bytes of the slot are there
pub all_there : (s : Slot) → IsSlot s → IfSome s.region.contents (λ c. s.base.bytes + s.static_size ≤ length c.bytes)
all_there s fits =
    followed (IsSound s.region.page s.region.len s.base.bytes (size_of s)) (λ c. s.base.bytes + s.static_size ≤ length c.bytes) s.region.contents
    (λ c sound. omega (arith, sound.shaped.bytes, static_inside s fits)) fits.told

-- what is behind the bytes that were copied
part_behind : (base len size all : ℕ) (b : List ℕ) (new old : Option Contents) → length b ≡ len → len ≤ size → size ≤ all → IfSome old (λ c. base + all ≤ length c.bytes)
    → option_map (λ c. c.bytes) new ≡ option_map (λ c. put (base + 0) b c.bytes) old → IfSome old (λ c. slice_range c.bytes base (base + all) ≡ replicate all 0) → IfSome new (λ c. slice_range c.bytes (base + size) (base + all) ≡ replicate (all - size) 0)
part_behind base len size all b None None long within inside fits is zeros = tt
part_behind base len size all b None (Some c) long within inside fits is zeros = absurd cc
part_behind base len size all b (Some d) None long within inside fits is zeros = absurd cc
part_behind base len size all b (Some d) (Some c) long within inside fits is zeros =
    let e : d.bytes ≡ put (base + 0) b c.bytes = cc in
    let from : base + 0 ≡ base = omega arith in
    let less : all - 0 ≡ all = omega arith in
    ap (λ (l : List ℕ). slice_range l (base + size) (base + all)) e
    ∙ range-put_above (base + 0) b c.bytes (base + size) (base + all) (omega (arith, long)) (omega arith) (omega (arith, long))
    ∙ zeros_part c.bytes base 0 all size all (omega arith) (omega arith) inside (omega arith) (ap (λ (n : ℕ). slice_range c.bytes n (base + all)) from ∙ zeros ∙ ap (λ (n : ℕ). replicate {A = ℕ} n 0) (sym less))

-- the bytes that it has then
part_read : (base other len size all : ℕ) (b : List ℕ) (new old from : Option Contents) → length b ≡ len → len ≤ size → size ≤ all → IfSome old (λ c. base + all ≤ length c.bytes)
    → option_map (λ c. c.bytes) new ≡ option_map (λ c. put (base + 0) b c.bytes) old → IfSome old (λ c. slice_range c.bytes base (base + all) ≡ replicate all 0) → IfSome from (λ c. b ≡ slice_range c.bytes (other + 0) (other + 0 + len))
    → IfSome (option_map (λ c. slice_range c.bytes other (other + len)) from) (λ x. IfSome (option_map (λ c. slice_range c.bytes base (base + size)) new) (λ y. y ≡ x ++ replicate (size - len) 0))
part_read base other len size all b new old None long within inside fits is zeros told = tt
part_read base other len size all b None old (Some f) long within inside fits is zeros told = tt
part_read base other len size all b (Some d) None (Some f) long within inside fits is zeros told = absurd cc
part_read base other len size all b (Some d) (Some c) (Some f) long within inside fits is zeros told =
    let e : d.bytes ≡ put (base + 0) b c.bytes = cc in
    let from : base + 0 ≡ base = omega arith in
    let here : base + len ≡ base + 0 + length b = omega (arith, long) in
    let there : other + 0 ≡ other = omega arith in
    let less : all - 0 ≡ all = omega arith in
    let p : List ℕ = put (base + 0) b c.bytes in
    let longer : length p ≡ length c.bytes = length-put (base + 0) b c.bytes (omega (arith, long)) in
    let first : slice_range p base (base + len) ≡ b = ap (λ (n : ℕ). slice_range p n (base + len)) (sym from) ∙ ap (λ (n : ℕ). slice_range p (base + 0) n) here ∙ range-put (base + 0) b c.bytes (omega (arith, long)) in
    let second : slice_range p (base + len) (base + size) ≡ replicate (size - len) 0 =
    range-put_above (base + 0) b c.bytes (base + len) (base + size) (omega (arith, long)) (omega arith) (omega (arith, long))
    ∙ zeros_part c.bytes base 0 all len size (omega arith) (omega arith) within inside (ap (λ (n : ℕ). slice_range c.bytes n (base + all)) from ∙ zeros ∙ ap (λ (n : ℕ). replicate {A = ℕ} n 0) (sym less)) in
    let read : b ≡ slice_range f.bytes other (other + len) = told ∙ ap (λ (n : ℕ). slice_range f.bytes n (n + len)) there in
    ap (λ (l : List ℕ). slice_range l base (base + size)) e
    ∙ sym (range_join p base (base + len) (base + size) (omega arith) (omega arith) (omega (arith, longer)))
    ∙ ap (λ (l : List ℕ). l ++ slice_range p (base + len) (base + size)) (first ∙ read)
    ∙ ap (λ (l : List ℕ). slice_range f.bytes other (other + len) ++ l) second

-- the slot that a memory has moved to holds it
pub moved_static : (l : Layout) (len size : ℕ) (from s t : Slot) → IsSlot s → IsMadeSlot l size s → len ≤ size → IsCopied 0 len from s t → IsStatic (record { slot = used t; size = size; capacity = t.static_size })
moved_static l len size from s t fits made more copied =
    let base : t.base.bytes ≡ s.base.bytes = ap (λ (x : Slot). x.base.bytes) copied.written.same in
    let static : t.static_size ≡ s.static_size = ap (λ (x : Slot). x.static_size) copied.written.same in
    let access : t.accessible.bytes ≡ s.accessible.bytes = ap (λ (x : Slot). x.accessible.bytes) copied.written.same in
    let page : t.region.page ≡ s.region.page = ap (λ (x : Slot). x.region.page) copied.written.same in
    let same : rounded_up t.region.page t.static_size ≡ t.static_size = ap (λ (p : ℕ). rounded_up p t.static_size) page ∙ ap (rounded_up s.region.page) static ∙ rounded_same s.region.page s.static_size (omega (arith, fits.sizes.page_size.at_least)) made.whole ∙ sym static in
    let zeros : IfSome t.region.contents (λ c. slice_range c.bytes (s.base.bytes + size) (s.base.bytes + s.static_size) ≡ replicate (s.static_size - size) 0) =
    part_behind s.base.bytes len size s.static_size copied.bytes t.region.contents s.region.contents copied.long more made.inside (all_there s fits) copied.put made.zeros in
    let Z : ℕ → ℕ → Type 0 = λ b all. IfSome t.region.contents (λ c. slice_range c.bytes (b + size) (b + all) ≡ replicate (all - size) 0) in
    record {
      slot = record {
        in_use = record { dirty = refl; ready = used_ready t copied.ready };
        reached = omega (arith, access, made.reached);
        inside = omega (arith, static, made.inside);
        zeros = subst (λ (all : ℕ). Z t.base.bytes all) (sym static) (subst (λ (b : ℕ). Z b s.static_size) (sym base) zeros);
      };
      within = omega (arith, static, made.inside);
      room = omega (arith, same);
    }

-- it is one of its kind
pub moved_mapped : (l : Layout) (len size extra : ℕ) (from s t : Slot) → IsSlot s → IsMadeSlot l size s → len ≤ size → IsCopied 0 len from s t → IsMapped (record { slot = t; size = size; extra = extra; as_made = false; known = true })
moved_mapped l len size extra from s t fits made more copied =
    let base : t.base.bytes ≡ s.base.bytes = ap (λ (x : Slot). x.base.bytes) copied.written.same in
    let static : t.static_size ≡ s.static_size = ap (λ (x : Slot). x.static_size) copied.written.same in
    let page : t.region.page ≡ s.region.page = ap (λ (x : Slot). x.region.page) copied.written.same in
    let long : t.region.len ≡ s.region.len = ap (λ (x : Slot). x.region.len) copied.written.same in
    record {
      holds = λ _. moved_static l len size from s t fits made more copied;
      clean = λ yes. absurd (cc yes);
      known_made = λ yes. absurd (cc yes);
      unmapped = λ yes. absurd (cc yes);
      restores = ap (λ (x : Slot). x.region.behaviour) copied.written.same ∙ made.restores;
      whole = ap (λ (n : ℕ). n % t.region.page) static ∙ ap (λ (p : ℕ). s.static_size % p) page ∙ made.whole;
      inside = omega (arith, base, static, long, static_inside s fits);
      empty = λ no. absurd (cc no);
    }

-- and keeps the layout of the slot
pub moved_keeps : (l : Layout) (len size extra : ℕ) (from s t : Slot) → IsSlot s → IsMadeSlot l size s → len ≤ size → IsCopied 0 len from s t → KeepsLayout l (record { slot = t; size = size; extra = extra; as_made = false; known = true })
moved_keeps l len size extra from s t fits made more copied = let whole : layout_len l ≡ s.region.len = ap layout_len (sym made.layout) ∙ omega (arith, static_inside s fits) in record {
  is = moved_mapped l len size extra from s t fits made more copied;
  before = sym (ap (λ (x : Layout). x.before) made.layout) ∙ sym (ap (λ (x : Slot). x.base.bytes) copied.written.same);
  capacity = sym (ap (λ (x : Layout). x.capacity) made.layout) ∙ sym (ap (λ (x : Slot). x.static_size) copied.written.same);
  page = sym (ap (λ (x : Layout). x.page) made.layout) ∙ sym (ap (λ (x : Slot). x.region.page) copied.written.same);
  len = whole ∙ sym (ap (λ (x : Slot). x.region.len) copied.written.same);
}

-- the memory has moved
pub has_moved : (l : Layout) (m : Mapped) (size : ℕ) (s t : Slot) → IsSlot s → IsMadeSlot l size s → m.size ≤ size → IsCopied 0 m.size m.slot s t → HasMoved size s m (record { slot = t; size = size; extra = m.extra; as_made = false; known = true })
has_moved l m size s t fits made more copied =
    let base : t.base.bytes ≡ s.base.bytes = ap (λ (x : Slot). x.base.bytes) copied.written.same in
    let B : ℕ → Type 0 = λ b. IfSome (linear_bytes (mapped_linear m)) (λ x. IfSome (option_map (λ c. slice_range c.bytes b (b + size)) t.region.contents) (λ y. y ≡ x ++ replicate (size - m.size) 0)) in
    record {
      sized = refl;
      extra = refl;
      known = refl;
      place = record { tells = copied.written.tells; same = ap used copied.written.same };
      bytes = subst B (sym base) (part_read s.base.bytes m.slot.base.bytes m.size size s.static_size copied.bytes t.region.contents s.region.contents m.slot.region.contents copied.long more made.inside (all_there s fits) copied.put made.zeros copied.told);
    }

-- a memory that was just made keeps the layout that it was made in
pub new_keeps : (l : Layout) (size extra : ℕ) (s : Slot) → IsMadeSlot l size s → KeepsLayout l (record { slot = s; size = size; extra = extra; as_made = true; known = true })
new_keeps l size extra s made =
    let k = moved_keeps l 0 size extra s s s made.fits made (omega arith) (none_copied s s made.clean.ready) in
    record {
      is = record {
        holds = k.is.holds;
        clean = λ _. made.clean;
        known_made = λ _. refl;
        unmapped = λ _. made.image;
        restores = k.is.restores;
        whole = k.is.whole;
        inside = k.is.inside;
        empty = λ no. absurd (cc no);
      };
      before = k.before;
      capacity = k.capacity;
      page = k.page;
      len = k.len;
    }

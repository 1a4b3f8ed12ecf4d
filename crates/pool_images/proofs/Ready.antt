-- What each call makes of a slot that is clean or in use.
use Rattle.std.proofs.Common.{◌≡◌, ℕ, ◌+◌, ◌-◌, ◌/◌, ◌%◌, ◌<◌, ◌≤◌, List, length, replicate, sym, ap, ◌∙◌, subst, arith, slice_range, Option, Some, None, IfSome, option_map}
use Rattle.pool_images.proofs.Imports.{Count, count, Contents, CanReach, put, exposed, hidden, exposing, hiding, div-mul-le_self, le-div_iff_mul-le, sub_whole, range_within}
use Rattle.pool_images.specs.Images.{Image, start}
use Rattle.pool_images.specs.declared.image_slot.ImageName.{ImageName}
use Rattle.pool_images.specs.Slots.{Slot, IsSlot, IsSound, IsReady, IsClean, Holds, HasImage, size_of, name_of, image_bytes, origin_image, placed, called}
use Rattle.pool_images.proofs.Marks.{reach_exposed, reach_hidden, range-zeros, range-put_around}

-- what holds of a told region that a clean slot is in
pub record IsGood (s : Slot) (c : Contents) : Type 0 where
  pub image : s.image ≡ origin_image s
  pub sound : IsSound s.region.page s.region.len s.base.bytes (size_of s) c
  pub ready : IsReady s c
  pub holds : Holds s 0 (size_of s) c

good_of : (s : Slot) (o : Option Contents) → s.image ≡ origin_image s → IfSome o (IsSound s.region.page s.region.len s.base.bytes (size_of s)) → IfSome o (IsReady s) → IfSome o (Holds s 0 (size_of s)) → IfSome o (IsGood s)
good_of s None image sound ready holds = sound
good_of s (Some c) image sound ready holds = record { image = image; sound = sound; ready = ready; holds = holds }

pub good : (s : Slot) → IsSlot s → IsClean s → IfSome s.region.contents (IsGood s)
good s fits clean = good_of s s.region.contents clean.image fits.told clean.ready clean.holds

-- what holds of told pages that are what they go back to
pub record IsStarted (s : Slot) (c : Contents) : Type 0 where
  pub ready : IsReady s c
  pub holds : Holds s 0 (size_of s) c

-- from what is told before a call to what is told after it
pub lifted : (P Q : Contents → Type 0) (f : Contents → Contents) (o : Option Contents) → ((c : Contents) → P c → Q (f c)) → IfSome o P → IfSome (option_map f o) Q
lifted P Q f None step told = told
lifted P Q f (Some c) step told = step c told

pub followed : (P Q : Contents → Type 0) (o : Option Contents) → ((c : Contents) → P c → Q c) → IfSome o P → IfSome o Q
followed P Q None step told = told
followed P Q (Some c) step told = step c told

pub paired : (P Q : Contents → Type 0) (o : Option Contents) → IfSome o P → IfSome o Q → IfSome o (λ c. P c × Q c)
paired P Q None left right = left
paired P Q (Some c) left right = (left, right)

-- a part of what holds of a whole slot
part_holds : (s : Slot) (c : Contents) (from to : ℕ) → IsSlot s → IsSound s.region.page s.region.len s.base.bytes (size_of s) c → to ≤ size_of s → Holds s 0 (size_of s) c → Holds s from to c
part_holds s c from to fits sound within holds =
    range_within c.bytes c.origin (s.base.bytes + 0) (s.base.bytes + size_of s) (s.base.bytes + from) (s.base.bytes + to)
    (omega (arith, sound.shaped.bytes, fits.sizes.inside)) (omega (arith, sound.shaped.origin, fits.sizes.inside)) (omega arith) (omega arith) holds

-- the first bytes of such a slot
held : (s : Slot) (n : ℕ) (c : Contents) → IsSlot s → IsSound s.region.page s.region.len s.base.bytes (size_of s) c → n ≤ size_of s → Holds s 0 (size_of s) c → slice_range c.bytes s.base.bytes (s.base.bytes + n) ≡ slice_range c.origin s.base.bytes (s.base.bytes + n)
held s n c fits sound within holds =
    range_within c.bytes c.origin (s.base.bytes + 0) (s.base.bytes + size_of s) s.base.bytes (s.base.bytes + n)
    (omega (arith, sound.shaped.bytes, fits.sizes.inside)) (omega (arith, sound.shaped.origin, fits.sizes.inside)) (omega arith) (omega arith) holds

-- the page of the contents is the region's, and can be told from zero
pub page_some : (s : Slot) (c : Contents) → IsSlot s → IsSound s.region.page s.region.len s.base.bytes (size_of s) c → 0 < c.page
page_some s c fits sound = rw sound.shaped.same_page (omega (arith, fits.sizes.page_size.at_least))

-- a place inside the slot is in a page of the region
pub page_inside : (s : Slot) (c : Contents) (n : ℕ) → IsSlot s → IsSound s.region.page s.region.len s.base.bytes (size_of s) c → n ≤ size_of s → (s.base.bytes + n) / c.page ≤ length c.accessible
page_inside s c n fits sound within =
    let some : 0 < s.region.page = omega (arith, fits.sizes.page_size.at_least) in
    rw (sound.shaped.same_page, sound.shaped.accessible) ((le-div_iff_mul-le some).1 (omega (arith, fits.sizes.inside, div-mul-le_self (s.base.bytes + n) s.region.page)))

ready_exposed : (s : Slot) (size : ℕ) → IsSlot s → s.accessible.bytes ≤ size → size ≤ size_of s → size % s.region.page ≡ 0 → (c : Contents) → IsGood s c → IsReady (record (called (exposing (s.base.bytes + s.accessible.bytes) (size - s.accessible.bytes)) s) { accessible = count s.region.page size }) (exposed (s.base.bytes + s.accessible.bytes) (size - s.accessible.bytes) c)
ready_exposed s size fits more within size_whole c g =
    let page : c.page ≡ s.region.page = g.sound.shaped.same_page in
    let rest : (size - s.accessible.bytes) % s.region.page ≡ 0 = sub_whole size s.accessible.bytes s.region.page size_whole fits.sizes.accessible_whole in
    let sum : s.accessible.bytes + (size - s.accessible.bytes) ≡ size = omega arith in
    let reached : CanReach s.base.bytes (s.accessible.bytes + (size - s.accessible.bytes)) (exposed (s.base.bytes + s.accessible.bytes) (size - s.accessible.bytes) c) =
    reach_exposed s.base.bytes s.accessible.bytes (size - s.accessible.bytes) c (page_some s c fits g.sound) (rw page fits.sizes.base_whole) (rw page fits.sizes.accessible_whole) (rw page rest) (page_inside s c s.accessible.bytes fits g.sound fits.sizes.within) g.ready.reach in
    let P : ℕ → Type 0 = λ n. CanReach s.base.bytes n (exposed (s.base.bytes + s.accessible.bytes) (size - s.accessible.bytes) c) in
    record {
      reach = subst P sum reached;
      origin = g.ready.origin;
      beyond = part_holds s c size (size_of s) fits g.sound (omega arith) g.holds;
      colour = g.ready.colour;
    }

-- more of a clean slot is exposed
pub clean_exposed : (s : Slot) (size : ℕ) → IsSlot s → IsClean s → s.accessible.bytes ≤ size → size ≤ size_of s → size % s.region.page ≡ 0 → IsClean (record (called (exposing (s.base.bytes + s.accessible.bytes) (size - s.accessible.bytes)) s) { accessible = count s.region.page size })
clean_exposed s size fits clean more within size_whole =
    let f : Contents → Contents = exposed (s.base.bytes + s.accessible.bytes) (size - s.accessible.bytes) in
    let t : Slot = record (called (exposing (s.base.bytes + s.accessible.bytes) (size - s.accessible.bytes)) s) { accessible = count s.region.page size } in
    record {
      not_dirty = clean.not_dirty;
      image = clean.image;
      ready = lifted (IsGood s) (IsReady t) f s.region.contents (ready_exposed s size fits more within size_whole) (good s fits clean);
      holds = lifted (Holds s 0 (size_of s)) (Holds t 0 (size_of t)) f s.region.contents (λ c h. h) clean.holds;
    }

ready_hidden : (s : Slot) (size : ℕ) → IsSlot s → size ≤ s.accessible.bytes → size % s.region.page ≡ 0 → (c : Contents) → IsGood s c → IsReady (record (called (hiding (s.base.bytes + size) (s.accessible.bytes - size)) s) { accessible = count s.region.page size }) (hidden (s.base.bytes + size) (s.accessible.bytes - size) c)
ready_hidden s size fits less size_whole c g =
    let page : c.page ≡ s.region.page = g.sound.shaped.same_page in
    let sum : s.accessible.bytes ≡ size + (s.accessible.bytes - size) = omega arith in
    let P : ℕ → Type 0 = λ n. CanReach s.base.bytes n c in
    record {
      reach = reach_hidden s.base.bytes size (s.accessible.bytes - size) c (page_some s c fits g.sound) (rw page fits.sizes.base_whole) (rw page size_whole) (page_inside s c size fits g.sound (omega (arith, fits.sizes.within))) (subst P sum g.ready.reach);
      origin = g.ready.origin;
      beyond = part_holds s c size (size_of s) fits g.sound (omega arith) g.holds;
      colour = g.ready.colour;
    }

-- a part of a clean slot is hidden
pub clean_hidden : (s : Slot) (size : ℕ) → IsSlot s → IsClean s → size ≤ s.accessible.bytes → size % s.region.page ≡ 0 → IsClean (record (called (hiding (s.base.bytes + size) (s.accessible.bytes - size)) s) { accessible = count s.region.page size })
clean_hidden s size fits clean less size_whole =
    let f : Contents → Contents = hidden (s.base.bytes + size) (s.accessible.bytes - size) in
    let t : Slot = record (called (hiding (s.base.bytes + size) (s.accessible.bytes - size)) s) { accessible = count s.region.page size } in
    record {
      not_dirty = clean.not_dirty;
      image = clean.image;
      ready = lifted (IsGood s) (IsReady t) f s.region.contents (ready_hidden s size fits less size_whole) (good s fits clean);
      holds = lifted (Holds s 0 (size_of s)) (Holds t 0 (size_of t)) f s.region.contents (λ c h. h) clean.holds;
    }

-- what a slot that holds what it goes back to reads as
pub reads_start : (s : Slot) (image : Option Image) (n : ℕ) (c : Contents) → IsSlot s → IsSound s.region.page s.region.len s.base.bytes (size_of s) c → s.image ≡ origin_image s → n ≤ size_of s → IfSome image (λ i. i.offset + length i.bytes ≤ n) → IsStarted s c → HasImage s image c → slice_range c.bytes s.base.bytes (s.base.bytes + n) ≡ start image n
reads_start s None n c fits sound is within inside st has =
    let all : length c.origin ≡ s.region.len = sound.shaped.origin in
    let O : Option ImageName → Type 0 = λ o. c.origin ≡ placed s.base.bytes o c.origin in
    let zeros : c.origin ≡ replicate (length c.origin) 0 = subst O (sym is ∙ has) st.ready.origin in
    let size : s.base.bytes + n - s.base.bytes ≡ n = omega arith in
    held s n c fits sound within st.holds
    ∙ ap (λ (l : List ℕ). slice_range l s.base.bytes (s.base.bytes + n)) zeros
    ∙ range-zeros (length c.origin) s.base.bytes (s.base.bytes + n) (omega (arith, fits.sizes.inside))
    ∙ ap (λ (k : ℕ). replicate {A = ℕ} k 0) size
reads_start s (Some i) n c fits sound is within inside st has =
    let all : length c.origin ≡ s.region.len = sound.shaped.origin in
    let O : Option ImageName → Type 0 = λ o. c.origin ≡ placed s.base.bytes o c.origin in
    let mapped : c.origin ≡ put (s.base.bytes + i.offset) (image_bytes s.base.bytes (name_of i) c.origin) (replicate (length c.origin) 0) = subst O (sym is ∙ has.0) st.ready.origin in
    let exact : c.origin ≡ put (s.base.bytes + i.offset) i.bytes (replicate (length c.origin) 0) = mapped ∙ ap (λ (l : List ℕ). put (s.base.bytes + i.offset) l (replicate (length c.origin) 0)) has.1 in
    held s n c fits sound within st.holds
    ∙ ap (λ (l : List ℕ). slice_range l s.base.bytes (s.base.bytes + n)) exact
    ∙ range-put_around i.offset i.bytes (length c.origin) s.base.bytes n (omega (arith, fits.sizes.inside)) inside (omega (arith, fits.sizes.inside))

-- The same as the code says them, with the range and the size as it has them.
pub hidden_clean : (s : Slot) (size : Count) (from len : ℕ) → IsSlot s → IsClean s → from ≡ s.base.bytes + size.bytes → len ≡ s.accessible.bytes - size.bytes → size.page ≡ s.region.page → size.bytes % size.page ≡ 0 → size.bytes ≤ s.accessible.bytes → IsClean (record (called (hiding from len) s) { accessible = size })
hidden_clean s size from len fits clean at long page is less =
    let P : ℕ → ℕ → ℕ → Type 0 = λ p f l. IsClean (record (called (hiding f l) s) { accessible = count p size.bytes }) in
    let start : P s.region.page (s.base.bytes + size.bytes) (s.accessible.bytes - size.bytes) = clean_hidden s size.bytes fits clean less (rw page at is) in
    let first = subst (λ (p : ℕ). P p (s.base.bytes + size.bytes) (s.accessible.bytes - size.bytes)) (sym page) start in
    let second = subst (λ (f : ℕ). P size.page f (s.accessible.bytes - size.bytes)) (sym at) first in
    subst (λ (l : ℕ). P size.page from l) (sym long) second

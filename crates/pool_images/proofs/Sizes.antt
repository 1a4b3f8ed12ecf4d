-- What an instantiation leaves of the sizes of a slot.
use Rattle.std.proofs.Common.{◌≡◌, ℕ, ◌+◌, ◌-◌, ◌<◌, ◌≤◌, Bool, true, false, refl, sym, ap, ◌∙◌, subst, arith, Option, Some, None, Result, Ok, Err, OnOk, ◌^◌, nat_lt, ◌&&◌, if◌then◌else◌}
use Rattle.pool_images.proofs.Imports.{div-mul-le_self, le-div_iff_mul-le, mul-le-mul_right, count, rounded_up, exposing, hiding, mapping, remapping}
use Rattle.pool_images.specs.Images.{Image}
use Rattle.pool_images.specs.declared.image_slot.ImageName.{ImageName}
use Rattle.pool_images.specs.Slots.{Slot, IsSlot, SlotIdentity, IsSized, resized, replaced, without_mapped, with_image, called, renewed}
use Rattle.pool_images.proofs.Colours.{like_renewed}
use Rattle.pool_images.proofs.Identity.{IsLike, same_called, like_self, like_then}

-- more bytes have more whole pages
pub rounded_up_more : (page m n : ℕ) → 0 < page → m ≤ n → rounded_up page m ≤ rounded_up page n
rounded_up_more page m n some le =
    mul-le-mul_right page ((le-div_iff_mul-le some).1 (omega (arith, div-mul-le_self (m + page - 1) page)))

-- a choice of two has what both have
by_if : {X : Type 0} (P : X → Type 0) (b : Bool) (x y : X) → P x → P y → P (if b then x else y)
by_if P true x y left right = left
by_if P false x y left right = right

by_if_accessible : (b : Bool) (x y u v : Slot) → x.accessible ≡ u.accessible → y.accessible ≡ v.accessible → (if b then x else y).accessible ≡ (if b then u else v).accessible
by_if_accessible true x y u v left right = left
by_if_accessible false x y u v left right = right

pub like_resized : (size : ℕ) (hide : Bool) (s : Slot) → IsLike s (resized size hide s)
like_resized size hide s =
    let P : Slot → Type 0 = λ t. IsLike s t in
    by_if P (nat_lt s.accessible.bytes size)
    (record (called (exposing (s.base.bytes + s.accessible.bytes) (size - s.accessible.bytes)) s) { accessible = count s.region.page size })
    (if hide && nat_lt size s.accessible.bytes then record (called (hiding (s.base.bytes + size) (s.accessible.bytes - size)) s) { accessible = count s.region.page size } else s)
    (record { same = same_called (exposing (s.base.bytes + s.accessible.bytes) (size - s.accessible.bytes)) s; faults = refl })
    (by_if P (hide && nat_lt size s.accessible.bytes)
    (record (called (hiding (s.base.bytes + size) (s.accessible.bytes - size)) s) { accessible = count s.region.page size })
    s
    (record { same = same_called (hiding (s.base.bytes + size) (s.accessible.bytes - size)) s; faults = refl })
    (like_self s))

pub like_without : (o : Option ImageName) (s : Slot) → IsLike s (without_mapped o s)
like_without None s = like_self s
like_without (Some name) s =
    let like : IsLike s (renewed (remapping (s.base.bytes + name.offset) name.len) s) = like_renewed (remapping (s.base.bytes + name.offset) name.len) s in
    record { same = like.same; faults = like.faults }

like_with : (o : Option Image) (s : Slot) → IsLike s (with_image o s)
like_with None s = like_self s
like_with (Some i) s =
    let like : IsLike s (renewed (mapping s.region.behaviour (s.base.bytes + i.offset) i.bytes) s) = like_renewed (mapping s.region.behaviour (s.base.bytes + i.offset) i.bytes) s in
    record { same = like.same; faults = like.faults }

accessible_with : (o : Option Image) (s : Slot) → (with_image o s).accessible ≡ s.accessible
accessible_with None s = refl
accessible_with (Some i) s = refl

accessible_without : (o : Option ImageName) (size : ℕ) (hide : Bool) (s : Slot) → (resized size hide (without_mapped o s)).accessible ≡ (resized size hide s).accessible
accessible_without None size hide s = refl
accessible_without (Some name) size hide s =
    let t : Slot = without_mapped (Some name) s in
    let page : t.region.page ≡ s.region.page = ap (λ (k : SlotIdentity). k.page) (like_without (Some name) s).same in
    let counts : count t.region.page size ≡ count s.region.page size = ap (λ (p : ℕ). count p size) page in
    by_if_accessible (nat_lt s.accessible.bytes size)
    (record (called (exposing (t.base.bytes + t.accessible.bytes) (size - t.accessible.bytes)) t) { accessible = count t.region.page size })
    (if hide && nat_lt size t.accessible.bytes then record (called (hiding (t.base.bytes + size) (t.accessible.bytes - size)) t) { accessible = count t.region.page size } else t)
    (record (called (exposing (s.base.bytes + s.accessible.bytes) (size - s.accessible.bytes)) s) { accessible = count s.region.page size })
    (if hide && nat_lt size s.accessible.bytes then record (called (hiding (s.base.bytes + size) (s.accessible.bytes - size)) s) { accessible = count s.region.page size } else s)
    counts
    (by_if_accessible (hide && nat_lt size s.accessible.bytes)
    (record (called (hiding (t.base.bytes + size) (t.accessible.bytes - size)) t) { accessible = count t.region.page size }) t
    (record (called (hiding (s.base.bytes + size) (s.accessible.bytes - size)) s) { accessible = count s.region.page size }) s counts refl)

-- a slot that was instantiated has the sizes that it should
pub sized_replaced : (initial : ℕ) (hide : Bool) (image : Option Image) (s : Slot) → IsSized initial hide s (replaced (rounded_up s.region.page initial) hide image s)
sized_replaced initial hide image s =
    let size : ℕ = rounded_up s.region.page initial in
    let first : Slot = without_mapped s.image s in
    let second : Slot = resized size hide first in
    let third : Slot = with_image image second in
    let like : IsLike s third = like_then s second third (like_then s first second (like_without s.image s) (like_resized size hide first)) (like_with image second) in
    record {
      same = like.same;
      accessible = accessible_with image second ∙ accessible_without s.image size hide s;
      faults = like.faults;
    }

-- an instantiation of fewer bytes than the slot may have stays in range
pub rounded_fits : (s : Slot) (n : ℕ) → IsSlot s → n ≤ s.static_size → n + s.region.page - 1 < 2 ^ 64
rounded_fits s n fits within = omega (arith, fits.sizes.roomy)

pub sized_of : {U E : Type 0} (initial size : ℕ) (hide : Bool) (image : Option Image) (s new : Slot) (r : Result U E) → size ≡ rounded_up s.region.page initial → OnOk r (new ≡ replaced size hide image s) → OnOk r (IsSized initial hide s new)
sized_of initial size hide image s new (Err e) is ok = ok
sized_of initial size hide image s new (Ok x) is ok =
    let P : Slot → Type 0 = λ t. IsSized initial hide s t in
    let Q : ℕ → Type 0 = λ n. new ≡ replaced n hide image s in
    subst P (sym (subst Q is ok)) (sized_replaced initial hide image s)

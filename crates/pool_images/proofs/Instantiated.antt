-- What an instantiation leaves, by which of its two ways it went.
use Rattle.std.proofs.Common.{◌≡◌, ◌⊎◌, ◌↔◌, ℕ, ◌+◌, ◌-◌, Bool, true, false, Option, Some, None, Result, Ok, Err, OnOk, IfSome, IsTrue, refl, sym, ap, subst, ◌∙◌, inl, inr, ◌&&◌, nat_lt, if◌then◌else◌, option_map}
use Rattle.pool_images.proofs.Imports.{true≢false, Contents, count, rounded_up, exposing, hiding}
use Rattle.pool_images.specs.Images.{Image}
use Rattle.pool_images.specs.declared.image_slot.ImageName.{ImageName}
use Rattle.pool_images.specs.Slots.{Slot, IsSized, resized, reused, replaced, without_mapped, with_image, called, name_of}
use Rattle.pool_images.proofs.Identity.{IsLike}
use Rattle.pool_images.proofs.Sizes.{like_resized}

-- what holds after a success holds there under any premise
pub given : {U E : Type 0} (r : Result U E) (A : Type 0) (o : Option Contents) (H : Contents → Type 0) → OnOk r A → OnOk r (IfSome o (λ c. H c → A))
given (Err e) A o H a = tt
given (Ok x) A None H a = tt
given (Ok x) A (Some c) H a = λ h. a

pub given_told : (A : Type 0) (o : Option Contents) (H : Contents → Type 0) → A → IfSome o (λ c. H c → A)
given_told A None H a = tt
given_told A (Some c) H a = λ h. a

-- what a test refutes can't be a premise
pub refuted : (A : Type 0) (b : Bool) (o : Option Contents) (H : Contents → Type 0) → b ≡ false → IfSome o (λ c. IsTrue b ↔ H c) → IfSome o (λ c. H c → A)
refuted A b None H isnt told = tt
refuted A b (Some c) H isnt told = λ h. absurd (true≢false (sym (told.1 h) ∙ isnt))

pub refuted_ok : {U E : Type 0} (r : Result U E) (A : Type 0) (b : Bool) (o : Option Contents) (H : Contents → Type 0) → b ≡ false → IfSome o (λ c. IsTrue b ↔ H c) → OnOk r (IfSome o (λ c. H c → A))
refuted_ok (Err e) A b o H isnt told = tt
refuted_ok (Ok x) A b o H isnt told = refuted A b o H isnt told

-- and what it finds is no false premise
pub found : (A : Type 0) (b : Bool) (o : Option Contents) (H : Contents → Type 0) → b ≡ true → IfSome o (λ c. IsTrue b ↔ H c) → IfSome o (λ c. (H c → ⊥) → A)
found A b None H is told = tt
found A b (Some c) H is told = λ h. absurd (h (told.0 is))

pub found_ok : {U E : Type 0} (r : Result U E) (A : Type 0) (b : Bool) (o : Option Contents) (H : Contents → Type 0) → b ≡ true → IfSome o (λ c. IsTrue b ↔ H c) → OnOk r (IfSome o (λ c. (H c → ⊥) → A))
found_ok (Err e) A b o H is told = tt
found_ok (Ok x) A b o H is told = found A b o H is told

pub on_left : {U E : Type 0} (r : Result U E) (A B : Type 0) → OnOk r A → OnOk r (A ⊎ B)
on_left (Err e) A B a = tt
on_left (Ok x) A B a = inl a

pub on_right : {U E : Type 0} (r : Result U E) (A B : Type 0) → OnOk r B → OnOk r (A ⊎ B)
on_right (Err e) A B b = tt
on_right (Ok x) A B b = inr b

image_by : (b : Bool) (x y s : Slot) → x.image ≡ s.image → y.image ≡ s.image → (if b then x else y).image ≡ s.image
image_by true x y s left right = left
image_by false x y s left right = right

-- another size leaves the image
image_resized : (size : ℕ) (hide : Bool) (s : Slot) → (resized size hide s).image ≡ s.image
image_resized size hide s =
    image_by (nat_lt s.accessible.bytes size)
    (record (called (exposing (s.base.bytes + s.accessible.bytes) (size - s.accessible.bytes)) s) { accessible = count s.region.page size })
    (if hide && nat_lt size s.accessible.bytes then record (called (hiding (s.base.bytes + size) (s.accessible.bytes - size)) s) { accessible = count s.region.page size } else s)
    s refl
    (image_by (hide && nat_lt size s.accessible.bytes)
    (record (called (hiding (s.base.bytes + size) (s.accessible.bytes - size)) s) { accessible = count s.region.page size })
    s s refl refl)

-- a slot that keeps its image has it
pub image_reused : {U E : Type 0} (r : Result U E) (size : ℕ) (hide : Bool) (s new : Slot) (name : Option ImageName) → s.image ≡ name → OnOk r (new ≡ reused size hide s) → OnOk r (new.image ≡ name)
image_reused (Err e) size hide s new name same ok = tt
image_reused (Ok x) size hide s new name same ok = ap (λ (t : Slot). t.image) ok ∙ image_resized size hide s ∙ same

image_without : (o : Option ImageName) (s : Slot) → s.image ≡ o → (without_mapped o s).image ≡ None
image_without None s same = same
image_without (Some name) s same = refl

image_with : (image : Option Image) (s : Slot) → s.image ≡ None → (with_image image s).image ≡ option_map name_of image
image_with None s none = none
image_with (Some i) s none = refl

-- and one that takes over another has that
pub image_replaced : {U E : Type 0} (r : Result U E) (size : ℕ) (hide : Bool) (image : Option Image) (s new : Slot) → OnOk r (new ≡ replaced size hide image s) → OnOk r (new.image ≡ option_map name_of image)
image_replaced (Err e) size hide image s new ok = tt
image_replaced (Ok x) size hide image s new ok =
    ap (λ (t : Slot). t.image) ok ∙ image_with image (resized size hide (without_mapped s.image s)) (image_resized size hide (without_mapped s.image s) ∙ image_without s.image s refl)

-- its size is as it should be
pub sized_reused : {U E : Type 0} (r : Result U E) (initial : ℕ) (hide : Bool) (s new : Slot) → OnOk r (new ≡ reused (rounded_up s.region.page initial) hide s) → OnOk r (IsSized initial hide s new)
sized_reused (Err e) initial hide s new ok = tt
sized_reused (Ok x) initial hide s new ok =
    let size : ℕ = rounded_up s.region.page initial in
    let like : IsLike s (resized size hide s) = like_resized size hide s in
    let P : Slot → Type 0 = λ t. IsSized initial hide s t in
    let sized : P (reused size hide s) = record { same = like.same; accessible = refl; faults = like.faults } in
    subst P (sym ok) sized

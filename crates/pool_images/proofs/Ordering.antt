-- Page calls in order: those of several calls on a slot, one after the other.
use Rattle.std.proofs.Common.{◌≡◌, ℕ, List, [], ◌∷◌, ◌++◌, ◌+◌, ◌<◌, length, Bool, true, false, Option, Some, None, Result, Ok, Err, refl, sym, ap, subst, ◌∙◌, if◌then◌else◌, IfSome, OnErr, is_ok, IsErr}
use Rattle.pool_types.specs.Rising.{Rose}
use Rattle.pool_images.proofs.Imports.{true≢false, Told, PageCall, succeeded, passes, mapping}
use Rattle.pool_images.specs.Images.{Image}
use Rattle.pool_images.specs.Orders.{Follows, colouring, failed, outcome, removing, resizing, image_mapping, replacing}
use Rattle.pool_images.specs.Slots.{Slot, SlotIdentity, IsLeft, resized, without_mapped, without_image}
use Rattle.pool_images.specs.declared.image_slot.ImageName.{ImageName}
use Rattle.pool_images.proofs.Identity.{IsLike, like_then}
use Rattle.pool_images.proofs.Sizes.{like_resized, like_without}

pub not_ok : {U E : Type 0} (r : Result U E) → IsErr r → is_ok r ≡ false
not_ok (Ok x) err = sym err
not_ok (Err e) err = refl

pub on_err : {U E : Type 0} (r : Result U E) (P : Type 0) → P → OnErr r P
on_err (Ok x) P p = tt
on_err (Err e) P p = p

-- what comes after calls of which the first fails, is not made
first_failed : (b : Bool) (mid end : Told) (left right other : Bool × Told) → (◌≡◌ {A = Bool × Told} (true, mid) left → right ≡ other) → ◌≡◌ {A = Bool × Told} (true, mid) (if b then left else (false, end)) → ◌≡◌ {A = Bool × Told} (if b then right else (false, end)) other
first_failed true mid end left right other rest e = rest e
first_failed false mid end left right other rest e = absurd (true≢false (ap (λ (p : Bool × Told). p.0) e))

outcome_then : (plan : List ℕ) (xs ys : List PageCall) (t mid : Told) → ◌≡◌ {A = Bool × Told} (true, mid) (outcome plan xs t) → ◌≡◌ {A = Bool × Told} (outcome plan (xs ++ ys) t) (outcome plan ys mid)
outcome_then plan [] ys t mid e = ap (λ (p : Bool × Told). outcome plan ys p.1) (sym e)
outcome_then plan (x ∷ xs) ys t mid e =
    first_failed (passes plan x t) mid (failed x t) (outcome plan xs (succeeded x t)) (outcome plan (xs ++ ys) (succeeded x t)) (outcome plan ys mid) (outcome_then plan xs ys (succeeded x t) mid) e

follow_by : (o m : Option (List ℕ)) (xs ys : List PageCall) (ok : Bool) (old mid new : Told) → m ≡ o → IfSome o (λ plan. ◌≡◌ {A = Bool × Told} (true, mid) (outcome plan xs old)) → IfSome m (λ plan. ◌≡◌ {A = Bool × Told} (ok, new) (outcome plan ys mid)) → IfSome o (λ plan. ◌≡◌ {A = Bool × Told} (ok, new) (outcome plan (xs ++ ys) old))
follow_by None m xs ys ok old mid new same first second = tt
follow_by (Some plan) m xs ys ok old mid new same first second =
    let P : Option (List ℕ) → Type 0 = λ p. IfSome p (λ plan. ◌≡◌ {A = Bool × Told} (ok, new) (outcome plan ys mid)) in
    subst P same second ∙ sym (outcome_then plan xs ys old mid first)

-- calls that all succeed, and others after them
pub follows_then : (xs ys : List PageCall) (ok : Bool) (old mid new : Told) → mid.plan ≡ old.plan → Follows xs true old mid → Follows ys ok mid new → Follows (xs ++ ys) ok old new
follows_then xs ys ok old mid new same first second = follow_by old.plan mid.plan xs ys ok old mid new same first second

resizing_without : (size : ℕ) (hides : Bool) (image : Option ImageName) (s : Slot) → resizing size hides (without_mapped image s) ≡ resizing size hides s
resizing_without size hides None s = refl
resizing_without size hides (Some name) s = refl

mapping_same : (image : Option Image) (t s : Slot) → IsLike s t → image_mapping image t ≡ image_mapping image s
mapping_same None t s same = refl
mapping_same (Some i) t s same =
    ap (λ (k : SlotIdentity). mapping k.behaviour (k.base.bytes + i.offset) i.bytes ∷ colouring k.colour (k.base.bytes + i.offset) (length i.bytes)) same.same

-- the image is removed, the slot resized, and another image mapped
pub replaced_in_order : (size : ℕ) (hides : Bool) (image : Option Image) (ok : Bool) (s a b : Slot) (new : Told) → a ≡ without_image s → b ≡ resized size hides a → Follows (removing s) true s.region a.region → Follows (resizing size hides a) true a.region b.region → Follows (image_mapping image b) ok b.region new → Follows (replacing size hides image s) ok s.region new
replaced_in_order size hides image ok s a b new first second removed resizes maps =
    let A : Slot → Type 0 = λ t. IsLike s t in
    let B : Slot → Type 0 = λ t. IsLike a t in
    let same_a : IsLike s a = subst A (sym first) (like_without s.image s) in
    let same_b : IsLike a b = subst B (sym second) (like_resized size hides a) in
    let sizes : resizing size hides a ≡ resizing size hides s = ap (λ (t : Slot). resizing size hides t) first ∙ resizing_without size hides s.image s in
    let images : image_mapping image b ≡ image_mapping image s = mapping_same image b a same_b ∙ mapping_same image a s same_a in
    let P : List PageCall → Type 0 = λ xs. Follows xs true a.region b.region in
    let Q : List PageCall → Type 0 = λ xs. Follows xs ok b.region new in
    follows_then (removing s ++ resizing size hides s) (image_mapping image s) ok s.region b.region new (ap (λ (k : SlotIdentity). k.plan) (same_b.same ∙ same_a.same))
    (follows_then (removing s) (resizing size hides s) true s.region a.region b.region (ap (λ (k : SlotIdentity). k.plan) same_a.same) removed (subst P sizes resizes))
    (subst Q images maps)

-- what comes after calls of which one fails, is not made
fails_before : (b : Bool) (new end : Told) (left right : Bool × Told) → (◌≡◌ {A = Bool × Told} (false, new) left → ◌≡◌ {A = Bool × Told} (false, new) right) → ◌≡◌ {A = Bool × Told} (false, new) (if b then left else (false, end)) → ◌≡◌ {A = Bool × Told} (false, new) (if b then right else (false, end))
fails_before true new end left right rest e = rest e
fails_before false new end left right rest e = e

outcome_cut : (plan : List ℕ) (xs ys : List PageCall) (t new : Told) → ◌≡◌ {A = Bool × Told} (false, new) (outcome plan xs t) → ◌≡◌ {A = Bool × Told} (false, new) (outcome plan (xs ++ ys) t)
outcome_cut plan [] ys t new e = absurd (true≢false (sym (ap (λ (p : Bool × Told). p.0) e)))
outcome_cut plan (x ∷ xs) ys t new e = fails_before (passes plan x t) new (failed x t) (outcome plan xs (succeeded x t)) (outcome plan (xs ++ ys) (succeeded x t)) (outcome_cut plan xs ys (succeeded x t) new) e

cut_by : (o : Option (List ℕ)) (xs ys : List PageCall) (old new : Told) → IfSome o (λ plan. ◌≡◌ {A = Bool × Told} (false, new) (outcome plan xs old)) → IfSome o (λ plan. ◌≡◌ {A = Bool × Told} (false, new) (outcome plan (xs ++ ys) old))
cut_by None xs ys old new fails = tt
cut_by (Some plan) xs ys old new fails = outcome_cut plan xs ys old new fails

-- the image is removed, and resizing fails
pub unsized_in_order : (size : ℕ) (hides : Bool) (image : Option Image) (s a : Slot) (new : Told) → a ≡ without_image s → Follows (removing s) true s.region a.region → Follows (resizing size hides a) false a.region new → Follows (replacing size hides image s) false s.region new
unsized_in_order size hides image s a new first removed fails =
    let A : Slot → Type 0 = λ t. IsLike s t in
    let same : IsLike s a = subst A (sym first) (like_without s.image s) in
    let sizes : resizing size hides a ≡ resizing size hides s = ap (λ (t : Slot). resizing size hides t) first ∙ resizing_without size hides s.image s in
    let P : List PageCall → Type 0 = λ xs. Follows xs false a.region new in
    cut_by s.region.plan (removing s ++ resizing size hides s) (image_mapping image s) s.region new
    (follows_then (removing s) (resizing size hides s) false s.region a.region new (ap (λ (k : SlotIdentity). k.plan) same.same) removed (subst P sizes fails))

-- the image was removed and the slot resized, and what came then failed
pub left_replaced : (size : ℕ) (hides : Bool) (s a b new : Slot) → a ≡ without_image s → b ≡ resized size hides a → IsLeft b new → IsLeft s new
left_replaced size hides s a b new first second left =
    let A : Slot → Type 0 = λ t. IsLike s t in
    let B : Slot → Type 0 = λ t. IsLike a t in
    let same : IsLike s b = like_then s a b (subst A (sym first) (like_without s.image s)) (subst B (sym second) (like_resized size hides a)) in
    let R : ℕ → Type 0 = λ n. Rose n new.region.faults in
    let L : Option (List ℕ) → Type 0 = λ o. IfSome o (λ plan. 0 < length plan) in
    record {
      same = left.same ∙ same.same;
      rose = subst R same.faults left.rose;
      listed = subst L (ap (λ (k : SlotIdentity). k.plan) same.same) left.listed;
    }

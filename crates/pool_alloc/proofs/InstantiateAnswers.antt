-- An instantiation seen as one of the answers that may come.
use Rattle.std.proofs.Common.{◌≡◌, ◌⊎◌, ℕ, ◌≤◌, Bool, Option, Some, None, ap, Result, Ok, Err, OnOk, OnErr, IfSome, is_err, is_ok, option_map}
use Rattle.pool_alloc.proofs.Imports.{rounded_up, Image, Follows, resizing, replacing, Slot, SlotIdentity, IsSlot, FitsInto, IsLeft, IsBegun, IsSized, HasImage, reused, replaced, name_of, CanHold, EndsWithin, instantiated_holds}
use Rattle.pool_alloc.specs.PageCallAnswers.{InstantiatesAs, FollowsPlan}

pub instantiates_as : {T E : Type 0} (r : Result T E) (initial : ℕ) (hide : Bool) (image : Option Image) (old new : Slot)
    → OnOk r (IsBegun image new)
    → OnOk r (CanHold initial new)
    → OnOk r (IsSized initial hide old new)
    → OnOk r (new.image ≡ option_map name_of image)
    → OnOk r ((new ≡ reused (rounded_up old.region.page initial) hide old) ⊎ (new ≡ replaced (rounded_up old.region.page initial) hide image old))
    → OnOk r (IfSome old.region.contents (λ c. HasImage old image c → new ≡ reused (rounded_up old.region.page initial) hide old))
    → OnOk r (IfSome old.region.contents (λ c. (HasImage old image c → ⊥) → new ≡ replaced (rounded_up old.region.page initial) hide image old))
    → OnErr r (IsLeft old new)
    → InstantiatesAs (is_err r) initial hide image old new
instantiates_as (Ok x) initial hide image old new begun holds sizes named one again anew fault = record { begun = begun; holds = holds; sizes = sizes; named = named; slot = record { either = one; has = again; hasnt = anew } }
instantiates_as (Err e) initial hide image old new begun holds sizes named one again anew fault = fault

-- its page calls, by whether one failed
pub follows_as : {T E : Type 0} (r : Result T E) (initial : ℕ) (hide : Bool) (image : Option Image) (old new : Slot)
    → Follows (resizing (rounded_up old.region.page initial) hide old) (is_ok r) old.region new.region ⊎ Follows (replacing (rounded_up old.region.page initial) hide image old) (is_ok r) old.region new.region
    → IfSome old.region.contents (λ c. HasImage old image c → Follows (resizing (rounded_up old.region.page initial) hide old) (is_ok r) old.region new.region)
    → IfSome old.region.contents (λ c. (HasImage old image c → ⊥) → Follows (replacing (rounded_up old.region.page initial) hide image old) (is_ok r) old.region new.region)
    → FollowsPlan initial hide image (is_err r) old new
follows_as (Ok x) initial hide image old new one again anew = record { either = one; has = again; hasnt = anew }
follows_as (Err e) initial hide image old new one again anew = record { either = one; has = again; hasnt = anew }

pub ends_of : {X : Type 0} (image_of : X → Image) (page initial : ℕ) (o : Option X) → IfSome o (λ x. FitsInto page initial (image_of x)) → EndsWithin initial (option_map image_of o)
ends_of image_of page initial None fits = fits
ends_of image_of page initial (Some x) fits = fits.inside

-- a slot that an instantiation leaves holds the memory
pub holds_as : {T E : Type 0} (r : Result T E) (initial : ℕ) (hide : Bool) (image : Option Image) (old new : Slot)
    → IsSlot new
    → EndsWithin initial image
    → initial ≤ old.static_size
    → OnOk r (IsBegun image new)
    → OnOk r (IsSized initial hide old new)
    → OnOk r (CanHold initial new)
holds_as (Ok x) initial hide image old new fits ends inside begun sizes = instantiated_holds old new image initial hide fits begun sizes ends (let sized : new.static_size ≡ old.static_size = ap (λ (z : SlotIdentity). z.static_size) sizes.same in rw sized inside)
holds_as (Err e) initial hide image old new fits ends inside begun sizes = tt

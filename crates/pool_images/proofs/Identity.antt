-- A slot stays the same one, whatever is called on its region.
use Rattle.std.proofs.Common.{◌≡◌, ℕ, ◌+◌, ◌*◌, Bool, List, [], ◌∷◌, refl, ap, ◌∙◌, Option, Some, None, is_some, option_map}
use Rattle.pool_images.proofs.Imports.{Contents, Told, PageCall, MayChangePartly, restored}
use Rattle.pool_images.specs.Resets.{pages_restored}
use Rattle.pool_images.specs.Slots.{Slot, CallFaulted, identity, called}

pub told_same : (f : Contents → Contents) (o : Option Contents) → is_some (option_map f o) ≡ is_some o
told_same f None = refl
told_same f (Some c) = refl

-- a call on its region succeeds
pub same_called : (call : PageCall) (s : Slot) → identity (called call s) ≡ identity s
same_called call s = ap (λ (b : Bool). record (identity s) { tells = b }) (told_same call.change s.region.contents)

tells_partly : (call : PageCall) (old new : Option Contents) → MayChangePartly call old new → is_some new ≡ is_some old
tells_partly call None None partly = refl
tells_partly call None (Some d) partly = absurd partly
tells_partly call (Some c) None partly = absurd partly
tells_partly call (Some c) (Some d) partly = refl

-- a call on its region fails
pub same_faulted : (call : PageCall) (s new : Slot) → CallFaulted call s new → identity new ≡ identity s
same_faulted call s new faulted =
    ap (λ (t : Slot). identity t) faulted.same
    ∙ ap (λ (t : Told). identity (record s { region = t })) faulted.region.same
    ∙ ap (λ (b : Bool). record (identity s) { tells = b }) (tells_partly call s.region.contents new.region.contents faulted.region.partly)

-- the same slot after calls that succeeded, which raise no count of faults
pub record IsLike (old new : Slot) : Type 0 where
  pub same : identity new ≡ identity old
  pub faults : new.region.faults ≡ old.region.faults

pub like_self : (s : Slot) → IsLike s s
like_self s = record { same = refl; faults = refl }

pub like_then : (r s t : Slot) → IsLike r s → IsLike s t → IsLike r t
like_then r s t first second = record { same = second.same ∙ first.same; faults = second.faults ∙ first.faults }

-- pages of it are set by hand
pub like_restored : (base : ℕ) (ks : List ℕ) (dirty : Bool) (s : Slot) → IsLike s (record s { region = pages_restored base ks s.region; dirty = dirty })
like_restored base [] dirty s = record { same = refl; faults = refl }
like_restored base (k ∷ ks) dirty s =
    let next : Slot = record s { region = restored (base + k * s.region.page) s.region.page s.region } in
    like_then s next (record next { region = pages_restored base ks next.region; dirty = dirty })
    (record { same = ap (λ (b : Bool). record (identity s) { tells = b }) (told_same _ s.region.contents); faults = refl })
    (like_restored base ks dirty next)

-- The page calls of each call on a slot, in their order, and how they end under a plan.
use Rattle.std.specs.Prelude.{◌≡◌, ℕ, ◌+◌, ◌-◌, ◌&&◌, List, [], ◌∷◌, ◌++◌, length, min, Bool, true, false, nat_lt, if◌then◌else◌, Option, None, Some, IfSome}
use Rattle.pool_pages.specs.Told.{Told, PageCall, counted, succeeded, passes, restored, exposing, hiding, mapping, remapping, erasing, recolouring}
use Rattle.pool_types.specs.Rising.{risen}
use Rattle.pool_types.specs.declared.decommit_behavior.DecommitBehavior.{DecommitBehavior}
use Rattle.pool_types.specs.declared.decommit_behavior.DecommitBehavior.TheVariants.{Zero, RestoreOriginalMapping}
use Rattle.pool_images.specs.Images.{Image}
use Rattle.pool_images.specs.Slots.{Slot, size_of}
use Rattle.pool_images.specs.declared.image_slot.ImageName.{ImageName}

-- the call failed as planned: it is counted, and so is the fault
abbrev pub failed : PageCall → Told → Told
failed call t = record (counted call t) { faults = risen t.faults }

-- Calls one after the other under a plan, up to the first that fails: whether all of them succeed, and what the region
-- tells then.
abbrev pub outcome : List ℕ → List PageCall → Told → Bool × Told
outcome plan [] t = (true, t)
outcome plan (call ∷ calls) t = if passes plan call t then outcome plan calls (succeeded call t) else (false, failed call t)

-- Where the region tells its plan, these calls were made, each in its turn and no other, and they ended so.
abbrev pub Follows : List PageCall → Bool → Told → Told → Type 0
Follows calls ok old new = IfSome old.plan (λ plan. ◌≡◌ {A = Bool × Told} (ok, new) (outcome plan calls old))

-- pages get a colour, where there is one
abbrev pub colouring : Option ℕ → ℕ → ℕ → List PageCall
colouring None start len = []
colouring (Some colour) start len = recolouring start len colour ∷ []

-- an image's pages become zeros, and get the slot's colour again
abbrev pub unmapping : ℕ → Option ℕ → Option ImageName → List PageCall
unmapping base colour None = []
unmapping base colour (Some name) = remapping (base + name.offset) name.len ∷ colouring colour (base + name.offset) name.len

-- The page calls that take the image out of a slot: what it covers is remapped to zeros; none without an image.
abbrev pub removing : Slot → List PageCall
removing s = unmapping s.base.bytes s.colour s.image

-- what is missing up to a size is exposed, or what is more is hidden where that is wanted
abbrev pub resizing : ℕ → Bool → Slot → List PageCall
resizing size hides s =
    if nat_lt s.accessible.bytes size
    then exposing (s.base.bytes + s.accessible.bytes) (size - s.accessible.bytes) ∷ []
    else (if hides && nat_lt size s.accessible.bytes then hiding (s.base.bytes + size) (s.accessible.bytes - size) ∷ [] else [])

-- an image is mapped, and its pages get the slot's colour again
abbrev pub image_mapping : Option Image → Slot → List PageCall
image_mapping None s = []
image_mapping (Some i) s = mapping s.region.behaviour (s.base.bytes + i.offset) i.bytes ∷ colouring s.colour (s.base.bytes + i.offset) (length i.bytes)

-- another image than the slot has is wanted: the old one is removed, the slot resized, and the new one mapped
abbrev pub replacing : ℕ → Bool → Option Image → Slot → List PageCall
replacing size hides image s = removing s ++ resizing size hides s ++ image_mapping image s

-- all pages of the slot are erased, and get its colour again
abbrev pub wiping : Slot → List PageCall
wiping s = erasing s.base.bytes (size_of s) ∷ colouring s.colour s.base.bytes (size_of s)

-- A reset sets by hand what it keeps, and makes no page call. Where pages go back to zeros it keeps nothing, and erases
-- all pages of the slot.
abbrev pub set_by_hand : DecommitBehavior → ℕ → Slot → Told
set_by_hand RestoreOriginalMapping keep s = restored s.base.bytes (min keep s.accessible.bytes) s.region
set_by_hand Zero keep s = s.region

-- The page calls of a reset by itself: none where a decommit restores the image, else those that wipe the slot.
abbrev pub resetting : DecommitBehavior → Slot → List PageCall
resetting RestoreOriginalMapping s = []
resetting Zero s = wiping s

-- What each reset leaves in a slot, compared with the plain reset that keeps nothing.
use Rattle.std.specs.Prelude.{◌≡◌, ℕ, List, Bool, Option, None, option_map}
use Rattle.pool_pages.specs.Told.{TellsMarks}
use Rattle.pool_images.specs.Resets.{given_marks, left_by, reset_by}
use Rattle.pool_images.specs.Slots.{Slot, IsSlot, decommitted_all}

-- the bytes that a slot's region holds, where it tells them
abbrev pub bytes_of : Slot → Option (List ℕ)
bytes_of s = option_map (λ c. c.bytes) s.region.contents

-- the bytes once a reset that is given these marks, or none, is done, and the decommits that it leaves are done too
abbrev pub bytes_after : Option (List Bool) → ℕ → Slot → Option (List ℕ)
bytes_after marks keep s = bytes_of (decommitted_all (left_by marks s.region.behaviour keep s) (reset_by marks s.region.behaviour keep s))

-- Whether marks are offered to it or not, and whatever it keeps, a reset leaves once its decommits are done the bytes that
-- the plain reset which keeps nothing leaves once its own are done. It rests on the law that a page which isn't dirty holds
-- what it goes back to.
abbrev pub ResetsLeaveTheSame : Type 0
ResetsLeaveTheSame = (offered : Bool) (keep : ℕ) (s : Slot) → IsSlot s → TellsMarks s.region → bytes_after (given_marks offered s) keep s ≡ bytes_after None 0 s

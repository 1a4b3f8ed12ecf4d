-- A memory in a region of its own that begins with an image.
use Rattle.std.proofs.Common.{◌≡◌, ℕ, ◌+◌, ◌≤◌, Bool, true, false, length, ap, arith, Some, is_some, if◌then◌else◌}
use Rattle.pool_memory.proofs.Imports.{Image, Slot, SlotIdentity, IsSlot, IsBegun, IsSized, name_of}
use Rattle.pool_memory.specs.Linear.{Linear, in_slot}
use Rattle.pool_memory.specs.Mapped.{Mapped, KeepsLayout, IsMapped, used, mapped_linear}
use Rattle.pool_memory.specs.Layouts.{Layout}
use Rattle.pool_memory.specs.Starting.{HasStarted}
use Rattle.pool_memory.proofs.Begun.{instantiated_holds, begun_reads}
use Rattle.pool_memory.proofs.Mapped.{started_keeps}

-- what a memory may have at most is what its slot may have
inside_slot : (m : Mapped) → IsMapped m → m.as_made ≡ true → m.size ≤ m.slot.static_size
inside_slot m is made = (is.holds (is.known_made made)).slot.inside

-- it keeps its layout
pub begun_keeps : (l : Layout) (m : Mapped) (t : Slot) (image : Image) (hide : Bool) → KeepsLayout l m → m.as_made ≡ true → IsSlot t → IsBegun (Some image) t → IsSized m.size hide m.slot t → image.offset + length image.bytes ≤ m.size → KeepsLayout l (record m { slot = t; as_made = false })
begun_keeps l m t image hide keeps made fits begun sized ends =
    let inside : m.size ≤ m.slot.static_size = inside_slot m keeps.is made in
    let static : t.static_size ≡ m.slot.static_size = ap (λ (i : SlotIdentity). i.static_size) sized.same in
    started_keeps l m t keeps sized.same (instantiated_holds m.slot t (Some image) m.size hide fits begun sized ends (omega (arith, static, inside))) inside

-- and has the image
pub begun_started : (m : Mapped) (t : Slot) (image : Image) (hide : Bool) → IsMapped m → m.as_made ≡ true → IsSlot t → IsBegun (Some image) t → IsSized m.size hide m.slot t → t.image ≡ Some (name_of image) → image.offset + length image.bytes ≤ m.size → HasStarted image (mapped_linear m) (mapped_linear (record m { slot = t; as_made = false }))
begun_started m t image hide is made fits begun sized named ends =
    let inside : m.size ≤ m.slot.static_size = inside_slot m is made in
    let static : t.static_size ≡ m.slot.static_size = ap (λ (i : SlotIdentity). i.static_size) sized.same in
    let Lin : ℕ → Linear = λ n. record (mapped_linear m) { capacity = if m.known then n else 0; storage = in_slot (used t) } in
    record {
      same = ap Lin static;
      slot = sized.same;
      mapped = ap is_some named;
      bytes = begun_reads (record { slot = t; size = m.size; capacity = 0 }) (Some image) fits (omega (arith, static, inside)) ends begun;
    }

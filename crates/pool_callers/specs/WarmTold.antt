-- Numbers of warm slots that a caller reads.
use Rattle.std.specs.Prelude.{◌≡◌, ℕ}
use Rattle.pool_pages.specs.MakerTold.{MakerTold}
use Rattle.pool_hall.specs.Seat.{made_with, limits_of}
use Rattle.pool_hall.specs.declared.unit_name.SlotKind.{SlotKind}
use Rattle.pool_hall.specs.declared.view.View.{View}
use Rattle.pool_slots.specs.Plans.{allocators_of}
use Rattle.pool_driver.specs.Looking.{IsCounted}
use Rattle.pool_driver.specs.Origins.{about_of, inner_of}
use Rattle.pool_driver.specs.Placed.{pool_meaning}
use Rattle.pool_driver.specs.declared.looking.WarmSlots.{WarmSlots}
use Rattle.pool_driver.specs.declared.part.HallPart.{HallPart}
use Rattle.pool_callers.specs.Callers.{Allocator}

-- Of the slots of a kind of an allocator, whose shards a seat that had this view looked at one after the other, each once
module _ {P H M : Type 0} (told : M → MakerTold) (p : Allocator P H M) (v : View (HallPart P H M)) (kind : SlotKind) where
  -- These are the numbers of all shards together.
  abbrev pub IsWarmSum : WarmSlots → Type 0
  IsWarmSum found = IsCounted (pool_meaning (about_of told) inner_of) inner_of (made_with p.pool.hall) (limits_of p.pool.hall) v kind (allocators_of p.pool.plan kind) found

  -- So many are warm,
  pub record AreWarm (slots : ℕ) : Type 0 where
    pub found : WarmSlots
    pub counted : IsWarmSum found
    pub is : slots ≡ found.slots

  -- and so many bytes are resident in these.
  pub record AreResident (bytes : ℕ) : Type 0 where
    pub found : WarmSlots
    pub counted : IsWarmSum found
    pub is : bytes ≡ found.bytes_resident

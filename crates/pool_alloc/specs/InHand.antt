-- What the next step has in hand.
use Rattle.std.specs.Prelude.{Bool, true, false}
use Rattle.pool_alloc.specs.declared.frame.Phase.{Phase}
use Rattle.pool_alloc.specs.declared.frame.Phase.TheVariants.{Empty, Instantiate, MakeMemory, MakeTable, CountObject, CountHeap, PutBack, UncountObject, UncountHeap, PutHeap, FreeHeap, Reset, Purge, Release}

module _ {P H : Type 0} where
  -- an object of the call, or a heap or its memory
  abbrev pub holds_object : Phase P H → Bool
  holds_object (CountObject object) = true
  holds_object (CountHeap lease) = true
  holds_object (UncountObject object) = true
  holds_object (UncountHeap lease memory) = true
  holds_object (PutHeap lease memory) = true
  holds_object (FreeHeap name memory) = true
  holds_object (Reset object) = true
  holds_object _ = false

  -- such an object, or the region of a slot, or the lists of a sweep through all slots
  abbrev pub holds_region : Phase P H → Bool
  holds_region (Empty at held) = true
  holds_region (Instantiate at held) = true
  holds_region (MakeMemory at held) = true
  holds_region (MakeTable at region) = true
  holds_region (PutBack at held) = true
  holds_region (Purge cursor step) = true
  holds_region (Release step) = true
  holds_region phase = holds_object phase

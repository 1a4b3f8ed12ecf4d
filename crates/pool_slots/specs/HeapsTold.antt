-- What a maker of heaps tells of itself.
use Rattle.std.specs.Prelude.{◌≡◌, ℕ, ◌==◌, List, Bool, Option, Some}
use Rattle.pool_slots.specs.Imports.{list_any, Rose, risen}
use Rattle.pool_slots.specs.declared.heap_maker.HeapMakeFault.{HeapMakeFault}
use Rattle.pool_slots.specs.declared.heap_maker.HeapMakeFault.TheVariants.{Memory, HeapFault}

-- The numbers of its makings that fail, where it tells them. How many makings it was asked for so far, and how often one
-- failed.
pub record HeapsTold : Type 0 where
  pub plan : Option (List ℕ)
  pub made : ℕ
  pub faults : ℕ

-- under this plan the next making fails
abbrev pub fails_next : List ℕ → HeapsTold → Bool
fails_next plan t = list_any (λ n. n == risen t.made) plan

-- a fault raises the count, and want of memory leaves it
abbrev pub RaisesHeapFaults : ℕ → ℕ → HeapMakeFault → Type 0
RaisesHeapFaults old new Memory = new ≡ old
RaisesHeapFaults old new HeapFault = Rose old new

-- a maker in memory with a list of makings that fail
abbrev pub listed_heaps : List ℕ → ℕ → ℕ → HeapsTold
listed_heaps plan made faults = record { plan = Some plan; made = made; faults = faults }

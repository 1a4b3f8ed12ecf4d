-- What those tell that a party brings to its steps: its limiter, and its maker of heaps.
use Rattle.std.specs.Prelude.{◌≡◌, Result, MatchResult, IfErr, IfSome, IsSome, false, true}
use Rattle.pool_alloc.specs.Imports.{risen, LimiterTold, HeapsTold, RaisesHeapFaults, fails_next, HeapMakeFault, HeapFault}

-- What a party brings to its steps: what its limiter tells, and what its maker of heaps tells.
pub record PartyTold : Type 0 where
  pub limiter : LimiterTold
  pub heaps : HeapsTold

-- The maker is asked for a heap, and this is its answer: it counts the making, and its faults rise only where the making
-- failed. Where it tells its plan, that says which do, each of these counts once, and memory is never wanting.
pub record MakesHeap {H : Type 0} (answer : Result H HeapMakeFault) (old new : HeapsTold) : Type 0 where
  pub maker : new ≡ record old { made = risen old.made; faults = new.faults }
  pub faults : MatchResult answer (λ _. new.faults ≡ old.faults) (RaisesHeapFaults old.faults new.faults)
  pub planned : IfSome old.plan (λ plan. MatchResult answer (λ _. fails_next plan old ≡ false) (λ e. e ≡ HeapFault → fails_next plan old ≡ true))
  pub wants : IsSome old.plan → IfErr answer (λ e. (e ≡ HeapFault) × (new.faults ≡ risen old.faults))

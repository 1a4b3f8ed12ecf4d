-- A call that is no release, or no purge, doesn't become one.
use Rattle.std.proofs.Common.{◌≡◌, ⊎_elim, ℕ, ◌+◌, sym, ◌∙◌}
use Rattle.pool_alloc.specs.CallStages.{stage_at, stage_back, stage_by, stage_of_release}
use Rattle.pool_alloc.specs.declared.frame.Asked.{Asked}
use Rattle.pool_alloc.specs.declared.frame.Ending.{Ending}
use Rattle.pool_alloc.specs.declared.frame.Ending.TheVariants.{Granted as granted, Returned as returned, Refused as refused}
use Rattle.pool_alloc.specs.declared.frame.Phase.{Phase}
use Rattle.pool_alloc.specs.declared.frame.Phase.TheVariants.{Idle, Key, Validate, TestStack, TestHeap, CountInstance, CountObject, CountHeap, ValidateComponent, CountComponent, UncountComponent, Purge, Release}
use Rattle.pool_alloc.specs.declared.release.ReleaseStep.{ReleaseStep}
use Rattle.pool_alloc.specs.declared.release.ReleaseStep.TheVariants.{Reserve, TakeWarm, TakeRegion, Decommit, PutRegion, Free}
use Rattle.pool_driver.specs.Calling.{Becomes, CallKind, IsAsking, is_refused, kind_at, purges, releases}

-- A call that counts something off is no release,
off_no_release : (e : Ending) → kind_at (stage_back e) ≡ releases → ⊥
off_no_release granted is = absurd cc
off_no_release returned is = absurd cc
off_no_release (refused x) is = absurd cc

-- and no purge.
off_no_purge : (e : Ending) → kind_at (stage_back e) ≡ purges → ⊥
off_no_purge granted is = absurd cc
off_no_purge returned is = absurd cc
off_no_purge (refused x) is = absurd cc

-- One that has objects is no release,
objects_no_release : (what : Asked) (e : Ending) (n : ℕ) → kind_at (stage_by what e n) ≡ releases → ⊥
objects_no_release what granted n is = absurd cc
objects_no_release what returned n is = absurd cc
objects_no_release what (refused x) n is = absurd cc

-- and no purge.
objects_no_purge : (what : Asked) (e : Ending) (n : ℕ) → kind_at (stage_by what e n) ≡ purges → ⊥
objects_no_purge what granted n is = absurd cc
objects_no_purge what returned n is = absurd cc
objects_no_purge what (refused x) n is = absurd cc

-- A release is no purge.
release_no_purge : {P : Type 0} (step : ReleaseStep P) → kind_at (stage_of_release step) ≡ purges → ⊥
release_no_purge Reserve is = absurd cc
release_no_purge (TakeWarm r j) is = absurd cc
release_no_purge (TakeRegion r k) is = absurd cc
release_no_purge (Decommit r k at held) is = absurd cc
release_no_purge (PutRegion r k at held) is = absurd cc
release_no_purge (Free r x) is = absurd cc

module _ {P H : Type 0} where
  -- A phase of no release,
  abbrev pub IsNoRelease : Phase P H → Type 0
  IsNoRelease (Release step) = ⊥
  IsNoRelease _ = Unit {0}

  -- and one of no purge.
  abbrev pub IsNoPurge : Phase P H → Type 0
  IsNoPurge (Purge p step) = ⊥
  IsNoPurge _ = Unit {0}

  -- The call is no release then,
  pub no_release : (p : Phase P H) (what : Asked) (e : Ending) (n : ℕ) → IsNoRelease p → kind_at (stage_at p what e n) ≡ releases → ⊥
  no_release (Release step) what e n none is = none
  no_release Idle what e n none is = absurd cc
  no_release Key what e n none is = absurd cc
  no_release Validate what e n none is = absurd cc
  no_release TestStack what e n none is = absurd cc
  no_release TestHeap what e n none is = absurd cc
  no_release CountInstance what e n none is = absurd cc
  no_release (CountHeap lease) what e n none is = absurd cc
  no_release (ValidateComponent info) what e n none is = absurd cc
  no_release CountComponent what e n none is = absurd cc
  no_release UncountComponent what e n none is = off_no_release e is
  no_release (CountObject object) what e n none is = objects_no_release what e (n + 1) is
  no_release (Purge p step) what e n none is = absurd cc
  no_release p what e n none is = objects_no_release what e n is

  -- or no purge.
  pub no_purge : (p : Phase P H) (what : Asked) (e : Ending) (n : ℕ) → IsNoPurge p → kind_at (stage_at p what e n) ≡ purges → ⊥
  no_purge (Purge p step) what e n none is = none
  no_purge Idle what e n none is = absurd cc
  no_purge Key what e n none is = absurd cc
  no_purge Validate what e n none is = absurd cc
  no_purge TestStack what e n none is = absurd cc
  no_purge TestHeap what e n none is = absurd cc
  no_purge CountInstance what e n none is = absurd cc
  no_purge (CountHeap lease) what e n none is = absurd cc
  no_purge (ValidateComponent info) what e n none is = absurd cc
  no_purge CountComponent what e n none is = absurd cc
  no_purge UncountComponent what e n none is = off_no_purge e is
  no_purge (CountObject object) what e n none is = objects_no_purge what e (n + 1) is
  no_purge (Release step) what e n none is = release_no_purge step is
  no_purge p what e n none is = objects_no_purge what e n is

-- A call that isn't of a kind stays so.
pub other_on : (m k l : CallKind) → (m ≡ is_refused → ⊥) → Becomes k l → (k ≡ m → ⊥) → l ≡ m → ⊥
other_on m k l known becomes other is = ⊎_elim
    (λ (same : l ≡ k). other (sym same ∙ is))
    (λ (refused : IsAsking k × (l ≡ is_refused)). known (sym is ∙ refused.1))
    becomes

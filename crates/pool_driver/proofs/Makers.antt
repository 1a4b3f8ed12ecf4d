-- What a maker of regions tells after a pool was made, and a refusal for want of memory.
use Rattle.std.proofs.Common.{◌≡◌, Bool, List, Option, None, Some, IfSome, ◌∙◌}
use Rattle.pool_pages.specs.MakerTold.{MakerTold, Planned}
use Rattle.pool_slots.specs.declared.errors.PoolNewError.TheVariants as refused
use Rattle.pool_alloc.specs.Made.{NeedsListed}

-- a maker of which only the counts could change, and didn't
pub same_maker : (old new : MakerTold) → new ≡ record old { behind = new.behind; faults = new.faults } → new.behind ≡ old.behind → new.faults ≡ old.faults → new ≡ old
same_maker old new same behind faults = same ∙ (λ i. record old { behind = behind i; faults = faults i })

-- want of memory needs no call that is listed
pub memory_unlisted : (plan : Option (List Planned)) (fails : List Planned → Bool) → IfSome plan (λ p. NeedsListed (fails p) refused.Memory)
memory_unlisted None fails = tt
memory_unlisted (Some plan) fails = tt

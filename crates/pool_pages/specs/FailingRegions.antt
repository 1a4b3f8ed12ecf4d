-- What a region behind a list of failing calls tells.
use Rattle.pool_pages.specs.Told.{Told}
use Rattle.pool_pages.specs.FailingTold.{failing_told}
use Rattle.pool_pages.specs.declared.failing.Failing.{Failing}

-- What a region tells with a list of failing calls before it, by what it tells itself.
abbrev pub with_failing : {P : Type 0} → (P → Told) → Failing P → Told
with_failing told f = failing_told (told f.state.value.region) f.state.value.calls.listed f.state.value.calls.counts

-- What who counts a run makes of a turn.
use Rattle.std.specs.Prelude.{◌≡◌, ℕ, List, slice_get, slice_index_or, slice_set, Option}
use Rattle.pool_run.specs.Watching.{TurnTold}
use Rattle.pool_run.specs.declared.input.Input.{Input}
use Rattle.pool_view_summary.specs.Costs.{Sums, with_step}
use Rattle.pool_view_summary.specs.Counts.{counted}
use Rattle.pool_view_summary.specs.Made.{IsBoundOf, made_by}
use Rattle.pool_view_summary.specs.Marks.{marks_of}
use Rattle.pool_view_summary.specs.Seen.{seen_of, unseen}
use Rattle.pool_view_summary.specs.declared.seen.Seen.{Seen}
use Rattle.pool_view_summary.specs.declared.summary.Summary.{Summary}

-- The sums so far.
abbrev pub sums_of : Summary → Sums
sums_of s = record { costs = s.costs; marks = marks_of s.marks }

-- What was seen of a party.
abbrev pub seen_at : ℕ → List Seen → Seen
seen_at party list = slice_index_or list party unseen

-- The step of a turn is added, before which this was seen of its party. The contract of a private function.
abbrev pub AddsStep : {P : Type 0} → Input → TurnTold P → Seen → Sums → Sums → Type 0
AddsStep input t before old new =
    (bound : Option ℕ) × IsBoundOf input t bound × (new ≡ with_step (made_by input before (seen_of input t.party (slice_get t.run.parties t.party)) bound t (slice_get t.run.parties t.party)) old)

-- A turn is counted, its step is added, and what is seen of its party is kept.
pub record SumsTurn {P : Type 0} (input : Input) (t : TurnTold P) (old new : Summary) : Type 0 where
  pub counts : new.counts ≡ counted input t old.counts
  pub step : AddsStep input t (seen_at t.party old.seen.items) (sums_of old) (sums_of new)
  pub seen : new.seen.items ≡ slice_set old.seen.items t.party (seen_of input t.party (slice_get t.run.parties t.party))

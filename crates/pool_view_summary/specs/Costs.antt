-- What the steps of a run did and cost: what each adds to the sums, and the sums over all turns.
use Rattle.std.specs.Prelude.{◌≡◌, ℕ, List, [], ◌∷◌, ◌==◌, ◌&&◌, slice_get, max, Bool, true, false, if◌then◌else◌, Option, Some, None}
use Rattle.pool_types.specs.Rising.{risen}
use Rattle.pool_pages.specs.declared.pages.PageCalls.{PageCalls}
use Rattle.pool_run.specs.Watching.{TurnTold}
use Rattle.pool_run.specs.declared.input.Input.{Input}
use Rattle.pool_run.specs.declared.running_party.RunningParty.{RunningParty}
use Rattle.pool_view_steps.specs.declared.command_kind.CommandKind.{CommandKind}
use Rattle.pool_view_summary.specs.Kinds.{no_kinds, of_kind, of_kind_with, with_kind}
use Rattle.pool_view_summary.specs.Made.{IsBoundOf, frees, made_by}
use Rattle.pool_view_summary.specs.Marks.{Remembered, begins_flush, flushed_by, marked, no_marks, past_of, queue_length, wanted_for}
use Rattle.pool_view_summary.specs.Seen.{seen_of}
use Rattle.pool_view_summary.specs.declared.costs.Costs.{Costs}
use Rattle.pool_view_summary.specs.declared.costs.Flushes.{Flushes}
use Rattle.pool_view_summary.specs.declared.costs.Picks.{Picks}
use Rattle.pool_view_summary.specs.declared.kinds.Kinds.{Kinds}
use Rattle.pool_view_summary.specs.declared.made.Made.{Made}
use Rattle.pool_view_summary.specs.declared.marks.SlotPast.{SlotPast}
use Rattle.pool_view_summary.specs.declared.seen.Doing.{Doing}
use Rattle.pool_view_summary.specs.declared.seen.Doing.TheVariants as doing
use Rattle.pool_view_summary.specs.declared.seen.MemoryOf.{MemoryOf}

-- Nothing was done.
abbrev pub no_costs : Costs
no_costs = record {
  kinds = no_kinds;
  picks = record { cold = 0; warm = 0; affine = 0; full = 0 };
  flushes = record { count = 0; slots = 0; most = 0 };
  longest = 0;
  resident = 0;
}

-- Both are the same memory of a module.
abbrev pub is_same : Option MemoryOf → Option MemoryOf → Bool
is_same (Some a) (Some b) = (a.id.0 == b.id.0) && (a.index == b.index)
is_same _ _ = false

-- A slot more was picked for this memory: a cold one, one that was used for the memory last, or another warm one.
abbrev pub picked_with : SlotPast → Option MemoryOf → Picks → Picks
picked_with past wanted p =
    if past.used
    then (if is_same past.affine wanted then record p { affine = risen p.affine } else record p { warm = risen p.warm })
    else record p { cold = risen p.cold }

-- A shard was asked for a slot, and gave one or none.
abbrev pub picks_with : Doing → Doing → Remembered → Picks → Picks
picks_with (doing.Pick wanted) (doing.Take name) k p = picked_with (past_of name k) (wanted_for name.kind wanted) p
picks_with (doing.Pick wanted) _ k p = record p { full = risen p.full }
picks_with _ _ k p = p

-- A slot more was put back, with which a flush put so many back.
abbrev pub put_with : ℕ → Flushes → Flushes
put_with slots f = record f { slots = risen f.slots; most = max f.most slots }

-- a slot was put back by a party's flush, if that was done
abbrev pub put_if : Doing → ℕ → Remembered → Flushes → Flushes
put_if doing.PutBack party k f = put_with (risen (flushed_by party k)) f
put_if _ party k f = f

-- A flush began, or put a slot back.
abbrev pub flushes_with : Made → Remembered → Flushes → Flushes
flushes_with m k f = if begins_flush m.before m.after then record f { count = risen f.count } else put_if m.before m.party k f

-- The kind of a step's command has the step too.
abbrev pub kinds_with : Option CommandKind → PageCalls → Option ℕ → Option ℕ → Kinds → Kinds
kinds_with None calls steps bound ks = ks
kinds_with (Some kind) calls steps bound ks = with_kind kind (of_kind_with calls steps bound (of_kind kind ks)) ks

-- A queue that a slot is appended to may be the longest so far.
abbrev pub longest_with : Doing → ℕ → Remembered → ℕ → ℕ
longest_with doing.Append queue k longest = max longest (risen (queue_length queue k))
longest_with _ queue k longest = longest

-- More may be resident than so far where slots were freed.
abbrev pub resident_with : Made → ℕ → ℕ
resident_with m resident = if frees m.before then max resident m.resident else resident

-- What the steps did and cost, with one more, by what was remembered before it.
abbrev pub costs_with : Made → Remembered → Costs → Costs
costs_with m k c = record {
  kinds = kinds_with m.kind m.calls m.steps m.bound c.kinds;
  picks = picks_with m.before m.after k c.picks;
  flushes = flushes_with m k c.flushes;
  longest = longest_with m.before m.queue k c.longest;
  resident = resident_with m c.resident;
}

-- What the steps so far did and cost, and what is remembered of them.
pub record Sums : Type 0 where
  pub costs : Costs
  pub marks : Remembered

-- The sums with a step more.
abbrev pub with_step : Made → Sums → Sums
with_step m s = record { costs = costs_with m s.marks s.costs; marks = marked m s.marks }

-- The sums as a run of the input begins.
abbrev pub no_sums : Input → Sums
no_sums input = record { costs = no_costs; marks = no_marks input }

module _ {P : Type 0} where
  -- The step of a turn, where these were the parties before it, and this is known of its command's bound.
  abbrev pub step_of : Input → List (RunningParty P) → Option ℕ → TurnTold P → Made
  step_of input before bound t =
      made_by input (seen_of input t.party (slice_get before t.party)) (seen_of input t.party (slice_get t.run.parties t.party)) bound t (slice_get t.run.parties t.party)

  -- These turns bring the first sums to the second. These were the parties before the first turn, and each turn leaves those before the
  -- next.
  abbrev pub ComeTo : Input → List (RunningParty P) → List (TurnTold P) → Sums → Sums → Type 0
  ComeTo input before [] s end = end ≡ s
  ComeTo input before (t ∷ told) s end = (bound : Option ℕ) × IsBoundOf input t bound × ComeTo input t.run.parties told (with_step (step_of input before bound t) s) end

-- The costs are those of these turns of a run of the input, which began with these parties.
pub record CostTurns {P : Type 0} (input : Input) (before : List (RunningParty P)) (told : List (TurnTold P)) (costs : Costs) : Type 0 where
  pub marks : Remembered
  pub sums : ComeTo input before told (no_sums input) (record { costs = costs; marks = marks })

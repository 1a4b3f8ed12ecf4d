-- A run that was watched by one who counts is summed up.
use Rattle.std.proofs.Common.{◌≡◌, ℕ, List, ◌++◌, replicate, length, sym, subst, String, string_bytes}
use Rattle.std.specs.declared.alloc.Global.{Global}
use Rattle.pool_pages.specs.MakerTold.{MakerTold}
use Rattle.pool_run.specs.RunsMade.{commands_in}
use Rattle.pool_run.specs.Watching.{IsWatchedRun}
use Rattle.pool_run.specs.declared.input.Input.{Input}
use Rattle.pool_run.specs.declared.output.RunOutput.{RunOutput}
use Rattle.pool_view_summary.specs.Costs.{ComeTo, CostTurns, Sums, no_sums}
use Rattle.pool_view_summary.specs.CostsText.{costs_text}
use Rattle.pool_view_summary.specs.Counts.{no_counts}
use Rattle.pool_view_summary.specs.CountsText.{counts_text}
use Rattle.pool_view_summary.specs.Marks.{marks_of}
use Rattle.pool_view_summary.specs.Seen.{unseen}
use Rattle.pool_view_summary.specs.Shown.{IsSummary, IsSummedUp}
use Rattle.pool_view_summary.specs.Summing.{SumsTurn, sums_of}
use Rattle.pool_view_summary.specs.declared.seen.Seen.{Seen}
use Rattle.pool_view_summary.specs.declared.summary.Summary.{Summary}
use Rattle.pool_view_summary.proofs.Adding.{SeesAll, comes_to, sees_begun}
use Rattle.pool_view_summary.proofs.Counting.{counts_turns}

-- The costs are those of the turns of a run that was watched,
costs_of_run : {P : Type 0} (input : Input) (maker : MakerTold) (output : RunOutput) (w out : Summary) → sums_of w ≡ no_sums input → w.seen.items ≡ replicate (length input.parties) unseen → (is : IsWatchedRun P (SumsTurn input) input maker output w out) → CostTurns input is.run.start.parties is.watched.watched.told out.costs
costs_of_run {P} input maker output w out begun seen is =
    let Sees : List Seen → Type 0 = λ l. SeesAll {P = P} input l is.run.start.parties in
    let sees : SeesAll {P = P} input w.seen.items is.run.start.parties = subst Sees (sym seen) (sees_begun input is.run.start.core.settings is.run.start.parties is.run.made.parties) in
    let From : Sums → Type 0 = λ s. ComeTo input is.run.start.parties is.watched.watched.told s (sums_of out) in
    record {
      marks = marks_of out.marks;
      sums = subst From begun (comes_to input is.run.start.modules (commands_in input.parties) is.watched.turns _ _ is.watched.watched.told w out is.watched.watched.tells is.watched.watched.leads sees);
    }

-- it is summed up,
summed_up : {P : Type 0} (input : Input) (maker : MakerTold) (output : RunOutput) (w out : Summary) → w.counts ≡ no_counts → sums_of w ≡ no_sums input → w.seen.items ≡ replicate (length input.parties) unseen → IsWatchedRun P (SumsTurn input) input maker output w out → IsSummedUp P input maker output out.counts out.costs
summed_up input maker output w out none begun seen is = record {
  run = is.run;
  turns = is.watched.turns;
  order = is.watched.order;
  told = is.watched.watched.told;
  tells = is.watched.watched.tells;
  counted = counts_turns input (λ (s : Summary). s.counts) (SumsTurn input) (λ t a b sums. sums.counts) is.watched.watched.told w out none is.watched.watched.leads;
  cost = costs_of_run input maker output w out begun seen is;
}

-- and the text of counts and costs is a summary of it.
pub summary_of : {P : Type 0} (input : Input) (maker : MakerTold) (output : RunOutput) (w out : Summary) (text : String Global) → w.counts ≡ no_counts → sums_of w ≡ no_sums input → w.seen.items ≡ replicate (length input.parties) unseen → IsWatchedRun P (SumsTurn input) input maker output w out → string_bytes text ≡ counts_text out.counts ++ costs_text out.costs output → IsSummary P input maker text
summary_of input maker output w out text none begun seen is has = (output, out.counts, out.costs, summed_up input maker output w out none begun seen is, has)

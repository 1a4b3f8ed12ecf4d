-- Which of an input's faults can come, and how few of them a run meets.
use Rattle.std.specs.Prelude.{◌≡◌, ℕ, ◌≤◌, List, [], filter, Some}
use Rattle.pool_pages.specs.MakerTold.{MakerTold, plan_for}
use Rattle.pool_pages.specs.declared.pages.RegionName.TheVariants.{Memory as memory_region}
use Rattle.pool_driver.specs.ListedCalls.{EndsBeforeLast, listed_on}
use Rattle.pool_run.specs.Kept.{can_come}
use Rattle.pool_run.specs.Runs.{with_faults}
use Rattle.pool_run.specs.declared.input.Input.{Input}
use Rattle.pool_run.specs.declared.reply.Reply.{Reply}
use Rattle.pool_workers.specs.Joined.{faulted_of_all}

-- The input with those of its faults that can come.
abbrev pub coming : Input → Input
coming input = record input { faults = filter can_come input.faults }

-- All requests together that are refused for a failed page call are at most as many as the different calls that the plans list on the regions of
-- memory slots. No plan of a memory slot's region lists a last number, so that `HasRunBeside.growths` has no exception.
pub record AreFew (input : Input) (maker : MakerTold) (replies : List (List Reply)) : Type 0 where
  pub faults : faulted_of_all input.parties replies ≤ listed_on maker input.config.limits.total_memories
  pub ends : (slot : ℕ) → EndsBeforeLast (plan_for (memory_region slot) maker)

-- So it is over the faults of the input that can come, where the maker behind them tells that it has none of its own.
abbrev pub FewFaulted : Input → MakerTold → List (List Reply) → Type 0
FewFaulted input behind replies = behind.plan ≡ Some [] → AreFew input (with_faults (coming input) behind) replies

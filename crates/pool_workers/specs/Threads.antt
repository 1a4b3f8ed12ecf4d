-- What a run of an input gives that has a thread for each party.
use Rattle.std.specs.Prelude.{◌≡◌, ℕ, ◌<◌, ◌≤◌, List, length, false, IfSome}
use Rattle.pool_pages.specs.MakerTold.{MakerTold, no_calls}
use Rattle.pool_driver.specs.ListedCalls.{AllEndBeforeLast, listed_on}
use Rattle.pool_run.specs.Folds.{replies_to}
use Rattle.pool_run.specs.Made.{calls_made}
use Rattle.pool_run.specs.Numbers.{no_metrics}
use Rattle.pool_run.specs.Rooms.{IsPooledRun, world_at}
use Rattle.pool_run.specs.Runs.{making_listed, start_listed}
use Rattle.pool_run.specs.declared.input.Input.{Input}
use Rattle.pool_run.specs.declared.output.RunOutput.{RunOutput}
use Rattle.pool_run.specs.declared.reply.Reply.{Reply}
use Rattle.pool_threads.specs.Asked.{Scarce, refused}
use Rattle.pool_threads.specs.GrowthFaults.{AreGrowthsPlanned}
use Rattle.pool_threads.specs.Sharing.{party_in, shared_world}
use Rattle.pool_workers.specs.Joined.{asked_by_all, faulted_of_all, limit_of}

-- What a party was told is a private run of all its commands, in a stripe that there is.
pub record HasRunBeside (input : Input) (maker : MakerTold) (output : List (List Reply)) (i : ℕ) : Type 0 where
  pub stripe : ℕ
  pub inside : stripe < (shared_world input maker).terms.settings.num_stripes
  pub run : IsPooledRun (world_at (shared_world input maker) i stripe) (party_in input i).commands (replies_to i output)
  pub whole : length (replies_to i output) ≡ length (party_in input i).commands
  -- The growths of a memory that met a fault are no more than the plan of its slot's region allows.
  pub growths : AreGrowthsPlanned (world_at (shared_world input maker) i stripe) (party_in input i).commands (replies_to i output)
  -- It was refused for want of something only where all parties together ask for at least as much as there is, of memories in its stripe.
  pub refused_asked : (k : Scarce) → 0 < refused k (party_in input i).commands (replies_to i output) → limit_of (world_at (shared_world input maker) i stripe).terms k ≤ asked_by_all k (calls_made input.tunables maker.page 0 input.modules) input.parties output

-- So it is of each party of the input.
pub record HaveRunBeside (input : Input) (maker : MakerTold) (output : List (List Reply)) : Type 0 where
  pub count : length output ≡ length input.parties
  pub each : (i : ℕ) → i < length input.parties → HasRunBeside input maker output i
  -- Requests that are refused for a failed page call are together no more than the different calls that the plans of memory slots' regions list,
  -- where these are told, and end before the last number of a count of calls.
  pub faults : AllEndBeforeLast maker input.config.limits.total_memories → faulted_of_all input.parties output ≤ listed_on maker input.config.limits.total_memories

-- No making for the input is one that fails, by the maker's own list, and no call that makes a region of its pool by the maker's plan.
pub record IsUnlisted (input : Input) (maker : MakerTold) : Type 0 where
  pub own : making_listed input maker.listed ≡ false
  pub planned : IfSome maker.plan (λ plan. start_listed input plan ≡ false)

-- The output has no numbers.
pub record HasNoNumbers (output : RunOutput) : Type 0 where
  pub metrics : output.metrics ≡ no_metrics
  pub calls : output.calls ≡ no_calls

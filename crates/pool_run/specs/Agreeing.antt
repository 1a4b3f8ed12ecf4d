-- One input has one outcome. Where the maker tells what its regions hold, and which of their calls fail, nothing is left
-- open but whether there is memory for what a command asks for.
use Rattle.std.specs.Prelude.{◌≡◌, ◌↔◌, ℕ, List, slice_get, true, Some, None, IsSome}
use Rattle.pool_pages.specs.MakerTold.{MakerTold}
use Rattle.pool_slots.specs.declared.errors.AllocError.TheVariants as alloc
use Rattle.pool_run.specs.Built.{is_built, broken_rule}
use Rattle.pool_run.specs.Folds.{replies_to}
use Rattle.pool_run.specs.Runs.{IsRun}
use Rattle.pool_run.specs.declared.input.Input.{Input}
use Rattle.pool_run.specs.declared.output.RunOutput.{RunOutput}
use Rattle.pool_run.specs.declared.reply.Reply.{Reply}
use Rattle.pool_run.specs.declared.reply.Reply.TheVariants.{Refused}
use Rattle.pool_run.specs.declared.reply.Refusal.TheVariants.{Alloc}

-- The input is one of those that can be run so far, no rule of its settings is broken, and the maker has its page.
pub record IsRunnable (input : Input) (maker : MakerTold) : Type 0 where
  pub built : is_built input ≡ true
  pub rules : broken_rule input ≡ None
  pub page : maker.page ≡ input.page

-- the reply that there was no memory for it
abbrev pub want_of_memory : Reply
want_of_memory = Refused (Alloc alloc.Memory)

-- In both runs the same commands are refused for want of memory.
abbrev pub WantAlike : List (List Reply) → List (List Reply) → Type 0
WantAlike told other = (i n : ℕ) → (slice_get (replies_to i told) n ≡ Some want_of_memory) ↔ (slice_get (replies_to i other) n ≡ Some want_of_memory)

-- The output is the only one of a run of this input in which the same commands find no memory, where the maker tells what
-- its regions hold, and which of their calls fail.
abbrev pub IsOnlyRun : Type 0 → Input → MakerTold → RunOutput → Type 0
IsOnlyRun P input maker output = maker.tells ≡ true → IsSome maker.plan → (other : RunOutput) → IsRun P input maker other → WantAlike output.replies other.replies → other ≡ output

-- Two runs of one input give the same output, where the maker tells pages and plan and the same commands want memory.
abbrev pub RunsAgree : Type 0 → Type 0
RunsAgree P = (input : Input) (maker : MakerTold) (output : RunOutput) → IsRunnable input maker → IsRun P input maker output → IsOnlyRun P input maker output

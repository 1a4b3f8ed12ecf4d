-- What is seen of a party between its turns: what its next step is to do, as far as that is counted, and the calls so far on the
-- regions that this step may call.
use Rattle.std.specs.Prelude.{ℕ, List, length, slice_index_or, Bool, true, false, Option, Some, None, option_map}
use Rattle.pool_index.specs.declared.ids.MemoryInModule.{MemoryInModule}
use Rattle.pool_pages.specs.MakerTold.{no_calls}
use Rattle.pool_pages.specs.declared.pages.PageCalls.{PageCalls}
use Rattle.pool_alloc.specs.PoolTotals.{calls_in_frame}
use Rattle.pool_alloc.specs.StepReads.{wanted_of}
use Rattle.pool_alloc.specs.StepTable.{FlushStep, run, zero, put, free, flush_step}
use Rattle.pool_alloc.specs.declared.frame.Frame.{Frame}
use Rattle.pool_alloc.specs.declared.frame.Grant.{Grant}
use Rattle.pool_alloc.specs.declared.frame.Phase.{Phase}
use Rattle.pool_alloc.specs.declared.frame.Phase.TheVariants as phase
use Rattle.pool_alloc.specs.declared.purge.PurgeStep.{PurgeStep}
use Rattle.pool_alloc.specs.declared.purge.PurgeStep.TheVariants as purging
use Rattle.pool_alloc.specs.declared.release.ReleaseStep.{ReleaseStep}
use Rattle.pool_alloc.specs.declared.release.ReleaseStep.TheVariants as releasing
use Rattle.pool_slots.specs.declared.listed_heaps.PlainHeap.{PlainHeap}
use Rattle.pool_run.specs.Numbers.{with_grant}
use Rattle.pool_run.specs.declared.command.Command.{Command}
use Rattle.pool_run.specs.declared.command.Command.TheVariants.{Grow, TableGrow}
use Rattle.pool_run.specs.declared.input.Input.{Input}
use Rattle.pool_run.specs.declared.running_party.RunningParty.{RunningParty}
use Rattle.pool_view_steps.specs.Commands.{command_of}
use Rattle.pool_view_summary.specs.declared.seen.Doing.{Doing}
use Rattle.pool_view_summary.specs.declared.seen.Doing.TheVariants as doing
use Rattle.pool_view_summary.specs.declared.seen.MemoryOf.{MemoryOf}
use Rattle.pool_view_summary.specs.declared.seen.Seen.{Seen}

-- The memory of a module, with its number.
abbrev pub memory_of : MemoryInModule → MemoryOf
memory_of m = record { id = m.0; index = m.1.0 }

-- What the first step of a command is to do: only a growth calls regions in it. A party that hasn't drawn its stripe does that first.
abbrev pub doing_next : Bool → Option Command → Doing
doing_next true (Some (Grow of memory pages)) = doing.Grow
doing_next true (Some (TableGrow of table by)) = doing.Grow
doing_next _ _ = doing.Begin

-- what the next part of a flush is to do
abbrev pub flush_doing : FlushStep → Doing
flush_doing run = doing.Clean
flush_doing (zero kind) = doing.Clean
flush_doing (put kind) = doing.PutBack
flush_doing free = doing.FreeAll

-- what the next step of a purge is to do
abbrev pub purge_doing : {P : Type 0} → PurgeStep P → Doing
purge_doing (purging.Pick tried) = doing.PurgePick
purge_doing (purging.TakeRegion name) = doing.PurgeTake name
purge_doing (purging.Forget at held) = doing.Call
purge_doing (purging.PutRegion at held) = doing.Other
purge_doing (purging.Free name) = doing.Free

-- what the next step of a release is to do
abbrev pub release_doing : {P : Type 0} → ReleaseStep P → Doing
release_doing (releasing.Decommit r k at held) = doing.Call
release_doing (releasing.Free r x) = doing.Free
release_doing _ = doing.Other

-- What is seen of a party that does nothing yet.
abbrev pub unseen : Seen
unseen = record { doing = doing.Begin; calls = no_calls }

-- The next step may call regions.
abbrev pub may_call : Doing → Bool
may_call doing.Grow = true
may_call doing.Clean = true
may_call doing.Call = true
may_call _ = false

module _ {P : Type 0} where
  -- What a frame's next step is to do in each of its phases, where the next command is to do this.
  abbrev pub doing_at : Doing → Frame P PlainHeap → Phase P PlainHeap → Doing
  doing_at next f phase.Idle = next
  doing_at next f (phase.Pick tried) = doing.Pick (option_map memory_of (wanted_of f.asked (length f.objects.memories.items)))
  doing_at next f phase.TakeQueue = doing.TakeQueue f.queues
  doing_at next f (phase.TakeRegion name) = doing.Take name
  doing_at next f (phase.TakeHeap name) = doing.Take name
  doing_at next f (phase.Empty at held) = doing.Call
  doing_at next f (phase.Instantiate at held) = doing.Call
  doing_at next f (phase.MakeMemory at held) = doing.Call
  doing_at next f (phase.MakeTable at region) = doing.Call
  doing_at next f (phase.FreeOne name) = doing.Free
  doing_at next f (phase.FreeHeap name memory) = doing.Free
  doing_at next f (phase.Reset object) = doing.Call
  doing_at next f phase.Merge = doing.Append
  doing_at next f phase.Flush = flush_doing (flush_step f.local f.freed.items)
  doing_at next f (phase.Purge p step) = purge_doing step
  doing_at next f (phase.Release step) = release_doing step
  doing_at next f _ = doing.Other

  -- The calls with those on the regions of the grant that a command lets grow, if it does that.
  abbrev pub with_grown : Option Command → List (Option (Grant P PlainHeap)) → PageCalls → PageCalls
  with_grown (Some (Grow of memory pages)) live calls = with_grant calls (slice_index_or live of None)
  with_grown (Some (TableGrow of table by)) live calls = with_grant calls (slice_index_or live of None)
  with_grown _ live calls = calls

  -- The calls so far on the regions that the party's frame has, and on those that this command lets grow.
  abbrev pub calls_at : Option Command → RunningParty P → PageCalls
  calls_at command p = with_grown command p.live (calls_in_frame p.frame)

  -- the calls, where the step may call regions
  abbrev pub calls_if : Bool → Option Command → RunningParty P → PageCalls
  calls_if true command p = calls_at command p
  calls_if false command p = no_calls

  -- What is to be done is seen, and the calls.
  abbrev pub seen_doing : Doing → Option Command → RunningParty P → Seen
  seen_doing d command p = record { doing = d; calls = calls_if (may_call d) command p }

  -- What is seen of a party whose next command is this.
  abbrev pub seen_by : Option Command → RunningParty P → Seen
  seen_by command p = seen_doing (doing_at (doing_next p.keyed command) p.frame p.frame.phase) command p

  -- What is seen of party i of a run of the input, if there is one.
  abbrev pub seen_of : Input → ℕ → Option (RunningParty P) → Seen
  seen_of input i None = unseen
  seen_of input i (Some p) = seen_by (command_of input i p.done) p

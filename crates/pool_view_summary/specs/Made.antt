-- What a turn did, by what is seen of its party before it and after it, and by the run after it.
use Rattle.std.specs.Prelude.{◌≡◌, ℕ, ◌+◌, ◌-◌, ◌%◌, ◌==◌, List, [], slice_get, nat_lt, ◌&&◌, ◌||◌, Bool, true, false, if◌then◌else◌, Option, Some, None, IfSome}
use Rattle.pool_pages.specs.MakerTold.{no_calls}
use Rattle.pool_pages.specs.declared.pages.PageCalls.{PageCalls}
use Rattle.pool_hall.specs.declared.unit_name.SlotKind.TheVariants.{Memory as memory_kind, Stack as stack_kind, Table as table_kind}
use Rattle.pool_slots.specs.declared.plan.Plan.{Plan}
use Rattle.pool_alloc.specs.PoolTotals.{resident_sum}
use Rattle.pool_alloc.specs.StepBounds.{sizes_of}
use Rattle.pool_alloc.specs.declared.pool_core.PoolCore.{PoolCore}
use Rattle.pool_alloc.specs.declared.pool_core.Settings.{Settings}
use Rattle.pool_slots.specs.declared.listed_heaps.PlainHeap.{PlainHeap}
use Rattle.pool_run.specs.Bounds.{command_bound}
use Rattle.pool_run.specs.Watching.{TurnTold}
use Rattle.pool_run.specs.declared.command.Command.{Command}
use Rattle.pool_run.specs.declared.input.Input.{Input}
use Rattle.pool_run.specs.declared.input.Party.{Party}
use Rattle.pool_run.specs.declared.reply.Reply.{Reply}
use Rattle.pool_run.specs.declared.running_party.RunningParty.{RunningParty}
use Rattle.pool_view_steps.specs.Commands.{command_of, kind_of}
use Rattle.pool_view_steps.specs.declared.command_kind.CommandKind.{CommandKind}
use Rattle.pool_view_summary.specs.Counts.{at_most}
use Rattle.pool_view_summary.specs.Seen.{calls_at, seen_of}
use Rattle.pool_view_summary.specs.declared.made.Made.{Made}
use Rattle.pool_view_summary.specs.declared.seen.Doing.{Doing}
use Rattle.pool_view_summary.specs.declared.seen.Doing.TheVariants as doing
use Rattle.pool_view_summary.specs.declared.seen.Seen.{Seen}

-- The kind of a command, if there is one.
abbrev pub kind_if : Option Command → Option CommandKind
kind_if None = None
kind_if (Some command) = Some (kind_of command)

-- The calls of which some were made before.
abbrev pub calls_since : PageCalls → PageCalls → PageCalls
calls_since after before = record {
  expose = after.expose - before.expose;
  hide = after.hide - before.hide;
  map_image = after.map_image - before.map_image;
  remap_zeros = after.remap_zeros - before.remap_zeros;
  erase = after.erase - before.erase;
  recolour = after.recolour - before.recolour;
  decommit = after.decommit - before.decommit;
}

-- The queue that comes so many after a home queue, around so many queues.
abbrev pub nth_queue : ℕ → ℕ → ℕ → ℕ
nth_queue home tried queues = if queues == 0 then 0 else (home + tried) % queues

-- The queue of a step of a party with this home: the one that is taken, or the home queue.
abbrev pub queue_of : Doing → ℕ → Plan → ℕ
queue_of (doing.TakeQueue tried) home plan = nth_queue home tried plan.queues
queue_of _ home plan = nth_queue home 0 plan.queues

-- The step frees slots.
abbrev pub frees : Doing → Bool
frees doing.Free = true
frees doing.FreeAll = true
frees _ = false

-- Slots keep bytes resident by these settings.
abbrev pub keeps_resident : Settings → Bool
keeps_resident s = nat_lt 0 s.keep_resident.bytes || nat_lt 0 s.table_keep_resident.bytes || nat_lt 0 s.stack_keep_resident.bytes

-- The number of the command that a turn was of, where its party has so many replies after it.
abbrev pub turn_number : Option Reply → ℕ → ℕ
turn_number None done = done
turn_number (Some reply) done = done - 1

-- how many steps the call made, where its command ended with this turn
abbrev pub steps_if : Option Reply → ℕ → Option ℕ
steps_if None steps = None
steps_if (Some reply) steps = Some steps

abbrev pub commands_in : Option Party → List Command
commands_in None = []
commands_in (Some p) = p.commands

-- The commands of a party.
abbrev pub commands_at : Input → ℕ → List Command
commands_at input i = commands_in (slice_get input.parties i)

-- Nothing is made by a party that isn't there.
abbrev pub nothing_made : ℕ → Made
nothing_made i = record { party = i; before = doing.Begin; after = doing.Begin; calls = no_calls; kind = None; steps = None; bound = None; queue = 0; resident = 0 }

module _ {P : Type 0} where
  -- The bytes that free slots of the pool keep resident.
  abbrev pub resident_of : PoolCore P PlainHeap → ℕ
  resident_of c = at_most (at_most (resident_sum memory_kind c.parts + resident_sum table_kind c.parts) + resident_sum stack_kind c.parts)

  -- The same after a step that frees slots, by settings by which slots keep bytes.
  abbrev pub resident_if : Doing → PoolCore P PlainHeap → ℕ
  resident_if d c = if frees d && keeps_resident c.settings then resident_of c else 0

  -- The page calls of a step for this command: on the regions that it may call, those that come beside what was seen before it.
  abbrev pub calls_after : Doing → PageCalls → Option Command → RunningParty P → PageCalls
  calls_after doing.Grow before command p = calls_since (calls_at command p) before
  calls_after doing.Clean before command p = calls_since (calls_at command p) before
  calls_after doing.Call before command p = calls_since (calls_at command p) before
  calls_after _ before command p = no_calls

  abbrev pub calls_made : Seen → Option Command → RunningParty P → PageCalls
  calls_made before command p = calls_after before.doing before.calls command p

  -- The step that a party made which is so after it.
  abbrev pub made_from : Input → Seen → Seen → Option ℕ → PoolCore P PlainHeap → ℕ → Option Reply → RunningParty P → Made
  made_from input before after bound c i reply p = record {
    party = i;
    before = before.doing;
    after = after.doing;
    calls = calls_made before (command_of input i (turn_number reply p.done)) p;
    kind = kind_if (command_of input i (turn_number reply p.done));
    steps = steps_if reply p.frame.step_count;
    bound = bound;
    queue = queue_of before.doing p.frame.home c.plan;
    resident = resident_if before.doing c;
  }

  -- The step of a turn.
  abbrev pub made_by : Input → Seen → Seen → Option ℕ → TurnTold P → Option (RunningParty P) → Made
  made_by input before after bound t None = nothing_made t.party
  made_by input before after bound t (Some p) = made_from input before after bound t.run.core t.party t.reply p

  -- the number of the command that a turn of this party was of
  abbrev pub number_of : Option Reply → Option (RunningParty P) → ℕ
  number_of reply None = 0
  number_of reply (Some p) = turn_number reply p.done

  -- Where a bound of a turn's command is known, it is this: by the sizes of the pool.
  abbrev pub IsBoundOf : Input → TurnTold P → Option ℕ → Type 0
  IsBoundOf input t bound =
      IfSome bound (λ b. b ≡ command_bound (sizes_of t.run.core.settings t.run.core.plan) input.modules (commands_at input t.party) (number_of t.reply (slice_get t.run.parties t.party)))

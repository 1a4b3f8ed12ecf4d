-- What the commands of each kind cost.
use Rattle.std.specs.Prelude.{ℕ, ◌+◌, max, Option, Some, None}
use Rattle.pool_types.specs.Rising.{risen}
use Rattle.pool_pages.specs.CallSums.{added}
use Rattle.pool_pages.specs.MakerTold.{no_calls}
use Rattle.pool_pages.specs.declared.pages.PageCalls.{PageCalls}
use Rattle.pool_view_steps.specs.declared.command_kind.CommandKind.{CommandKind}
use Rattle.pool_view_steps.specs.declared.command_kind.CommandKind.TheVariants as kind
use Rattle.pool_view_summary.specs.Counts.{at_most}
use Rattle.pool_view_summary.specs.declared.kinds.Kinds.{Kinds}
use Rattle.pool_view_summary.specs.declared.kinds.OfKind.{OfKind}

-- No command did anything.
abbrev pub no_kind : OfKind
no_kind = record { commands = 0; steps = 0; most = 0; bound = Some 0; calls = no_calls }

-- The greater of two bounds, where both are known.
abbrev pub bound_with : Option ℕ → Option ℕ → Option ℕ
bound_with (Some a) (Some b) = Some (max a b)
bound_with _ _ = None

-- A command more ended, after so many steps, and this was their bound.
abbrev pub ended_with : ℕ → Option ℕ → OfKind → OfKind
ended_with steps bound k = record {
  commands = risen k.commands;
  steps = at_most (k.steps + steps);
  most = max k.most steps;
  bound = bound_with k.bound bound;
  calls = k.calls;
}

-- It ended, if it did.
abbrev pub ended_if : Option ℕ → Option ℕ → OfKind → OfKind
ended_if None bound k = k
ended_if (Some steps) bound k = ended_with steps bound k

-- With a step that made these page calls, and ended the command or didn't.
abbrev pub of_kind_with : PageCalls → Option ℕ → Option ℕ → OfKind → OfKind
of_kind_with calls steps bound k = ended_if steps bound (record k { calls = added k.calls calls })

-- No command of any kind did anything.
abbrev pub no_kinds : Kinds
no_kinds = record {
  instantiate = no_kind;
  component = no_kind;
  stack = no_kind;
  heap = no_kind;
  read = no_kind;
  write = no_kind;
  fill = no_kind;
  grow = no_kind;
  size = no_kind;
  get = no_kind;
  set = no_kind;
  table_fill = no_kind;
  table_grow = no_kind;
  table_size = no_kind;
  drop = no_kind;
  purge = no_kind;
  release = no_kind;
}

-- What those of a kind did.
abbrev pub of_kind : CommandKind → Kinds → OfKind
of_kind kind.Instantiate ks = ks.instantiate
of_kind kind.Component ks = ks.component
of_kind kind.Stack ks = ks.stack
of_kind kind.Heap ks = ks.heap
of_kind kind.Read ks = ks.read
of_kind kind.Write ks = ks.write
of_kind kind.Fill ks = ks.fill
of_kind kind.Grow ks = ks.grow
of_kind kind.Size ks = ks.size
of_kind kind.Get ks = ks.get
of_kind kind.Set ks = ks.set
of_kind kind.TableFill ks = ks.table_fill
of_kind kind.TableGrow ks = ks.table_grow
of_kind kind.TableSize ks = ks.table_size
of_kind kind.Drop ks = ks.drop
of_kind kind.Purge ks = ks.purge
of_kind kind.Release ks = ks.release

-- Those of a kind did this, and all others what they did.
abbrev pub with_kind : CommandKind → OfKind → Kinds → Kinds
with_kind kind.Instantiate k ks = record ks { instantiate = k }
with_kind kind.Component k ks = record ks { component = k }
with_kind kind.Stack k ks = record ks { stack = k }
with_kind kind.Heap k ks = record ks { heap = k }
with_kind kind.Read k ks = record ks { read = k }
with_kind kind.Write k ks = record ks { write = k }
with_kind kind.Fill k ks = record ks { fill = k }
with_kind kind.Grow k ks = record ks { grow = k }
with_kind kind.Size k ks = record ks { size = k }
with_kind kind.Get k ks = record ks { get = k }
with_kind kind.Set k ks = record ks { set = k }
with_kind kind.TableFill k ks = record ks { table_fill = k }
with_kind kind.TableGrow k ks = record ks { table_grow = k }
with_kind kind.TableSize k ks = record ks { table_size = k }
with_kind kind.Drop k ks = record ks { drop = k }
with_kind kind.Purge k ks = record ks { purge = k }
with_kind kind.Release k ks = record ks { release = k }

-- the page calls of requests
abbrev pub calls_of_requests : Kinds → PageCalls
calls_of_requests ks = added (added (added ks.instantiate.calls ks.component.calls) ks.stack.calls) ks.heap.calls

-- of commands on bytes
abbrev pub calls_of_bytes : Kinds → PageCalls
calls_of_bytes ks = added (added (added (added ks.read.calls ks.write.calls) ks.fill.calls) ks.grow.calls) ks.size.calls

-- of commands on elements
abbrev pub calls_of_elements : Kinds → PageCalls
calls_of_elements ks = added (added (added (added ks.get.calls ks.set.calls) ks.table_fill.calls) ks.table_grow.calls) ks.table_size.calls

-- of all others
abbrev pub calls_of_ends : Kinds → PageCalls
calls_of_ends ks = added (added ks.drop.calls ks.purge.calls) ks.release.calls

-- The page calls of all commands.
abbrev pub calls_of_kinds : Kinds → PageCalls
calls_of_kinds ks = added (added (added (calls_of_requests ks) (calls_of_bytes ks)) (calls_of_elements ks)) (calls_of_ends ks)

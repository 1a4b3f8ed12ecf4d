-- The lines of what the steps of a run did and cost.
use Rattle.std.specs.Prelude.{ℕ, ◌+◌, List, [], ◌++◌, ◌==◌, ◌&&◌, nat_lt, ◌||◌, codes, Bool, not, if◌then◌else◌, Option, Some, None}
use Rattle.std.specs.Fmt.{decimal}
use Rattle.pool_pages.specs.declared.pages.PageCalls.{PageCalls}
use Rattle.pool_alloc.specs.declared.metrics.Metrics.{Metrics}
use Rattle.pool_forms.specs.Output.{line_feed}
use Rattle.pool_run.specs.declared.output.RunOutput.{RunOutput}
use Rattle.pool_view_steps.specs.CallsText.{calls_text}
use Rattle.pool_view_steps.specs.Commands.{word_of}
use Rattle.pool_view_steps.specs.declared.command_kind.CommandKind.{CommandKind}
use Rattle.pool_view_steps.specs.declared.command_kind.CommandKind.TheVariants as kind
use Rattle.pool_view_summary.specs.Counts.{at_most}
use Rattle.pool_view_summary.specs.CountsText.{count_line}
use Rattle.pool_view_summary.specs.Kinds.{calls_of_kinds, of_kind}
use Rattle.pool_view_summary.specs.Made.{calls_since}
use Rattle.pool_view_summary.specs.declared.costs.Costs.{Costs}
use Rattle.pool_view_summary.specs.declared.costs.Flushes.{Flushes}
use Rattle.pool_view_summary.specs.declared.costs.Picks.{Picks}
use Rattle.pool_view_summary.specs.declared.kinds.Kinds.{Kinds}
use Rattle.pool_view_summary.specs.declared.kinds.OfKind.{OfKind}

-- the line of the picks
unfoldable pub picks_line : Picks → List ℕ
picks_line p = codes "picks cold=" ++ (decimal p.cold ++ (codes " warm=" ++ (decimal p.warm ++ (codes " affine=" ++ (decimal p.affine ++ (codes " full=" ++ (decimal p.full ++ line_feed)))))))

-- the line of the flushes
unfoldable pub flushes_line : Flushes → List ℕ
flushes_line f = codes "flushes " ++ (decimal f.count ++ (codes " slots=" ++ (decimal f.slots ++ (codes " most=" ++ (decimal f.most ++ line_feed)))))

-- the number, or none
abbrev pub or_none : Option ℕ → ℕ
or_none None = 0
or_none (Some n) = n

-- The bytes that free slots keep resident, by these numbers of a pool.
abbrev pub resident_at : Metrics → ℕ
resident_at m = at_most (at_most (m.unused_memory_bytes_resident + m.unused_table_bytes_resident) + or_none m.unused_stack_bytes_resident)

-- the line of resident bytes: how many at most, and at the end
unfoldable pub resident_line : ℕ → ℕ → List ℕ
resident_line most end = codes "resident most=" ++ (decimal most ++ (codes " end=" ++ (decimal end ++ line_feed)))

-- a bound, or a dash where none is known
unfoldable pub number_text : Option ℕ → List ℕ
number_text None = codes "-"
number_text (Some n) = decimal n

-- No call was made.
abbrev pub calls_none : PageCalls → Bool
calls_none c = (c.expose == 0) && (c.hide == 0) && (c.map_image == 0) && (c.remap_zeros == 0) && (c.erase == 0) && (c.recolour == 0) && (c.decommit == 0)

-- A command of the kind ended, or made a page call.
abbrev pub is_there : OfKind → Bool
is_there k = nat_lt 0 k.commands || not (calls_none k.calls)

-- the numbers of a kind's line
unfoldable pub kind_numbers : OfKind → List ℕ
kind_numbers k = codes " | " ++ (decimal k.commands ++ (codes " | " ++ (decimal k.steps ++ (codes " | " ++ (decimal k.most ++ codes " | ")))))

-- the line of a kind
unfoldable pub kind_line : List ℕ → OfKind → List ℕ
kind_line word k = word ++ kind_numbers k ++ number_text k.bound ++ codes " | " ++ calls_text k.calls ++ line_feed

-- the line of a kind of commands, if there is something to show
unfoldable pub kind_text : CommandKind → Kinds → List ℕ
kind_text kind ks = if is_there (of_kind kind ks) then kind_line (word_of kind) (of_kind kind ks) else []

-- the kinds of requests
unfoldable pub requests_text : Kinds → List ℕ
requests_text ks = kind_text kind.Instantiate ks ++ kind_text kind.Component ks ++ kind_text kind.Stack ks ++ kind_text kind.Heap ks

-- the kinds of commands on bytes
unfoldable pub bytes_text : Kinds → List ℕ
bytes_text ks = kind_text kind.Read ks ++ kind_text kind.Write ks ++ kind_text kind.Fill ks ++ kind_text kind.Grow ks ++ kind_text kind.Size ks

-- the kinds of commands on elements
unfoldable pub elements_text : Kinds → List ℕ
elements_text ks = kind_text kind.Get ks ++ kind_text kind.Set ks ++ kind_text kind.TableFill ks ++ kind_text kind.TableGrow ks ++ kind_text kind.TableSize ks

-- all others
unfoldable pub ends_text : Kinds → List ℕ
ends_text ks = kind_text kind.Drop ks ++ kind_text kind.Purge ks ++ kind_text kind.Release ks

-- The table of the kinds of commands.
unfoldable pub kinds_text : Kinds → List ℕ
kinds_text ks = codes "command | commands | steps | most | bound | page calls" ++ line_feed ++ requests_text ks ++ bytes_text ks ++ elements_text ks ++ ends_text ks

-- a line of page calls
unfoldable pub pages_line : List ℕ → PageCalls → List ℕ
pages_line name calls = name ++ calls_text calls ++ line_feed

-- the page calls of no command, and all
unfoldable pub pages_text : Kinds → PageCalls → List ℕ
pages_text ks calls = pages_line (codes "page calls as the pool is made | ") (calls_since calls (calls_of_kinds ks)) ++ pages_line (codes "page calls in all | ") calls

-- what was picked, flushed, queued and kept resident
unfoldable pub slots_text : Costs → Metrics → List ℕ
slots_text c metrics = picks_line c.picks ++ flushes_line c.flushes ++ count_line (codes "longest queue") c.longest ++ resident_line c.resident (resident_at metrics)

-- What the steps of a run with this output did and cost.
unfoldable pub costs_text : Costs → RunOutput → List ℕ
costs_text c output = slots_text c output.metrics ++ kinds_text c.kinds ++ pages_text c.kinds output.calls

-- The lines of what is counted of a run.
use Rattle.std.specs.Prelude.{ℕ, List, [], ◌++◌, ◌==◌, codes, if◌then◌else◌}
use Rattle.std.specs.Fmt.{decimal}
use Rattle.pool_forms.specs.Output.{line_feed}
use Rattle.pool_view_summary.specs.declared.counts.Counts.{Counts}
use Rattle.pool_view_summary.specs.declared.counts.Refusals.{Refusals}

-- the line of a count
unfoldable pub count_line : List ℕ → ℕ → List ℕ
count_line name n = name ++ codes " " ++ decimal n ++ line_feed

-- the line of a cause, where something was refused for it
unfoldable pub cause_line : List ℕ → ℕ → List ℕ
cause_line name n = if n == 0 then [] else count_line name n

-- the causes that lie with a command, with the settings, or with what is free
unfoldable pub request_causes_text : Refusals → List ℕ
request_causes_text r =
    cause_line (codes "refused NoSuchGrant") r.no_such_grant
    ++ cause_line (codes "refused NoMemory") r.no_memory
    ++ cause_line (codes "refused Unsupported") r.unsupported
    ++ cause_line (codes "refused PoolConcurrencyLimitError") r.limit

-- the causes of kinds that are turned off, and of limiters
unfoldable pub limit_causes_text : Refusals → List ℕ
limit_causes_text r =
    cause_line (codes "refused StacksDisabled") r.stacks_disabled
    ++ cause_line (codes "refused HeapsDisabled") r.heaps_disabled
    ++ cause_line (codes "refused LimiterDenied") r.limiter_denied
    ++ cause_line (codes "refused LimiterFault") r.limiter_fault

-- the causes that are faults
unfoldable pub fault_causes_text : Refusals → List ℕ
fault_causes_text r =
    cause_line (codes "refused PageFault") r.page_fault
    ++ cause_line (codes "refused HeapFault") r.heap_fault
    ++ cause_line (codes "refused GcStoreFault") r.gc_store_fault

-- a line for each cause for which something was refused
unfoldable pub refusals_text : Refusals → List ℕ
refusals_text r = request_causes_text r ++ limit_causes_text r ++ fault_causes_text r

-- All that is counted: a line for the steps, one for the requests, and one for each cause for which something was refused.
unfoldable pub counts_text : Counts → List ℕ
counts_text c = count_line (codes "steps") c.steps ++ count_line (codes "requests") c.requests ++ refusals_text c.refusals

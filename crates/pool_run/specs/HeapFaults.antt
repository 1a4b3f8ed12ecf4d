-- How often the maker of heaps fails: replies tell of it at most as often as its list says.
use Rattle.std.specs.Prelude.{ℕ, zero, suc, ◌+◌, ◌^◌, ◌<◌, ◌≤◌, ◌==◌, List, length, take, count_by, Bool, true, false}
use Rattle.pool_run.specs.Imports.{list_any, HeapFault, one_if}
use Rattle.pool_run.specs.Acts.{Act, requests, act_of, a_heap}
use Rattle.pool_run.specs.Private.{Terms, IsPrivateRun}
use Rattle.pool_run.specs.declared.command.Command.{Command}
use Rattle.pool_run.specs.declared.reply.Reply.{Reply}
use Rattle.pool_run.specs.declared.reply.Reply.TheVariants.{Refused}
use Rattle.pool_run.specs.declared.reply.Refusal.TheVariants.{Alloc}

-- a heap is requested
abbrev pub asks_heap : Act → Bool
asks_heap (requests (a_heap limits)) = true
asks_heap _ = false

-- a reply tells that the maker of heaps failed
abbrev pub is_heap_fault : Reply → Bool
is_heap_fault (Refused (Alloc HeapFault)) = true
is_heap_fault _ = false

-- How many of these commands request a heap.
abbrev pub heaps_asked : List Command → ℕ
heaps_asked commands = count_by (λ command. asks_heap (act_of command)) commands

-- How many of the replies tell that the maker of heaps failed.
abbrev pub heaps_failed : List Reply → ℕ
heaps_failed replies = count_by is_heap_fault replies

-- how many of the numbers from 1 to n are listed
abbrev pub listed_to : List ℕ → ℕ → ℕ
listed_to listed zero = 0
listed_to listed (suc n) = one_if (list_any (λ k. k == n + 1) listed) + listed_to listed n

-- Of the replies to the first n commands, whatever these ask for, at most as many tell of such a failure as the list has
-- different numbers up to that of the requests for heaps among them.
abbrev pub FewHeapFaults : List ℕ → List Command → List Reply → Type 0
FewHeapFaults unmade commands replies = (n : ℕ) → heaps_failed (take n replies) ≤ listed_to unmade (heaps_asked (take n commands))

-- The replies of each private run are such.
abbrev pub HeapFaultsAreListed : Type 0
HeapFaultsAreListed = (t : Terms) (commands : List Command) (replies : List Reply) → length commands < 2 ^ 64 → IsPrivateRun t commands replies → FewHeapFaults t.host.unmade commands replies

-- On demand each heap that is granted is made, so replies tell of failures as with a pool.
use Rattle.std.proofs.Common.{ℕ, ◌+◌, ◌-◌, ◌^◌, ◌<◌, inr, ap}
use Rattle.pool_run_on_demand.proofs.Imports.{one_if, Limits, Act, requests, on_memory, on_table, drops, purges, releases, act_of, an_instance, a_component, a_stack, a_heap, heap_type, asks_heap, is_heap_fault, Terms, PrivateState, grant_at, table_at, with_grants, no_grants, Reply, Refused, Alloc, drop_other, Leaves, granted_leaves, refused_leaves, other_leaves, same_heaps, table_leaves, run_leaves}
use Rattle.pool_run.specs.declared.reply.Reply.TheVariants.{Heap}
use Rattle.pool_run_on_demand.specs.OnDemand.{request_on_demand, MakesHeap, TableMovesOnDemand, ActsOnDemand, StepOnDemand}
use Rattle.pool_run_on_demand.proofs.StepsBy.{meeting_by}
use Rattle.pool_run_on_demand.proofs.OtherReplies.{bytes_other_on_demand, table_named_other_on_demand, made_other, component_made_other, stack_made_other}
use Rattle.pool_run_on_demand.specs.HeapFaults.{HeapFaultsAreListedOnDemand}

heap_leaves_on_demand : (t : Terms) (n : ℕ) (limits : Limits) (s new : PrivateState) (reply : Reply) → s.heaps + 1 < 2 ^ 64 → MakesHeap t n (heap_type limits) s reply new → Leaves t.host.unmade 1 (one_if (is_heap_fault reply)) s.heaps new.heaps
heap_leaves_on_demand t n limits s new (Heap slot memory) small makes = granted_leaves t.host.unmade s.heaps new.heaps small (inr (makes.0.made, ap (λ (y : PrivateState). y.heaps) makes.1.1.1))
heap_leaves_on_demand t n limits s new (Refused (Alloc e)) small makes = refused_leaves t.host.unmade e s.heaps new.heaps small makes.1.0
heap_leaves_on_demand t n limits s new _ small makes = absurd makes

act_leaves_on_demand : (t : Terms) (n : ℕ) (act : Act) (s new : PrivateState) (reply : Reply) → s.heaps + 1 < 2 ^ 64 → ActsOnDemand t n s act reply new → Leaves t.host.unmade (one_if (asks_heap act)) (one_if (is_heap_fault reply)) s.heaps new.heaps
act_leaves_on_demand t n (requests (an_instance number)) s new reply small is = other_leaves t.host.unmade s new reply (made_other t n (request_on_demand t number) s.grants is.0 reply is.1) (same_heaps s new is.0 is.2)
act_leaves_on_demand t n (requests (a_component info)) s new reply small is = other_leaves t.host.unmade s new reply (component_made_other n s.grants is.0 reply is.1) (same_heaps s new is.0 is.2)
act_leaves_on_demand t n (requests a_stack) s new reply small is = other_leaves t.host.unmade s new reply (stack_made_other t n s.grants is.0 reply is.1) (same_heaps s new is.0 is.2)
act_leaves_on_demand t n (requests (a_heap limits)) s new reply small is = heap_leaves_on_demand t n limits s new reply small is
act_leaves_on_demand t n (on_memory of k op) s new reply small is = other_leaves t.host.unmade s new reply (bytes_other_on_demand op t.host.rule (grant_at s.grants of) of k s.grants is.0 reply is.1) (same_heaps s new is.0 is.2)
act_leaves_on_demand t n (on_table of k op) s new reply small is = other_leaves t.host.unmade s new reply (table_named_other_on_demand op t.host of k s new reply is) (table_leaves of k (TableMovesOnDemand op t.host) (table_at of k s) s new reply is)
act_leaves_on_demand t n (drops of) s new reply small is = other_leaves t.host.unmade s new reply (drop_other (grant_at s.grants of) of s.grants is.0 reply is.1) (same_heaps s new is.0 is.2)
act_leaves_on_demand t n (purges number) s new reply small is = other_leaves t.host.unmade s new reply (ap is_heap_fault is.0) (ap (λ (y : PrivateState). y.heaps) is.1)
act_leaves_on_demand t n releases s new reply small is = other_leaves t.host.unmade s new reply (ap is_heap_fault is.0) (ap (λ (y : PrivateState). y.heaps) is.1)

pub heap_faults_listed_on_demand : HeapFaultsAreListedOnDemand
heap_faults_listed_on_demand t commands replies met small run =
    run_leaves t.host.unmade (StepOnDemand t) (λ n s new command reply room step. act_leaves_on_demand t n (act_of command) s new reply room step) commands replies run.0 small
    (meeting_by t 0 commands replies (with_grants (no_grants commands)) met run.0 run.1)

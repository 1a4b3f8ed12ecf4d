-- The maker of heaps fails where its list says, and nowhere else.
use Rattle.std.proofs.Common.{◌≡◌, ℕ, zero, suc, ◌+◌, ◌-◌, ◌^◌, ◌<◌, ◌≤◌, inl, inr, ◌==◌, List, [], ◌∷◌, length, take, Bool, true, false, Option, Some, None, refl, sym, ap, ◌∙◌, subst, arith, not}
use Rattle.pool_run.proofs.Imports.{list_any, sum_by-cons, one_at_most, risen, one_if, AllocError, Limits}
use Rattle.pool_slots.specs.declared.errors.AllocError.TheVariants.{HeapFault}
use Rattle.pool_run.specs.Acts.{Act, requests, on_memory, on_table, drops, purges, releases, act_of, an_instance, a_component, a_stack, a_heap, heap_type}
use Rattle.pool_run.specs.HeapFaults.{asks_heap, is_heap_fault, heaps_asked, heaps_failed, listed_to, FewHeapFaults, HeapFaultsAreListed}
use Rattle.pool_run.specs.Objects.{MovesNamed}
use Rattle.pool_run.specs.Private.{Terms, Moves, request_of, PrivateState, PrivateStep, StepsBy, CountsRefused, CountsGranted, AsksForHeap, Grants, grant_at, table_at, with_table, with_grants, no_grants}
use Rattle.pool_run.specs.PrivateTables.{StoredTable, TableMoves, goes_through}
use Rattle.pool_run.specs.declared.command.Command.{Command}
use Rattle.pool_run.specs.declared.reply.Reply.{Reply}
use Rattle.pool_run.specs.declared.reply.Reply.TheVariants.{Refused, Heap}
use Rattle.pool_run.specs.declared.reply.Refusal.TheVariants.{Alloc}
use Rattle.pool_run.proofs.OtherReplies.{IsOther, bytes_other, table_named_other, drop_other, purged_other, released_other, instance_other, component_other, stack_asked_other}

not_through : (b : Bool) → not b ≡ false → one_if b ≡ 1
not_through true is = refl
not_through false is = absurd cc

-- a number more is listed, or not
listed_next : (listed : List ℕ) (n : ℕ) → listed_to listed (n + 1) ≡ one_if (list_any (λ k. k == n + 1) listed) + listed_to listed n
listed_next listed n =
    let next : suc n ≡ n + 1 = omega arith in
    ap (listed_to listed) (sym next)

listed_more : (listed : List ℕ) (n k : ℕ) → listed_to listed n ≤ listed_to listed (n + k)
listed_more listed n zero =
    let same : n ≡ n + 0 = omega arith in
    subst (λ (x : ℕ). listed_to listed n ≤ listed_to listed x) same (omega arith)
listed_more listed n (suc k) =
    let same : (n + k) + 1 ≡ n + suc k = omega arith in
    subst (λ (x : ℕ). listed_to listed n ≤ listed_to listed x) same (omega (arith, listed_more listed n k, listed_next listed (n + k)))

listed_up : (listed : List ℕ) (n m : ℕ) → n ≤ m → listed_to listed n ≤ listed_to listed m
listed_up listed n m up =
    let is : n + (m - n) ≡ m = omega (arith, up) in
    subst (λ (x : ℕ). listed_to listed n ≤ listed_to listed x) is (listed_more listed n (m - n))

-- What a command leaves of the calls: at most one more, and its failure is listed.
pub record Leaves (unmade : List ℕ) (asked failed before after : ℕ) : Type 0 where
  pub listed : failed + listed_to unmade before ≤ listed_to unmade after
  pub up : before ≤ after
  pub few : after ≤ before + asked

same_leaves : (unmade : List ℕ) (asked before after : ℕ) → after ≡ before → Leaves unmade asked 0 before after
same_leaves unmade asked before after same =
    let L : ℕ → Type 0 = λ x. Leaves unmade asked 0 before x in
    subst L (sym same) (record { listed = omega arith; up = omega arith; few = omega arith })

risen_one : (n : ℕ) → n + 1 < 2 ^ 64 → risen n ≡ n + 1
risen_one n small = omega (arith, small)

pub granted_leaves : (unmade : List ℕ) (before after : ℕ) → before + 1 < 2 ^ 64 → CountsGranted unmade before after → Leaves unmade 1 0 before after
granted_leaves unmade before after small (inl same) = same_leaves unmade 1 before after same
granted_leaves unmade before after small (inr rose) =
    let L : ℕ → Type 0 = λ x. Leaves unmade 1 0 before x in
    let up : before + 1 ≡ after = sym (rose.1 ∙ risen_one before small) in
    subst L up (record { listed = omega (arith, listed_next unmade before); up = omega arith; few = omega arith })

fault_leaves : (unmade : List ℕ) (before after : ℕ) → before + 1 < 2 ^ 64 → (goes_through unmade before ≡ false) × (after ≡ risen before) → Leaves unmade 1 1 before after
fault_leaves unmade before after small is =
    let L : ℕ → Type 0 = λ x. Leaves unmade 1 1 before x in
    let one : risen before ≡ before + 1 = risen_one before small in
    let Any : ℕ → Bool = λ m. list_any (λ k. k == m) unmade in
    let through : not (Any (before + 1)) ≡ false = subst (λ (m : ℕ). not (Any m) ≡ false) one is.0 in
    let listed : one_if (Any (before + 1)) ≡ 1 = not_through (Any (before + 1)) through in
    subst L (sym (is.1 ∙ one)) (record { listed = omega (arith, listed, listed_next unmade before); up = omega arith; few = omega arith })

pub refused_leaves : (unmade : List ℕ) (e : AllocError) (before after : ℕ) → before + 1 < 2 ^ 64 → CountsRefused unmade e before after → Leaves unmade 1 (one_if (is_heap_fault (Refused (Alloc e)))) before after
refused_leaves unmade HeapFault before after small counts = fault_leaves unmade before after small counts
refused_leaves unmade _ before after small counts = same_leaves unmade 1 before after counts

-- Steps by these of commands leave so.
abbrev pub StepsLeave : List ℕ → (ℕ → PrivateState → Command → Reply → PrivateState → Type 0) → Type 0
StepsLeave unmade Step = (n : ℕ) (s new : PrivateState) (command : Command) (reply : Reply) → s.heaps + 1 < 2 ^ 64 → Step n s command reply new → Leaves unmade (one_if (asks_heap (act_of command))) (one_if (is_heap_fault reply)) s.heaps new.heaps

-- A command that doesn't ask for a heap makes none.
pub other_leaves : (unmade : List ℕ) (s new : PrivateState) (reply : Reply) → IsOther reply → new.heaps ≡ s.heaps → Leaves unmade 0 (one_if (is_heap_fault reply)) s.heaps new.heaps
other_leaves unmade s new reply other same =
    let L : Bool → Type 0 = λ b. Leaves unmade 0 (one_if b) s.heaps new.heaps in
    subst L (sym other) (same_leaves unmade 0 s.heaps new.heaps same)

pub same_heaps : (s new : PrivateState) (grants : Grants) → new ≡ record s { grants = grants } → new.heaps ≡ s.heaps
same_heaps s new grants is = ap (λ (y : PrivateState). y.heaps) is

pub table_leaves : (of k : ℕ) (Move : StoredTable → StoredTable → Reply → Type 0) (x : Option StoredTable) (s new : PrivateState) (reply : Reply) → MovesNamed Move x (with_table of k) s reply new → new.heaps ≡ s.heaps
table_leaves of k Move None s new reply moves = ap (λ (y : PrivateState). y.heaps) moves.1
table_leaves of k Move (Some t) s new reply moves = ap (λ (y : PrivateState). y.heaps) moves.2

-- with a pool
heap_leaves : (t : Terms) (n : ℕ) (limits : Limits) (s new : PrivateState) (reply : Reply) → s.heaps + 1 < 2 ^ 64 → AsksForHeap t n (heap_type limits) s reply new → Leaves t.host.unmade 1 (one_if (is_heap_fault reply)) s.heaps new.heaps
heap_leaves t n limits s new (Heap slot memory) small asks = granted_leaves t.host.unmade s.heaps new.heaps small asks.2
heap_leaves t n limits s new (Refused (Alloc e)) small asks = refused_leaves t.host.unmade e s.heaps new.heaps small asks.1
heap_leaves t n limits s new _ small asks = absurd asks

act_leaves : (t : Terms) (n : ℕ) (act : Act) (s new : PrivateState) (reply : Reply) → s.heaps + 1 < 2 ^ 64 → Moves t n s act reply new → Leaves t.host.unmade (one_if (asks_heap act)) (one_if (is_heap_fault reply)) s.heaps new.heaps
act_leaves t n (requests (an_instance number)) s new reply small is = other_leaves t.host.unmade s new reply (instance_other t n (request_of t number) s.grants is.0 reply is.1) (same_heaps s new is.0 is.2)
act_leaves t n (requests (a_component info)) s new reply small is = other_leaves t.host.unmade s new reply (component_other t n info s.grants is.0 reply is.1) (same_heaps s new is.0 is.2)
act_leaves t n (requests a_stack) s new reply small is = other_leaves t.host.unmade s new reply (stack_asked_other t n s.grants is.0 reply is.1) (same_heaps s new is.0 is.2)
act_leaves t n (requests (a_heap limits)) s new reply small is = heap_leaves t n limits s new reply small is
act_leaves t n (on_memory of k op) s new reply small is = other_leaves t.host.unmade s new reply (bytes_other op t.host.rule (grant_at s.grants of) of k s.grants is.0 reply is.1) (same_heaps s new is.0 is.2)
act_leaves t n (on_table of k op) s new reply small is = other_leaves t.host.unmade s new reply (table_named_other op t.host of k s new reply is) (table_leaves of k (TableMoves op t.host) (table_at of k s) s new reply is)
act_leaves t n (drops of) s new reply small is = other_leaves t.host.unmade s new reply (drop_other (grant_at s.grants of) of s.grants is.0 reply is.1) (same_heaps s new is.0 is.2)
act_leaves t n (purges number) s new reply small is = other_leaves t.host.unmade s new reply (purged_other reply is.0) (ap (λ (y : PrivateState). y.heaps) is.1)
act_leaves t n releases s new reply small is = other_leaves t.host.unmade s new reply (released_other reply is.0) (ap (λ (y : PrivateState). y.heaps) is.1)

none_left : (listed : List ℕ) (n k : ℕ) → 0 + listed_to listed n ≤ listed_to listed (n + k)
none_left listed n k = omega (arith, listed_more listed n k)

-- So of the steps from any state on.
module _ (unmade : List ℕ) (Step : ℕ → PrivateState → Command → Reply → PrivateState → Type 0) (leaves : StepsLeave unmade Step) where
  steps_leave : (n : ℕ) (commands : List Command) (replies : List Reply) (s end : PrivateState) (k : ℕ) → s.heaps + length commands < 2 ^ 64 → StepsBy Step n commands replies s end → heaps_failed (take k replies) + listed_to unmade s.heaps ≤ listed_to unmade (s.heaps + heaps_asked (take k commands))
  steps_leave n commands replies s end zero small steps = none_left unmade s.heaps 0
  steps_leave n [] [] s end (suc k) small steps = none_left unmade s.heaps 0
  steps_leave n (command ∷ commands) [] s end (suc k) small steps = none_left unmade s.heaps (heaps_asked (take (suc k) (command ∷ commands)))
  steps_leave n [] (reply ∷ replies) s end (suc k) small steps = absurd steps
  steps_leave n (command ∷ commands) (reply ∷ replies) s end (suc k) small steps =
      let act : Act = act_of command in
      let mid : PrivateState = steps.0 in
      let here = leaves n s mid command reply (omega (arith, small)) steps.1 in
      let more : ℕ = heaps_asked (take k commands) in
      let room : mid.heaps + length commands < 2 ^ 64 = omega (arith, small, here.few, one_at_most (asks_heap act)) in
      let rest = steps_leave (n + 1) commands replies mid end k room steps.2 in
      let up : listed_to unmade (mid.heaps + more) ≤ listed_to unmade (s.heaps + (one_if (asks_heap act) + more)) = listed_up unmade (mid.heaps + more) (s.heaps + (one_if (asks_heap act) + more)) (omega (arith, here.few)) in
      let failed : heaps_failed (take (suc k) (reply ∷ replies)) ≡ one_if (is_heap_fault reply) + heaps_failed (take k replies) = sum_by-cons (λ x. one_if (is_heap_fault x)) reply (take k replies) in
      let asked : heaps_asked (take (suc k) (command ∷ commands)) ≡ one_if (asks_heap act) + more = sum_by-cons (λ c. one_if (asks_heap (act_of c))) command (take k commands) in
      let all : heaps_failed (take (suc k) (reply ∷ replies)) + listed_to unmade s.heaps ≤ listed_to unmade (s.heaps + (one_if (asks_heap act) + more)) = omega (arith, rest, here.listed, up, failed) in
      subst (λ (x : ℕ). heaps_failed (take (suc k) (reply ∷ replies)) + listed_to unmade s.heaps ≤ listed_to unmade (s.heaps + x)) (sym asked) all

  pub run_leaves : (commands : List Command) (replies : List Reply) (end : PrivateState) → length commands < 2 ^ 64 → StepsBy Step 0 commands replies (with_grants (no_grants commands)) end → FewHeapFaults unmade commands replies
  run_leaves commands replies end small run n =
      let asked : ℕ = heaps_asked (take n commands) in
      let all = steps_leave 0 commands replies (with_grants (no_grants commands)) end n (omega (arith, small)) run in
      let none : 0 + asked ≡ asked = omega arith in
      subst (λ (x : ℕ). heaps_failed (take n replies) ≤ listed_to unmade x) none (omega (arith, all))

pub heap_faults_listed : HeapFaultsAreListed
heap_faults_listed t commands replies small run = run_leaves t.host.unmade (PrivateStep t) (λ n s new command reply room step. act_leaves t n (act_of command) s new reply room step) commands replies run.0 small run.1

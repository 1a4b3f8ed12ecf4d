-- What a request needs, and how much of it a party has live already, by stripe.
use Rattle.std.specs.Prelude.{◌≡◌, ℕ, ◌%◌, ◌==◌, ◌<◌, List, length, slice_index_or, sum_by, Option, Some, None}
use Rattle.pool_run.specs.Imports.{one_if, component_refused, ModuleInfo, no_module}
use Rattle.pool_run.specs.Acts.{Wanted, an_instance, a_component, a_stack, a_heap, heap_type}
use Rattle.pool_run.specs.Private.{PrivateGrant, Grants, Terms, memories_in_grant, request_of, wants_of, first_refusal, heap_barred, heap_refusal}

-- How many memories of a live grant lie in this stripe, of so many: their slots are dealt out to the stripes in turn.
abbrev pub in_one_stripe : ℕ → ℕ → Option PrivateGrant → ℕ
in_one_stripe stripes stripe None = 0
in_one_stripe stripes stripe (Some g) = sum_by (λ m. one_if (m.slot % stripes == stripe)) (memories_in_grant g)

-- How many memories of a party's live grants lie in this stripe.
abbrev pub stripe_count : ℕ → ℕ → Grants → ℕ
stripe_count stripes stripe grants = sum_by (in_one_stripe stripes stripe) grants

-- How many slots for memories a request needs: one for each memory of the module, or one for its heap.
abbrev pub memories_needed : List ModuleInfo → Wanted → ℕ
memories_needed modules (an_instance number) = length (slice_index_or modules number no_module).memories
memories_needed modules (a_heap limits) = 1
memories_needed modules _ = 0

-- How many slots for tables a request needs: one for each table of the module.
abbrev pub tables_needed : List ModuleInfo → Wanted → ℕ
tables_needed modules (an_instance number) = length (slice_index_or modules number no_module).tables
tables_needed modules _ = 0

-- How many stacks a request needs.
abbrev pub stacks_needed : Wanted → ℕ
stacks_needed a_stack = 1
stacks_needed _ = 0

-- How many slots for heaps a request needs.
abbrev pub heaps_needed : Wanted → ℕ
heaps_needed (a_heap limits) = 1
heaps_needed _ = 0

-- How many instances a request needs.
abbrev pub instances_needed : Wanted → ℕ
instances_needed (an_instance number) = 1
instances_needed _ = 0

-- How many components a request needs.
abbrev pub components_needed : Wanted → ℕ
components_needed (a_component info) = 1
components_needed _ = 0

-- The request breaks no rule, its kind is enabled, and the party's limiter denies none of its objects.
abbrev pub MayBeGranted : Terms → Wanted → Type 0
MayBeGranted t (an_instance number) = ((request_of t number).broken ≡ None) × (first_refusal t (wants_of (request_of t number)) ≡ None)
MayBeGranted t (a_component info) = component_refused t.settings info ≡ None
MayBeGranted t a_stack = 0 < t.stacks.size
MayBeGranted t (a_heap limits) = (heap_barred t (heap_type limits) ≡ None) × (heap_refusal t (heap_type limits) ≡ None)

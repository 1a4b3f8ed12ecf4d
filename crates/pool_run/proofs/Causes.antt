-- A request is refused only for a cause.
use Rattle.std.proofs.Common.{true, false, Bool, ◌+◌, ◌^◌, ◌≤◌, ◌≡◌, ℕ, zero, suc, ◌<◌, List, [], ◌∷◌, length, Option, Some, None, Result, Ok, Err, refl, sym, ap, ◌∙◌, subst, inl, inr, arith, IfSome, is_some, slice_get, nat_le, nat_lt, if◌then◌else◌}
use Rattle.pool_run.proofs.Imports.{option_or, le-leb, same_Some, slice_get_within, minimum_byte_size, allow_growth_to, MemoryWant, Want, new_memory, new_table, new_stack, new_heap, MemoryType, Unsupported, InitialSize, AddressSpace, MemoryMinimum, TableSize, Slot, IsLeft, memory_answer, table_answer, LimiterError, minimum_asked, maximum_asked, limits_answer, Static, static_capacity, MemoryError, AllocError, MemoryStripe, Tables, CoreInstances, IsPoolSlot, made_of, made_of_limits, LeasedTable, table_refused, made_unless, type_maximum, TableType, Settings}
use Rattle.pool_memory.specs.declared.memory_error.MemoryError.TheVariants as unmade
use Rattle.pool_slots.specs.declared.errors.AllocError.TheVariants as alloc
use Rattle.pool_run.proofs.Wants.{memory_at, table_at}
use Rattle.pool_alloc.proofs.HeldSlots.{held_plan}
use Rattle.pool_run.specs.Private.{Grants, Terms, stripe_slots, Request, wants_of, refused_by, own_refusal, first_refusal, slots_asked, limit_for, is_memory, no_memory, no_instance, no_slot, page_fault, IsGiven, IsRefused, table_room}
use Rattle.pool_run.specs.Rooms.{World, live_count, table_count, instance_count, SomeMayFault, IsForRoom}
use Rattle.pool_run.specs.Ties.{HasNoRefusal, HasCause}

-- what comes from elsewhere, and what it tells of room
abbrev pub ComesFor : World → Request → Grants → AllocError → Type 0
ComesFor w request told e = IsGiven w.terms (wants_of request) e × IsForRoom w request told e

-- no slot is free for memory k
pub slots_given : (w : World) (request : Request) (told : Grants) (total stripe k : ℕ) (want : MemoryWant) → stripe_slots w.terms ≡ total → stripe ≡ w.terms.stripe → slice_get request.memories k ≡ Some want → k < slots_asked w.terms (wants_of request) → (w.alone ≡ true → stripe_slots w.terms ≤ live_count told + k) → ComesFor w request told (alloc.Limit (record { limit = total; kind = MemoryStripe stripe }))
slots_given w request told total stripe k want is first there asked full =
    let E : ℕ → ℕ → AllocError = λ n i. alloc.Limit (record { limit = n; kind = MemoryStripe i }) in
    let which : limit_for w.terms (slice_get (wants_of request) k) ≡ E (stripe_slots w.terms) w.terms.stripe = ap (limit_for w.terms) (memory_at request k want there) in
    ((no_slot k, ap (λ (i : ℕ). E total i) first ∙ ap (λ (n : ℕ). E n w.terms.stripe) (sym is) ∙ sym which, asked), λ alone. (k, slice_get_within request.memories k want there, asked, full alone))

-- nor for table k
pub tables_given : (w : World) (request : Request) (told : Grants) (total k : ℕ) (ty : TableType) → w.terms.table_slots ≡ total → slice_get request.tables k ≡ Some ty → length request.memories + k < slots_asked w.terms (wants_of request) → (w.alone ≡ true → w.terms.table_slots ≤ table_count told + k) → ComesFor w request told (alloc.Limit (record { limit = total; kind = Tables }))
tables_given w request told total k ty is there asked full =
    let E : ℕ → AllocError = λ n. alloc.Limit (record { limit = n; kind = Tables }) in
    let which : limit_for w.terms (slice_get (wants_of request) (length request.memories + k)) ≡ E w.terms.table_slots = ap (limit_for w.terms) (table_at request k ty there) in
    ((no_slot (length request.memories + k), ap E (sym is) ∙ sym which, asked), λ alone. (k, slice_get_within request.tables k ty there, asked, full alone))

-- as many instances are granted as there may be
pub instances_given : (w : World) (request : Request) (told : Grants) (most : ℕ) → w.terms.settings.max_core_instances ≡ most → (w.alone ≡ true → w.terms.settings.max_core_instances ≤ instance_count told) → ComesFor w request told (alloc.Limit (record { limit = most; kind = CoreInstances }))
instances_given w request told most is full =
    let E : ℕ → AllocError = λ n. alloc.Limit (record { limit = n; kind = CoreInstances }) in
    ((no_instance, ap E (sym is), tt), full)

-- a call on the pages of memory k's slot failed
pub fault_given : (w : World) (request : Request) (told : Grants) (k : ℕ) (want : MemoryWant) → slice_get request.memories k ≡ Some want → k < slots_asked w.terms (wants_of request) → SomeMayFault w → live_count told < w.terms.slots → ComesFor w request told alloc.PageFault
fault_given w request told k want there asked some free = ((page_fault k, refl, (asked, ap is_memory (memory_at request k want there))), (some, free))

-- it was one on the region of a slot of the pool
pub fault_of_slot : (w : World) (settings : Settings) (total slot : ℕ) (held new : Slot) → w.terms.slots ≡ total → slot < total → IsPoolSlot w.maker settings slot held → IsLeft held new → SomeMayFault w
fault_of_slot w settings total slot held new is inside of left =
    let Q : Option (List ℕ) → Type 0 = λ t. IfSome t (λ p. 0 < length p) in
    (slot, omega (arith, is, inside), subst Q (held_plan w.maker settings slot held of) left.listed)

-- A refusal that is given, of a module that breaks no rule.
pub given_cause : (w : World) (request : Request) (told : Grants) (e : AllocError) → request.broken ≡ None → ComesFor w request told e → HasCause w request told e
given_cause w request told e supported comes = let R : Option Unsupported → Type 0 = λ o. IsRefused o w.terms (wants_of request) e in (subst R (sym supported) (inr comes.0), comes.1)

-- an own refusal is none for room
own_by : (w : World) (request : Request) (told : Grants) (ty : MemoryType) (represented allowed : Bool) (e : AllocError) → refused_by {X = ℕ × Option ℕ} (if represented then (if allowed then Ok (minimum_byte_size ty, maximum_asked ty) else Err (unmade.Unsupported AddressSpace)) else Err (unmade.Unsupported (MemoryMinimum ty.limits.min))) ≡ Some e → IsForRoom w request told e
own_by w request told ty true true e is = absurd cc
own_by w request told ty true false e is = let R : AllocError → Type 0 = IsForRoom w request told in subst R (same_Some (alloc.Unsupported AddressSpace) e is) tt
own_by w request told ty false allowed e is = let R : AllocError → Type 0 = IsForRoom w request told in subst R (same_Some (alloc.Unsupported (MemoryMinimum ty.limits.min)) e is) tt

pub own_for_room : (w : World) (request : Request) (told : Grants) (answer : Result Bool LimiterError) (ty : MemoryType) (e : AllocError) → refused_by (limits_answer answer ty) ≡ Some e → IsForRoom w request told e
own_for_room w request told (Err x) ty e is = let R : AllocError → Type 0 = IsForRoom w request told in subst R (same_Some (alloc.LimiterFault x) e is) tt
own_for_room w request told (Ok false) ty e is = let R : AllocError → Type 0 = IsForRoom w request told in subst R (same_Some (alloc.LimiterDenied false ty.limits.min) e is) tt
own_for_room w request told (Ok true) ty e is = own_by w request told ty (nat_lt (minimum_byte_size ty) (2 ^ 64)) (allow_growth_to ty (minimum_byte_size ty)) e is

table_past : (w : World) (request : Request) (told : Grants) (least room : ℕ) (past : Bool) (e : AllocError) → (if past then Some (alloc.Unsupported (TableSize least room)) else None) ≡ Some e → IsForRoom w request told e
table_past w request told least room true e is = let R : AllocError → Type 0 = IsForRoom w request told in subst R (same_Some (alloc.Unsupported (TableSize least room)) e is) tt
table_past w request told least room false e is = absurd cc

table_for_room : (w : World) (request : Request) (told : Grants) (answer : Result Bool LimiterError) (least room : ℕ) (e : AllocError) → table_refused answer least room ≡ Some e → IsForRoom w request told e
table_for_room w request told (Err x) least room e is = let R : AllocError → Type 0 = IsForRoom w request told in subst R (same_Some (alloc.LimiterFault x) e is) tt
table_for_room w request told (Ok false) least room e is = let R : AllocError → Type 0 = IsForRoom w request told in subst R (same_Some (alloc.LimiterDenied true least) e is) tt
table_for_room w request told (Ok true) least room e is = table_past w request told least room (nat_lt room least) e is

-- what is asked for has no own refusal for room
want_for_room : (w : World) (request : Request) (told : Grants) (want : Want) (e : AllocError) → own_refusal w.terms want ≡ Some e → IsForRoom w request told e
want_for_room w request told (new_memory want) e own = own_for_room w request told (memory_answer (Some w.terms.host.rule) (Ok true) (minimum_asked want.decl.ty) (maximum_asked want.decl.ty)) want.decl.ty e own
want_for_room w request told (new_table ty) e own = table_for_room w request told (table_answer (Some w.terms.host.rule) (Ok true) ty.limits.min (Some (type_maximum ty))) ty.limits.min (table_room w.terms.settings ty) e own
want_for_room w request told new_stack e own = absurd cc
want_for_room w request told new_heap e own = absurd cc

-- Its first own refusal, which is that of this memory or table.
pub own_cause : (w : World) (request : Request) (told : Grants) (want : Want) (e : AllocError) → request.broken ≡ None → own_refusal w.terms want ≡ Some e → first_refusal w.terms (wants_of request) ≡ Some e → HasCause w request told e
own_cause w request told want e supported own first =
    let R : Option Unsupported → Type 0 = λ o. IsRefused o w.terms (wants_of request) e in
    (subst R (sym supported) (inl first), want_for_room w request told want e own)

-- The rule that it breaks.
pub broken_cause : (w : World) (request : Request) (told : Grants) (rule : Unsupported) → request.broken ≡ Some rule → HasCause w request told (alloc.Unsupported rule)
broken_cause w request told rule broken = let R : Option Unsupported → Type 0 = λ o. IsRefused o w.terms (wants_of request) (alloc.Unsupported rule) in (subst R (sym broken) (inl refl), tt)

-- Want of memory.
memory_given : (o : Option Unsupported) (t : Terms) (wants : List Want) → IsRefused o t wants alloc.Memory
memory_given None t wants = inr (no_memory, refl, tt)
memory_given (Some rule) t wants = inr refl

pub memory_cause : (w : World) (request : Request) (told : Grants) → HasCause w request told alloc.Memory
memory_cause w request told = (memory_given request.broken w.terms (wants_of request), tt)

-- Where nothing that is asked for has one, there is no first.
pub none_first : (t : Terms) (wants : List Want) → ((k : ℕ) → k < length wants → HasNoRefusal t wants k) → first_refusal t wants ≡ None
none_first t [] none = refl
none_first t (x ∷ xs) none =
    let here : own_refusal t x ≡ None = none 0 (omega arith) in
    ap (λ (o : Option AllocError). option_or o (first_refusal t xs)) here ∙ none_first t xs (λ k below. none (suc k) (omega (arith, below)))

-- The first is that of thing k, where none before has one.
pub first_is : (t : Terms) (wants : List Want) (k : ℕ) (want : Want) (e : AllocError) → ((i : ℕ) → i < k → HasNoRefusal t wants i) → slice_get wants k ≡ Some want → own_refusal t want ≡ Some e → first_refusal t wants ≡ Some e
first_is t [] k want e none there own = absurd cc
first_is t (x ∷ xs) zero want e none there own =
    let same : want ≡ x = cc in
    ap (λ (o : Option AllocError). option_or o (first_refusal t xs)) (ap (own_refusal t) (sym same) ∙ own)
first_is t (x ∷ xs) (suc k) want e none there own =
    let here : own_refusal t x ≡ None = none 0 (omega arith) in
    ap (λ (o : Option AllocError). option_or o (first_refusal t xs)) here ∙ first_is t xs k want e (λ i below. none (suc i) (omega (arith, below))) there own

-- A slot is taken for each up to the first that has one.
pub asked_more : (t : Terms) (wants : List Want) (k : ℕ) → k < length wants → ((i : ℕ) → i < k → HasNoRefusal t wants i) → k < slots_asked t wants
asked_more t [] k below none = absurd (omega (arith, below))
asked_more t (x ∷ xs) zero below none = omega arith
asked_more t (x ∷ xs) (suc k) below none =
    let here : own_refusal t x ≡ None = none 0 (omega arith) in
    let rest : (if is_some (own_refusal t x) then 0 else slots_asked t xs) ≡ slots_asked t xs = ap (λ (o : Option AllocError). if is_some o then 0 else slots_asked t xs) here in
    omega (arith, rest, asked_more t xs k (omega (arith, below)) (λ i under. none (suc i) (omega (arith, under))))

-- what is made in a slot goes with its own refusal
abbrev pub GoesWith : {X : Type 0} → Option AllocError → Result X AllocError → Type 0
GoesWith own (Ok m) = own ≡ None
GoesWith own (Err e) = own ≡ Some e

made_goes : (b : Bool) (ty : MemoryType) (m : Static) (held : Slot) (u : Unsupported) → b ≡ true → GoesWith None (made_of ty (if b then Ok m else Err (held, u)))
made_goes true ty m held u fits = refl
made_goes false ty m held u fits = absurd cc

limits_go : (b allowed : Bool) (ty : MemoryType) (room : ℕ) (held : Slot) → minimum_byte_size ty ≤ room
    → (let limits : Result (ℕ × Option ℕ) MemoryError = if b then (if allowed then Ok (minimum_byte_size ty, maximum_asked ty) else Err (unmade.Unsupported AddressSpace)) else Err (unmade.Unsupported (MemoryMinimum ty.limits.min)) in GoesWith (refused_by limits) (made_of_limits limits ty room held))
limits_go true true ty room held fits = made_goes (nat_le (minimum_byte_size ty) room) ty (record { slot = held; size = minimum_byte_size ty; capacity = static_capacity room (maximum_asked ty) }) held InitialSize (le-leb (minimum_byte_size ty) room fits)
limits_go true false ty room held fits = refl
limits_go false allowed ty room held fits = refl

answer_goes : (answer : Result Bool LimiterError) (ty : MemoryType) (room : ℕ) (held : Slot) → minimum_byte_size ty ≤ room → GoesWith (refused_by (limits_answer answer ty)) (made_of_limits (limits_answer answer ty) ty room held)
answer_goes (Err e) ty room held fits = refl
answer_goes (Ok false) ty room held fits = refl
answer_goes (Ok true) ty room held fits = limits_go (nat_lt (minimum_byte_size ty) (2 ^ 64)) (allow_growth_to ty (minimum_byte_size ty)) ty room held fits

-- A memory is made, or refused with its own refusal, where it fits the slot.
pub own_goes : (t : Terms) (answer : Result Bool LimiterError) (want : MemoryWant) (room : ℕ) (held : Slot) → answer ≡ memory_answer (Some t.host.rule) (Ok true) (minimum_asked want.decl.ty) (maximum_asked want.decl.ty) → minimum_byte_size want.decl.ty ≤ room → GoesWith (own_refusal t (new_memory want)) (made_of_limits (limits_answer answer want.decl.ty) want.decl.ty room held)
own_goes t answer want room held is fits =
    let G : Result Bool LimiterError → Type 0 = λ a. GoesWith (refused_by (limits_answer a want.decl.ty)) (made_of_limits (limits_answer answer want.decl.ty) want.decl.ty room held) in
    subst G is (answer_goes answer want.decl.ty room held fits)

-- And so is a table, whatever its size.
unless_goes : (own : Option AllocError) (l : LeasedTable) → GoesWith own (made_unless own l)
unless_goes None l = refl
unless_goes (Some e) l = refl

pub table_goes : (t : Terms) (answer : Result Bool LimiterError) (ty : TableType) (l : LeasedTable) → answer ≡ table_answer (Some t.host.rule) (Ok true) ty.limits.min (Some (type_maximum ty)) → GoesWith (own_refusal t (new_table ty)) (made_unless (table_refused answer ty.limits.min (table_room t.settings ty)) l)
table_goes t answer ty l is =
    let G : Result Bool LimiterError → Type 0 = λ a. GoesWith (own_refusal t (new_table ty)) (made_unless (table_refused a ty.limits.min (table_room t.settings ty)) l) in
    subst G (sym is) (unless_goes (own_refusal t (new_table ty)) l)

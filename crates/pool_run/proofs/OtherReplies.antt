-- Only a request for a heap is answered that the maker of heaps failed.
use Rattle.std.proofs.Common.{◌≡◌, ℕ, ◌+◌, ◌-◌, ◌^◌, ◌==◌, ◌||◌, ◌⊎◌, inl, inr, List, [], ◌∷◌, length, replicate, Bool, true, false, Option, Some, None, Result, Ok, Err, refl, sym, ap, subst, not, nat_lt, if◌then◌else◌, slice_get, IfSome}
use Rattle.pool_run.proofs.Imports.{option_or, allow_growth_to, risen, ComponentInfo, Unsupported, TableSize, GrowthRule, memory_answer, memory_failure, table_answer, table_failure, LimiterError, TableOutOfBounds, exceeds, minimum_asked, maximum_asked, limits_answer, AllocError, Fibers, ElementKind, gc_refs, type_of, type_maximum, component_refused, no_component_left, table_refused, Want, new_memory, new_table, new_stack, new_heap}
use Rattle.pool_slots.specs.declared.errors.AllocError.TheVariants as refusal
use Rattle.pool_table.specs.Elements as elem
use Rattle.pool_run.specs.Acts.{MemoryOp, reads, writes, fills, grows, asks_size, TableOp, gets, sets, lengthens, asks_length}
use Rattle.pool_run.specs.HeapFaults.{is_heap_fault}
use Rattle.pool_run.specs.Objects.{MovesNamed, object_at, with_object}
use Rattle.pool_run.specs.Private.{PrivateMemory, PrivateGrant, stack_grant, private_memories, private_stacks, Grants, table_room, own_refusal, first_refusal, wants_of, refused_by, GivenRefusal, no_memory, no_instance, no_slot, page_fault, limit_for, refused_as, Terms, Request, IsRefused, IsCause, Instantiates, IsComponentRefused, AsksForComponent, stack_refusal, AsksForStack, private_written, size_wanted, report, GrowthEnd, as_it_was, could_not, has_grown, if_allowed, reported, growth, MemoryMoves, MovesBytes, Drops, IsPurged, IsReleased, PrivateState, table_at, with_table}
use Rattle.pool_run.specs.PrivateStacks.{ReadsBytes, WritesBytes, PrivateStack, StackMoves, stack_written}
use Rattle.pool_run.specs.PrivateTables.{Host, PrivateTable, StoredTable, calls_after, calls_through, IsGot, table_filled, stored_fill, kind_filled, filled_by, table_report, table_growth, TableMoves}
use Rattle.pool_run.specs.TableValues.{element_for}
use Rattle.pool_run.specs.declared.reply.Reply.{Reply}
use Rattle.pool_run.specs.declared.reply.Reply.TheVariants.{Instance, Component, Stack, Bytes, Done, Size, Grown, Element, Returned, Purged, Released, Refused, Trap}
use Rattle.pool_run.specs.declared.reply.Refusal.{Refusal}
use Rattle.pool_run.specs.declared.reply.Refusal.TheVariants.{NoSuchGrant, GcStoreFault, Alloc}
use Rattle.pool_run.proofs.OwnRefusals.{IsOwn, answer_own}

abbrev pub IsOther : Reply → Type 0
IsOther reply = is_heap_fault reply ≡ false

abbrev pub IsOtherError : AllocError → Type 0
IsOtherError e = IsOther (Refused (Alloc e))

pub other_as : (e known : AllocError) → e ≡ known → IsOtherError known → IsOtherError e
other_as e known is other = subst IsOtherError (sym is) other

pub other_reply : (reply known : Reply) → reply ≡ known → IsOther known → IsOther reply
other_reply reply known is other = subst IsOther (sym is) other

-- bytes
read_other : (size : ℕ) (told : Option (List ℕ)) (at len : ℕ) (reply : Reply) → ReadsBytes size told at len reply → IsOther reply
read_other size told at len (Bytes bytes) is = refl
read_other size told at len (Trap trap) is = refl
read_other size told at len (Refused cause) is = other_reply (Refused cause) (Refused (Alloc refusal.Memory)) (ap Refused is) refl
read_other size told at len _ is = absurd is

written_other : {X : Type 0} (size at len : ℕ) (written old new : X) (reply : Reply) → WritesBytes size at len written old new reply → IsOther reply
written_other size at len written old new Done is = refl
written_other size at len written old new (Trap trap) is = refl
written_other size at len written old new _ is = absurd is

-- growths
either_other : {E : Type 0} (b : Bool) (x y : E × Reply) → IsOther x.1 → IsOther y.1 → IsOther (if b then x else y).1
either_other true x y one two = one
either_other false x y one two = two

allowed_other : (answer : Result Bool LimiterError) (end : GrowthEnd × Reply) → IsOther end.1 → IsOther (if_allowed answer end).1
allowed_other (Ok true) end other = other
allowed_other (Ok false) end other = refl
allowed_other (Err e) end other = refl

reported_other : (answer : Result (Unit {0}) LimiterError) → IsOther (reported answer)
reported_other (Ok u) = refl
reported_other (Err e) = refl

growth_other : (rule : GrowthRule) (fault : Bool) (pages : ℕ) (m : PrivateMemory) → IsOther (growth rule fault pages m).1
growth_other rule fault pages m =
    let told : IsOther (report rule) = reported_other (memory_failure (Some rule) (Ok tt)) in
    let end : GrowthEnd × Reply = if fault then (could_not, report rule) else (has_grown, Grown (Some m.size)) in
    let last : GrowthEnd × Reply = if exceeds (maximum_asked m.ty) (size_wanted pages m) || nat_lt m.capacity (size_wanted pages m) then (as_it_was, report rule) else end in
    let asked : GrowthEnd × Reply = if_allowed (memory_answer (Some rule) (Ok true) (size_wanted pages m) (maximum_asked m.ty)) last in
    let more : GrowthEnd × Reply = if not (allow_growth_to m.ty (size_wanted pages m)) then (as_it_was, report rule) else asked in
    either_other (pages == 0) (as_it_was, Grown (Some m.size)) more refl
    (either_other (not (allow_growth_to m.ty (size_wanted pages m))) (as_it_was, report rule) asked told
    (allowed_other (memory_answer (Some rule) (Ok true) (size_wanted pages m) (maximum_asked m.ty)) last
    (either_other (exceeds (maximum_asked m.ty) (size_wanted pages m) || nat_lt m.capacity (size_wanted pages m)) (as_it_was, report rule) end told
    (either_other fault (could_not, report rule) (has_grown, Grown (Some m.size)) told refl))))

table_growth_other : (rule : GrowthRule) (by : ℕ) (t : PrivateTable) → IsOther (table_growth rule by t).1
table_growth_other rule by t =
    let told : IsOther (table_report rule) = reported_other (table_failure (Some rule) (Ok tt)) in
    let last : GrowthEnd × Reply = if nat_lt t.maximum (t.size + by) then (as_it_was, table_report rule) else (has_grown, Grown (Some t.size)) in
    let asked : GrowthEnd × Reply = if_allowed (table_answer (Some rule) (Ok true) (t.size + by) (Some t.maximum)) last in
    let more : GrowthEnd × Reply = if nat_lt (2 ^ 64 - 1) (t.size + by) then (as_it_was, table_report rule) else asked in
    either_other (by == 0) (as_it_was, Grown (Some t.size)) more refl
    (either_other (nat_lt (2 ^ 64 - 1) (t.size + by)) (as_it_was, table_report rule) asked told
    (allowed_other (table_answer (Some rule) (Ok true) (t.size + by) (Some t.maximum)) last
    (either_other (nat_lt t.maximum (t.size + by)) (as_it_was, table_report rule) (has_grown, Grown (Some t.size)) told refl)))

-- operations on a memory, a stack and a table
pub memory_other : (op : MemoryOp) (rule : GrowthRule) (m new : PrivateMemory) (reply : Reply) → MemoryMoves op rule m new reply → IsOther reply
memory_other (reads at len) rule m new reply is = read_other m.size m.bytes at len reply is.0
memory_other (writes at bytes) rule m new reply is = written_other m.size at (length bytes) (private_written at bytes m) m new reply is
memory_other (fills at len byte) rule m new reply is = written_other m.size at (length (replicate len byte)) (private_written at (replicate len byte) m) m new reply is
memory_other (grows pages) rule m new reply is = other_reply reply (growth rule is.0 pages m).1 (ap (λ (x : PrivateMemory × Reply). x.1) is.1) (growth_other rule is.0 pages m)
memory_other asks_size rule m new reply is = other_reply reply (Size m.size) is.0 refl

stack_other : (op : MemoryOp) (s new : PrivateStack) (reply : Reply) → StackMoves op s new reply → IsOther reply
stack_other (reads at len) s new reply is = read_other s.size s.bytes at len reply is.0
stack_other (writes at bytes) s new reply is = written_other s.size at (length bytes) (stack_written at bytes s) s new reply is
stack_other (fills at len byte) s new reply is = written_other s.size at (length (replicate len byte)) (stack_written at (replicate len byte) s) s new reply is
stack_other (grows pages) s new reply is = other_reply reply (Grown None) is.0 refl
stack_other asks_size s new reply is = other_reply reply (Size s.size) is.0 refl

got_other : (t : PrivateTable) (at : ℕ) (reply : Reply) → IsGot t at reply → IsOther reply
got_other t at (Element told) is = refl
got_other t at (Trap trap) is = refl
got_other t at _ is = absurd is

kind_other : (kind : ElementKind) (failing : List ℕ) (at count : ℕ) (e : elem.Element) (t : StoredTable) → IsOther (kind_filled kind failing at count e t).1
kind_other gc_refs failing at count e t = stored_other (calls_through failing t.calls count)
  where
    stored_other : (through : ℕ) → IsOther (stored_fill through at count e t).1
    stored_other through =
        either_other (through == count) (record { table = table_filled at count e t.table; calls = calls_after count t.calls }, Done)
        (record { table = table_filled at through e t.table; calls = risen (calls_after through t.calls) }, Refused GcStoreFault) refl refl
kind_other _ failing at count e t = refl

filled_other : (failing : List ℕ) (at count : ℕ) (e : elem.Element) (t : StoredTable) → IsOther (filled_by failing at count e t).1
filled_other failing at count e t =
    either_other (nat_lt t.table.size (at + count)) (t, Trap TableOutOfBounds) (kind_filled t.table.kind failing at count e t) refl (kind_other t.table.kind failing at count e t)

pub table_other : (op : TableOp) (host : Host) (t new : StoredTable) (reply : Reply) → TableMoves op host t new reply → IsOther reply
table_other (gets at) host t new reply is = got_other t.table at reply is.0
table_other (sets at count value) host t new reply is =
    let e : elem.Element = element_for (type_of t.table.kind) value in
    other_reply reply (filled_by host.failing at count e t).1 (ap (λ (x : StoredTable × Reply). x.1) is) (filled_other host.failing at count e t)
table_other (lengthens by) host t new reply is = other_reply reply (table_growth host.rule by t.table).1 is.1 (table_growth_other host.rule by t.table)
table_other asks_length host t new reply is = other_reply reply (Size t.table.size) is.0 refl

pub named_other : {X S : Type 0} (Move : X → X → Reply → Type 0) (x : Option X) (put : X → S → S) (old new : S) (reply : Reply) → ((y moved : X) → Move y moved reply → IsOther reply) → MovesNamed Move x put old reply new → IsOther reply
named_other Move None put old new reply other is = other_reply reply (Refused NoSuchGrant) is.0 refl
named_other Move (Some x) put old new reply other is = other x is.0 is.1

-- a command on bytes of a grant
pub stack_bytes_other : (op : MemoryOp) (of k : ℕ) (grants new : Grants) (reply : Reply) → MovesNamed (StackMoves op) (object_at private_stacks of k grants) (with_object private_stacks of k) grants reply new → IsOther reply
stack_bytes_other op of k grants new reply is =
    named_other (StackMoves op) (object_at private_stacks of k grants) (with_object private_stacks of k) grants new reply (λ s moved move. stack_other op s moved reply move) is

pub memory_bytes_other : (Move : PrivateMemory → PrivateMemory → Reply → Type 0) (of k : ℕ) (grants new : Grants) (reply : Reply) → ((m moved : PrivateMemory) → Move m moved reply → IsOther reply) → MovesNamed Move (object_at private_memories of k grants) (with_object private_memories of k) grants reply new → IsOther reply
memory_bytes_other Move of k grants new reply other is = named_other Move (object_at private_memories of k grants) (with_object private_memories of k) grants new reply other is

pub bytes_other : (op : MemoryOp) (rule : GrowthRule) (g : Option PrivateGrant) (of k : ℕ) (grants new : Grants) (reply : Reply) → MovesBytes op rule g of k grants reply new → IsOther reply
bytes_other op rule (Some (stack_grant s)) of k grants new reply is = stack_bytes_other op of k grants new reply is
bytes_other op rule _ of k grants new reply is = memory_bytes_other (MemoryMoves op rule) of k grants new reply (λ m moved move. memory_other op rule m moved reply move) is

pub table_named_other : (op : TableOp) (host : Host) (of k : ℕ) (s new : PrivateState) (reply : Reply) → MovesNamed (TableMoves op host) (table_at of k s) (with_table of k) s reply new → IsOther reply
table_named_other op host of k s new reply is = named_other (TableMoves op host) (table_at of k s) (with_table of k) s new reply (λ t moved move. table_other op host t moved reply move) is

pub drop_other : (g : Option PrivateGrant) (of : ℕ) (grants new : Grants) (reply : Reply) → Drops g grants of reply new → IsOther reply
drop_other None of grants new reply is = other_reply reply (Refused NoSuchGrant) is.0 refl
drop_other (Some g) of grants new reply is = other_reply reply Returned is.0 refl

pub purged_other : (reply : Reply) → IsPurged reply → IsOther reply
purged_other (Purged n) is = refl
purged_other _ is = absurd is

pub released_other : (reply : Reply) → IsReleased reply → IsOther reply
released_other (Released n) is = refl
released_other (Refused cause) is = other_reply (Refused cause) (Refused (Alloc refusal.Memory)) (ap Refused is) refl
released_other _ is = absurd is

-- own refusals
abbrev pub NoneOrOther : Option AllocError → Type 0
NoneOrOther o = IfSome o IsOtherError

of_own : (e : AllocError) → IsOwn e → IsOtherError e
of_own (refusal.Unsupported rule) own = refl
of_own (refusal.LimiterDenied table least) own = refl
of_own (refusal.LimiterFault x) own = refl
of_own _ own = absurd own

own_other : (o : Option AllocError) → ((e : AllocError) → o ≡ Some e → IsOwn e) → NoneOrOther o
own_other None own = tt
own_other (Some e) own = of_own e (own e refl)

pub or_other : (a b : Option AllocError) → NoneOrOther a → NoneOrOther b → NoneOrOther (option_or a b)
or_other None b one two = two
or_other (Some e) b one two = one

pub if_other : (b : Bool) (e : AllocError) → IsOtherError e → NoneOrOther (if b then Some e else None)
if_other true e other = other
if_other false e other = tt

table_refused_other : (answer : Result Bool LimiterError) (min room : ℕ) → NoneOrOther (table_refused answer min room)
table_refused_other (Err e) min room = refl
table_refused_other (Ok false) min room = refl
table_refused_other (Ok true) min room = if_other (nat_lt room min) (refusal.Unsupported (TableSize min room)) refl

want_other : (t : Terms) (want : Want) → NoneOrOther (own_refusal t want)
want_other t (new_memory want) =
    let answer : Result Bool LimiterError = memory_answer (Some t.host.rule) (Ok true) (minimum_asked want.decl.ty) (maximum_asked want.decl.ty) in
    own_other (refused_by (limits_answer answer want.decl.ty)) (answer_own answer want.decl.ty)
want_other t (new_table ty) = table_refused_other (table_answer (Some t.host.rule) (Ok true) ty.limits.min (Some (type_maximum ty))) ty.limits.min (table_room t.settings ty)
want_other t new_stack = tt
want_other t new_heap = tt

first_other : (t : Terms) (wants : List Want) → NoneOrOther (first_refusal t wants)
first_other t [] = tt
first_other t (want ∷ wants) = or_other (own_refusal t want) (first_refusal t wants) (want_other t want) (first_other t wants)

limit_other : (t : Terms) (o : Option Want) → IsOtherError (limit_for t o)
limit_other t (Some (new_table ty)) = refl
limit_other t _ = refl

given_other : (t : Terms) (wants : List Want) (given : GivenRefusal) → IsOtherError (refused_as t wants given)
given_other t wants no_memory = refl
given_other t wants no_instance = refl
given_other t wants (no_slot i) = limit_other t (slice_get wants i)
given_other t wants (page_fault i) = refl

pub found_other : (o : Option AllocError) (e : AllocError) → NoneOrOther o → o ≡ Some e → IsOtherError e
found_other o e other is = subst NoneOrOther is other

pub rule_other : (rule : Unsupported) (e : AllocError) → (e ≡ refusal.Unsupported rule) ⊎ (e ≡ refusal.Memory) → IsOtherError e
rule_other rule e (inl is) = other_as e (refusal.Unsupported rule) is refl
rule_other rule e (inr is) = other_as e refusal.Memory is refl

refused_other : (broken : Option Unsupported) (t : Terms) (wants : List Want) (e : AllocError) → IsRefused broken t wants e → IsOtherError e
refused_other (Some rule) t wants e is = rule_other rule e is
refused_other None t wants e (inl is) = found_other (first_refusal t wants) e (first_other t wants) is
refused_other None t wants e (inr is) = other_as e (refused_as t wants is.0) is.1 (given_other t wants is.0)

cause_other : (t : Terms) (request : Request) (cause : Refusal) → IsCause t request cause → IsOther (Refused cause)
cause_other t request (Alloc e) is = refused_other request.broken t (wants_of request) e is
cause_other t request _ is = absurd is

-- requests for something else than a heap
pub instance_other : (t : Terms) (n : ℕ) (request : Request) (grants new : Grants) (reply : Reply) → Instantiates t n request grants reply new → IsOther reply
instance_other t n request grants new (Instance memories tables) is = refl
instance_other t n request grants new (Refused cause) is = cause_other t request cause is.0
instance_other t n request grants new _ is = absurd is

component_refusal_other : (t : Terms) (broken : Option Unsupported) (e : AllocError) → IsComponentRefused t broken e → IsOtherError e
component_refusal_other t (Some rule) e is = other_as e (refusal.Unsupported rule) is refl
component_refusal_other t None e is = other_as e (no_component_left t.settings) is refl

pub component_other : (t : Terms) (n : ℕ) (info : ComponentInfo) (grants new : Grants) (reply : Reply) → AsksForComponent t n info grants reply new → IsOther reply
component_other t n info grants new Component is = refl
component_other t n info grants new (Refused (Alloc e)) is = component_refusal_other t (component_refused t.settings info) e is.0
component_other t n info grants new _ is = absurd is

stack_refusal_other : (none : Bool) (limit : AllocError) → IsOtherError limit → IsOtherError (if none then refusal.StacksDisabled else limit)
stack_refusal_other true limit other = refl
stack_refusal_other false limit other = other

pub stack_asked_other : (t : Terms) (n : ℕ) (grants new : Grants) (reply : Reply) → AsksForStack t n grants reply new → IsOther reply
stack_asked_other t n grants new (Stack slot) is = refl
stack_asked_other t n grants new (Refused (Alloc e)) is =
    other_as e (stack_refusal t) is.0 (stack_refusal_other (t.stacks.size == 0) (refusal.Limit (record { limit = t.stacks.slots; kind = Fibers })) refl)
stack_asked_other t n grants new _ is = absurd is

-- On demand, too, only a request for a heap is answered that the maker of heaps failed. A growth may find no memory.
use Rattle.std.proofs.Common.{ℕ, ◌-◌, ◌*◌, ◌^◌, ◌==◌, inl, inr, List, [], ◌∷◌, Bool, true, false, Option, Some, None, Result, Ok, Err, refl, nat_lt, option_map}
use Rattle.pool_run_on_demand.proofs.Imports.{MemoryType, TableType, Unsupported, AddressSpace, GrowthRule, memory_answer, table_answer, LimiterError, default_refusal, minimum_asked, maximum_asked, AllocError, element_size, type_maximum, Want, new_memory, new_table, new_stack, new_heap, MemoryOp, grows, TableOp, lengthens, MovesNamed, PrivateMemory, PrivateGrant, stack_grant, Grants, wants_of, Terms, Request, GrowthEnd, growth, PrivateState, table_at, with_table, Host, StoredTable, table_growth, Reply, Refused, Alloc, IsOther, IsOtherError, other_as, other_reply, memory_other, table_other, named_other, stack_bytes_other, memory_bytes_other, NoneOrOther, or_other, if_other, found_other, rule_other}
use Rattle.pool_run.specs.declared.reply.Reply.TheVariants.{Instance, Component, Stack}
use Rattle.pool_slots.specs.declared.errors.AllocError.TheVariants as refusal
use Rattle.pool_on_demand.specs.Refusals as demand
use Rattle.pool_alloc.specs.TableSteps.{table_refused}
use Rattle.pool_run_on_demand.specs.OnDemand.{refusal_on_demand, first_unmade, IsUnmade, Makes, MakesComponent, IsUnmadeStack, MakesStack, FindsNoMemory, MovesOnDemand, TableMovesOnDemand, BytesOnDemand}

lacking_other : {X : Type 0} (end : GrowthEnd) (old new : X) (reply : Reply) → FindsNoMemory end old new reply → IsOther reply
lacking_other end old new reply is = other_reply reply (Refused (Alloc refusal.Memory)) is.1.0 refl

memory_other_on_demand : (op : MemoryOp) (rule : GrowthRule) (m new : PrivateMemory) (reply : Reply) → MovesOnDemand op rule m new reply → IsOther reply
memory_other_on_demand (grows pages) rule m new reply (inl is) = memory_other (grows pages) rule m new reply is
memory_other_on_demand (grows pages) rule m new reply (inr is) = lacking_other (growth rule false pages m).0 m new reply is
memory_other_on_demand op rule m new reply is = memory_other op rule m new reply is

table_other_on_demand : (op : TableOp) (host : Host) (t new : StoredTable) (reply : Reply) → TableMovesOnDemand op host t new reply → IsOther reply
table_other_on_demand (lengthens by) host t new reply (inl is) = table_other (lengthens by) host t new reply is
table_other_on_demand (lengthens by) host t new reply (inr is) = lacking_other (table_growth host.rule by t.table).0 t new reply is
table_other_on_demand op host t new reply is = table_other op host t new reply is

pub bytes_other_on_demand : (op : MemoryOp) (rule : GrowthRule) (g : Option PrivateGrant) (of k : ℕ) (grants new : Grants) (reply : Reply) → BytesOnDemand op rule g of k grants reply new → IsOther reply
bytes_other_on_demand op rule (Some (stack_grant s)) of k grants new reply is = stack_bytes_other op of k grants new reply is
bytes_other_on_demand op rule _ of k grants new reply is = memory_bytes_other (MovesOnDemand op rule) of k grants new reply (λ m moved move. memory_other_on_demand op rule m moved reply move) is

pub table_named_other_on_demand : (op : TableOp) (host : Host) (of k : ℕ) (s new : PrivateState) (reply : Reply) → MovesNamed (TableMovesOnDemand op host) (table_at of k s) (with_table of k) s reply new → IsOther reply
table_named_other_on_demand op host of k s new reply is = named_other (TableMovesOnDemand op host) (table_at of k s) (with_table of k) s new reply (λ t moved move. table_other_on_demand op host t moved reply move) is

rule_refusal_other : (o : Option Unsupported) → NoneOrOther (option_map refusal.Unsupported o)
rule_refusal_other None = tt
rule_refusal_other (Some rule) = refl

memory_refused_other : (answer : Result Bool LimiterError) (refuses : demand.CreatorRule) (ty : MemoryType) → NoneOrOther (demand.memory_refused answer refuses ty)
memory_refused_other (Err e) refuses ty = refl
memory_refused_other (Ok false) refuses ty = refl
memory_refused_other (Ok true) refuses ty = rule_refusal_other (demand.memory_unsupported refuses ty)

table_refused_other_on_demand : (answer : Result Bool LimiterError) (ty : TableType) → NoneOrOther (demand.table_refused answer ty)
table_refused_other_on_demand (Err e) ty = refl
table_refused_other_on_demand (Ok false) ty = refl
table_refused_other_on_demand (Ok true) ty = if_other (nat_lt (2 ^ 64 - 1) (ty.limits.min * element_size ty.element)) (refusal.Unsupported AddressSpace) refl

want_other_on_demand : (t : Terms) (want : Want) → NoneOrOther (refusal_on_demand t want)
want_other_on_demand t (new_memory want) =
    memory_refused_other (memory_answer (Some t.host.rule) (Ok true) (minimum_asked want.decl.ty) (maximum_asked want.decl.ty)) (λ minimum maximum. default_refusal t.settings.page t.settings.tunables minimum) want.decl.ty
want_other_on_demand t (new_table ty) = table_refused_other_on_demand (table_answer (Some t.host.rule) (Ok true) ty.limits.min (Some (type_maximum ty))) ty
want_other_on_demand t new_stack = tt
want_other_on_demand t new_heap = tt

first_other_on_demand : (t : Terms) (wants : List Want) → NoneOrOther (first_unmade t wants)
first_other_on_demand t [] = tt
first_other_on_demand t (want ∷ wants) = or_other (refusal_on_demand t want) (first_unmade t wants) (want_other_on_demand t want) (first_other_on_demand t wants)

unmade_other : (broken : Option Unsupported) (t : Terms) (wants : List Want) (e : AllocError) → IsUnmade broken t wants e → IsOtherError e
unmade_other (Some rule) t wants e is = rule_other rule e is
unmade_other None t wants e (inl is) = found_other (first_unmade t wants) e (first_other_on_demand t wants) is
unmade_other None t wants e (inr (inl is)) = other_as e refusal.Memory is refl
unmade_other None t wants e (inr (inr is)) = other_as e refusal.PageFault is.0 refl

pub made_other : (t : Terms) (n : ℕ) (request : Request) (grants new : Grants) (reply : Reply) → Makes t n request grants reply new → IsOther reply
made_other t n request grants new (Instance memories tables) is = refl
made_other t n request grants new (Refused (Alloc e)) is = unmade_other request.broken t (wants_of request) e is.0
made_other t n request grants new _ is = absurd is

pub component_made_other : (n : ℕ) (grants new : Grants) (reply : Reply) → MakesComponent n grants reply new → IsOther reply
component_made_other n grants new Component is = refl
component_made_other n grants new _ is = absurd is

unmade_stack_other : (none : Bool) (e : AllocError) → IsUnmadeStack none e → IsOtherError e
unmade_stack_other true e is = other_as e refusal.StacksDisabled is refl
unmade_stack_other false e (inl is) = other_as e refusal.Memory is refl
unmade_stack_other false e (inr is) = other_as e refusal.PageFault is refl

pub stack_made_other : (t : Terms) (n : ℕ) (grants new : Grants) (reply : Reply) → MakesStack t n grants reply new → IsOther reply
stack_made_other t n grants new (Stack slot) is = refl
stack_made_other t n grants new (Refused (Alloc e)) is = unmade_stack_other (t.stacks.size == 0) e is.0
stack_made_other t n grants new _ is = absurd is

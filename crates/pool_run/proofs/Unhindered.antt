-- A request that nothing hinders is served: its steps find room, so its party's run lets it be refused for nothing but want of
-- memory or a fault.
use Rattle.std.proofs.Common.{◌≡◌, ◌⊎◌, ℕ, zero, suc, ◌+◌, ◌<◌, ◌≤◌, Bool, true, false, List, [], ◌∷◌, length, replicate, Option, Some, None, refl, sym, ap, ◌∙◌, subst, inl, inr, arith, IfSome, option_map, slice_get, slice_set, slice_index_or, Result, Ok, Err, OnOk}
use Rattle.pool_slots.specs.declared.errors.AllocError.TheVariants as alloc
use Rattle.pool_alloc.specs.declared.frame.Call.TheVariants as call
use Rattle.pool_alloc.specs.declared.frame.Outcome.TheVariants as answer
use Rattle.pool_alloc.specs.StepReads.{stacks_wanted}
use Rattle.pool_alloc.specs.UnhinderedRequests as pool
use Rattle.pool_alloc.specs.UnhinderedRequests.{is_for_room, HasAllItNeeds, IsForGrant, asked_by, slots_needed}
use Rattle.pool_alloc.proofs.PlanPlaces.{allocator_held, stripe_holds}
use Rattle.pool_alloc.proofs.SlotsOfAllocators.{few_live}
use Rattle.pool_alloc.proofs.UnhinderedRequests.{Seeks, seeks_on, begun_seeks}
use Rattle.pool_run.proofs.Imports.{slice_get_within, slice_get_past, get_or_from_slice_get, slice_get-get_or, get_or-set_same, length-set, set-get_or, same_Some, option_or, MakerTold, PartyTold, CanStep, AllocError, After, Call, Frame, Grant, Outcome, PoolCore, PlainHeap, ModuleAsked, ModuleInfo, ComponentInfo, Limits, SlotKind, memory_kind, table_kind, stack_kind, heap_kind, Allocator, allocator_of, stripe_allocator, memories_wanted, tables_wanted, heaps_wanted, grant_instances, grant_components, grant_tables, grant_stacks, grant_heaps, is_idle, IsIdle, IsCore, MayBegin, Settings, stage_of, begun_call, Want, new_memory, new_table, instance, component, one_memory, one_table, stack, heap, heap_over}
use Rattle.pool_run.specs.Acts.{Act, requests, act_of, Wanted, an_instance, a_component, a_stack, a_heap, heap_type}
use Rattle.pool_run.specs.Agreeing.{IsRunnable}
use Rattle.pool_run.specs.Folds.{RunParts, RunState, Folds, TurnsIf, IsUnderWay, IsRunTo, commands_of, replies_to, replies_after, told_state, with_turn}
use Rattle.pool_run.specs.Private.{Terms, first_refusal, own_refusal, request_of, wants_of, with_grants, no_grants}
use Rattle.pool_run.specs.Rooms.{World, PooledStep, instance_count, component_count, table_count, stack_count, heap_count, world_at}
use Rattle.pool_run.specs.Runs.{IsMadeRun, world_of, world_seen, stripe_of}
use Rattle.pool_run.specs.RunsMade.{commands_in, nothing_told, is_drawing, party_made}
use Rattle.pool_run.specs.Ties.{CanTurn}
use Rattle.pool_run.specs.Turns.{Turned, Opening, replies, OpensRequest, OpensWanted, OpensAct, OpensNext, OpensAt, Leaves, TurnsFrom, Steps, answered, granted_reply, grants_of}
use Rattle.pool_run.specs.Unhindered.{memories_needed, tables_needed, stacks_needed, heaps_needed, instances_needed, components_needed, MayBeGranted, IsServed, LeavesEnough, IsNextOf, IsUnhindered, ServesFromStart}
use Rattle.pool_run.specs.Worlds.{IsCallFor, IsWorldOf}
use Rattle.pool_run.specs.declared.command.Command.{Command}
use Rattle.pool_run.specs.Built.{broken_rule, is_built}
use Rattle.pool_run.specs.declared.input.Input.{Input}
use Rattle.pool_run.specs.declared.output.RunFault.{RunFault}
use Rattle.pool_run.specs.declared.output.RunOutput.{RunOutput}
use Rattle.pool_run.specs.declared.reply.Reply.{Reply}
use Rattle.pool_run.specs.declared.reply.Reply.TheVariants.{Returned, Purged, Released, Refused}
use Rattle.pool_run.specs.declared.reply.Refusal.TheVariants.{Alloc}
use Rattle.pool_run.specs.declared.running_party.RunningParty.{RunningParty}
use Rattle.pool_run.proofs.Ended.{folds_count}
use Rattle.pool_run.proofs.Exhausted.{instances_told, components_told}
use Rattle.pool_run.proofs.Folding.{folds_under_way, replies_pooled, run_turned}
use Rattle.pool_run.proofs.InputsRun.{made_count, made_under_way}
use Rattle.pool_run.proofs.LiveSlots.{all_grants, all_told, memories_live, nobody_calls}
use Rattle.pool_run.proofs.Parties.{can_step}
use Rattle.pool_run.proofs.Running.{can_turn}
use Rattle.pool_run.proofs.SameFolds.{folds_tell, told_now}
use Rattle.pool_run.proofs.SameRuns.{runnable_so}
use Rattle.pool_run.proofs.ServedReplies.{refuses_for_room, step_of, step_served}
use Rattle.pool_run.proofs.SlotKinds.{tables_told, stacks_told, heaps_told}
use Rattle.pool_run.proofs.StageSteps.{is_key}
use Rattle.pool_run.proofs.Stepped.{stepped}
use Rattle.pool_run.proofs.StripeSlots.{of_stripe}

module _ {P : Type 0} where
  -- The call asks for a grant, and needs what the request does.
  pub record IsCallOf (given : List ModuleInfo) (wanted : Wanted) (request : Call P PlainHeap) : Type 0 where
    pub for : IsForGrant request
    pub memories : length (memories_wanted (asked_by request)) ≡ memories_needed given wanted
    pub tables : length (tables_wanted (asked_by request)) ≡ tables_needed given wanted
    pub stacks : stacks_wanted (asked_by request) ≡ stacks_needed wanted
    pub heaps : heaps_wanted (asked_by request) ≡ heaps_needed wanted
    pub instances : pool.instances_needed request ≡ instances_needed wanted
    pub components : pool.components_needed request ≡ components_needed wanted

  module_call : (t : Terms) (s : Settings) (number : ℕ) (kept : ModuleAsked) → IsCallFor t s number kept → IsCallOf t.modules (an_instance number) (call.Module kept)
  module_call t s number kept for = record {
    for = tt;
    memories = ap (λ (m : ModuleInfo). length m.memories) for.asked.info;
    tables = ap (λ (m : ModuleInfo). length m.tables) for.asked.info;
    stacks = refl;
    heaps = refl;
    instances = refl;
    components = refl;
  }

  component_call : (given : List ModuleInfo) (info : ComponentInfo) → IsCallOf given (a_component info) (call.Component info)
  component_call given info = record { for = tt; memories = refl; tables = refl; stacks = refl; heaps = refl; instances = refl; components = refl }

  stack_call : (given : List ModuleInfo) → IsCallOf given a_stack call.Stack
  stack_call given = record { for = tt; memories = refl; tables = refl; stacks = refl; heaps = refl; instances = refl; components = refl }

  heap_call : (given : List ModuleInfo) (limits : Limits) → IsCallOf given (a_heap limits) (call.Heap (heap_type limits))
  heap_call given limits = record { for = tt; memories = refl; tables = refl; stacks = refl; heaps = refl; instances = refl; components = refl }

  -- What is enough of all that the request needs is enough for its call.
  module _ (w : World) (c : PoolCore P PlainHeap) (parties : List (RunningParty P)) (stripe i : ℕ) (wanted : Wanted) (request : Call P PlainHeap) (core : IsCore w.maker c) (world : IsWorldOf w c) (inside : stripe < length c.plan.memories) (enough : LeavesEnough (world_at w i stripe) parties wanted) (call' : IsCallOf w.terms.modules wanted request) where
    within : stripe < w.terms.settings.num_stripes
    within = omega (arith, inside, world.plan.count)

    slots : (kind : SlotKind) → pool.slots_live (allocator_of c.plan kind stripe) (all_grants parties) + slots_needed kind (asked_by request) ≤ (allocator_of c.plan kind stripe).capacity
    slots memory_kind =
        let a : Allocator = stripe_allocator c.plan stripe in
        omega (
          arith,
          memories_live a w.terms.settings.num_stripes stripe (λ k has. of_stripe w.terms.slots w.terms.settings.num_stripes c.plan (length c.parts) world.plan core.plan stripe k within has) parties (stripe_holds c.plan (length c.parts) stripe core.plan inside).kind_is,
          enough.memories,
          call'.memories,
          world.plan.room stripe within,
        )
    slots table_kind =
        omega (
          arith,
          few_live table_kind (allocator_of c.plan table_kind stripe) (all_grants parties) (allocator_held c.plan (length c.parts) table_kind stripe core.plan inside).kind_is,
          all_told grant_tables table_count (λ live. tables_told live (grants_of live) refl) parties,
          enough.tables,
          call'.tables,
          world.tables.room,
        )
    slots stack_kind =
        omega (
          arith,
          few_live stack_kind (allocator_of c.plan stack_kind stripe) (all_grants parties) (allocator_held c.plan (length c.parts) stack_kind stripe core.plan inside).kind_is,
          all_told grant_stacks stack_count (λ live. stacks_told live (grants_of live) refl) parties,
          enough.stacks,
          call'.stacks,
          world.stacks.room,
        )
    slots heap_kind =
        omega (
          arith,
          few_live heap_kind (allocator_of c.plan heap_kind stripe) (all_grants parties) (allocator_held c.plan (length c.parts) heap_kind stripe core.plan inside).kind_is,
          all_told grant_heaps heap_count (λ live. heaps_told live (grants_of live) refl) parties,
          enough.heaps,
          call'.heaps,
          world.heaps.room,
        )

    leaves : pool.LeavesEnough c stripe (all_grants parties) request
    leaves = record {
      slots = slots;
      instances = omega (arith, all_told grant_instances instance_count (λ live. instances_told live (grants_of live) refl) parties, enough.instances, call'.instances, ap (λ (s : Settings). s.max_core_instances) world.settings);
      components = omega (arith, all_told grant_components component_count (λ live. components_told live (grants_of live) refl) parties, enough.components, call'.components, ap (λ (s : Settings). s.max_component_instances) world.settings);
    }

    pub has_all : pool.NobodyCalls c (all_grants parties) → HasAllItNeeds c stripe request
    has_all nobody = record { grants = all_grants parties; nobody = nobody; enough = leaves }

-- The stripe of the party and the calls of others play no part in what a turn replies.
module _ {P : Type 0} where
  granted_room : (g : Grant P PlainHeap) → refuses_for_room (granted_reply g) ≡ false
  granted_room (instance lease) = refl
  granted_room component = refl
  granted_room (one_memory lease) = refl
  granted_room (one_table lease) = refl
  granted_room (stack lease) = refl
  granted_room (heap lease memory) = refl
  granted_room (heap_over lease) = refl

  set_there : (parties : List (RunningParty P)) (k : ℕ) (q : RunningParty P) → k < length parties → slice_get (slice_set parties k q) k ≡ Some q
  set_there parties k q inside = slice_get-get_or (slice_set parties k q) k q (omega (arith, inside, length-set parties k q)) ∙ ap (λ (x : RunningParty P). Some x) (get_or-set_same parties k q q inside)

same_count : (told : List (List Reply)) (k : ℕ) (o : Option Reply) → o ≡ None → length (replies_to k (replies_after k o told)) ≡ length (replies_to k told)
same_count told k o none = ap (λ (x : Option Reply). length (replies_to k (replies_after k x told))) none ∙ ap (λ (x : List (List Reply)). length (replies_to k x)) (set-get_or told k [])

-- Party i's reply n, in what a run comes to.
module _ {P : Type 0} (modules : List ModuleAsked) (inputs : List (List Command)) (i n : ℕ) where
  -- Where it came, it isn't a refusal for room.
  abbrev pub FindsRoom : RunState P → Type 0
  FindsRoom end = (reply : Reply) → slice_get (replies_to i end.replies) n ≡ Some reply → refuses_for_room reply ≡ false

  -- It has replied, and the reply stays.
  replied_room : (own : ℕ) (s end : RunState P) (t : Turned P) (r : Reply) → i < length s.replies → length (replies_to i s.replies) ≡ n → t.reply ≡ Some r → refuses_for_room r ≡ false → Folds modules inputs (replicate own i) (with_turn i t s) end → FindsRoom end
  replied_room own s end t r inside count is none folds reply there =
      let At : Option Reply → ℕ → Type 0 = λ o m. slice_get (replies_to i (replies_after i o s.replies)) m ≡ Some r in
      let told : At t.reply n = subst (λ (o : Option Reply). At o n) (sym is) (subst (At (Some r)) count (told_now i r s.replies inside)) in
      let kept : slice_get (replies_to i end.replies) n ≡ Some r = folds_tell modules inputs (replicate own i) i n (with_turn i t s) end r folds told in
      sym (ap refuses_for_room (same_Some r reply (sym kept ∙ there))) ∙ none

-- Party i's request is under way, and no other call.
module _ {P : Type 0} (w : World) (modules : List ModuleAsked) (inputs : List (List Command)) (i n : ℕ) (live : List (Grant P PlainHeap)) (first : PoolCore P PlainHeap) (stripe : ℕ) (request : Call P PlainHeap) (enough : pool.LeavesEnough first stripe live request) where
  abbrev Seeking : PoolCore P PlainHeap → Frame P PlainHeap → Type 0
  Seeking c f = Seeks w.maker live first stripe request enough c f

  -- A turn goes on with the request, or replies to it.
  abbrev GoesOrReplies : Turned P → Type 0
  GoesOrReplies t = ((t.reply ≡ None) × Seeking t.core t.party.frame) ⊎ ((r : Reply) × ((t.reply ≡ Some r) × (refuses_for_room r ≡ false)))

  by_outcome : (o : Option (Outcome P PlainHeap)) (c : PoolCore P PlainHeap) (q : RunningParty P) → is_key o ≡ false → ((e : AllocError) → o ≡ Some (answer.Refused e) → is_for_room e ≡ false) → (o ≡ None → Seeking c q.frame) → GoesOrReplies (answered o c q)
  by_outcome None c q key none on = inl (refl, on refl)
  by_outcome (Some answer.Key) c q key none on = absurd cc
  by_outcome (Some (answer.Granted grant)) c q key none on = inr (granted_reply grant, (refl, granted_room grant))
  by_outcome (Some answer.Returned) c q key none on = inr (Returned, (refl, refl))
  by_outcome (Some (answer.Purged m)) c q key none on = inr (Purged m, (refl, refl))
  by_outcome (Some (answer.Released m)) c q key none on = inr (Released m, (refl, refl))
  by_outcome (Some (answer.Refused e)) c q key none on = inr (Refused (Alloc e), (refl, none e refl))

  steps_on : (c : PoolCore P PlainHeap) (p : RunningParty P) (t : Turned P) → is_drawing (stage_of p.frame) ≡ false → CanStep w.maker c p.frame → Seeking c p.frame → Steps c p t → GoesOrReplies t
  steps_on c p t drawn can seeks steps =
      let a : After P PlainHeap = steps.0 in
      let asked : PartyTold = steps.1.0 in
      let left : PartyTold = steps.1.1 in
      let q : RunningParty P = record p { frame = a.frame; heaps = t.party.heaps } in
      let after = seeks_on w.maker live first stripe request enough c p.frame a seeks (asked, (left, steps.1.3)) in
      let key : is_key a.outcome ≡ false = (stepped w.maker asked left c p.frame a can steps.1.3).staged.key ∙ drawn in
      subst GoesOrReplies (sym steps.2) (by_outcome a.outcome a.core q key after.1 after.0)

  -- What turns of its party alone come to from a state at which the request is under way.
  abbrev GoOn : ℕ → RunState P → Type 0
  GoOn own end = (mid : RunState P) (q : RunningParty P) → IsUnderWay w modules inputs mid → slice_get mid.parties i ≡ Some q → length (replies_to i mid.replies) ≡ n → Seeking mid.core q.frame → Folds modules inputs (replicate own i) mid end → FindsRoom modules inputs i n end

  -- After a turn that goes on with it or replies.
  goes_room : (own : ℕ) (s end : RunState P) (p : RunningParty P) (t : Turned P) → IsUnderWay w modules inputs s → IsUnderWay w modules inputs (with_turn i t s) → slice_get s.parties i ≡ Some p → length (replies_to i s.replies) ≡ n → GoesOrReplies t → GoOn own end → Folds modules inputs (replicate own i) (with_turn i t s) end → FindsRoom modules inputs i n end
  goes_room own s end p t way next there count goes on folds =
      let below : i < length s.parties = slice_get_within s.parties i p there in
      elim goes [
        | inl silent ↦ on (with_turn i t s) t.party next (set_there s.parties i t.party below) (same_count s.replies i t.reply silent.0 ∙ count) silent.1 folds
        | inr replied ↦ replied_room modules inputs i n own s end t replied.0 (omega (arith, below, way.told)) count replied.1.0 replied.1.1 folds
      ]

  steps_of : (b : Bool) (p : RunningParty P) (c : PoolCore P PlainHeap) (t : Turned P) → is_idle p.frame.phase ≡ b → b ≡ false → TurnsFrom (OpensAt b modules (commands_of inputs i) p) c p t → Steps c p t
  steps_of true p c t idle busy turns = absurd cc
  steps_of false p c t idle busy turns = let L : Opening P → Type 0 = λ o. Leaves o c p t in subst L turns.1 turns.2

  busy_room : (own : ℕ) (s end : RunState P) (p : RunningParty P) → IsUnderWay w modules inputs s → slice_get s.parties i ≡ Some p → length (replies_to i s.replies) ≡ n → Seeking s.core p.frame → Folds modules inputs (replicate own i) s end → FindsRoom modules inputs i n end
  busy_room zero s end p way there count seeks folds = λ reply told.
      let same : slice_get (replies_to i s.replies) n ≡ Some reply = ap (λ (x : RunState P). slice_get (replies_to i x.replies) n) (sym folds) ∙ told in
      let none : slice_get (replies_to i s.replies) n ≡ None = slice_get_past (replies_to i s.replies) n (omega (arith, count)) in
      let wrong : Some reply ≡ None = sym same ∙ none in absurd cc
  busy_room (suc own) s end p way there count seeks folds =
      let below : i < length s.parties = slice_get_within s.parties i p there in
      let here : slice_index_or s.parties i p ≡ p = get_or_from_slice_get s.parties i p p there in
      let can : CanTurn w.maker s.core p = subst (λ (q : RunningParty P). CanTurn w.maker s.core q) here (can_turn w.maker s.core s.parties i p way.holds.running below) in
      let to : IsRunTo w (commands_of inputs i) (replies_to i s.replies) p = subst (λ (q : RunningParty P). IsRunTo w (commands_of inputs i) (replies_to i s.replies) q) here (way.each i p below) in
      let turns : TurnsIf modules (commands_of inputs i) i (Some p) s folds.0 = subst (λ (o : Option (RunningParty P)). TurnsIf modules (commands_of inputs i) i o s folds.0) there folds.1 in
      let next : IsUnderWay w modules inputs (with_turn i turns.0 s) = subst (λ (x : RunState P). IsUnderWay w modules inputs x) turns.2 (run_turned w modules inputs i s folds.0 way folds.1) in
      goes_room own s end p turns.0 way next there count
      (steps_on s.core p turns.0 to.drawn (can_step w.maker s.core p can) seeks (steps_of (is_idle p.frame.phase) p s.core turns.0 refl seeks.busy turns.1))
      (λ mid q way' there' count' seeks' more. busy_room own mid end q way' there' count' seeks' more)
      (subst (λ (x : RunState P). Folds modules inputs (replicate own i) x end) turns.2 folds.2)

-- A request of party i begins, which nothing hinders.
module _ {P : Type 0} (w : World) (modules : List ModuleAsked) (inputs : List (List Command)) (i own : ℕ) (wanted : Wanted) (s end : RunState P) (p : RunningParty P) (t : Turned P) (way : IsUnderWay w modules inputs s) (next : IsUnderWay w modules inputs (with_turn i t s)) (there : slice_get s.parties i ≡ Some p) (idle : (k : ℕ) → IfSome (slice_get s.parties k) (λ p. IsIdle p.frame)) (enough : LeavesEnough (world_at w i p.frame.stripe) s.parties wanted) (drawn : is_drawing (stage_of p.frame) ≡ false)
    (folds : Folds modules inputs (replicate own i) (with_turn i t s) end) where
  abbrev Finds : Type 0
  Finds = FindsRoom modules inputs i (length (replies_to i s.replies)) end

  its_idle : IsIdle p.frame
  its_idle = let I : Option (RunningParty P) → Type 0 = λ o. IfSome o (λ q. IsIdle q.frame) in let here : I (Some p) = subst I there (idle i) in here

  can : CanTurn w.maker s.core p
  can = subst (λ (q : RunningParty P). CanTurn w.maker s.core q) (get_or_from_slice_get s.parties i p p there) (can_turn w.maker s.core s.parties i p way.holds.running (slice_get_within s.parties i p there))

  -- by a call that asks for what is requested
  call_room : (request : Call P PlainHeap) → IsCallOf w.terms.modules wanted request → MayBegin w.maker s.core.settings s.core.plan request p.frame → Steps s.core (record p { frame = begun_call request p.frame }) t → Finds
  call_room request call' may steps =
      let has : HasAllItNeeds s.core p.frame.stripe request =
      has_all w s.core s.parties p.frame.stripe i wanted request way.holds.running.core way.world can.party.sound.frame.stripe enough call' (nobody_calls w.maker s.core s.parties way.holds.running.whole way.holds.running.each idle) in
      let begun : Frame P PlainHeap = begun_call request p.frame in
      let q : RunningParty P = record p { frame = begun } in
      let seeks = begun_seeks w.maker s.core p.frame request call'.for (can_step w.maker s.core p can) may has in
      goes_room w modules inputs i (length (replies_to i s.replies)) has.grants s.core p.frame.stripe request has.enough own s end p t way next there refl
      (steps_on w modules inputs i (length (replies_to i s.replies)) has.grants s.core p.frame.stripe request has.enough s.core q t (no_drawing request p.frame call'.for) seeks.can seeks steps)
      (λ mid x way' there' count' seeks' more. busy_room w modules inputs i (length (replies_to i s.replies)) has.grants s.core p.frame.stripe request has.enough own mid end x way' there' count' seeks' more)
      folds
    where
      no_drawing : (request : Call P PlainHeap) (f : Frame P PlainHeap) → IsForGrant request → is_drawing (stage_of (begun_call request f)) ≡ false
      no_drawing (call.Module m) f is = refl
      no_drawing (call.Component info) f is = refl
      no_drawing (call.Memory m) f is = refl
      no_drawing (call.Table ty) f is = refl
      no_drawing (call.HeapOver memory) f is = refl
      no_drawing call.Stack f is = refl
      no_drawing (call.Heap ty) f is = refl
      no_drawing _ f is = absurd is

  -- A request for an instance ends at once for want of memory, or begins.
  instance_room : (number : ℕ) (o : Option ModuleAsked) (opening : Opening P) → wanted ≡ an_instance number → IfSome o (IsCallFor w.terms s.core.settings number) → OpensRequest o p opening → Leaves opening s.core p t → Finds
  instance_room number None opening is for opens leaves = absurd opens
  instance_room number (Some kept) opening is for opens leaves =
      let L : Opening P → Type 0 = λ x. Leaves x s.core p t in
      let C : Wanted → Type 0 = λ x. IsCallOf {P = P} w.terms.modules x (call.Module kept) in
      elim opens [
        | inl ends ↦
            let left : L (replies (Refused (Alloc alloc.Memory)) p.live p.store) = subst L ends leaves in
            let told : t.reply ≡ Some (Refused (Alloc alloc.Memory)) = ap (λ (x : Turned P). x.reply) left in
            replied_room modules inputs i (length (replies_to i s.replies)) own s end t (Refused (Alloc alloc.Memory)) (omega (arith, slice_get_within s.parties i p there, way.told)) refl told refl folds
        | inr begins ↦ call_room (call.Module kept) (subst C (sym is) (module_call w.terms s.core.settings number kept for)) (its_idle, for.fit.images, for.fit.places) (subst L begins leaves)
      ]

  wanted_room : (x : Wanted) (opening : Opening P) → wanted ≡ x → OpensWanted modules x p opening → Leaves opening s.core p t → Finds
  wanted_room (an_instance number) opening is opens leaves = instance_room number (slice_get modules number) opening is (way.calls number) opens leaves
  wanted_room (a_component info) opening is opens leaves =
      let L : Opening P → Type 0 = λ y. Leaves y s.core p t in
      let C : Wanted → Type 0 = λ y. IsCallOf {P = P} w.terms.modules y (call.Component info) in
      call_room (call.Component info) (subst C (sym is) (component_call w.terms.modules info)) its_idle (subst L opens leaves)
  wanted_room a_stack opening is opens leaves =
      let L : Opening P → Type 0 = λ y. Leaves y s.core p t in
      let C : Wanted → Type 0 = λ y. IsCallOf {P = P} w.terms.modules y call.Stack in
      call_room call.Stack (subst C (sym is) (stack_call w.terms.modules)) its_idle (subst L opens leaves)
  wanted_room (a_heap limits) opening is opens leaves =
      let L : Opening P → Type 0 = λ y. Leaves y s.core p t in
      let C : Wanted → Type 0 = λ y. IsCallOf {P = P} w.terms.modules y (call.Heap (heap_type limits)) in
      call_room (call.Heap (heap_type limits)) (subst C (sym is) (heap_call w.terms.modules limits)) (its_idle, omega arith) (subst L opens leaves)

  -- The turn opens so.
  opens_room : (b keyed : Bool) (o : Option Command) (opening : Opening P) → is_idle p.frame.phase ≡ b → p.keyed ≡ keyed → slice_get (commands_of inputs i) p.done ≡ o → p.keyed ≡ true → option_map act_of o ≡ Some (requests wanted) → OpensAt b modules (commands_of inputs i) p opening → Leaves opening s.core p t → Finds
  opens_room false keyed o opening idles key at drew asks opens leaves = let now : is_idle p.frame.phase ≡ true = ap is_idle its_idle in let wrong : true ≡ false = sym now ∙ idles in absurd cc
  opens_room true keyed o opening idles key at drew asks opens leaves =
      let N : Bool → Option Command → Type 0 = λ x y. OpensNext modules y x p opening in
      next_room keyed o opening (sym key ∙ drew) asks (subst (λ (x : Bool). N x o) key (subst (N p.keyed) at opens)) leaves
    where
      next_room : (keyed : Bool) (o : Option Command) (opening : Opening P) → keyed ≡ true → option_map act_of o ≡ Some (requests wanted) → OpensNext modules o keyed p opening → Leaves opening s.core p t → Finds
      next_room keyed None opening drew asks opens leaves = absurd cc
      next_room false (Some command) opening drew asks opens leaves = absurd cc
      next_room true (Some command) opening drew asks opens leaves =
          let is : act_of command ≡ requests wanted = same_Some (act_of command) (requests wanted) asks in
          let A : Act → Type 0 = λ act. OpensAct modules act p opening in
          wanted_room wanted opening refl (subst A is opens) leaves

-- The stripe plays no part in whether a request may be granted, and in what serves it.
own_over : (w : World) (i a b : ℕ) (want : Want) → own_refusal (world_at w i a).terms want ≡ own_refusal (world_at w i b).terms want
own_over w i a b (new_memory want) = refl
own_over w i a b (new_table ty) = refl
own_over w i a b _ = refl

first_over : (w : World) (i a b : ℕ) (wants : List Want) → first_refusal (world_at w i a).terms wants ≡ first_refusal (world_at w i b).terms wants
first_over w i a b [] = refl
first_over w i a b (want ∷ wants) =
    ap (λ (o : Option AllocError). option_or o (first_refusal (world_at w i a).terms wants)) (own_over w i a b want) ∙ ap (option_or (own_refusal (world_at w i b).terms want)) (first_over w i a b wants)

may_over : (w : World) (i a b : ℕ) (wanted : Wanted) → MayBeGranted (world_at w i a).terms wanted → MayBeGranted (world_at w i b).terms wanted
may_over w i a b (an_instance number) may = (may.0, sym (first_over w i a b (wants_of (request_of (world_at w i a).terms number))) ∙ may.1)
may_over w i a b (a_component info) may = may
may_over w i a b a_stack may = may
may_over w i a b (a_heap limits) may = may

served_over : (w : World) (i a b : ℕ) (reply : Reply) → IsServed (world_at w i a) reply → IsServed (world_at w i b) reply
served_over w i a b (Refused (Alloc alloc.Memory)) is = tt
served_over w i a b (Refused (Alloc alloc.PageFault)) is = is
served_over w i a b (Refused (Alloc alloc.HeapFault)) is = tt
served_over w i a b (Refused r) is = absurd is
served_over w i a b _ is = tt

-- the command that does this
by_command : (o : Option Command) (Q : Type 0) (wanted : Wanted) → option_map act_of o ≡ Some (requests wanted) → ((command : Command) → o ≡ Some command → act_of command ≡ requests wanted → Q) → Q
by_command None Q wanted asks step = absurd cc
by_command (Some command) Q wanted asks step = step command refl (same_Some (act_of command) (requests wanted) asks)

module _ {P : Type 0} where
  -- Nothing hinders a request of party i that turns alone: it isn't refused for room.
  pub finds_room : (w : World) (modules : List ModuleAsked) (inputs : List (List Command)) (i own : ℕ) (wanted : Wanted) (s end : RunState P) (p : RunningParty P) → IsUnderWay w modules inputs s → slice_get s.parties i ≡ Some p → IsNextOf (commands_of inputs i) wanted p → ((k : ℕ) → IfSome (slice_get s.parties k) (λ p. IsIdle p.frame)) → LeavesEnough (world_at w i p.frame.stripe) s.parties wanted → Folds modules inputs (replicate own i) s end → FindsRoom modules inputs i (length (replies_to i s.replies)) end
  finds_room w modules inputs i zero wanted s end p way there next idle enough folds = λ reply told.
      let n : ℕ = length (replies_to i s.replies) in
      let same : slice_get (replies_to i s.replies) n ≡ Some reply = ap (λ (x : RunState P). slice_get (replies_to i x.replies) n) (sym folds) ∙ told in
      let none : slice_get (replies_to i s.replies) n ≡ None = slice_get_past (replies_to i s.replies) n (omega arith) in
      let wrong : Some reply ≡ None = sym same ∙ none in absurd cc
  finds_room w modules inputs i (suc own) wanted s end p way there next idle enough folds =
      let to : IsRunTo w (commands_of inputs i) (replies_to i s.replies) p = subst (λ (q : RunningParty P). IsRunTo w (commands_of inputs i) (replies_to i s.replies) q) (get_or_from_slice_get s.parties i p p there) (way.each i p (slice_get_within s.parties i p there)) in
      let turns : TurnsIf modules (commands_of inputs i) i (Some p) s folds.0 = subst (λ (o : Option (RunningParty P)). TurnsIf modules (commands_of inputs i) i o s folds.0) there folds.1 in
      let t : Turned P = turns.0 in
      let on : IsUnderWay w modules inputs (with_turn i t s) = subst (λ (x : RunState P). IsUnderWay w modules inputs x) turns.2 (run_turned w modules inputs i s folds.0 way folds.1) in
      let more : Folds modules inputs (replicate own i) (with_turn i t s) end = subst (λ (x : RunState P). Folds modules inputs (replicate own i) x end) turns.2 folds.2 in
      opens_room w modules inputs i own wanted s end p t way on there idle enough to.drawn more (is_idle p.frame.phase) p.keyed (slice_get (commands_of inputs i) p.done) turns.1.0 refl refl refl next.keyed next.asks turns.1.1 turns.1.2

  -- So it is served.
  pub unhindered_served : (input : Input) (maker : MakerTold) → IsRunnable input maker → (run : RunParts P) → IsMadeRun input maker run → (before : List ℕ) (i turns : ℕ) (s end : RunState P) (wanted : Wanted) (reply : Reply)
      → i < length input.parties
      → Folds run.modules (commands_in input.parties) before (told_state run (nothing_told input.parties)) s
      → IsUnhindered (world_seen input maker s.parties i) (commands_of (commands_in input.parties) i) i wanted s
      → Folds run.modules (commands_in input.parties) (replicate turns i) s end
      → slice_get (replies_to i end.replies) (length (replies_to i s.replies)) ≡ Some reply
      → IsServed (world_seen input maker s.parties i) reply
  unhindered_served input maker runnable run made before i turns s end wanted reply below first is folds told =
      let w : World = world_of input maker in
      let inputs : List (List Command) = commands_in input.parties in
      let start : RunState P = told_state run (nothing_told input.parties) in
      let way : IsUnderWay w run.modules inputs s = folds_under_way w run.modules inputs before start s (made_under_way input maker run runnable made) first in
      let ended : IsUnderWay w run.modules inputs end = folds_under_way w run.modules inputs (replicate turns i) s end way folds in
      let d : RunningParty P = party_made 0 None [] [] run.core.settings 0 in
      let inside : i < length s.parties = omega (arith, below, made_count input maker run made, folds_count run.modules inputs before start s first) in
      let still : i < length end.parties = omega (arith, inside, folds_count run.modules inputs (replicate turns i) s end folds) in
      let p : RunningParty P = slice_index_or s.parties i d in
      let there : slice_get s.parties i ≡ Some p = slice_get-get_or s.parties i d inside in
      let next : IsNextOf (commands_of inputs i) wanted p = is.next p there in
      let stripe : stripe_of (slice_get s.parties i) ≡ p.frame.stripe = ap stripe_of there in
      let enough : LeavesEnough (world_at w i p.frame.stripe) s.parties wanted = subst (λ (n : ℕ). LeavesEnough (world_at w i n) s.parties wanted) stripe is.enough in
      let room : refuses_for_room reply ≡ false = finds_room w run.modules inputs i turns wanted s end p way there next is.idle enough folds reply told in
      let pooled = replies_pooled w run.modules inputs end i d ended still in
      let stripe_now : ℕ = (slice_index_or end.parties i d).frame.stripe in
      let u : World = world_at w i stripe_now in
      let n : ℕ = length (replies_to i s.replies) in
      let to : IsRunTo w (commands_of inputs i) (replies_to i s.replies) p = way.each i d inside in
      let asks : option_map act_of (slice_get (commands_of inputs i) n) ≡ Some (requests wanted) = ap (λ (k : ℕ). option_map act_of (slice_get (commands_of inputs i) k)) to.private.count ∙ next.asks in
      served_over w i stripe_now (stripe_of (slice_get s.parties i)) reply
      (by_command (slice_get (commands_of inputs i) n) (IsServed u reply) wanted asks
      (λ command at act.
      let step = step_of (PooledStep u) 0 n (commands_of inputs i) (replies_to i end.replies) (with_grants (no_grants (commands_of inputs i))) pooled.0 command reply pooled.1 at told in
      step_served u (0 + n) command wanted step.0 step.1.0 reply act (may_over w i (stripe_of (slice_get s.parties i)) stripe_now wanted is.allowed) room step.1.1))

-- So it is where a run was made.
pub serves_ok : (P : Type 0) (input : Input) (maker : MakerTold) (r : Result RunOutput RunFault) → maker.page ≡ input.page → is_built input ≡ true → OnOk r (broken_rule input ≡ None) → OnOk r (ServesFromStart P input maker)
serves_ok P input maker (Ok output) page built rules = unhindered_served input maker (runnable_so input maker built rules page)
serves_ok P input maker (Err fault) page built rules = tt

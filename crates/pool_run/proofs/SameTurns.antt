-- A turn of a party has one outcome, or one finds no memory for what it asks for, and the other goes on.
use Rattle.std.proofs.Common.{◌≡◌, ◌≢◌, ℕ, ◌<◌, ◌≤◌, Bool, true, false, List, length, Option, Some, None, IsSome, is_some, ◌⊎◌, refl, sym, ap, ◌∙◌, subst, inl, inr, arith, ◌&&◌, not, slice_get, slice_set, slice_index_or}
use Rattle.pool_run.proofs.Imports.{option_and_then, slice_get_within, get_or_from_slice_get, ListedHeaps, PlainHeap, objects_in, ModuleAsked, begun_call, LeasedTable, ListedStore, MakerTold, Unsupported, module_refused, heap_refused, validated, heaps_tested, row_of, stage_of, stage_at, IsShapedAt, StepGiven, IsHeapAsked, info_wanted, After, stepped, Phase, Idle, Validate, TestHeap, CountInstance, Pick, Release, Asked, heap_asked, heap_over_asked, Ending, Reserve, reserve_row, CanStep, is_idle, PoolCore, Frame, Grant, instance, component, one_memory, one_table, stack, heap, heap_over, memory_tested}
use Rattle.pool_slots.specs.declared.errors.AllocError.TheVariants as alloc
use Rattle.pool_alloc.specs.declared.frame.Ending.TheVariants as ending
use Rattle.pool_alloc.specs.declared.frame.Call.TheVariants as call
use Rattle.pool_run.specs.Acts.{MemoryOp, TableOp, Act, requests, on_memory, on_table, drops, purges, releases, act_of, Wanted, an_instance, a_component, a_stack, a_heap}
use Rattle.pool_run.specs.Agreeing.{want_of_memory}
use Rattle.pool_run.specs.Folds.{RunState, commands_of, IsUnderWay}
use Rattle.pool_run.specs.Objects.{Objects, object_at, MovesObject}
use Rattle.pool_run.specs.PartyRules.{rule_of}
use Rattle.pool_run.specs.Rooms.{World}
use Rattle.pool_run.specs.Ties.{CanTurn}
use Rattle.pool_run.specs.Turns.{Turned, Turns, StepsUnder, Opening, rests, replies, makes_step, ended_at_once, after_step, LeaseMoves, memory_leases, MovesTable, table_leases, OpensRequest, OpensAct, OpensNext, OpensAt, Leaves, StackLeaseMoves, MovesLeasedBytes, stack_leases, OpensWanted}
use Rattle.pool_run.specs.declared.command.Command.{Command}
use Rattle.pool_run.specs.declared.reply.Reply.{Reply}
use Rattle.pool_run.specs.declared.reply.Refusal.TheVariants.{Alloc}
use Rattle.pool_run.specs.declared.reply.Reply.TheVariants.{Refused}
use Rattle.pool_run.specs.declared.running_party.RunningParty.{RunningParty}
use Rattle.pool_run.proofs.Named.{moved}
use Rattle.pool_run.proofs.Opened.{idle_is, IsOpened, opened}
use Rattle.pool_run.proofs.Parties.{can_step}
use Rattle.pool_run.proofs.Running.{can_turn}
use Rattle.pool_run.proofs.SameMoves.{op_same}
use Rattle.pool_run.proofs.Cleared.{IsClear, IsClearIdle, stepped_clear, clear_is}
use Rattle.pool_run.proofs.Pending.{IsPast, PastReply}
use Rattle.pool_run.proofs.SameTables.{table_same}
use Rattle.pool_run.proofs.StackMoves.{stack_op_same}
use Rattle.pool_run.proofs.SameHeaps.{makers_same, listed_same}
use Rattle.pool_run.proofs.SameSteps.{is_test, step_same, step_tests}
use Rattle.pool_run.proofs.StageSteps.{is_none, none_idle}
use Rattle.pool_run.proofs.Reserving.{answered_frame}
use Rattle.pool_run.proofs.Stepped.{IsStepped, stepped as stepped_so}
use Rattle.pool_run.proofs.Sounds.{lease_held, stack_held, table_held}

-- a broken rule is another refusal
unsupported_is : (rule : Unsupported) → Refused (Alloc (alloc.Unsupported rule)) ≢ want_of_memory
unsupported_is rule = λ is. absurd cc

-- a request for a heap is past its test then
heap_past : (P : Type 0) (asked : Asked) (e : Ending) → e ≡ ending.Granted → IsHeapAsked asked → IsPast (stage_at {P = P} {H = PlainHeap} (Pick 0) asked e 0)
heap_past P (heap_asked ty) ending.Granted is for = tt
heap_past P (heap_over_asked memory) ending.Granted is for = tt
heap_past P (heap_asked ty) ending.Returned is for = absurd cc
heap_past P (heap_asked ty) (ending.Refused e) is for = absurd cc
heap_past P (heap_over_asked memory) ending.Returned is for = absurd cc
heap_past P (heap_over_asked memory) (ending.Refused e) is for = absurd cc
heap_past P _ e is for = absurd for

module _ {P : Type 0} where
  -- the first of two turns found no memory, and the other goes on, or has another reply
  pub record IsApart (t u : Turned P) : Type 0 where
    pub wants : t.reply ≡ Some want_of_memory
    pub later : PastReply u.reply (stage_of u.party.frame)

  -- two turns leave the same, or one of them alone found no memory
  abbrev pub AreAlike : Turned P → Turned P → Type 0
  AreAlike t u = (t ≡ u) ⊎ (IsApart t u ⊎ IsApart u t)

  turned_round : (t u : Turned P) → AreAlike t u → AreAlike u t
  turned_round t u are =
      elim are [
        | inl same ↦ inl (sym same)
        | inr apart ↦ elim apart [ inl one ↦ inr (inr one) | inr other ↦ inr (inl other) ]
      ]

  -- The test of a request, with memory for its list or none.
  tests_by : (o : Option Unsupported) (v w : Bool) (phase : Phase P PlainHeap) (c : PoolCore P PlainHeap) (bare : Frame P PlainHeap) (q : RunningParty P) (t u : Turned P) → IsPast (stage_at phase bare.asked bare.ending 0) → t ≡ after_step (stepped (validated o v phase c bare)) q → u ≡ after_step (stepped (validated o w phase c bare)) q → AreAlike t u
  tests_by (Some rule) v w phase c bare q t u past one two = inl (one ∙ sym two)
  tests_by None true true phase c bare q t u past one two = inl (one ∙ sym two)
  tests_by None false false phase c bare q t u past one two = inl (one ∙ sym two)
  tests_by None true false phase c bare q t u past one two = inr (inl (record { wants = ap (λ (x : Turned P). x.reply) one; later = subst (λ (x : Turned P). PastReply x.reply (stage_of x.party.frame)) (sym two) past }))
  tests_by None false true phase c bare q t u past one two = inr (inr (record { wants = ap (λ (x : Turned P). x.reply) two; later = subst (λ (x : Turned P). PastReply x.reply (stage_of x.party.frame)) (sym one) past }))

  -- Of a heap's memory, which one that is there is not tested for.
  memory_by : (asked : Asked) (v w : Bool) (c : PoolCore P PlainHeap) (bare : Frame P PlainHeap) (q : RunningParty P) (t u : Turned P) → IsPast (stage_at {P = P} {H = PlainHeap} (Pick 0) bare.asked bare.ending 0) → t ≡ after_step (stepped (memory_tested asked v c bare)) q → u ≡ after_step (stepped (memory_tested asked w c bare)) q → AreAlike t u
  memory_by (heap_over_asked memory) v w c bare q t u past one two = inl (one ∙ sym two)
  memory_by asked v w c bare q t u past one two = tests_by (heap_refused c.settings asked) v w (Pick 0) c bare q t u past one two

  -- Of a heap, which a collector is tested for first.
  heaps_by : (collector v w : Bool) (rules : Option Unsupported) (c : PoolCore P PlainHeap) (bare : Frame P PlainHeap) (q : RunningParty P) (t u : Turned P) → heap_refused c.settings bare.asked ≡ rules → IsPast (stage_at {P = P} {H = PlainHeap} (Pick 0) bare.asked bare.ending 0) → t ≡ after_step (stepped (heaps_tested collector v c bare)) q → u ≡ after_step (stepped (heaps_tested collector w c bare)) q → AreAlike t u
  heaps_by false v w rules c bare q t u is past one two = inl (one ∙ sym two)
  heaps_by true v w rules c bare q t u is past one two = memory_by bare.asked v w c bare q t u past one two

  -- A release, with memory for its room or none.
  reserves_by : (v w : Bool) (c : PoolCore P PlainHeap) (bare : Frame P PlainHeap) (q : RunningParty P) (t u : Turned P) → t ≡ after_step (stepped (reserve_row v c bare)) q → u ≡ after_step (stepped (reserve_row w c bare)) q → AreAlike t u
  reserves_by true true c bare q t u one two = inl (one ∙ sym two)
  reserves_by false false c bare q t u one two = inl (one ∙ sym two)
  reserves_by true false c bare q t u one two = inr (inl (record { wants = ap (λ (x : Turned P). x.reply) one; later = subst (λ (x : Turned P). PastReply x.reply (stage_of x.party.frame)) (sym two) tt }))
  reserves_by false true c bare q t u one two = inr (inr (record { wants = ap (λ (x : Turned P). x.reply) two; later = subst (λ (x : Turned P). PastReply x.reply (stage_of x.party.frame)) (sym one) tt }))

  phase_tests : (maker : MakerTold) (phase : Phase P PlainHeap) → is_test phase ≡ true → (g h : StepGiven PlainHeap) (c : PoolCore P PlainHeap) (frame : Frame P PlainHeap) → IsShapedAt maker c.settings c.plan phase frame → (q : RunningParty P) (t u : Turned P) → t ≡ after_step (stepped (row_of g phase c (record frame { phase = Idle }))) q → u ≡ after_step (stepped (row_of h phase c (record frame { phase = Idle }))) q → AreAlike t u
  phase_tests maker Validate test g h c frame shape q t u one two = tests_by (module_refused c.settings c.plan.totals.table (info_wanted frame.asked)) g.wants h.wants CountInstance c (record frame { phase = Idle }) q t u tt one two
  phase_tests maker TestHeap test g h c frame shape q t u one two =
      heaps_by c.settings.tunables.tunables.collector g.wants h.wants (heap_refused c.settings frame.asked) c (record frame { phase = Idle }) q t u refl (heap_past P frame.asked frame.ending shape.1.0 shape.1.2) one two
  phase_tests maker (Release Reserve) test g h c frame shape q t u one two = reserves_by g.wants h.wants c (record frame { phase = Idle }) q t u one two
  phase_tests maker _ test g h c frame shape q t u one two = absurd cc

-- a party in a world whose maker tells what its regions hold, and which of their calls fail
module _ {P : Type 0} (w : World) (tells : w.maker.tells ≡ true) (planned : IsSome w.maker.plan) (c : PoolCore P PlainHeap) (p : RunningParty P) (can : CanTurn w.maker c p) where
  -- Turns that open with the same.
  step_alike : (b : Bool) (frame : Frame P PlainHeap) (q : RunningParty P) (t u : Turned P) → q.heaps ≡ p.heaps → is_test frame.phase ≡ b → CanStep w.maker c frame → (one : (a : After P PlainHeap) × StepsUnder (rule_of p.limits) p.heaps t.party.heaps c frame a × (t ≡ after_step a (record q { heaps = t.party.heaps }))) → (two : (a : After P PlainHeap) × StepsUnder (rule_of p.limits) p.heaps u.party.heaps c frame a × (u ≡ after_step a (record q { heaps = u.party.heaps }))) → AreAlike t u
  step_alike false frame q t u kept test steps one two =
      let heaps : t.party.heaps ≡ u.party.heaps = makers_same (rule_of p.limits) p.heaps t.party.heaps u.party.heaps c frame one.0 two.0 one.1 two.1 in
      let left : ListedHeaps = t.party.heaps in
      let right : ListedHeaps = u.party.heaps in
      inl (one.2 ∙ ap (λ (a : After P PlainHeap). after_step a (record q { heaps = left })) (step_same w.maker tells planned (rule_of p.limits) p.heaps left right c frame one.0 two.0 steps test one.1 two.1)
      ∙ ap (λ (h : ListedHeaps). after_step two.0 (record q { heaps = h })) heaps ∙ sym two.2)
  step_alike true frame q t u kept test steps one two =
      let left : ListedHeaps = t.party.heaps in
      let right : ListedHeaps = u.party.heaps in
      let heaps : left ≡ right = makers_same (rule_of p.limits) p.heaps left right c frame one.0 two.0 one.1 two.1 in
      let first = step_tests (rule_of p.limits) p.heaps left c frame one.0 frame.phase refl one.1 in
      let second = step_tests (rule_of p.limits) p.heaps right c frame two.0 frame.phase refl two.1 in
      let r : RunningParty P = record q { heaps = left } in
      let After_of : After P PlainHeap → Turned P = λ a. after_step a r in
      phase_tests w.maker frame.phase test first.0 second.0 c frame steps.frame.shape r t u (one.2 ∙ ap After_of first.1) (two.2 ∙ ap (λ (h : ListedHeaps). after_step two.0 (record q { heaps = h })) (sym heaps) ∙ ap After_of second.1)

  leaves_alike : (o : Opening P) (t u : Turned P) → IsOpened w.maker c p o → Leaves o c p t → Leaves o c p u → AreAlike t u
  leaves_alike rests t u is one two = inl (one ∙ sym two)
  leaves_alike (replies reply live store) t u is one two = inl (one ∙ sym two)
  leaves_alike (makes_step frame live) t u is one two = let q : RunningParty P = record p { frame = frame; live = live } in step_alike (is_test frame.phase) frame q t u refl refl (can_step w.maker c q is.can) one two

  same_opening : (a b : Opening P) (t u : Turned P) → IsOpened w.maker c p a → a ≡ b → Leaves a c p t → Leaves b c p u → AreAlike t u
  same_opening a b t u is same one two =
      let L : Opening P → Type 0 = λ o. Leaves o c p u in
      leaves_alike a t u is one (subst L (sym same) two)

  -- A command on an object.
  there : {X : Type 0} (objects : Objects (Grant P PlainHeap) X) (of k : ℕ) (grant : Grant P PlainHeap) (l : X) → slice_index_or p.live of None ≡ Some grant → slice_get (objects.in_grant grant) k ≡ Some l → object_at objects of k p.live ≡ Some l
  there objects of k grant l granted is = ap (λ (o : Option (Grant P PlainHeap)). option_and_then (λ g. slice_get (objects.in_grant g) k) o) granted ∙ is

  -- the replies decide
  replied_alike : (r q : Reply) (live other : List (Option (Grant P PlainHeap))) (t u : Turned P) → t ≡ ended_at_once r c (record p { live = live; store = p.store }) → u ≡ ended_at_once q c (record p { live = other; store = p.store }) → ((live ≡ other) × (r ≡ q)) ⊎ (((r ≡ want_of_memory) × (q ≢ want_of_memory)) ⊎ ((q ≡ want_of_memory) × (r ≢ want_of_memory))) → AreAlike t u
  replied_alike r q live other t u one two are =
      let Later : Turned P → Type 0 = λ x. PastReply x.reply (stage_of x.party.frame) in
      let E : Reply → List (Option (Grant P PlainHeap)) → Turned P = λ x ls. ended_at_once x c (record p { live = ls; store = p.store }) in
      elim are [
        | inl same ↦ inl (one ∙ ap (E r) same.0 ∙ ap (λ (x : Reply). E x other) same.1 ∙ sym two)
        | inr apart ↦
            elim apart [
              | inl is ↦ inr (inl (record { wants = ap (λ (x : Turned P). x.reply) one ∙ ap (λ (x : Reply). Some x) is.0; later = subst Later (sym two) is.1 }))
              | inr is ↦ inr (inr (record { wants = ap (λ (x : Turned P). x.reply) two ∙ ap (λ (x : Reply). Some x) is.0; later = subst Later (sym one) is.1 }))
            ]
      ]

  -- or agree
  abbrev pub Agree : List (Option (Grant P PlainHeap)) → List (Option (Grant P PlainHeap)) → Reply → Reply → Type 0
  Agree live other r q = ((live ≡ other) × (r ≡ q)) ⊎ (((r ≡ want_of_memory) × (q ≢ want_of_memory)) ⊎ ((q ≡ want_of_memory) × (r ≢ want_of_memory)))

  objects_alike : {X : Type 0} (objects : Objects (Grant P PlainHeap) X) (Move : X → X → Reply → Type 0) (of k : ℕ) (r q : Reply) (live other : List (Option (Grant P PlainHeap)))
      → ((grant : Grant P PlainHeap) (l x y : X) → slice_index_or p.live of None ≡ Some grant → slice_get (objects.in_grant grant) k ≡ Some l → Move l x r → Move l y q → ((x ≡ y) × (r ≡ q)) ⊎ (((r ≡ want_of_memory) × (q ≢ want_of_memory)) ⊎ ((q ≡ want_of_memory) × (r ≢ want_of_memory))))
      → MovesObject objects Move of k p.live r live → MovesObject objects Move of k p.live q other → Agree live other r q
  objects_alike {X} objects Move of k r q live other agree one two =
      elim (moved objects Move of k p.live live r one) [
        | inl none ↦
            elim (moved objects Move of k p.live other q two) [
              | inl nor ↦ inl (none.same ∙ sym nor.same, none.refused ∙ sym nor.refused)
              | inr m ↦ let wrong : None ≡ Some m.old = sym none.none ∙ there objects of k m.grant m.old m.granted m.there in absurd cc
            ]
        | inr m ↦
            elim (moved objects Move of k p.live other q two) [
              | inl none ↦ let wrong : None ≡ Some m.old = sym none.none ∙ there objects of k m.grant m.old m.granted m.there in absurd cc
              | inr n ↦
                  let grant : m.grant ≡ n.grant = let both : Some m.grant ≡ Some n.grant = sym m.granted ∙ n.granted in cc in
                  let At : Grant P PlainHeap → Type 0 = λ g. slice_get (objects.in_grant g) k ≡ Some n.old in
                  let old : m.old ≡ n.old = let both : Some m.old ≡ Some n.old = sym m.there ∙ subst At (sym grant) n.there in cc in
                  let From : X → Type 0 = λ l. Move l n.changed q in
                  let Put : Grant P PlainHeap → X → List (Option (Grant P PlainHeap)) = λ g l. slice_set p.live of (Some (objects.put_in k l g)) in
                  elim (agree m.grant m.old m.changed n.changed m.granted m.there m.move (subst From (sym old) n.move)) [
                    | inl both ↦ inl (m.is ∙ ap (λ (g : Grant P PlainHeap). Put g m.changed) grant ∙ ap (Put n.grant) both.0 ∙ sym n.is, both.1)
                    | inr apart ↦ inr apart
                  ]
            ]
      ]

  moves_alike : (op : MemoryOp) (of k : ℕ) (r q : Reply) (live other : List (Option (Grant P PlainHeap))) → MovesObject memory_leases (LeaseMoves op (rule_of p.limits)) of k p.live r live → MovesObject memory_leases (LeaseMoves op (rule_of p.limits)) of k p.live q other → Agree live other r q
  moves_alike op of k r q live other one two =
      objects_alike memory_leases (LeaseMoves op (rule_of p.limits)) of k r q live other
      (λ grant l x y granted is first second. op_same w.maker c.settings c.plan tells planned l (lease_held w.maker c p of k grant l can.party.sound granted is) op (rule_of p.limits) x y r q first second) one two

  bytes_alike : (x : Option (Grant P PlainHeap)) (op : MemoryOp) (of k : ℕ) (r q : Reply) (live other : List (Option (Grant P PlainHeap))) → MovesLeasedBytes op (rule_of p.limits) x of k p.live r live → MovesLeasedBytes op (rule_of p.limits) x of k p.live q other → Agree live other r q
  bytes_alike None op of k r q live other one two = moves_alike op of k r q live other one two
  bytes_alike (Some (instance lease)) op of k r q live other one two = moves_alike op of k r q live other one two
  bytes_alike (Some component) op of k r q live other one two = moves_alike op of k r q live other one two
  bytes_alike (Some (one_table lease)) op of k r q live other one two = moves_alike op of k r q live other one two
  bytes_alike (Some (one_memory lease)) op of k r q live other one two = moves_alike op of k r q live other one two
  bytes_alike (Some (heap lease memory)) op of k r q live other one two = moves_alike op of k r q live other one two
  bytes_alike (Some (heap_over lease)) op of k r q live other one two = moves_alike op of k r q live other one two
  bytes_alike (Some (stack lease)) op of k r q live other one two =
      objects_alike stack_leases (StackLeaseMoves op) of k r q live other
      (λ grant l x y granted is first second. stack_op_same w.maker c.settings c.plan tells op l x y r q (stack_held w.maker c p of k grant l can.party.sound granted is) first second) one two

  -- of a table and its store
  pub record AreSameReplies (live other : List (Option (Grant P PlainHeap))) (store left : ListedStore) (r q : Reply) : Type 0 where
    pub grants : live ≡ other
    pub calls : store ≡ left
    pub told : r ≡ q

  tables_same : (op : TableOp) (of k : ℕ) (r q : Reply) (live other : List (Option (Grant P PlainHeap))) (store left : ListedStore) → MovesObject table_leases (MovesTable op (rule_of p.limits) p.store store) of k p.live r live → MovesObject table_leases (MovesTable op (rule_of p.limits) p.store left) of k p.live q other → (object_at table_leases of k p.live ≡ None → store ≡ p.store) → (object_at table_leases of k p.live ≡ None → left ≡ p.store) → AreSameReplies live other store left r q
  tables_same op of k r q live other store left one two first second =
      let Move : LeasedTable → LeasedTable → Reply → Type 0 = MovesTable op (rule_of p.limits) p.store store in
      let Other : LeasedTable → LeasedTable → Reply → Type 0 = MovesTable op (rule_of p.limits) p.store left in
      elim (moved table_leases Move of k p.live live r one) [
        | inl none ↦
            elim (moved table_leases Other of k p.live other q two) [
              | inl nor ↦ record { grants = none.same ∙ sym nor.same; calls = first none.none ∙ sym (second nor.none); told = none.refused ∙ sym nor.refused }
              | inr m ↦ let wrong : None ≡ Some m.old = sym none.none ∙ there table_leases of k m.grant m.old m.granted m.there in absurd cc
            ]
        | inr m ↦
            elim (moved table_leases Other of k p.live other q two) [
              | inl none ↦ let wrong : None ≡ Some m.old = sym none.none ∙ there table_leases of k m.grant m.old m.granted m.there in absurd cc
              | inr n ↦
                  let grant : m.grant ≡ n.grant = let both : Some m.grant ≡ Some n.grant = sym m.granted ∙ n.granted in cc in
                  let At : Grant P PlainHeap → Type 0 = λ g. slice_get (table_leases.in_grant g) k ≡ Some n.old in
                  let old : m.old ≡ n.old = let both : Some m.old ≡ Some n.old = sym m.there ∙ subst At (sym grant) n.there in cc in
                  let From : LeasedTable → Type 0 = λ l. Other l n.changed q in
                  let Put : Grant P PlainHeap → LeasedTable → List (Option (Grant P PlainHeap)) = λ g l. slice_set p.live of (Some (table_leases.put_in k l g)) in
                  let same = table_same w.maker c.settings c.plan tells m.old (table_held w.maker c p of k m.grant m.old can.party.sound m.granted m.there) op (rule_of p.limits) p.store store left m.changed n.changed r q m.move (subst From (sym old) n.move) in
                  record { grants = m.is ∙ ap (λ (g : Grant P PlainHeap). Put g m.changed) grant ∙ ap (Put n.grant) same.lease ∙ sym n.is; calls = same.store; told = same.reply }
            ]
      ]

  stored_alike : (r q : Reply) (live other : List (Option (Grant P PlainHeap))) (store left : ListedStore) (t u : Turned P) → t ≡ ended_at_once r c (record p { live = live; store = store }) → u ≡ ended_at_once q c (record p { live = other; store = left }) → AreSameReplies live other store left r q → AreAlike t u
  stored_alike r q live other store left t u one two same =
      let E : Reply → List (Option (Grant P PlainHeap)) → ListedStore → Turned P = λ x ls s. ended_at_once x c (record p { live = ls; store = s }) in
      inl (one ∙ ap (λ (ls : List (Option (Grant P PlainHeap))). E r ls store) same.grants ∙ ap (E r other) same.calls ∙ ap (λ (x : Reply). E x other left) same.told ∙ sym two)

  -- A request, of which one finds no memory at once, and the other makes its test.
  wants_by : (o : Option Unsupported) (v : Bool) (m : ModuleAsked) (t u : Turned P) → p.frame.phase ≡ Idle → IsClear p.frame.asked p.frame.ending p.frame.queues → t ≡ ended_at_once want_of_memory c p
      → u ≡ after_step (stepped (validated o v CountInstance c (record (begun_call (call.Module m) p.frame) { phase = Idle }))) (record p { frame = begun_call (call.Module m) p.frame; live = p.live }) → AreAlike t u
  wants_by (Some rule) v m t u idle clear one two =
      inr (inl (record { wants = ap (λ (x : Turned P). x.reply) one; later = subst (λ (x : Turned P). PastReply x.reply (stage_of x.party.frame)) (sym two) (unsupported_is rule) }))
  wants_by None true m t u idle clear one two = inl (one ∙ ap (λ (f : Frame P PlainHeap). ended_at_once want_of_memory c (record p { frame = f })) (sym (clear_is p.frame idle clear)) ∙ sym two)
  wants_by None false m t u idle clear one two =
      inr (inl (record { wants = ap (λ (x : Turned P). x.reply) one; later = subst (λ (x : Turned P). PastReply x.reply (stage_of x.party.frame)) (sym two) tt }))

  wants_or_tests : (m : ModuleAsked) (t u : Turned P) → p.frame.phase ≡ Idle → IsClear p.frame.asked p.frame.ending p.frame.queues → Leaves (replies want_of_memory p.live p.store) c p t → Leaves (makes_step (begun_call (call.Module m) p.frame) p.live) c p u → AreAlike t u
  wants_or_tests m t u idle clear one two =
      let frame : Frame P PlainHeap = begun_call (call.Module m) p.frame in
      let q : RunningParty P = record p { frame = frame; live = p.live } in
      let left : ListedHeaps = u.party.heaps in
      let test = step_tests (rule_of p.limits) p.heaps left c frame two.0 Validate refl two.1 in
      let unasked : left ≡ p.heaps = listed_same left p.heaps (sym two.1.5 ∙ two.1.3.1.heaps ∙ two.1.4) in
      wants_by (module_refused c.settings c.plan.totals.table (info_wanted frame.asked)) test.0.wants m t u idle clear one
      (two.2 ∙ ap (λ (h : ListedHeaps). after_step two.0 (record q { heaps = h })) unasked ∙ ap (λ (a : After P PlainHeap). after_step a q) test.1)

  request_alike : (kept : Option ModuleAsked) (a b : Opening P) (t u : Turned P) → p.frame.phase ≡ Idle → IsClear p.frame.asked p.frame.ending p.frame.queues → IsOpened w.maker c p a → OpensRequest kept p a → OpensRequest kept p b → Leaves a c p t → Leaves b c p u → AreAlike t u
  request_alike None a b t u idle clear is one two first second = absurd one
  request_alike (Some kept) a b t u idle clear is one two first second =
      let L : Turned P → Opening P → Type 0 = λ x o. Leaves o c p x in
      elim one [
        | inl wants ↦
            elim two [
              | inl also ↦ same_opening a b t u is (wants ∙ sym also) first second
              | inr begins ↦ wants_or_tests kept t u idle clear (subst (L t) wants first) (subst (L u) begins second)
            ]
        | inr begins ↦
            elim two [
              | inl wants ↦ turned_round u t (wants_or_tests kept u t idle clear (subst (L u) wants second) (subst (L t) begins first))
              | inr also ↦ same_opening a b t u is (begins ∙ sym also) first second
            ]
      ]

  wanted_alike : (modules : List ModuleAsked) (wanted : Wanted) (a b : Opening P) (t u : Turned P) → p.frame.phase ≡ Idle → IsClear p.frame.asked p.frame.ending p.frame.queues → IsOpened w.maker c p a → OpensWanted modules wanted p a → OpensWanted modules wanted p b → Leaves a c p t → Leaves b c p u → AreAlike t u
  wanted_alike modules (an_instance number) a b t u idle clear is one two first second = request_alike (slice_get modules number) a b t u idle clear is one two first second
  wanted_alike modules (a_component info) a b t u idle clear is one two first second = same_opening a b t u is (one ∙ sym two) first second
  wanted_alike modules a_stack a b t u idle clear is one two first second = same_opening a b t u is (one ∙ sym two) first second
  wanted_alike modules (a_heap limits) a b t u idle clear is one two first second = same_opening a b t u is (one ∙ sym two) first second

  act_alike : (modules : List ModuleAsked) (act : Act) (a b : Opening P) (t u : Turned P) → p.frame.phase ≡ Idle → IsClear p.frame.asked p.frame.ending p.frame.queues → IsOpened w.maker c p a → OpensAct modules act p a → OpensAct modules act p b → Leaves a c p t → Leaves b c p u → AreAlike t u
  act_alike modules (requests wanted) a b t u idle clear is one two first second = wanted_alike modules wanted a b t u idle clear is one two first second
  act_alike modules (on_memory of k op) a b t u idle clear is one two first second =
      let L : Turned P → Opening P → Type 0 = λ x o. Leaves o c p x in
      replied_alike one.0 two.0 one.1 two.1 t u (subst (L t) one.3 first) (subst (L u) two.3 second) (bytes_alike (slice_index_or p.live of None) op of k one.0 two.0 one.1 two.1 one.2 two.2)
  act_alike modules (on_table of k op) a b t u idle clear is one two first second =
      let L : Turned P → Opening P → Type 0 = λ x o. Leaves o c p x in
      stored_alike one.0 two.0 one.1 two.1 one.2 two.2 t u (subst (L t) one.5 first) (subst (L u) two.5 second) (tables_same op of k one.0 two.0 one.1 two.1 one.2 two.2 one.3 two.3 one.4 two.4)
  act_alike modules (drops of) a b t u idle clear is one two first second = same_opening a b t u is (one ∙ sym two) first second
  act_alike modules (purges number) a b t u idle clear is one two first second = same_opening a b t u is (one ∙ sym two) first second
  act_alike modules releases a b t u idle clear is one two first second = same_opening a b t u is (one ∙ sym two) first second

  next_alike : (modules : List ModuleAsked) (next : Option Command) (keyed : Bool) (a b : Opening P) (t u : Turned P) → p.frame.phase ≡ Idle → IsClear p.frame.asked p.frame.ending p.frame.queues → IsOpened w.maker c p a → OpensNext modules next keyed p a → OpensNext modules next keyed p b → Leaves a c p t → Leaves b c p u → AreAlike t u
  next_alike modules None keyed a b t u idle clear is one two first second = same_opening a b t u is (one ∙ sym two) first second
  next_alike modules (Some command) false a b t u idle clear is one two first second = same_opening a b t u is (one ∙ sym two) first second
  next_alike modules (Some command) true a b t u idle clear is one two first second = act_alike modules (act_of command) a b t u idle clear is one two first second

  opens_alike : (b : Bool) (modules : List ModuleAsked) (commands : List Command) (x y : Opening P) (t u : Turned P) → is_idle p.frame.phase ≡ b → IsClearIdle p.frame → IsOpened w.maker c p x → OpensAt b modules commands p x → OpensAt b modules commands p y → Leaves x c p t → Leaves y c p u → AreAlike t u
  opens_alike true modules commands x y t u idle clear is one two first second = next_alike modules (slice_get commands p.done) p.keyed x y t u (idle_is p.frame.phase idle) (clear idle) is one two first second
  opens_alike false modules commands x y t u idle clear is one two first second = same_opening x y t u is (one ∙ sym two) first second

-- A turn leaves a frame clear where no call is under way.
module _ {P : Type 0} (maker : MakerTold) (c : PoolCore P PlainHeap) (p : RunningParty P) where
  step_clear : (left : ListedHeaps) (frame : Frame P PlainHeap) (a : After P PlainHeap) → CanStep maker c frame → is_idle frame.phase ≡ false → StepsUnder (rule_of p.limits) p.heaps left c frame a → IsClearIdle a.frame
  step_clear left frame a can busy steps idle =
      let on : IsStepped maker steps.0 steps.1 c frame a = stepped_so maker steps.0 steps.1 c frame a can steps.3 in
      let none : is_none (stage_of frame) ≡ false = none_idle frame.phase frame.asked frame.ending (objects_in frame.objects) ∙ busy in
      let ended : is_none (stage_of a.frame) ≡ true = none_idle a.frame.phase a.frame.asked a.frame.ending (objects_in a.frame.objects) ∙ idle in
      let some : is_some a.outcome ≡ true = on.staged.answer ∙ ap (λ (b : Bool). not b && is_none (stage_of a.frame)) none ∙ ended in
      let Clear : After P PlainHeap → Type 0 = λ x. is_some x.outcome ≡ true → IsClear x.frame.asked x.frame.ending x.frame.queues in
      subst Clear (sym steps.3.1.is) (stepped_clear (row_of steps.3.0 frame.phase c (record frame { phase = Idle }))) some

  leaves_clear : (o : Opening P) (t : Turned P) → IsOpened maker c p o → IsClearIdle p.frame → Leaves o c p t → IsClearIdle t.party.frame
  leaves_clear rests t is clear leaves = let C : Turned P → Type 0 = λ x. IsClearIdle x.party.frame in subst C (sym leaves) clear
  leaves_clear (replies reply live store) t is clear leaves = let C : Turned P → Type 0 = λ x. IsClearIdle x.party.frame in subst C (sym leaves) clear
  leaves_clear (makes_step frame live) t is clear leaves =
      let q : RunningParty P = record p { frame = frame; live = live } in
      let F : Frame P PlainHeap → Type 0 = λ f. IsClearIdle f in
      let same : t.party.frame ≡ leaves.0.frame = ap (λ (x : Turned P). x.party.frame) leaves.2 ∙ answered_frame leaves.0.outcome leaves.0.core (record q { frame = leaves.0.frame; heaps = t.party.heaps }) in
      subst F (sym same) (step_clear t.party.heaps frame leaves.0 (can_step maker c q is.can) is.busy leaves.1)

-- a party of a run
module _ {P : Type 0} (w : World) (modules : List ModuleAsked) (inputs : List (List Command)) (i : ℕ) (p : RunningParty P) (s : RunState P) (there : slice_get s.parties i ≡ Some p) (way : IsUnderWay w modules inputs s) where
  below : i < length s.parties
  below = slice_get_within s.parties i p there

  here : slice_index_or s.parties i p ≡ p
  here = get_or_from_slice_get s.parties i p p there

  pub can_now : CanTurn w.maker s.core p
  can_now = let Can : RunningParty P → Type 0 = λ q. CanTurn w.maker s.core q in subst Can here (can_turn w.maker s.core s.parties i p way.holds.running below)

  opened_now : (o : Opening P) → OpensAt (is_idle p.frame.phase) modules (commands_of inputs i) p o → IsOpened w.maker s.core p o
  opened_now o opens =
      let Room : RunningParty P → Type 0 = λ q. length (commands_of inputs i) ≤ length q.live in
      let room : Room p = subst Room here (omega (arith, (way.each i p below).room)) in
      opened w.maker s.core p w.terms modules (commands_of inputs i) o way.calls can_now room opens

  -- Its turns from one state,
  pub turn_alike : w.maker.tells ≡ true → IsSome w.maker.plan → (t u : Turned P) → IsClearIdle p.frame → Turns modules (commands_of inputs i) s.core p t → Turns modules (commands_of inputs i) s.core p u → AreAlike t u
  turn_alike tells planned t u clear one two = opens_alike w tells planned s.core p can_now (is_idle p.frame.phase) modules (commands_of inputs i) one.0 two.0 t u refl clear (opened_now one.0 one.1) one.1 two.1 one.2 two.2

  -- and what its frame is then.
  pub turn_clear : (t : Turned P) → IsClearIdle p.frame → Turns modules (commands_of inputs i) s.core p t → IsClearIdle t.party.frame
  turn_clear t clear turns = leaves_clear w.maker s.core p turns.0 t (opened_now turns.0 turns.1) clear turns.2

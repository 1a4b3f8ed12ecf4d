-- A party has its replies in time: each of its turns takes its next reply one turn nearer.
use Rattle.std.proofs.Common.{◌≡◌, ◌≢◌, ℕ, zero, suc, ◌+◌, ◌-◌, ◌*◌, ◌<◌, ◌≤◌, ◌⊎◌, Bool, true, false, List, [], ◌∷◌, ◌++◌, length, map, Option, Some, None, refl, sym, ap, ◌∙◌, subst, inl, inr, arith, ◌==◌, ◌&&◌, not, nat_lt, sum_by, option_map, IfSome, slice_get, slice_set, slice_index_or, is_some, ne_eqb}
use Rattle.pool_run.proofs.Imports.{cases_Bool, cases_eq, cases_lt, lt-ltb, length-map, length-set, get_or-set_other, get_or-set_same, get_or_from_slice_get, get_or-map, length_push, eq-eqb, le-ltb, slice_get_within, slice_get-get_or, sum_by-cons, one_if, bound_of, IsSameSize, steps_left, steps_left_same, Stage, stage_of, stage_at, no_call, is_idle, IsIdle, sizes_of, objects_in, Phase, PoolCore, Frame, Grant, Settings, ModuleAsked, ModuleInfo, PlainHeap, Plan}
use Rattle.pool_alloc.specs.StepBounds.{PoolSizes, return_bound, instance_bound, bound_of_call}
use Rattle.pool_alloc.specs.Objects.{objects_wanted}
use Rattle.pool_alloc.specs.StepReads.{no_module}
use Rattle.pool_alloc.specs.declared.frame.Asked.TheVariants.{Module as module_asked}
use Rattle.pool_alloc.specs.declared.frame.Call.TheVariants as call
use Rattle.pool_alloc.specs.declared.frame.Grant.TheVariants as grant
use Rattle.pool_run.specs.Acts.{Act, requests, on_memory, on_table, drops, purges, releases, act_of, act_at, Wanted, an_instance, a_component, a_stack, a_heap, heap_type}
use Rattle.pool_run.specs.Bounds.{module_objects, objects_requested, objects_granted, request_bound, act_bound, bound_if, command_bound, commands_bound, own_turns, IsInTime}
use Rattle.pool_run.specs.Folds.{RunState, commands_of, replies_to, TurnsIf, TurnsOf, Folds, seen_by, IsRunTo, IsUnderWay, with_turn}
use Rattle.pool_run.specs.Private.{Grants, grant_at, PrivateState}
use Rattle.pool_run.specs.Progress.{begins_by, bound_asked, bound_returned, bound_begun, bound_keyed, bound_by}
use Rattle.pool_run.specs.Rooms.{World}
use Rattle.pool_run.specs.Ties.{CanTurn, IsPrivate, TiedAs, seen_by_party}
use Rattle.pool_run.specs.Turns.{Turned, Turns, grants_of, private_grant, private_memory, private_table, with_reply}
use Rattle.pool_run.specs.Worlds.{IsCallFor, AreCallsFor}
use Rattle.pool_run.specs.declared.command.Command.{Command}
use Rattle.pool_run.specs.declared.reply.Reply.{Reply}
use Rattle.pool_run.specs.declared.running_party.RunningParty.{RunningParty}
use Rattle.pool_run.proofs.Advanced.{HasAdvanced, has_advanced}
use Rattle.pool_run.proofs.Ended.{folds_count, turned_count}
use Rattle.pool_run.proofs.Folding.{folds_under_way, run_turned}
use Rattle.pool_run.proofs.GrantSizes.{AreAsked, HasObjects, objects_of, run_asked}
use Rattle.pool_run.proofs.Grants.{told_at}
use Rattle.pool_run.proofs.Opened.{idle_is}
use Rattle.pool_run.proofs.Running.{can_turn}
use Rattle.pool_run.proofs.StepsLeft.{busy_left}
use Rattle.pool_run.proofs.Turned.{HasTurned, has_turned}

-- Each command takes a turn at least.
some_act : (z : PoolSizes) (ms : List ModuleInfo) (commands : List Command) (act : Act) → 1 ≤ act_bound z ms commands act
some_act z ms commands (requests (an_instance number)) = omega arith
some_act z ms commands (requests (a_component info)) = omega arith
some_act z ms commands (requests a_stack) = omega arith
some_act z ms commands (requests (a_heap limits)) = omega arith
some_act z ms commands (on_memory of k op) = omega arith
some_act z ms commands (on_table of k op) = omega arith
some_act z ms commands (drops of) = omega arith
some_act z ms commands (purges number) = omega arith
some_act z ms commands releases = omega arith

some_command : (z : PoolSizes) (ms : List ModuleInfo) (commands : List Command) (o : Option Command) → is_some o ≡ true → 1 ≤ bound_if z ms commands (option_map act_of o)
some_command z ms commands None some = absurd cc
some_command z ms commands (Some command) some = some_act z ms commands (act_of command)

there_is : (commands : List Command) (n : ℕ) → n < length commands → is_some (slice_get commands n) ≡ true
there_is [] n below = absurd (omega (arith, below))
there_is (c ∷ cs) zero below = refl
there_is (c ∷ cs) (suc n) below = there_is cs n (omega (arith, below))

-- At most how many turns the commands take from the first on, up to the second.
abbrev pub bounds_to : PoolSizes → List ModuleInfo → List Command → ℕ → ℕ → ℕ
bounds_to z ms commands from to = commands_bound z ms commands from (to - from)

next_bound : (z : PoolSizes) (ms : List ModuleInfo) (commands : List Command) (from to : ℕ) → from < to → bounds_to z ms commands from to ≡ command_bound z ms commands from + bounds_to z ms commands (from + 1) to
next_bound z ms commands from to below = ap (commands_bound z ms commands from) {x = to - from} {y = suc (to - (from + 1))} (omega (arith, below))

module _ {P : Type 0} where
  idle_stage : (f : Frame P PlainHeap) → IsIdle f → stage_of f ≡ no_call
  idle_stage f idle = ap (λ (phase : Phase P PlainHeap). stage_at phase f.asked f.ending (objects_in f.objects)) idle

  -- How many objects a grant has, as its party sees it, is how many it gives back.
  returned_by : (c : PoolCore P PlainHeap) (g : Grant P PlainHeap) → bound_of c (call.GiveBack g) ≡ return_bound (sizes_of c.settings c.plan) (objects_of (private_grant g))
  returned_by c (grant.Instance lease) = ap (return_bound (sizes_of c.settings c.plan)) (omega (arith, length-map lease.memories.items private_memory, length-map lease.tables.items private_table))
  returned_by c grant.Component = omega arith
  returned_by c (grant.Memory lease) = refl
  returned_by c (grant.Table lease) = refl
  returned_by c (grant.Stack lease) = refl
  returned_by c (grant.Heap lease memory) = refl
  returned_by c (grant.HeapOver lease) = refl

  returned_most : (c : PoolCore P PlainHeap) (n : ℕ) (o : Option (Grant P PlainHeap)) → HasObjects n (option_map private_grant o) → bound_returned c o ≤ return_bound (sizes_of c.settings c.plan) n
  returned_most c n None has = omega arith
  returned_most c n (Some g) has = omega (arith, returned_by c g, ap (return_bound (sizes_of c.settings c.plan)) has)

  asked_most : (w : World) (c : PoolCore P PlainHeap) (number : ℕ) (kept : Option ModuleAsked) → IfSome kept (IsCallFor w.terms c.settings number) → bound_asked c kept ≤ instance_bound (sizes_of c.settings c.plan) (module_objects (slice_index_or w.terms.modules number no_module))
  asked_most w c number None for = omega arith
  asked_most w c number (Some m) for =
      let same : objects_wanted (module_asked m) ≡ module_objects (slice_index_or w.terms.modules number no_module) = omega (arith, ap module_objects for.asked.info) in
      omega (arith, ap (instance_bound (sizes_of c.settings c.plan)) same)

  -- Its bound is that of the command.
  act_most : (w : World) (modules : List ModuleAsked) (commands : List Command) (c : PoolCore P PlainHeap) (p : RunningParty P) (told : Grants) (act : Act) → AreCallsFor w.terms c.settings modules → grants_of p.live ≡ told → AreAsked w.terms.modules commands told → bound_begun modules act c p ≤ act_bound (sizes_of c.settings c.plan) w.terms.modules commands act
  act_most w modules commands c p told (requests (an_instance number)) calls is asked = asked_most w c number (slice_get modules number) (calls number)
  act_most w modules commands c p told (requests (a_component info)) calls is asked = omega arith
  act_most w modules commands c p told (requests a_stack) calls is asked = omega arith
  act_most w modules commands c p told (requests (a_heap limits)) calls is asked = omega arith
  act_most w modules commands c p told (on_memory of k op) calls is asked = omega arith
  act_most w modules commands c p told (on_table of k op) calls is asked = omega arith
  act_most w modules commands c p told (drops of) calls is asked =
      let n : ℕ = objects_granted w.terms.modules (act_at commands of) in
      returned_most c n (slice_index_or p.live of None) (subst (HasObjects n) (told_at p.live told of (slice_index_or p.live of None) is refl) (asked of))
  act_most w modules commands c p told (purges number) calls is asked = omega arith
  act_most w modules commands c p told releases calls is asked = omega arith

  keyed_most : (w : World) (modules : List ModuleAsked) (commands : List Command) (c : PoolCore P PlainHeap) (p : RunningParty P) (told : Grants) (keyed : Bool) (next : Option Command) → AreCallsFor w.terms c.settings modules → grants_of p.live ≡ told → AreAsked w.terms.modules commands told → is_some next ≡ true → bound_keyed keyed modules next c p ≤ bound_if (sizes_of c.settings c.plan) w.terms.modules commands (option_map act_of next)
  keyed_most w modules commands c p told keyed None calls is asked some = absurd cc
  keyed_most w modules commands c p told false (Some command) calls is asked some = some_act (sizes_of c.settings c.plan) w.terms.modules commands (act_of command)
  keyed_most w modules commands c p told true (Some command) calls is asked some = act_most w modules commands c p told (act_of command) calls is asked

  -- How near a party is to so many replies: it has them; or no call is under way, and it takes at most so many turns to draw its stripe
  -- and for its commands; or its call takes some of these.
  abbrev pub IsNear : PoolSizes → List ModuleInfo → List Command → PoolCore P PlainHeap → RunningParty P → ℕ → ℕ → Type 0
  IsNear z ms commands c p m turns =
      (m ≤ p.done)
      ⊎ (((is_idle p.frame.phase ≡ true) × (one_if (not p.keyed) + bounds_to z ms commands p.done m ≤ turns))
      ⊎ ((is_idle p.frame.phase ≡ false) × (steps_left c p.frame + bounds_to z ms commands (p.done + 1) m ≤ turns)))

-- a turn of a party, and what is known of it
module _ {P : Type 0} (z : PoolSizes) (ms : List ModuleInfo) (commands : List Command) (c : PoolCore P PlainHeap) (p : RunningParty P) (t : Turned P) (bound : ℕ)
    (on : HasAdvanced (one_if (begins_by (length commands) p)) bound c p t) (grows : p.done ≤ t.party.done)
    (fresh : p.keyed ≡ false → (p.done ≡ 0) × (is_idle p.frame.phase ≡ true)) (now_fresh : t.party.keyed ≡ false → (t.party.done ≡ 0) × (is_idle t.party.frame.phase ≡ true))
    (drawn : p.keyed ≡ false → bound ≤ 1) (most : is_idle p.frame.phase ≡ true → p.done < length commands → bound ≤ command_bound z ms commands p.done)
    (left : is_idle t.party.frame.phase ≡ false → 1 ≤ steps_left t.core t.party.frame) where
  -- Once a call began, the stripe is drawn.
  keyed_by : (b : Bool) → t.party.keyed ≡ b → 1 ≤ t.party.done + one_if t.party.keyed + one_if (not (is_idle t.party.frame.phase)) → one_if (not t.party.keyed) ≡ 0
  keyed_by true is some = ap (λ (v : Bool). one_if (not v)) is
  keyed_by false is some = absurd (omega (arith, some, (now_fresh is).0, ap one_if is, ap (λ (v : Bool). one_if (not v)) (now_fresh is).1))

  drawn_count : one_if (not t.party.keyed) ≡ 0 → one_if t.party.keyed ≡ 1
  drawn_count is = count_of t.party.keyed is
    where
      count_of : (b : Bool) → one_if (not b) ≡ 0 → one_if b ≡ 1
      count_of true is = refl
      count_of false is = absurd (omega (arith, is))

  -- The call goes on, or ended with its command's reply.
  goes_on : (m turns : ℕ) (idle : Bool) → is_idle t.party.frame.phase ≡ idle → one_if (not t.party.keyed) ≡ 0 → t.party.done + one_if (not (is_idle t.party.frame.phase)) ≡ p.done + 1 → steps_left t.core t.party.frame + bounds_to z ms commands (p.done + 1) m ≤ turns → IsNear z ms commands t.core t.party m turns
  goes_on m turns true is keyed count few =
      let done : t.party.done ≡ p.done + 1 = omega (arith, count, ap (λ (v : Bool). one_if (not v)) is) in
      inr (inl (is, omega (arith, keyed, few, ap (λ (n : ℕ). bounds_to z ms commands n m) done)))
  goes_on m turns false is keyed count few =
      let done : t.party.done + 1 ≡ p.done + 1 = omega (arith, count, ap (λ (v : Bool). one_if (not v)) is) in
      inr (inr (is, omega (arith, few, ap (λ (n : ℕ). bounds_to z ms commands n m) done)))

  -- A call was under way.
  call_nears : (m turns : ℕ) (keyed : Bool) → p.keyed ≡ keyed → is_idle p.frame.phase ≡ false → steps_left c p.frame + bounds_to z ms commands (p.done + 1) m ≤ turns + 1 → IsNear z ms commands t.core t.party m turns
  call_nears m turns false key busy few = let wrong : true ≡ false = sym (fresh key).1 ∙ busy in absurd cc
  call_nears m turns true key busy few =
      let none : one_if (begins_by (length commands) p) ≡ 0 = ap (λ (v : Bool). one_if (v && nat_lt p.done (length commands))) busy in
      let begun : t.party.done + one_if t.party.keyed + one_if (not (is_idle t.party.frame.phase)) ≡ p.done + 2 = omega (arith, on.begun, none, ap one_if key, ap (λ (v : Bool). one_if (not v)) busy) in
      let keyed : one_if (not t.party.keyed) ≡ 0 = keyed_by t.party.keyed refl (omega (arith, begun)) in
      goes_on m turns (is_idle t.party.frame.phase) refl keyed (omega (arith, begun, drawn_count keyed)) (omega (arith, on.fewer busy, few))

  -- None was, and there is a command left.
  begin_nears : (m turns : ℕ) (keyed : Bool) → p.keyed ≡ keyed → is_idle p.frame.phase ≡ true → p.done < m → m ≤ length commands → one_if (not p.keyed) + bounds_to z ms commands p.done m ≤ turns + 1 → IsNear z ms commands t.core t.party m turns
  begin_nears m turns false key idle below inside few =
      let one : one_if (begins_by (length commands) p) ≡ 1 = ap (λ (v : Bool). one_if (v && nat_lt p.done (length commands))) idle ∙ ap one_if (lt-ltb p.done (length commands) (omega (arith, below, inside))) in
      let begun : t.party.done + one_if t.party.keyed + one_if (not (is_idle t.party.frame.phase)) ≡ p.done + 1 = omega (arith, on.begun, one, ap one_if key, ap (λ (v : Bool). one_if (not v)) idle) in
      let keyed : one_if (not t.party.keyed) ≡ 0 = keyed_by t.party.keyed refl (omega (arith, begun)) in
      let done : t.party.done ≡ p.done = omega (arith, begun, drawn_count keyed, grows) in
      let rests : is_idle t.party.frame.phase ≡ true = at_rest (is_idle t.party.frame.phase) refl (omega (arith, begun, drawn_count keyed, grows)) in
      inr (inl (rests, omega (arith, keyed, few, ap (λ (v : Bool). one_if (not v)) key, ap (λ (n : ℕ). bounds_to z ms commands n m) done)))
    where
      at_rest : (b : Bool) → is_idle t.party.frame.phase ≡ b → one_if (not (is_idle t.party.frame.phase)) ≡ 0 → is_idle t.party.frame.phase ≡ true
      at_rest true is none = is
      at_rest false is none = absurd (omega (arith, none, ap (λ (v : Bool). one_if (not v)) is))
  begin_nears m turns true key idle below inside few =
      let one : one_if (begins_by (length commands) p) ≡ 1 = ap (λ (v : Bool). one_if (v && nat_lt p.done (length commands))) idle ∙ ap one_if (lt-ltb p.done (length commands) (omega (arith, below, inside))) in
      let begun : t.party.done + one_if t.party.keyed + one_if (not (is_idle t.party.frame.phase)) ≡ p.done + 2 = omega (arith, on.begun, one, ap one_if key, ap (λ (v : Bool). one_if (not v)) idle) in
      let keyed : one_if (not t.party.keyed) ≡ 0 = keyed_by t.party.keyed refl (omega (arith, begun)) in
      goes_on m turns (is_idle t.party.frame.phase) refl keyed (omega (arith, begun, drawn_count keyed)) (omega (arith, on.bounded idle, most idle (omega (arith, below, inside)), few, next_bound z ms commands p.done m below))

  -- The turn takes the party one turn nearer.
  turn_nears : (m turns : ℕ) → m ≤ length commands → IsNear z ms commands c p m (turns + 1) → IsNear z ms commands t.core t.party m turns
  turn_nears m turns inside (inl has) = inl (omega (arith, has, grows))
  turn_nears m turns inside (inr (inl idle)) =
      elim (cases_lt p.done m) [
        | inl below ↦ begin_nears m turns p.keyed refl idle.0 below inside idle.1
        | inr has ↦ inl (omega (arith, has, grows))
      ]
  turn_nears m turns inside (inr (inr busy)) = call_nears m turns p.keyed refl busy.0 busy.1

  -- The call under way is for the next command.
  call_stays : (idle keyed : Bool) → is_idle p.frame.phase ≡ idle → p.keyed ≡ keyed → is_idle t.party.frame.phase ≡ false → (is_idle p.frame.phase ≡ false → steps_left c p.frame ≤ command_bound z ms commands p.done) → steps_left t.core t.party.frame ≤ command_bound z ms commands t.party.done
  call_stays false false is key busy within = let wrong : true ≡ false = sym (fresh key).1 ∙ is in absurd cc
  call_stays false true is key busy within =
      let none : one_if (begins_by (length commands) p) ≡ 0 = ap (λ (v : Bool). one_if (v && nat_lt p.done (length commands))) is in
      let begun : t.party.done + one_if t.party.keyed + one_if (not (is_idle t.party.frame.phase)) ≡ p.done + 2 = omega (arith, on.begun, none, ap one_if key, ap (λ (v : Bool). one_if (not v)) is) in
      let keyed : one_if (not t.party.keyed) ≡ 0 = keyed_by t.party.keyed refl (omega (arith, begun)) in
      let done : t.party.done ≡ p.done = omega (arith, begun, drawn_count keyed, ap (λ (v : Bool). one_if (not v)) busy) in
      omega (arith, on.fewer is, within is, ap (command_bound z ms commands) done)
  call_stays true keyed is key busy within =
      elim (cases_lt p.done (length commands)) [
        | inl more ↦
            let one : one_if (begins_by (length commands) p) ≡ 1 = ap (λ (v : Bool). one_if (v && nat_lt p.done (length commands))) is ∙ ap one_if (lt-ltb p.done (length commands) more) in
            let begun : t.party.done + one_if t.party.keyed + one_if (not (is_idle t.party.frame.phase)) ≡ p.done + one_if p.keyed + 1 = omega (arith, on.begun, one, ap (λ (v : Bool). one_if (not v)) is) in
            let drew : one_if (not t.party.keyed) ≡ 0 = keyed_by t.party.keyed refl (omega (arith, begun)) in
            let few : one_if p.keyed ≤ 1 = most_one p.keyed in
            let done : t.party.done ≡ p.done = omega (arith, begun, drawn_count drew, ap (λ (v : Bool). one_if (not v)) busy, few, grows) in
            omega (arith, on.bounded is, most is more, ap (command_bound z ms commands) done)
        | inr past ↦
            let none : one_if (begins_by (length commands) p) ≡ 0 = ap (λ (v : Bool). one_if (v && nat_lt p.done (length commands))) is ∙ ap one_if (le-ltb p.done (length commands) past) in
            let begun : t.party.done + one_if t.party.keyed + one_if (not (is_idle t.party.frame.phase)) ≡ p.done + one_if p.keyed = omega (arith, on.begun, none, ap (λ (v : Bool). one_if (not v)) is) in
            let drew : one_if (not t.party.keyed) ≡ 0 = keyed_by t.party.keyed refl (omega (arith, begun, ap (λ (v : Bool). one_if (not v)) busy)) in
            absurd (omega (arith, begun, drawn_count drew, ap (λ (v : Bool). one_if (not v)) busy, most_one p.keyed, grows))
      ]
    where
      most_one : (b : Bool) → one_if b ≤ 1
      most_one true = omega arith
      most_one false = omega arith

  turn_within : (is_idle p.frame.phase ≡ false → steps_left c p.frame ≤ command_bound z ms commands p.done) → is_idle t.party.frame.phase ≡ false → steps_left t.core t.party.frame ≤ command_bound z ms commands t.party.done
  turn_within within busy = call_stays (is_idle p.frame.phase) p.keyed refl refl busy within

module _ {P : Type 0} where
  -- Where no turn is left, the replies are there.
  has_replies : (z : PoolSizes) (ms : List ModuleInfo) (commands : List Command) (c : PoolCore P PlainHeap) (p : RunningParty P) (m : ℕ) → m ≤ length commands → (is_idle p.frame.phase ≡ false → 1 ≤ steps_left c p.frame) → IsNear z ms commands c p m 0 → m ≤ p.done
  has_replies z ms commands c p m inside left (inl has) = has
  has_replies z ms commands c p m inside left (inr (inl idle)) =
      elim (cases_lt p.done m) [
        | inl below ↦ absurd (omega (arith, idle.1, next_bound z ms commands p.done m below, some_command z ms commands (slice_get commands p.done) (there_is commands p.done (omega (arith, below, inside)))))
        | inr has ↦ has
      ]
  has_replies z ms commands c p m inside left (inr (inr busy)) = absurd (omega (arith, busy.1, left busy.0))

longer : (o : Option Reply) (before : List Reply) → length before ≤ length (with_reply o before)
longer None before = omega arith
longer (Some reply) before = omega (arith, length_push before reply)

-- the turns of party i
module _ {P : Type 0} (w : World) (modules : List ModuleAsked) (inputs : List (List Command)) (i : ℕ) where
  -- How far it is in a pool of these sizes: so near to so many replies; and a call that is under way is for the next of its commands, and takes
  -- no more turns than that command may.
  abbrev pub NearTo : PoolSizes → ℕ → ℕ → RunState P → RunningParty P → Type 0
  NearTo z m turns s p = IsNear z w.terms.modules (commands_of inputs i) s.core p m turns

  abbrev pub Within : PoolSizes → RunState P → RunningParty P → Type 0
  Within z s p = is_idle p.frame.phase ≡ false → steps_left s.core p.frame ≤ command_bound z w.terms.modules (commands_of inputs i) p.done

  abbrev pub SizesAre : PoolSizes → RunState P → Type 0
  SizesAre z s = sizes_of s.core.settings s.core.plan ≡ z

  -- What a turn of its own leaves.
  record OwnTurn (z : PoolSizes) (s : RunState P) (p : RunningParty P) (t : Turned P) : Type 0 where
    size : IsSameSize s.core t.core
    nears : (m turns : ℕ) → m ≤ length (commands_of inputs i) → NearTo z m (turns + 1) s p → NearTo z m turns (with_turn i t s) t.party
    within : Within z s p → Within z (with_turn i t s) t.party

  own_turn : (z : PoolSizes) (s : RunState P) (p : RunningParty P) (t : Turned P) → SizesAre z s → slice_get s.parties i ≡ Some p → IsUnderWay w modules inputs s → Turns modules (commands_of inputs i) s.core p t → OwnTurn z s p t
  own_turn z s p t is there way turns =
      let commands : List Command = commands_of inputs i in
      let new : RunState P = with_turn i t s in
      let below : i < length s.parties = slice_get_within s.parties i p there in
      let here : slice_index_or s.parties i p ≡ p = get_or_from_slice_get s.parties i p p there in
      let to : IsRunTo w commands (replies_to i s.replies) p = subst (IsRunTo w commands (replies_to i s.replies)) here (way.each i p below) in
      let can : CanTurn w.maker s.core p = subst (CanTurn w.maker s.core) here (can_turn w.maker s.core s.parties i p way.holds.running below) in
      let turned : HasTurned s.core p t = has_turned w modules commands s.core p t way.calls can (omega (arith, to.room)) turns in
      let on : HasAdvanced (one_if (begins_by (length commands) p)) (bound_by modules commands s.core p) s.core p t = has_advanced w modules commands s.core p t way.calls can to.drawn (omega (arith, to.room)) turns in
      let Of : Option (RunningParty P) → Type 0 = λ o. TurnsIf modules commands i o s new in
      let turns_of : TurnsOf modules inputs i s new = subst Of (sym there) (t, turns, refl) in
      let after : IsUnderWay w modules inputs new = run_turned w modules inputs i s new way turns_of in
      let inside : i < length new.parties = omega (arith, below, length-set s.parties i t.party) in
      let party : slice_index_or new.parties i p ≡ t.party = get_or-set_same s.parties i t.party p below in
      let now : IsRunTo w commands (replies_to i new.replies) t.party = subst (IsRunTo w commands (replies_to i new.replies)) party (after.each i p inside) in
      let told : replies_to i new.replies ≡ with_reply t.reply (replies_to i s.replies) = get_or-set_same s.replies i (with_reply t.reply (replies_to i s.replies)) [] (omega (arith, below, way.told)) in
      let grows : p.done ≤ t.party.done = omega (arith, to.private.count, now.private.count, ap (length {A = Reply}) told, longer t.reply (replies_to i s.replies)) in
      let sound : CanTurn w.maker t.core t.party = subst (CanTurn w.maker t.core) party (can_turn w.maker new.core new.parties i p after.holds.running inside) in
      let fresh : p.keyed ≡ false → (p.done ≡ 0) × (is_idle p.frame.phase ≡ true) = λ e. ((to.fresh e).0, ap is_idle (to.fresh e).1) in
      let now_fresh : t.party.keyed ≡ false → (t.party.done ≡ 0) × (is_idle t.party.frame.phase ≡ true) = λ e. ((now.fresh e).0, ap is_idle (now.fresh e).1) in
      let drawn : p.keyed ≡ false → bound_by modules commands s.core p ≤ 1 = λ e. omega (arith, ap (λ (k : Bool). bound_keyed k modules (slice_get commands p.done) s.core p) e) in
      let most : is_idle p.frame.phase ≡ true → p.done < length commands → bound_by modules commands s.core p ≤ command_bound z w.terms.modules commands p.done =
      λ idle more.
      let none : stage_of p.frame ≡ no_call = idle_stage p.frame (idle_is p.frame.phase idle) in
      let Tied : Stage → Type 0 = λ x. TiedAs (seen_by p w) x commands p.done p.frame.asked (seen_by_party p) to.private.told in
      let whole : seen_by_party p ≡ to.private.told = subst Tied none to.private.tied in
      omega (arith, keyed_most w modules commands s.core p to.private.told.grants p.keyed (slice_get commands p.done) way.calls (ap (λ (x : PrivateState). x.grants) whole) (run_asked (seen_by p w) commands (replies_to i s.replies) to.private.told to.private.run) (there_is commands p.done more), ap (λ (x : PoolSizes). command_bound x w.terms.modules commands p.done) is) in
      let left : is_idle t.party.frame.phase ≡ false → 1 ≤ steps_left t.core t.party.frame = busy_left w.maker t.core t.party.frame sound.core sound.party.sound.frame in
      record {
        size = turned.size;
        nears = λ m turns. turn_nears z w.terms.modules commands s.core p t (bound_by modules commands s.core p) on grows fresh now_fresh drawn most left m turns;
        within = turn_within z w.terms.modules commands s.core p t (bound_by modules commands s.core p) on grows fresh now_fresh drawn most left;
      }

  -- So many of its own turns lead from one state to another.
  abbrev pub StepTo : PoolSizes → ℕ → RunState P → RunState P → RunningParty P → Type 0
  StepTo z own s new d =
      SizesAre z new
      × ((m turns : ℕ) → m ≤ length (commands_of inputs i) → NearTo z m (turns + own) s (slice_index_or s.parties i d) → NearTo z m turns new (slice_index_or new.parties i d))
      × (Within z s (slice_index_or s.parties i d) → Within z new (slice_index_or new.parties i d))

  same_sizes : (z : PoolSizes) (s : RunState P) (c : PoolCore P PlainHeap) → SizesAre z s → IsSameSize s.core c → sizes_of c.settings c.plan ≡ z
  same_sizes z s c is size = ap (λ (x : Settings). sizes_of x c.plan) size.settings ∙ ap (sizes_of s.core.settings) size.plan ∙ is

  own_step : (z : PoolSizes) (s : RunState P) (d p : RunningParty P) (t : Turned P) → SizesAre z s → slice_get s.parties i ≡ Some p → IsUnderWay w modules inputs s → Turns modules (commands_of inputs i) s.core p t → StepTo z 1 s (with_turn i t s) d
  own_step z s d p t is there way turns =
      let o : OwnTurn z s p t = own_turn z s p t is there way turns in
      let new : RunState P = with_turn i t s in
      let before : slice_index_or s.parties i d ≡ p = get_or_from_slice_get s.parties i p d there in
      let after : slice_index_or new.parties i d ≡ t.party = get_or-set_same s.parties i t.party d (slice_get_within s.parties i p there) in
      let Q : RunningParty P → RunningParty P → Type 0 = λ x y. ((m turns : ℕ) → m ≤ length (commands_of inputs i) → NearTo z m (turns + 1) s x → NearTo z m turns new y) × (Within z s x → Within z new y) in
      let both : Q (slice_index_or s.parties i d) (slice_index_or new.parties i d) = subst (λ (x : RunningParty P). Q x (slice_index_or new.parties i d)) (sym before) (subst (Q p) (sym after) (o.nears, o.within)) in
      (same_sizes z s t.core is o.size, both.0, both.1)

  near_still : (z : PoolSizes) (c : PoolCore P PlainHeap) (s : RunState P) (p : RunningParty P) (m turns : ℕ) → IsSameSize s.core c → NearTo z m (turns + 0) s p → IsNear z w.terms.modules (commands_of inputs i) c p m turns
  near_still z c s p m turns size (inl has) = inl has
  near_still z c s p m turns size (inr (inl idle)) = inr (inl (idle.0, omega (arith, idle.1)))
  near_still z c s p m turns size (inr (inr busy)) = inr (inr (busy.0, omega (arith, busy.1, steps_left_same s.core c p.frame size)))

  other_step : (z : PoolSizes) (k : ℕ) (s : RunState P) (d p : RunningParty P) (t : Turned P) → SizesAre z s → i ≢ k → IsSameSize s.core t.core → StepTo z 0 s (with_turn k t s) d
  other_step z k s d p t is other size =
      let new : RunState P = with_turn k t s in
      let x : RunningParty P = slice_index_or s.parties i d in
      let after : slice_index_or new.parties i d ≡ x = get_or-set_other s.parties k i t.party d other in
      let Q : RunningParty P → Type 0 = λ y. ((m turns : ℕ) → m ≤ length (commands_of inputs i) → NearTo z m (turns + 0) s x → NearTo z m turns new y) × (Within z s x → Within z new y) in
      let both : Q (slice_index_or new.parties i d) =
      subst Q (sym after) ((λ m turns inside near. near_still z t.core s x m turns size near), (λ within busy. omega (arith, within busy, steps_left_same s.core t.core x.frame size))) in
      (same_sizes z s t.core is size, both.0, both.1)

  size_turned : (k : ℕ) (s : RunState P) (p : RunningParty P) (t : Turned P) → slice_get s.parties k ≡ Some p → IsUnderWay w modules inputs s → Turns modules (commands_of inputs k) s.core p t → IsSameSize s.core t.core
  size_turned k s p t there way turns =
      let below : k < length s.parties = slice_get_within s.parties k p there in
      let here : slice_index_or s.parties k p ≡ p = get_or_from_slice_get s.parties k p p there in
      let to : IsRunTo w (commands_of inputs k) (replies_to k s.replies) p = subst (IsRunTo w (commands_of inputs k) (replies_to k s.replies)) here (way.each k p below) in
      let can : CanTurn w.maker s.core p = subst (CanTurn w.maker s.core) here (can_turn w.maker s.core s.parties k p way.holds.running below) in
      (has_turned w modules (commands_of inputs k) s.core p t way.calls can (omega (arith, to.room)) turns).size

  step_if : (z : PoolSizes) (k : ℕ) (s new : RunState P) (d : RunningParty P) (o : Option (RunningParty P)) → SizesAre z s → i < length s.parties → slice_get s.parties k ≡ o → IsUnderWay w modules inputs s → TurnsIf modules (commands_of inputs k) k o s new → StepTo z (one_if (k == i)) s new d
  step_if z k s new d None is below there way turns =
      elim (cases_eq k i) [
        | inl same ↦ absurd (let some : slice_get s.parties k ≡ Some (slice_index_or s.parties k d) = slice_get-get_or s.parties k d (omega (arith, below, same)) in let wrong : Some (slice_index_or s.parties k d) ≡ None = sym some ∙ there in cc)
        | inr other ↦
            let Q : RunState P → Type 0 = λ x. StepTo z 0 s x d in
            let none : StepTo z 0 s s d = (is, (λ m turns inside near. near_still z s.core s (slice_index_or s.parties i d) m turns (record { settings = refl; plan = refl }) near), (λ within. within)) in
            subst (λ (n : ℕ). StepTo z n s new d) (sym (ap one_if (ne_eqb k i other))) (subst Q (sym turns) none)
      ]
  step_if z k s new d (Some p) is below there way turns =
      let t : Turned P = turns.0 in
      elim (cases_eq k i) [
        | inl same ↦
            let Turn : ℕ → Type 0 = λ n. (slice_get s.parties n ≡ Some p) × Turns modules (commands_of inputs n) s.core p t × (new ≡ with_turn n t s) in
            let own : Turn i = subst Turn same (there, turns.1, turns.2) in
            subst (λ (n : ℕ). StepTo z n s new d) (sym (ap one_if (eq-eqb k i same))) (subst (λ (x : RunState P). StepTo z 1 s x d) (sym own.2) (own_step z s d p t is own.0 way own.1))
        | inr other ↦
            subst (λ (n : ℕ). StepTo z n s new d) (sym (ap one_if (ne_eqb k i other))) (subst (λ (x : RunState P). StepTo z 0 s x d) (sym turns.2) (other_step z k s d p t is (λ e. other (sym e)) (size_turned k s p t there way turns.1)))
      ]

  -- Turns in any order.
  pub folds_step : (z : PoolSizes) (turns : List ℕ) (s end : RunState P) (d : RunningParty P) → SizesAre z s → i < length s.parties → IsUnderWay w modules inputs s → Folds modules inputs turns s end → StepTo z (own_turns i turns) s end d
  folds_step z [] s end d is below way folds =
      let Q : RunState P → Type 0 = λ x. StepTo z 0 s x d in
      subst Q (sym folds) (is, (λ m turns inside near. near_still z s.core s (slice_index_or s.parties i d) m turns (record { settings = refl; plan = refl }) near), (λ within. within))
  folds_step z (k ∷ turns) s end d is below way folds =
      let mid : RunState P = folds.0 in
      let one : StepTo z (one_if (k == i)) s mid d = step_if z k s mid d (slice_get s.parties k) is below refl way folds.1 in
      let count : length mid.parties ≡ length s.parties = turned_count modules (commands_of inputs k) k (slice_get s.parties k) s mid folds.1 in
      let rest : StepTo z (own_turns i turns) mid end d = folds_step z turns mid end d one.0 (omega (arith, below, count)) (run_turned w modules inputs k s mid way folds.1) folds.2 in
      let all : own_turns i (k ∷ turns) ≡ one_if (k == i) + own_turns i turns = sum_by-cons (λ (n : ℕ). one_if (n == i)) k turns in (
        rest.0,
        (λ m more inside near.
            let Near : ℕ → Type 0 = λ n. NearTo z m n s (slice_index_or s.parties i d) in
            rest.1 m more inside (one.1 m (more + own_turns i turns) inside (subst Near {x = more + own_turns i (k ∷ turns)} {y = (more + own_turns i turns) + one_if (k == i)} (omega (arith, all)) near))),
        (λ within. rest.2 (one.2 within)),
      )

  -- Where a party is within its bounds, so many turns bring it its replies.
  pub come_in_time : (z : PoolSizes) (turns : List ℕ) (s end : RunState P) (d : RunningParty P) → SizesAre z s → i < length s.parties → IsUnderWay w modules inputs s → Folds modules inputs turns s end → Within z s (slice_index_or s.parties i d) → IsInTime z w.terms.modules (commands_of inputs i) (own_turns i turns) (replies_to i s.replies) (replies_to i end.replies)
  come_in_time z turns s end d is below way folds within n inside enough =
      let commands : List Command = commands_of inputs i in
      let ms : List ModuleInfo = w.terms.modules in
      let p : RunningParty P = slice_index_or s.parties i d in
      let q : RunningParty P = slice_index_or end.parties i d in
      let to : IsRunTo w commands (replies_to i s.replies) p = way.each i d below in
      let after : IsUnderWay w modules inputs end = folds_under_way w modules inputs turns s end way folds in
      let inside_end : i < length end.parties = omega (arith, below, folds_count modules inputs turns s end folds) in
      let now : IsRunTo w commands (replies_to i end.replies) q = after.each i d inside_end in
      let r : ℕ = length (replies_to i s.replies) in
      let m : ℕ = p.done + n in
      let count : r ≡ p.done = to.private.count in
      let bounds : commands_bound z ms commands r n ≡ commands_bound z ms commands p.done n = ap (λ (x : ℕ). commands_bound z ms commands x n) count in
      let start : one_if (not p.keyed) ≤ one_if (r == 0) = first_one p.keyed refl in
      let near : NearTo z m (0 + own_turns i turns) s p = nears (is_idle p.frame.phase) refl n refl in
      let sound : CanTurn w.maker end.core q = can_turn w.maker end.core end.parties i d after.holds.running inside_end in
      let has : m ≤ q.done = has_replies z ms commands end.core q m (omega (arith, inside, count)) (busy_left w.maker end.core q.frame sound.core sound.party.sound.frame) ((folds_step z turns s end d is below way folds).1 m 0 (omega (arith, inside, count)) near) in
      omega (arith, has, count, now.private.count)
    where
      first_one : (b : Bool) → (slice_index_or s.parties i d).keyed ≡ b → one_if (not (slice_index_or s.parties i d).keyed) ≤ one_if (length (replies_to i s.replies) == 0)
      first_one true key = omega (arith, ap (λ (v : Bool). one_if (not v)) key)
      first_one false key =
          let to = way.each i d below in
          omega (arith, ap (λ (v : Bool). one_if (not v)) key, ap one_if (eq-eqb (length (replies_to i s.replies)) 0 (omega (arith, to.private.count, (to.fresh key).0))))

      to_it : (k : ℕ) → bounds_to z w.terms.modules (commands_of inputs i) k (k + n) ≡ commands_bound z w.terms.modules (commands_of inputs i) k n
      to_it k = ap (commands_bound z w.terms.modules (commands_of inputs i) k) {x = (k + n) - k} {y = n} (omega arith)

      nears : (idle : Bool) → is_idle (slice_index_or s.parties i d).frame.phase ≡ idle → (k : ℕ) → n ≡ k → NearTo z ((slice_index_or s.parties i d).done + n) (0 + own_turns i turns) s (slice_index_or s.parties i d)
      nears true idle k is_k =
          let count = (way.each i d below).private.count in
          inr (inl (idle, omega (arith, to_it (slice_index_or s.parties i d).done, enough, first_one (slice_index_or s.parties i d).keyed refl, ap (λ (x : ℕ). commands_bound z w.terms.modules (commands_of inputs i) x n) count)))
      nears false busy zero is_k = inl (omega (arith, is_k))
      nears false busy (suc k) is_k =
          let p : RunningParty P = slice_index_or s.parties i d in
          let count = (way.each i d below).private.count in
          let next = next_bound z w.terms.modules (commands_of inputs i) p.done (p.done + n) (omega (arith, is_k)) in
          inr (inr (busy, omega (arith, within busy, next, to_it p.done, enough, ap (λ (x : ℕ). commands_bound z w.terms.modules (commands_of inputs i) x n) count)))

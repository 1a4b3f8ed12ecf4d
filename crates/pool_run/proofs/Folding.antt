-- A run of several parties stays what it is through all its turns, so the replies to each party are a private run.
use Rattle.std.proofs.Common.{◌≡◌, ℕ, ◌<◌, true, List, [], ◌∷◌, ◌++◌, length, map, Option, Some, None, refl, sym, ap, ◌∙◌, subst, inl, inr, arith, slice_get, slice_set, slice_index_or}
use Rattle.pool_run.proofs.Imports.{cases_eq, length-set, map-set, get_or-map, set-get_or, get_or-set_same, get_or-set_other, slice_get_within, get_or_from_slice_get, told_weaker, IsSameSize, PoolCore, Settings, ModuleAsked, table_kind, stack_kind, heap_kind, allocator_of, has_number, Plan, PlainHeap}
use Rattle.pool_run.specs.PrivateStacks.{StackTerms}
use Rattle.pool_run.specs.PrivateTables.{Host}
use Rattle.pool_run.specs.Private.{IsPrivateRun, no_grants}
use Rattle.pool_run.specs.Rooms.{World, open_host, under, in_stripe, world_at, IsPooledRun}
use Rattle.pool_run.specs.Turns.{Turned, Turns, with_reply, host_of_party}
use Rattle.pool_run.specs.Ties.{IsAlone, IsPrivate, CanTurn}
use Rattle.pool_run.specs.Worlds.{HasStacks, IsWorldOf, IsCallFor, AreCallsFor, HasStripes, HasSlots}
use Rattle.pool_run.specs.Folds.{RunState, commands_of, replies_to, party_by_party, with_turn, TurnsIf, TurnsOf, Folds, Runs, seen_by, IsRunTo, IsUnderWay}
use Rattle.pool_run.specs.declared.command.Command.{Command}
use Rattle.pool_run.specs.declared.reply.Reply.{Reply}
use Rattle.pool_run.specs.declared.running_party.RunningParty.{RunningParty}
use Rattle.pool_run.proofs.Beginning.{turn_private}
use Rattle.pool_run.proofs.Drawn.{turn_stripe, still_private}
use Rattle.pool_run.proofs.Turning.{SeesTurn}
use Rattle.pool_run.proofs.Grants.{pooled_private}
use Rattle.pool_run.proofs.Running.{can_turn, turned_running}
use Rattle.pool_run.proofs.Turned.{HasTurned, has_turned, turn_sound}
use Rattle.pool_run.proofs.LimitsOfRuns.{turn_within, live_within}
use Rattle.pool_run.specs.Limits.{IsWithinCounts}

module _ {P : Type 0} where
  stacks_over : (t : StackTerms) (c d : PoolCore P PlainHeap) → IsSameSize c d → HasStacks t c → HasStacks t d
  stacks_over t c d size has =
      let Room : Plan → Type 0 = λ plan. (allocator_of plan stack_kind 0).capacity ≡ t.slots in
      let Each : Plan → Type 0 = λ plan. (slot : ℕ) → slot < t.slots → has_number (allocator_of plan stack_kind 0) slot ≡ true in
      record {
        total = has.total ∙ sym (ap (λ (plan : Plan). plan.totals.stack) size.plan);
        room = subst Room (sym size.plan) has.room;
        each = subst Each (sym size.plan) has.each;
        size = has.size ∙ sym (ap (λ (s : Settings). s.stack_size) size.settings);
        zeroing = has.zeroing ∙ sym (ap (λ (s : Settings). s.stack_zeroing) size.settings);
      }

  -- The world stays that of the pool.
  pub world_over : (w : World) (c d : PoolCore P PlainHeap) → IsSameSize c d → IsWorldOf w c → IsWorldOf w d
  world_over w c d size world = record { tells = world.tells; settings = world.settings ∙ sym size.settings; plan = subst (HasStripes w.terms.slots w.terms.settings.num_stripes) (sym size.plan) world.plan; tables = subst (HasSlots table_kind w.terms.table_slots) (sym size.plan) world.tables; heaps = subst (HasSlots heap_kind w.terms.heap_slots) (sym size.plan) world.heaps; stacks = stacks_over w.terms.stacks c d size world.stacks }

  -- The world is the pool's as each party sees it.
  pub world_seen : (p : RunningParty P) (w : World) (c : PoolCore P PlainHeap) → IsWorldOf w c → IsWorldOf (seen_by p w) c
  world_seen p w c world = record { tells = world.tells; settings = world.settings; plan = world.plan; tables = world.tables; heaps = world.heaps; stacks = world.stacks }

  pub calls_seen : (p : RunningParty P) (w : World) (s : Settings) (modules : List ModuleAsked) → AreCallsFor w.terms s modules → AreCallsFor (seen_by p w).terms s modules
  calls_seen p w s modules calls number =
      told_weaker (IsCallFor w.terms s number) (IsCallFor (seen_by p w).terms s number) (slice_get modules number)
      (λ m for. record { asked = record { of_module = for.asked.of_module; info = for.asked.info; memories = for.asked.memories }; fit = for.fit }) (calls number)

module _ {P : Type 0} where
  calls_over : (w : World) (modules : List ModuleAsked) (c d : PoolCore P PlainHeap) → IsSameSize c d → AreCallsFor w.terms c.settings modules → AreCallsFor w.terms d.settings modules
  calls_over w modules c d size calls =
      let Calls : Settings → Type 0 = λ s. AreCallsFor w.terms s modules in
      subst Calls (sym size.settings) calls

  -- One party's turn.
  run_to : (w : World) (modules : List ModuleAsked) (commands : List Command) (replies : List Reply) (c : PoolCore P PlainHeap) (p : RunningParty P) (t : Turned P) → IsWorldOf w c → AreCallsFor w.terms c.settings modules → CanTurn w.maker c p → (w.alone ≡ true → IsAlone c p.frame p.live) → IsRunTo w commands replies p → Turns modules commands c p t → HasTurned c p t → IsRunTo w commands (with_reply t.reply replies) t.party
  run_to w modules commands replies c p t world calls can alone to turns turned = record {
    room = turned.room ∙ to.room;
    private =
        let u : World = seen_by p w in
        let sees : SeesTurn u (no_grants commands) commands replies t = turn_private u modules (no_grants commands) commands replies c p t (world_seen p w c world) (calls_seen p w c.settings modules calls) can alone refl refl (omega (arith, to.room)) to.private turns in
        let By : Host → World = λ host. in_stripe t.party.frame.stripe (under host w) in
        let Is : World → Type 0 = λ x. IsPrivate x (no_grants commands) commands (with_reply t.reply replies) t.party in
        let left = turn_stripe w modules commands c p t calls can (omega (arith, to.room)) to.drawn to.fresh turns in
        let now : Is (By (host_of_party p)) =
        elim left.stripe [
          | inl same ↦ subst (λ (n : ℕ). Is (in_stripe n (under (host_of_party p) w))) (sym same) sees
          | inr drew ↦ still_private u (By (host_of_party p)) (no_grants commands) commands replies t sees (omega (arith, to.private.count, (to.fresh drew.keyed).0)) drew.silent drew.settled
        ] in
        subst (λ (host : Host). Is (By host)) (sym turned.host) now;
    fresh = λ keyed. (turn_stripe w modules commands c p t calls can (omega (arith, to.room)) to.drawn to.fresh turns).fresh keyed;
    drawn = (turn_stripe w modules commands c p t calls can (omega (arith, to.room)) to.drawn to.fresh turns).drawn;
  }

  -- A party that is alone stays so.
  alone_turned : (c : PoolCore P PlainHeap) (p : RunningParty P) (t : Turned P) → HasTurned c p t → IsAlone c p.frame p.live → IsAlone t.core t.party.frame t.party.live
  alone_turned c p t turned alone = record {
    whole = λ w. omega (arith, turned.conserves w, alone.whole w);
    searched = turned.searched alone.searched;
  }

  turned_some : (w : World) (modules : List ModuleAsked) (inputs : List (List Command)) (i : ℕ) (p : RunningParty P) (s : RunState P) (t : Turned P) → slice_get s.parties i ≡ Some p → IsUnderWay w modules inputs s → Turns modules (commands_of inputs i) s.core p t → IsUnderWay w modules inputs (with_turn i t s)
  turned_some w modules inputs i p s t there way turns =
      let below : i < length s.parties = slice_get_within s.parties i p there in
      let here : slice_index_or s.parties i p ≡ p = get_or_from_slice_get s.parties i p p there in
      let To : RunningParty P → Type 0 = λ q. IsRunTo w (commands_of inputs i) (replies_to i s.replies) q in
      let Can : RunningParty P → Type 0 = λ q. CanTurn w.maker s.core q in
      let to : IsRunTo w (commands_of inputs i) (replies_to i s.replies) p = subst To here (way.each i p below) in
      let can : CanTurn w.maker s.core p = subst Can here (can_turn w.maker s.core s.parties i p way.holds.running below) in
      let turned : HasTurned s.core p t = has_turned w modules (commands_of inputs i) s.core p t way.calls can (omega (arith, to.room)) turns in
      let Has : RunningParty P → Type 0 = λ q. HasTurned s.core q t in
      let Now : RunningParty P → Type 0 = λ q. Turns modules (commands_of inputs i) s.core q t in
      let within : IsWithinCounts t.core (slice_set s.parties i t.party) =
      turn_within w modules (commands_of inputs i) s.core s.parties i p t way.calls way.holds.running below (omega (arith, (way.each i p below).room)) (subst Now (sym here) turns) way.within in
      let alone : w.alone ≡ true → IsAlone s.core p.frame p.live =
      λ e.
      let one = way.alone e in
      let A : RunningParty P → Type 0 = λ q. IsAlone s.core q.frame q.live in
      let at_first : slice_index_or s.parties 0 p ≡ p = subst (λ (n : ℕ). slice_index_or s.parties n p ≡ p) {x = i} {y = 0} (omega (arith, below, one.one)) here in
      subst A at_first (one.alone p) in
      let now : IsRunTo w (commands_of inputs i) (with_reply t.reply (replies_to i s.replies)) t.party = run_to w modules (commands_of inputs i) (replies_to i s.replies) s.core p t way.world way.calls can alone to turns turned in
      let replies : List Reply = with_reply t.reply (replies_to i s.replies) in
      record {
        holds = record {
          running = turned_running w.maker s.core s.parties i p t way.holds.running below (subst Has (sym here) turned) (turn_sound w modules (commands_of inputs i) s.core p t way.calls can (omega (arith, to.room)) turns);
          instances = live_within t.core (slice_set s.parties i t.party) within;
          components = within.components;
        };
        within = within;
        given = way.given;
        world = world_over w s.core t.core turned.size way.world;
        calls = calls_over w modules s.core t.core turned.size way.calls;
        hosts =
            let hosts : List Host = map host_of_party s.parties in
            let same : host_of_party t.party ≡ slice_index_or hosts i open_host = turned.host ∙ ap host_of_party (sym here) ∙ sym (get_or-map host_of_party s.parties i p open_host below) in
            map-set host_of_party s.parties i t.party ∙ ap (slice_set hosts i) same ∙ set-get_or hosts i open_host ∙ way.hosts;
        alone = λ e.
            let one = way.alone e in
            record {
              one = length-set s.parties i t.party ∙ one.one;
              alone = λ d.
                  let A : RunningParty P → Type 0 = λ q. IsAlone t.core q.frame q.live in
                  let first : 0 ≡ i = omega (arith, below, one.one) in
                  let party : slice_index_or (slice_set s.parties i t.party) i d ≡ t.party = get_or-set_same s.parties i t.party d below in
                  subst (λ (n : ℕ). A (slice_index_or (slice_set s.parties i t.party) n d)) (sym first) (subst A (sym party) (alone_turned s.core p t turned (alone e)));
            };
        told = length-set s.replies i replies ∙ way.told ∙ sym (length-set s.parties i t.party);
        each = λ j d inside.
            let At : ℕ → List Reply → RunningParty P → Type 0 = λ n rs q. IsRunTo w (commands_of inputs n) rs q in
            elim (cases_eq j i) [
              | inl is ↦
                  let party : slice_index_or (slice_set s.parties i t.party) i d ≡ t.party = get_or-set_same s.parties i t.party d below in
                  let told : replies_to i (slice_set s.replies i replies) ≡ replies = get_or-set_same s.replies i replies [] (omega (arith, below, way.told)) in
                  subst (λ (n : ℕ). At n (replies_to n (slice_set s.replies i replies)) (slice_index_or (slice_set s.parties i t.party) n d)) (sym is)
                  (subst (λ (rs : List Reply). At i rs (slice_index_or (slice_set s.parties i t.party) i d)) (sym told) (subst (At i replies) (sym party) now))
              | inr other ↦
                  let party : slice_index_or (slice_set s.parties i t.party) j d ≡ slice_index_or s.parties j d = get_or-set_other s.parties i j t.party d other in
                  let told : replies_to j (slice_set s.replies i replies) ≡ replies_to j s.replies = get_or-set_other s.replies i j replies [] other in
                  subst (λ (rs : List Reply). At j rs (slice_index_or (slice_set s.parties i t.party) j d)) (sym told)
                  (subst (At j (replies_to j s.replies)) (sym party) (way.each j d (omega (arith, inside, length-set s.parties i t.party))))
            ];
      }

  turned_if : (w : World) (modules : List ModuleAsked) (inputs : List (List Command)) (i : ℕ) (o : Option (RunningParty P)) (s new : RunState P) → slice_get s.parties i ≡ o → IsUnderWay w modules inputs s → TurnsIf modules (commands_of inputs i) i o s new → IsUnderWay w modules inputs new
  turned_if w modules inputs i None s new there way turns = subst (IsUnderWay w modules inputs) (sym turns) way
  turned_if w modules inputs i (Some p) s new there way turns = subst (IsUnderWay w modules inputs) (sym turns.2) (turned_some w modules inputs i p s turns.0 there way turns.1)

  -- A turn of one of the parties.
  pub run_turned : (w : World) (modules : List ModuleAsked) (inputs : List (List Command)) (i : ℕ) (s new : RunState P) → IsUnderWay w modules inputs s → TurnsOf modules inputs i s new → IsUnderWay w modules inputs new
  run_turned w modules inputs i s new way turns = turned_if w modules inputs i (slice_get s.parties i) s new refl way turns

  -- Turns in any order.
  pub folds_under_way : (w : World) (modules : List ModuleAsked) (inputs : List (List Command)) (schedule : List ℕ) (s end : RunState P) → IsUnderWay w modules inputs s → Folds modules inputs schedule s end → IsUnderWay w modules inputs end
  folds_under_way w modules inputs [] s end way folds = subst (IsUnderWay w modules inputs) (sym folds) way
  folds_under_way w modules inputs (i ∷ schedule) s end way folds = folds_under_way w modules inputs schedule folds.0 end (run_turned w modules inputs i s folds.0 way folds.1) folds.2

  -- A whole run.
  pub run_under_way : (w : World) (modules : List ModuleAsked) (inputs : List (List Command)) (schedule : List ℕ) (s end : RunState P) → IsUnderWay w modules inputs s → Runs modules inputs schedule s end → IsUnderWay w modules inputs end
  run_under_way w modules inputs schedule s end way runs =
      folds_under_way w modules inputs (party_by_party 0 runs.finishes.counts) runs.scheduled end
      (folds_under_way w modules inputs schedule s runs.scheduled way runs.folds)
      runs.finishes.folds

  -- The replies to each party are a private run of its commands, and tell of the pool.
  pub replies_pooled : (w : World) (modules : List ModuleAsked) (inputs : List (List Command)) (s : RunState P) (i : ℕ) (d : RunningParty P) → IsUnderWay w modules inputs s → i < length s.parties → IsPooledRun (world_at w i (slice_index_or s.parties i d).frame.stripe) (commands_of inputs i) (replies_to i s.replies)
  replies_pooled w modules inputs s i d way below =
      let to = way.each i d below in
      let p : RunningParty P = slice_index_or s.parties i d in
      let same : host_of_party p ≡ slice_index_or w.hosts i open_host = sym (get_or-map host_of_party s.parties i d open_host below) ∙ ap (λ (hosts : List Host). slice_index_or hosts i open_host) way.hosts in
      let By : Host → Type 0 = λ host. IsPooledRun (in_stripe p.frame.stripe (under host w)) (commands_of inputs i) (replies_to i s.replies) in
      subst By same (to.private.told, to.private.run)

  pub replies_private : (w : World) (modules : List ModuleAsked) (inputs : List (List Command)) (s : RunState P) (i : ℕ) (d : RunningParty P) → IsUnderWay w modules inputs s → i < length s.parties → IsPrivateRun (world_at w i (slice_index_or s.parties i d).frame.stripe).terms (commands_of inputs i) (replies_to i s.replies)
  replies_private w modules inputs s i d way below = pooled_private (world_at w i (slice_index_or s.parties i d).frame.stripe) (commands_of inputs i) (replies_to i s.replies) (replies_pooled w modules inputs s i d way below)

  -- Turns that follow others.
  pub folds_on : (modules : List ModuleAsked) (inputs : List (List Command)) (first second : List ℕ) (s mid end : RunState P) → Folds modules inputs first s mid → Folds modules inputs second mid end → Folds modules inputs (first ++ second) s end
  folds_on modules inputs [] second s mid end one other =
      let F : RunState P → Type 0 = λ x. Folds modules inputs second x end in
      subst F one other
  folds_on modules inputs (i ∷ first) second s mid end one other = (one.0, one.1, folds_on modules inputs first second one.0 mid end one.2 other)

  pub folds_more : (modules : List ModuleAsked) (inputs : List (List Command)) (schedule : List ℕ) (i : ℕ) (s mid end : RunState P) → Folds modules inputs schedule s mid → TurnsOf modules inputs i mid end → Folds modules inputs (schedule ++ i ∷ []) s end
  folds_more modules inputs schedule i s mid end folds turns = folds_on modules inputs schedule (i ∷ []) s mid end folds (end, turns, refl)

-- At each moment of a run each party's live memories lie in its stripe, and so do those that it was told. So its replies tell exactly
-- where there was room.
use Rattle.std.proofs.Common.{◌≡◌, ℕ, ◌+◌, ◌-◌, ◌<◌, ◌≤◌, ◌%◌, true, false, List, [], ◌∷◌, ◌++◌, length, Option, Some, None, refl, sym, ap, ◌∙◌, subst, inl, inr, arith, slice_get, slice_set, slice_index_or}
use Rattle.pool_alloc.proofs.PlanPlaces.{stripe_holds}
use Rattle.pool_run.proofs.Imports.{cases_eq, cases_lt, get_or-append_right, get_or-set_other, get_or-set_same, get_or_append_left, get_or_from_slice_get, length-append, length-set, slice_get-get_or, slice_get_within, has_number, grant_count, ModuleAsked, Plan, stripe_allocator}
use Rattle.pool_run.specs.Acts.{requests, act_of, Wanted}
use Rattle.pool_run.specs.Exact.{LieInStripe, IsExactRun}
use Rattle.pool_run.specs.Folds.{RunState, Folds, TurnsIf, IsUnderWay, IsRunTo, commands_of, replies_to, with_turn}
use Rattle.pool_run.specs.Rooms.{World, world_at}
use Rattle.pool_run.specs.Ties.{CanTurn}
use Rattle.pool_run.specs.Turns.{Turned, Turns, with_reply}
use Rattle.pool_run.specs.declared.command.Command.{Command}
use Rattle.pool_run.specs.declared.reply.Reply.{Reply}
use Rattle.pool_run.specs.declared.running_party.RunningParty.{RunningParty}
use Rattle.pool_run.proofs.Drawn.{TurnStripe, turn_stripe}
use Rattle.pool_run.proofs.ExactRooms.{TellStripe, run_exact}
use Rattle.pool_run.proofs.Folding.{replies_pooled, run_turned}
use Rattle.pool_run.proofs.OwnStripes.{IsInStripe, idle_in_stripe, nothing_live, turn_in_stripe, turn_lies}
use Rattle.pool_run.proofs.Running.{can_turn}
use Rattle.pool_run.proofs.StripeSlots.{of_stripe}
use Rattle.pool_run.proofs.Turned.{has_turned}

-- Nothing was told yet.
none_told : (stripes stripe : ℕ) (commands : List Command) (replies : List Reply) → length replies ≡ 0 → TellStripe stripes stripe commands replies
none_told stripes stripe commands replies none n command wanted reply at asks there = absurd (omega (arith, none, slice_get_within replies n reply there))

-- With a reply more that lies there too.
module _ (stripes stripe : ℕ) (commands : List Command) (before : List Reply) (told : TellStripe stripes stripe commands before) where
  one_more : (r : Reply) → ((command : Command) (wanted : Wanted) → slice_get commands (length before) ≡ Some command → act_of command ≡ requests wanted → LieInStripe stripes stripe r) → TellStripe stripes stripe commands (before ++ r ∷ [])
  one_more r lies n command wanted reply at asks there =
      let here : slice_index_or (before ++ r ∷ []) n reply ≡ reply = get_or_from_slice_get (before ++ r ∷ []) n reply reply there in
      let inside : n < length (before ++ r ∷ []) = slice_get_within (before ++ r ∷ []) n reply there in
      elim (cases_lt n (length before)) [
        | inl earlier ↦
            let was : slice_index_or before n reply ≡ reply = sym (get_or_append_left before (r ∷ []) reply n earlier) ∙ here in
            told n command wanted reply at asks (slice_get-get_or before n reply earlier ∙ ap (λ (x : Reply). Some x) was)
        | inr past ↦
            let last : n ≡ length before = omega (arith, past, inside, length-append before (r ∷ [])) in
            let first : n - length before ≡ 0 = omega (arith, last) in
            let its : slice_index_or (before ++ r ∷ []) n reply ≡ slice_index_or (r ∷ []) (n - length before) reply = get_or-append_right before (r ∷ []) (length before) n reply refl past in
            let now : r ≡ reply = ap (λ (k : ℕ). slice_index_or (r ∷ []) k reply) (sym first) ∙ sym its ∙ here in
            let At : ℕ → Type 0 = λ k. slice_get commands k ≡ Some command in
            subst (LieInStripe stripes stripe) now (lies command wanted (subst At last at) asks)
      ]

  with_more : (o : Option Reply) → ((command : Command) (wanted : Wanted) (reply : Reply) → slice_get commands (length before) ≡ Some command → act_of command ≡ requests wanted → o ≡ Some reply → LieInStripe stripes stripe reply) → TellStripe stripes stripe commands (with_reply o before)
  with_more None lies = told
  with_more (Some r) lies = one_more r (λ command wanted at asks. lies command wanted r at asks refl)

module _ {P : Type 0} (w : World) (modules : List ModuleAsked) (inputs : List (List Command)) where
  -- Each party, and what it was told, is in its stripe.
  pub record AreInStripes (s : RunState P) : Type 0 where
    pub way : IsUnderWay w modules inputs s
    pub own : (i : ℕ) (d : RunningParty P) → i < length s.parties → IsInStripe s.core.plan (slice_index_or s.parties i d)
    pub told : (i : ℕ) (d : RunningParty P) → i < length s.parties → TellStripe w.terms.settings.num_stripes (slice_index_or s.parties i d).frame.stripe (commands_of inputs i) (replies_to i s.replies)

  -- After a turn of party i.
  module _ (i : ℕ) (p : RunningParty P) (s : RunState P) (t : Turned P) (there : slice_get s.parties i ≡ Some p) (are : AreInStripes s) (turns : Turns modules (commands_of inputs i) s.core p t) where
    below : i < length s.parties
    below = slice_get_within s.parties i p there

    here : slice_index_or s.parties i p ≡ p
    here = get_or_from_slice_get s.parties i p p there

    to : IsRunTo w (commands_of inputs i) (replies_to i s.replies) p
    to = subst (λ (q : RunningParty P). IsRunTo w (commands_of inputs i) (replies_to i s.replies) q) here (are.way.each i p below)

    can : CanTurn w.maker s.core p
    can = subst (λ (q : RunningParty P). CanTurn w.maker s.core q) here (can_turn w.maker s.core s.parties i p are.way.holds.running below)

    room : length (commands_of inputs i) ≤ length p.live
    room = omega (arith, to.room)

    in_stripe : IsInStripe s.core.plan p
    in_stripe = subst (IsInStripe s.core.plan) here (are.own i p below)

    told_before : TellStripe w.terms.settings.num_stripes p.frame.stripe (commands_of inputs i) (replies_to i s.replies)
    told_before = subst (λ (q : RunningParty P). TellStripe w.terms.settings.num_stripes q.frame.stripe (commands_of inputs i) (replies_to i s.replies)) here (are.told i p below)

    in_now : IsInStripe t.core.plan t.party
    in_now = turn_in_stripe w modules (commands_of inputs i) s.core p t are.way.calls can room to.drawn to.fresh turns in_stripe

    stripe_there : p.frame.stripe < length s.core.plan.memories
    stripe_there = can.party.sound.frame.stripe

    its_slots : (k : ℕ) → has_number (stripe_allocator s.core.plan p.frame.stripe) k ≡ true → k % w.terms.settings.num_stripes ≡ p.frame.stripe
    its_slots k has = of_stripe w.terms.slots w.terms.settings.num_stripes s.core.plan (length s.core.parts) are.way.world.plan can.core.plan p.frame.stripe k (omega (arith, stripe_there, are.way.world.plan.count)) has

    told_now : TellStripe w.terms.settings.num_stripes t.party.frame.stripe (commands_of inputs i) (with_reply t.reply (replies_to i s.replies))
    told_now =
        let left : TurnStripe p t = turn_stripe w modules (commands_of inputs i) s.core p t are.way.calls can room to.drawn to.fresh turns in
        let n : ℕ = w.terms.settings.num_stripes in
        let before : List Reply = replies_to i s.replies in
        elim left.stripe [
          | inl same ↦
              subst (λ (stripe : ℕ). TellStripe n stripe (commands_of inputs i) (with_reply t.reply before)) (sym same)
              (with_more n p.frame.stripe (commands_of inputs i) before told_before t.reply
              (λ command wanted reply at asks is.
              let At : ℕ → Type 0 = λ k. slice_get (commands_of inputs i) k ≡ Some command in
              turn_lies w modules (commands_of inputs i) s.core p t are.way.calls can room to.drawn to.fresh turns in_stripe n its_slots (stripe_holds s.core.plan (length s.core.parts) p.frame.stripe can.core.plan stripe_there).kind_is command wanted reply (subst At to.private.count at) asks is))
          | inr drew ↦
              let silent : with_reply t.reply before ≡ before = ap (λ (o : Option Reply). with_reply o before) drew.silent in
              subst (λ (rs : List Reply). TellStripe n t.party.frame.stripe (commands_of inputs i) rs) (sym silent)
              (none_told n t.party.frame.stripe (commands_of inputs i) before (omega (arith, to.private.count, (to.fresh drew.keyed).0)))
        ]

    plan_same : t.core.plan ≡ s.core.plan
    plan_same = (has_turned w modules (commands_of inputs i) s.core p t are.way.calls can room turns).size.plan

    turned_in_stripes : IsUnderWay w modules inputs (with_turn i t s) → AreInStripes (with_turn i t s)
    turned_in_stripes way = record {
      way = way;
      own = λ j d inside.
          elim (cases_eq j i) [
            | inl is ↦
                let party : slice_index_or (slice_set s.parties i t.party) i d ≡ t.party = get_or-set_same s.parties i t.party d below in
                subst (λ (n : ℕ). IsInStripe t.core.plan (slice_index_or (slice_set s.parties i t.party) n d)) (sym is) (subst (IsInStripe t.core.plan) (sym party) in_now)
            | inr other ↦
                let party : slice_index_or (slice_set s.parties i t.party) j d ≡ slice_index_or s.parties j d = get_or-set_other s.parties i j t.party d other in
                subst (IsInStripe t.core.plan) (sym party) (subst (λ (plan : Plan). IsInStripe plan (slice_index_or s.parties j d)) (sym plan_same) (are.own j d (omega (arith, inside, length-set s.parties i t.party))))
          ];
      told = λ j d inside.
          let n : ℕ = w.terms.settings.num_stripes in
          let replies : List Reply = with_reply t.reply (replies_to i s.replies) in
          let Tell : ℕ → List Reply → RunningParty P → Type 0 = λ k rs q. TellStripe n q.frame.stripe (commands_of inputs k) rs in
          elim (cases_eq j i) [
            | inl is ↦
                let party : slice_index_or (slice_set s.parties i t.party) i d ≡ t.party = get_or-set_same s.parties i t.party d below in
                let told : replies_to i (slice_set s.replies i replies) ≡ replies = get_or-set_same s.replies i replies [] (omega (arith, below, are.way.told)) in
                subst (λ (k : ℕ). Tell k (replies_to k (slice_set s.replies i replies)) (slice_index_or (slice_set s.parties i t.party) k d)) (sym is)
                (subst (λ (rs : List Reply). Tell i rs (slice_index_or (slice_set s.parties i t.party) i d)) (sym told) (subst (Tell i replies) (sym party) told_now))
            | inr other ↦
                let party : slice_index_or (slice_set s.parties i t.party) j d ≡ slice_index_or s.parties j d = get_or-set_other s.parties i j t.party d other in
                let told : replies_to j (slice_set s.replies i replies) ≡ replies_to j s.replies = get_or-set_other s.replies i j replies [] other in
                subst (λ (rs : List Reply). Tell j rs (slice_index_or (slice_set s.parties i t.party) j d)) (sym told)
                (subst (Tell j (replies_to j s.replies)) (sym party) (are.told j d (omega (arith, inside, length-set s.parties i t.party))))
          ];
    }

  turns_in_stripes : (i : ℕ) (o : Option (RunningParty P)) (s new : RunState P) → slice_get s.parties i ≡ o → AreInStripes s → IsUnderWay w modules inputs new → TurnsIf modules (commands_of inputs i) i o s new → AreInStripes new
  turns_in_stripes i None s new there are way turns = subst AreInStripes (sym turns) are
  turns_in_stripes i (Some p) s new there are way turns =
      subst AreInStripes (sym turns.2) (turned_in_stripes i p s turns.0 there are turns.1 (subst (IsUnderWay w modules inputs) turns.2 way))

  -- After any turns.
  pub folds_in_stripes : (schedule : List ℕ) (s end : RunState P) → AreInStripes s → Folds modules inputs schedule s end → AreInStripes end
  folds_in_stripes [] s end are folds = subst AreInStripes (sym folds) are
  folds_in_stripes (i ∷ schedule) s end are folds =
      folds_in_stripes schedule folds.0 end (turns_in_stripes i (slice_get s.parties i) s folds.0 refl are (run_turned w modules inputs i s folds.0 are.way folds.1) folds.1) folds.2

  -- Before any party has drawn its stripe.
  pub new_in_stripes : (s : RunState P) → IsUnderWay w modules inputs s → ((i : ℕ) (d : RunningParty P) → i < length s.parties → (slice_index_or s.parties i d).keyed ≡ false) → AreInStripes s
  new_in_stripes s way none = record {
    way = way;
    own = λ i d inside.
        let p : RunningParty P = slice_index_or s.parties i d in
        let can : CanTurn w.maker s.core p = can_turn w.maker s.core s.parties i d way.holds.running inside in
        let fresh = (way.each i d inside).fresh (none i d inside) in
        idle_in_stripe w.maker s.core s.core.plan p can.party.sound.frame fresh.1 (λ t. nothing_live p.live (λ k. can.party.to_come k (omega (arith, fresh.0))) (grant_count t));
    told = λ i d inside.
        let to = way.each i d inside in
        none_told w.terms.settings.num_stripes (slice_index_or s.parties i d).frame.stripe (commands_of inputs i) (replies_to i s.replies) (omega (arith, to.private.count, (to.fresh (none i d inside)).0));
  }

  -- So the replies to a party tell exactly where there was room.
  pub told_exactly : (s : RunState P) (i : ℕ) (d : RunningParty P) → w.counts ≡ true → AreInStripes s → i < length s.parties → IsExactRun (world_at w i (slice_index_or s.parties i d).frame.stripe) (commands_of inputs i) (replies_to i s.replies)
  told_exactly s i d counts are inside =
      run_exact (world_at w i (slice_index_or s.parties i d).frame.stripe) are.way.world.plan.some counts (commands_of inputs i) (replies_to i s.replies) (are.told i d inside) (replies_pooled w modules inputs s i d are.way inside)

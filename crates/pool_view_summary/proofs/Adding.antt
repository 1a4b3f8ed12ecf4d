-- What is summed up turn by turn is what the turns come to.
use Rattle.std.proofs.Common.{◌≡◌, ◌≢◌, ℕ, zero, suc, ◌<◌, ◌≤◌, List, [], ◌∷◌, length, map, replicate, Option, Some, None, option_map, refl, sym, ap, ◌∙◌, subst, inl, inr, arith, get_or-set_same, get_or-set_other, slice_get, slice_set}
use Rattle.std.proofs.lemmas.List.{length-set, length-map, length-replicate, get_or-replicate}
use Rattle.std.proofs.lemmas.Option.{slice_get-map, slice_get_within}
use Rattle.std.proofs.lemmas.Bool.{cases_eq}
use Rattle.pool_pages.specs.MakerTold.{MakerTold}
use Rattle.pool_alloc.specs.PlainModules.{ModuleAsked}
use Rattle.pool_alloc.specs.declared.pool_core.Settings.{Settings}
use Rattle.pool_run.specs.Folds.{RunState, TurnsIf, commands_of, with_turn}
use Rattle.pool_run.specs.RunsMade.{parties_made, party_made_for}
use Rattle.pool_run.specs.Watching.{LeadsOver, Tells, TellsTurn, TurnTold, parts_of}
use Rattle.pool_run.specs.declared.command.Command.{Command}
use Rattle.pool_run.specs.declared.input.Input.{Input}
use Rattle.pool_run.specs.declared.input.Party.{Party}
use Rattle.pool_run.specs.declared.reply.Reply.{Reply}
use Rattle.pool_run.specs.declared.running_party.RunningParty.{RunningParty}
use Rattle.pool_view_summary.specs.Costs.{ComeTo, Sums, step_of, with_step}
use Rattle.pool_view_summary.specs.Made.{made_by}
use Rattle.pool_view_summary.specs.Seen.{seen_of, unseen}
use Rattle.pool_view_summary.specs.Summing.{SumsTurn, seen_at, sums_of}
use Rattle.pool_view_summary.specs.declared.seen.Seen.{Seen}
use Rattle.pool_view_summary.specs.declared.summary.Summary.{Summary}

past : {X : Type 0} (xs : List X) (i : ℕ) → slice_get xs i ≡ None → length xs ≤ i
past [] i gone = omega arith
past (x ∷ xs) zero gone = absurd cc
past (x ∷ xs) (suc i) gone = let rest : length xs ≤ i = past xs i gone in omega (arith, rest)

-- the elements in other places stay
set_other : {X : Type 0} (xs : List X) (i k : ℕ) (x : X) → k ≢ i → slice_get (slice_set xs i x) k ≡ slice_get xs k
set_other [] i k x other = refl
set_other (y ∷ ys) zero zero x other = absurd (other refl)
set_other (y ∷ ys) zero (suc k) x other = refl
set_other (y ∷ ys) (suc i) zero x other = refl
set_other (y ∷ ys) (suc i) (suc k) x other = set_other ys i k x (λ e. other (ap suc e))

-- Nothing is seen of a party as it is made.
unseen_made : (P : Type 0) (input : Input) (i : ℕ) (settings : Settings) (o : Option Party) → seen_of {P = P} input i (option_map (party_made_for settings) o) ≡ unseen
unseen_made P input i settings None = refl
unseen_made P input i settings (Some p) = refl

module _ {P : Type 0} (input : Input) where
  -- What was seen of each of these parties is what is seen of it.
  pub record SeesAll (seen : List Seen) (parties : List (RunningParty P)) : Type 0 where
    pub count : length seen ≡ length parties
    pub each : (i : ℕ) → i < length parties → seen_at i seen ≡ seen_of input i (slice_get parties i)

  -- It stays so where a party has changed and was looked at,
  sees_changed : (seen : List Seen) (parties : List (RunningParty P)) (i : ℕ) (p : RunningParty P) → i < length parties → SeesAll seen parties → SeesAll (slice_set seen i (seen_of input i (slice_get (slice_set parties i p) i))) (slice_set parties i p)
  sees_changed seen parties i p below sees =
      let now : Seen = seen_of input i (slice_get (slice_set parties i p) i) in
      let within : i < length seen = omega (arith, below, sees.count) in
      let here : seen_at i (slice_set seen i now) ≡ now = get_or-set_same seen i now unseen within in
      record {
        count = length-set seen i now ∙ sees.count ∙ sym (length-set parties i p);
        each = λ k inside.
            let there : k < length parties = omega (arith, inside, length-set parties i p) in
            elim (cases_eq k i) [
              | inl is ↦ subst (λ (n : ℕ). seen_at n (slice_set seen i now) ≡ seen_of input n (slice_get (slice_set parties i p) n)) (sym is) here
              | inr other ↦ get_or-set_other seen i k now unseen other ∙ sees.each k there ∙ ap (seen_of input k) (sym (set_other parties i k p other))
            ];
      }

  -- and where one is looked at that isn't there.
  sees_past : (seen : List Seen) (parties : List (RunningParty P)) (i : ℕ) (now : Seen) → length parties ≤ i → SeesAll seen parties → SeesAll (slice_set seen i now) parties
  sees_past seen parties i now beyond sees = record {
    count = length-set seen i now ∙ sees.count;
    each = λ k inside. get_or-set_other seen i k now unseen (λ is. omega (arith, is, inside, beyond)) ∙ sees.each k inside;
  }

  module _ (modules : List ModuleAsked) (inputs : List (List Command)) where
    -- So it is after a turn.
    sees_on : (i : ℕ) (o : Option (RunningParty P)) (seen : List Seen) (s mid : RunState P) → slice_get s.parties i ≡ o → TurnsIf modules (commands_of inputs i) i o s mid → SeesAll seen s.parties → SeesAll (slice_set seen i (seen_of input i (slice_get mid.parties i))) mid.parties
    sees_on i None seen s mid there turns sees =
        let S : RunState P → Type 0 = λ x. SeesAll (slice_set seen i (seen_of input i (slice_get x.parties i))) x.parties in
        subst S (sym turns) (sees_past seen s.parties i (seen_of input i (slice_get s.parties i)) (past s.parties i there) sees)
    sees_on i (Some p) seen s mid there turns sees =
        let S : RunState P → Type 0 = λ x. SeesAll (slice_set seen i (seen_of input i (slice_get x.parties i))) x.parties in
        subst S (sym turns.2) (sees_changed seen s.parties i turns.0.party (slice_get_within s.parties i p there) sees)

    -- The step of a turn is that by what was seen of the party before it.
    same_step : (i : ℕ) (o : Option (RunningParty P)) (seen : List Seen) (after : Seen) (bound : Option ℕ) (t : TurnTold P) (s mid : RunState P) → slice_get s.parties i ≡ o → TurnsIf modules (commands_of inputs i) i o s mid → SeesAll seen s.parties
        → made_by input (seen_at i seen) after bound t (slice_get mid.parties i) ≡ made_by input (seen_of input i (slice_get s.parties i)) after bound t (slice_get mid.parties i)
    same_step i None seen after bound t s mid there turns sees =
        let gone : slice_get mid.parties i ≡ None = ap (λ (x : RunState P). slice_get x.parties i) turns ∙ there in
        let M : Option (RunningParty P) → Type 0 = λ q. made_by input (seen_at i seen) after bound t q ≡ made_by input (seen_of input i (slice_get s.parties i)) after bound t q in
        subst M (sym gone) refl
    same_step i (Some p) seen after bound t s mid there turns sees = ap (λ (before : Seen). made_by input before after bound t (slice_get mid.parties i)) (sees.each i (slice_get_within s.parties i p there))

    -- what is told of a turn of party i that left this
    abbrev told_of : ℕ → RunState P → Option Reply → TurnTold P
    told_of i mid reply = record { party = i; run = parts_of mid; reply = reply }

    told_same : (i : ℕ) (s mid : RunState P) (t : TurnTold P) → TellsTurn modules inputs i s mid t → t ≡ told_of i mid t.reply
    told_same i s mid t turn = ap (λ (n : ℕ). let x : TurnTold P = record { party = n; run = t.run; reply = t.reply } in x) turn.party ∙ ap (λ r. let x : TurnTold P = record { party = i; run = r; reply = t.reply } in x) turn.run

    -- A turn's step is added, and then those of the turns behind it.
    come_on : (i : ℕ) (reply : Option Reply) (rest : List (TurnTold P)) (s mid : RunState P) (w left out : Summary) → TurnsIf modules (commands_of inputs i) i (slice_get s.parties i) s mid → SumsTurn input (told_of i mid reply) w left → SeesAll w.seen.items s.parties
        → (SeesAll left.seen.items mid.parties → ComeTo input mid.parties rest (sums_of left) (sums_of out)) → ComeTo input s.parties (told_of i mid reply ∷ rest) (sums_of w) (sums_of out)
    come_on i reply rest s mid w left out turns sums sees more =
        let t : TurnTold P = told_of i mid reply in
        let Sees : List Seen → Type 0 = λ seen. SeesAll seen mid.parties in
        let after : SeesAll left.seen.items mid.parties = subst Sees (sym sums.seen) (sees_on i (slice_get s.parties i) w.seen.items s mid refl turns sees) in
        let step : sums_of left ≡ with_step (step_of input s.parties sums.step.0 t) (sums_of w) =
        sums.step.2 ∙ ap (λ m. with_step m (sums_of w)) (same_step i (slice_get s.parties i) w.seen.items (seen_of input i (slice_get mid.parties i)) sums.step.0 t s mid refl turns sees) in
        let From : Sums → Type 0 = λ x. ComeTo input mid.parties rest x (sums_of out) in
        (sums.step.0, sums.step.1, subst From step (more after))

    -- What a watcher sums up of turns is what they come to.
    pub comes_to : (turns : List ℕ) (s end : RunState P) (told : List (TurnTold P)) (w out : Summary) → Tells modules inputs turns s end told → LeadsOver (SumsTurn input) told w out → SeesAll w.seen.items s.parties → ComeTo input s.parties told (sums_of w) (sums_of out)
    comes_to [] s end told w out tells led sees =
        let F : List (TurnTold P) → Type 0 = λ l. LeadsOver (SumsTurn input) l w out → ComeTo input s.parties l (sums_of w) (sums_of out) in
        subst F (sym tells.1) (λ same. ap sums_of same) led
    comes_to (i ∷ turns) s end told w out tells led sees =
        elim tells [
          | inl none ↦ comes_to turns s end told w out none.1 led sees
          | inr made ↦
              let mid : RunState P = made.1.0 in
              let t : TurnTold P = made.1.1 in
              let rest : List (TurnTold P) = made.1.2 in
              let same : told ≡ told_of i mid t.reply ∷ rest = made.1.4 ∙ ap (λ (x : TurnTold P). x ∷ rest) (told_same i s mid t made.1.3) in
              let F : List (TurnTold P) → Type 0 = λ l. LeadsOver (SumsTurn input) l w out → ComeTo input s.parties l (sums_of w) (sums_of out) in
              subst F (sym same)
              (λ leads. come_on i t.reply rest s mid w leads.0 out made.1.3.turns leads.1 sees (λ after. comes_to turns mid end rest leads.0 out made.1.5 leads.2 after))
              led
        ]

  -- So it is as a run begins.
  pub sees_begun : (settings : Settings) (parties : List (RunningParty P)) → parties ≡ parties_made settings input.parties → SeesAll (replicate (length input.parties) unseen) parties
  sees_begun settings parties made =
      let S : List (RunningParty P) → Type 0 = λ ps. SeesAll (replicate (length input.parties) unseen) ps in
      subst S (sym made)
      (record {
        count = length-replicate (length input.parties) unseen ∙ sym (length-map input.parties (party_made_for settings));
        each = λ i inside.
            let within : i < length input.parties = omega (arith, inside, length-map input.parties (party_made_for {P = P} settings)) in
            get_or-replicate (length input.parties) i unseen unseen within
            ∙ sym (ap (seen_of input i) (slice_get-map (party_made_for settings) input.parties i) ∙ unseen_made P input i settings (slice_get input.parties i));
      })

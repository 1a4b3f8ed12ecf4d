-- A party's stripe is the one that its key gave it: it draws it in its first turn, before any command, and keeps it.
use Rattle.std.proofs.Common.{◌≡◌, ◌≤◌, ℕ, Bool, true, false, List, [], ◌∷◌, length, arith, Option, Some, None, refl, sym, ap, ◌∙◌, subst, inl, inr, ◌⊎◌, not, is_some, slice_get, slice_index_or}
use Rattle.pool_run.proofs.Imports.{cases_Bool, not_both, MakerTold, ModuleAsked, IsIdle, CanStep, Stage, keys, no_call, stage_of, is_idle, After, Frame, Grant, Outcome, PoolCore, PlainHeap}
use Rattle.pool_alloc.specs.declared.frame.Outcome.TheVariants as answer
use Rattle.pool_run.specs.Acts.{Act, requests, on_memory, on_table, drops, purges, releases, act_of, Wanted, an_instance, a_component, a_stack, a_heap}
use Rattle.pool_run.specs.Private.{Grants}
use Rattle.pool_run.specs.Rooms.{World}
use Rattle.pool_run.specs.RunsMade.{is_drawing}
use Rattle.pool_run.specs.Ties.{TiedAs, IsPrivate, CanTurn, seen_by_party}
use Rattle.pool_run.specs.Turns.{Turned, with_reply, answered, Opening, rests, replies, makes_step, drop_opening, OpensRequest, OpensAct, OpensNext, OpensAt, Leaves, Turns, OpensWanted}
use Rattle.pool_run.specs.Worlds.{AreCallsFor}
use Rattle.pool_run.specs.declared.command.Command.{Command}
use Rattle.pool_run.specs.declared.reply.Reply.{Reply}
use Rattle.pool_run.specs.declared.running_party.RunningParty.{RunningParty}
use Rattle.pool_run.proofs.Opened.{IsOpened, opened}
use Rattle.pool_run.proofs.Parties.{can_step, returned_stage}
use Rattle.pool_run.proofs.Reserving.{answered_frame}
use Rattle.pool_run.proofs.StageSteps.{is_key}
use Rattle.pool_run.proofs.Stepped.{IsStepped, stepped}
use Rattle.pool_alloc.proofs.StripesKept.{step_stripe}
use Rattle.pool_run.proofs.Turning.{SeesTurn}

pub no_keys : (s : Stage) → is_drawing s ≡ false → s ≡ keys → ⊥
no_keys s settled key = let wrong : true ≡ false = sym (ap is_drawing key) ∙ settled in absurd cc

module _ {P : Type 0} where
  -- the turn drew the party's stripe, and replied to nothing
  pub record HasDrawn (p : RunningParty P) (t : Turned P) : Type 0 where
    pub keyed : p.keyed ≡ false
    pub silent : t.reply ≡ None
    pub settled : stage_of t.party.frame ≡ no_call

  -- What a turn leaves of the party's stripe: one that isn't drawn yet, of a party that has done nothing, or the same, or
  -- one that was drawn.
  pub record TurnStripe (p : RunningParty P) (t : Turned P) : Type 0 where
    pub stripe : (t.party.frame.stripe ≡ p.frame.stripe) ⊎ HasDrawn p t
    pub fresh : t.party.keyed ≡ false → (t.party.done ≡ 0) × IsIdle t.party.frame
    pub drawn : is_drawing (stage_of t.party.frame) ≡ false

  answered_keyed : (o : Option (Outcome P PlainHeap)) (c : PoolCore P PlainHeap) (q : RunningParty P) → q.keyed ≡ true → (answered o c q).party.keyed ≡ true
  answered_keyed None c q keyed = keyed
  answered_keyed (Some answer.Key) c q keyed = refl
  answered_keyed (Some (answer.Granted grant)) c q keyed = keyed
  answered_keyed (Some answer.Returned) c q keyed = keyed
  answered_keyed (Some (answer.Purged n)) c q keyed = keyed
  answered_keyed (Some (answer.Released n)) c q keyed = keyed
  answered_keyed (Some (answer.Refused e)) c q keyed = keyed

  key_some : (o : Option (Outcome P PlainHeap)) → is_key o ≡ true → is_some o ≡ true
  key_some None key = absurd cc
  key_some (Some x) key = refl

  key_answered : (o : Option (Outcome P PlainHeap)) (c : PoolCore P PlainHeap) (q : RunningParty P) → is_key o ≡ true → ((answered o c q).reply ≡ None) × ((answered o c q).party.keyed ≡ true)
  key_answered (Some answer.Key) c q key = (refl, refl)
  key_answered _ c q key = absurd cc

module _ {P : Type 0} (p : RunningParty P) where
  -- A turn opens with a key exactly where there is none yet, and nothing is replied before.
  abbrev pub IsKeyed : Opening P → Type 0
  IsKeyed rests = Unit {0}
  IsKeyed (replies reply live store) = p.keyed ≡ true
  IsKeyed (makes_step frame live) = is_drawing (stage_of frame) ≡ not p.keyed

module _ {P : Type 0} (maker : MakerTold) (c : PoolCore P PlainHeap) (p : RunningParty P) where
  -- What a step leaves.
  pub step_leaves : (frame : Frame P PlainHeap) (live : List (Option (Grant P PlainHeap))) (t : Turned P) → CanStep maker c frame → frame.stripe ≡ p.frame.stripe → IsKeyed p (makes_step frame live) → Leaves (makes_step frame live) c p t → TurnStripe p t
  step_leaves frame live t can stripe keyed steps =
      let q : RunningParty P = record p { frame = frame; live = live } in
      let a : After P PlainHeap = steps.0 in
      let on : IsStepped maker steps.1.0 steps.1.1 c frame a = stepped maker steps.1.0 steps.1.1 c frame a can steps.1.3 in
      let left : RunningParty P = record q { frame = a.frame; heaps = t.party.heaps } in
      let is : (answered a.outcome a.core left).party.frame ≡ a.frame = answered_frame a.outcome a.core left in
      let ready : is_drawing (stage_of (answered a.outcome a.core left).party.frame) ≡ false = ap (λ (f : Frame P PlainHeap). is_drawing (stage_of f)) is ∙ on.staged.drawn in
      subst (TurnStripe p) (sym steps.2)
      (elim (cases_Bool (is_drawing (stage_of frame))) [
        | inl draws ↦
            let key : is_key a.outcome ≡ true = on.staged.key ∙ draws in
            let told = key_answered a.outcome a.core left key in
            record {
              stripe = inr (record { keyed = not_keyed p.keyed (sym keyed ∙ draws); silent = told.0; settled = ap stage_of is ∙ on.staged.settled (key_some a.outcome key) });
              fresh = λ none. not_both (answered a.outcome a.core left).party.keyed told.1 none;
              drawn = ready;
            }
        | inr settled ↦
            let has : p.keyed ≡ true = was_keyed p.keyed (sym keyed ∙ settled) in
            record {
              stripe = inl (ap (λ (f : Frame P PlainHeap). f.stripe) is ∙ step_stripe steps.1.0 steps.1.1 c frame a (no_keys (stage_of frame) settled) steps.1.3 ∙ stripe);
              fresh = λ none. not_both (answered a.outcome a.core left).party.keyed (answered_keyed a.outcome a.core left has) none;
              drawn = ready;
            }
      ])
    where
      not_keyed : (b : Bool) → not b ≡ true → b ≡ false
      not_keyed true is = absurd cc
      not_keyed false is = refl

      was_keyed : (b : Bool) → not b ≡ false → b ≡ true
      was_keyed true is = refl
      was_keyed false is = absurd cc

module _ {P : Type 0} (maker : MakerTold) (c : PoolCore P PlainHeap) (p : RunningParty P) (drawn : is_drawing (stage_of p.frame) ≡ false) (fresh : p.keyed ≡ false → (p.done ≡ 0) × IsIdle p.frame) where
  drops_keyed : (of : ℕ) (x : Option (Grant P PlainHeap)) → p.keyed ≡ true → IsKeyed p (drop_opening x of p)
  drops_keyed of None keyed = keyed
  drops_keyed of (Some grant) keyed = ap is_drawing (returned_stage grant p.frame) ∙ sym (ap not keyed)

  requests_keyed : (kept : Option ModuleAsked) (o : Opening P) → p.keyed ≡ true → OpensRequest kept p o → IsKeyed p o
  requests_keyed None o keyed opens = absurd opens
  requests_keyed (Some kept) o keyed opens =
      elim opens [
        | inl is ↦ subst (IsKeyed p) (sym is) keyed
        | inr is ↦ subst (IsKeyed p) (sym is) (sym (ap not keyed))
      ]

  wanted_keyed : (modules : List ModuleAsked) (wanted : Wanted) (o : Opening P) → p.keyed ≡ true → OpensWanted modules wanted p o → IsKeyed p o
  wanted_keyed modules (an_instance number) o keyed opens = requests_keyed (slice_get modules number) o keyed opens
  wanted_keyed modules (a_component info) o keyed opens = subst (IsKeyed p) (sym opens) (sym (ap not keyed))
  wanted_keyed modules a_stack o keyed opens = subst (IsKeyed p) (sym opens) (sym (ap not keyed))
  wanted_keyed modules (a_heap limits) o keyed opens = subst (IsKeyed p) (sym opens) (sym (ap not keyed))

  act_keyed : (modules : List ModuleAsked) (act : Act) (o : Opening P) → p.keyed ≡ true → OpensAct modules act p o → IsKeyed p o
  act_keyed modules (requests wanted) o keyed opens = wanted_keyed modules wanted o keyed opens
  act_keyed modules (on_memory of k op) o keyed opens = subst (IsKeyed p) (sym opens.3) keyed
  act_keyed modules (on_table of k op) o keyed opens = subst (IsKeyed p) (sym opens.5) keyed
  act_keyed modules (drops of) o keyed opens = subst (IsKeyed p) (sym opens) (drops_keyed of (slice_index_or p.live of None) keyed)
  act_keyed modules (purges number) o keyed opens = subst (IsKeyed p) (sym opens) (sym (ap not keyed))
  act_keyed modules releases o keyed opens = subst (IsKeyed p) (sym opens) (sym (ap not keyed))

  -- What the next command opens with.
  pub next_keyed : (modules : List ModuleAsked) (next : Option Command) (keyed : Bool) (o : Opening P) → p.keyed ≡ keyed → OpensNext modules next keyed p o → IsKeyed p o
  next_keyed modules None keyed o is opens = subst (IsKeyed p) (sym opens) tt
  next_keyed modules (Some command) false o is opens = subst (IsKeyed p) (sym opens) (sym (ap not is))
  next_keyed modules (Some command) true o is opens = act_keyed modules (act_of command) o is opens

  busy_keyed : is_idle p.frame.phase ≡ false → p.keyed ≡ true
  busy_keyed busy =
      elim (cases_Bool p.keyed) [
        | inl keyed ↦ keyed
        | inr none ↦ let idle : is_idle p.frame.phase ≡ true = ap is_idle (fresh none).1 in not_both (is_idle p.frame.phase) idle busy
      ]

  pub opens_keyed : (b : Bool) (modules : List ModuleAsked) (commands : List Command) (o : Opening P) → is_idle p.frame.phase ≡ b → OpensAt b modules commands p o → IsKeyed p o
  opens_keyed true modules commands o idle opens = next_keyed modules (slice_get commands p.done) p.keyed o refl opens
  opens_keyed false modules commands o busy opens = subst (IsKeyed p) (sym opens) (drawn ∙ sym (ap not (busy_keyed busy)))

  leaves_stripe : (o : Opening P) (t : Turned P) → IsOpened maker c p o → IsKeyed p o → Leaves o c p t → TurnStripe p t
  leaves_stripe rests t is keyed leaves = subst (TurnStripe p) (sym leaves) (record { stripe = inl refl; fresh = fresh; drawn = drawn })
  leaves_stripe (replies reply live store) t is keyed leaves = subst (TurnStripe p) (sym leaves) (record { stripe = inl refl; fresh = λ none. not_both p.keyed keyed none; drawn = drawn })
  leaves_stripe (makes_step frame live) t is keyed leaves = step_leaves maker c p frame live t (can_step maker c (record p { frame = frame; live = live }) is.can) is.stripe keyed leaves

module _ {P : Type 0} where
  -- What each turn leaves of the party's stripe.
  pub turn_stripe : (w : World) (modules : List ModuleAsked) (commands : List Command) (c : PoolCore P PlainHeap) (p : RunningParty P) (t : Turned P) → AreCallsFor w.terms c.settings modules → CanTurn w.maker c p → length commands ≤ length p.live → is_drawing (stage_of p.frame) ≡ false → (p.keyed ≡ false → (p.done ≡ 0) × IsIdle p.frame) → Turns modules commands c p t → TurnStripe p t
  turn_stripe w modules commands c p t calls can room drawn fresh turns =
      leaves_stripe w.maker c p drawn fresh turns.0 t (opened w.maker c p w.terms modules commands turns.0 calls can room turns.1) (opens_keyed w.maker c p drawn fresh (is_idle p.frame.phase) modules commands turns.0 refl turns.1) turns.2

  -- A party that was told nothing yet sees each world alike.
  pub still_private : (w x : World) (start : Grants) (commands : List Command) (before : List Reply) (t : Turned P) → SeesTurn w start commands before t → length before ≡ 0 → t.reply ≡ None → stage_of t.party.frame ≡ no_call → SeesTurn x start commands before t
  still_private w x start commands (r ∷ before) t sees none silent settled = absurd (omega (arith, none))
  still_private w x start commands [] t sees none silent settled =
      let R : List Reply → Type 0 = λ rs. IsPrivate x start commands rs t.party in
      let W : List Reply → Type 0 = λ rs. IsPrivate w start commands rs t.party in
      let nothing : with_reply t.reply [] ≡ [] = ap (λ (o : Option Reply). with_reply o []) silent in
      let seen : W [] = subst W nothing sees in
      let Tied : World → Stage → Type 0 = λ y s. TiedAs y s commands t.party.done t.party.frame.asked (seen_by_party t.party) seen.told in
      subst R (sym nothing) (record { told = seen.told; run = seen.run; count = seen.count; tied = subst (Tied x) (sym settled) (subst (Tied w) settled seen.tied) })

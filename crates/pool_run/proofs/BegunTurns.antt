-- A turn whose command has begun.
use Rattle.std.proofs.Common.{◌≡◌, ℕ, ◌+◌, ◌≤◌, List, length, Some, None, refl, sym, ap, ◌∙◌, subst, slice_get}
use Rattle.pool_run.proofs.Imports.{MakerTold, IsIdle, PoolCore, ModuleAsked, PlainHeap}
use Rattle.pool_run.specs.Ties.{CanTurn}
use Rattle.pool_run.specs.Turns.{Opening, rests, replies, makes_step, OpensNext, Begins, BeginsFrom, Leaves, Steps, TurnsFrom, Turned}
use Rattle.pool_run.specs.Worlds.{AreFit}
use Rattle.pool_run.specs.declared.begin.Begun.{Begun}
use Rattle.pool_run.specs.declared.begin.Begun.TheVariants.{Rests, Replies, Calls}
use Rattle.pool_run.specs.declared.command.Command.{Command}
use Rattle.pool_run.specs.declared.reply.Reply.{Reply}
use Rattle.pool_run.specs.declared.running_party.RunningParty.{RunningParty}
use Rattle.pool_run.proofs.Opened.{IsOpened, next_opened}

module _ {P : Type 0} (c : PoolCore P PlainHeap) (p q : RunningParty P) (left : Begun) where
  -- nothing is left to do
  rests_by : (o : Opening P) → Begins o p q left → left ≡ Rests → Leaves o c p (record { core = c; party = q; reply = None })
  rests_by rests begins is = ap (λ (x : RunningParty P). record { core = c; party = x; reply = None }) begins.0
  rests_by (replies reply live store) begins is = absurd (let e : Rests ≡ Replies reply = sym is ∙ begins.1 in cc)
  rests_by (makes_step frame live) begins is = absurd (let e : Rests ≡ Calls = sym is ∙ begins.1 in cc)

  -- the command ended with this reply
  ends_by : (reply : Reply) (o : Opening P) → Begins o p q left → left ≡ Replies reply → Leaves o c p (record { core = c; party = q; reply = Some reply })
  ends_by reply rests begins is = absurd (let e : Replies reply ≡ Rests = sym is ∙ begins.1 in cc)
  ends_by reply (replies other live store) begins is =
      let e : Replies reply ≡ Replies other = sym is ∙ begins.1 in
      let same : reply ≡ other = cc in
      ap (λ (x : RunningParty P). record { core = c; party = x; reply = Some reply }) begins.0 ∙ ap (λ (r : Reply). record { core = c; party = record p { frame = record p.frame { step_count = 1 }; live = live; store = store; done = p.done + 1 }; reply = Some r }) same
  ends_by reply (makes_step frame live) begins is = absurd (let e : Replies reply ≡ Calls = sym is ∙ begins.1 in cc)

  -- a call began, and made its first step
  steps_by : (t : Turned P) (o : Opening P) → Begins o p q left → left ≡ Calls → Steps c q t → Leaves o c p t
  steps_by t rests begins is steps = absurd (let e : Calls ≡ Rests = sym is ∙ begins.1 in cc)
  steps_by t (replies reply live store) begins is steps = absurd (let e : Calls ≡ Replies reply = sym is ∙ begins.1 in cc)
  steps_by t (makes_step frame live) begins is steps = subst (λ (x : RunningParty P). Steps c x t) begins.0 steps

module _ {P : Type 0} (Opens : Opening P → Type 0) (c : PoolCore P PlainHeap) (p q : RunningParty P) where
  -- Where nothing is left to do, the turn is over,
  pub rests_turn : (left : Begun) → BeginsFrom Opens p q left → left ≡ Rests → TurnsFrom Opens c p (record { core = c; party = q; reply = None })
  rests_turn left from is = (from.0, from.1, rests_by c p q left from.0 from.2 is)

  -- and where the command ended at once;
  pub ends_turn : (reply : Reply) (left : Begun) → BeginsFrom Opens p q left → left ≡ Replies reply → TurnsFrom Opens c p (record { core = c; party = q; reply = Some reply })
  ends_turn reply left from is = (from.0, from.1, ends_by c p q left reply from.0 from.2 is)

  -- and otherwise after the call's first step.
  pub steps_turn : (t : Turned P) (left : Begun) → BeginsFrom Opens p q left → left ≡ Calls → Steps c q t → TurnsFrom Opens c p t
  steps_turn t left from is steps = (from.0, from.1, steps_by c p q left t from.0 from.2 is steps)

module _ {P : Type 0} (maker : MakerTold) (c : PoolCore P PlainHeap) (p q : RunningParty P) (left : Begun) where
  can_by : (o : Opening P) → IsOpened maker c p o → Begins o p q left → left ≡ Calls → CanTurn maker c q
  can_by rests is begins calls = absurd (let e : Calls ≡ Rests = sym calls ∙ begins.1 in cc)
  can_by (replies reply live store) is begins calls = absurd (let e : Calls ≡ Replies reply = sym calls ∙ begins.1 in cc)
  can_by (makes_step frame live) is begins calls = subst (CanTurn maker c) (sym begins.0) is.can

-- A call that has begun can make its first step.
pub begun_can : {P : Type 0} (maker : MakerTold) (modules : List ModuleAsked) (commands : List Command) (c : PoolCore P PlainHeap) (p q : RunningParty P) (left : Begun) → AreFit c.settings modules → CanTurn maker c p → IsIdle p.frame → length commands ≤ length p.live → BeginsFrom (OpensNext modules (slice_get commands p.done) p.keyed p) p q left → left ≡ Calls → CanTurn maker c q
begun_can maker modules commands c p q left fit can idle room from calls = can_by maker c p q left from.0 (next_opened maker c p can idle modules commands (slice_get commands p.done) p.keyed from.0 refl fit room from.1) from.2 calls

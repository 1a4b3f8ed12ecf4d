-- No turn of a party takes more instances or components than there may be: a request is admitted only where fewer are counted.
use Rattle.std.proofs.Common.{◌≡◌, ℕ, ◌+◌, ◌<◌, ◌≤◌, List, length, Option, Some, None, sym, ap, subst, inl, inr, arith, sum_by, slice_set, slice_index_or}
use Rattle.pool_run.proofs.Imports.{cases_lt, set_past, get_or_past, sum_by-set, objects_in, count_granted, grant_instances, grant_components, PoolCore, Frame, Grant, ModuleAsked, Outcome, MakerTold, stage_of, After, ListedHeaps, PlainHeap, Counts, counted_component, counted_instance, of_counts, only, grant_counted}
use Rattle.pool_alloc.specs.declared.frame.Outcome.TheVariants as answer
use Rattle.pool_run.specs.Limits.{admitted_at, admitted_to, live_components}
use Rattle.pool_run.specs.Ties.{granted_to, held_by_party, CanTurn}
use Rattle.pool_run.specs.Turns.{Turned, answered, Steps, Turns, Opening, rests, replies, makes_step, Leaves}
use Rattle.pool_run.specs.declared.command.Command.{Command}
use Rattle.pool_run.specs.declared.running_party.RunningParty.{RunningParty}
use Rattle.pool_run.proofs.Opened.{IsOpened, opened}
use Rattle.pool_run.specs.Rooms.{World}
use Rattle.pool_run.specs.Worlds.{AreCallsFor}
use Rattle.pool_run.proofs.StageSteps.{admitted_counts, Admits, admits, MayGrant, may_grant}
use Rattle.pool_run.proofs.Stepped.{IsStepped, stepped}
use Rattle.pool_run.proofs.Parties.{HaveSame, can_step}
use Rattle.pool_run.proofs.Weighed.{live_counts, held_counts}

module _ {P : Type 0} where
  -- A party has counted what it is admitted for.
  pub admitted_held : (p : RunningParty P) → admitted_to p ≤ held_by_party p (of_counts (only counted_instance))
  admitted_held p = omega (arith, admitted_counts p.frame.phase p.frame.asked p.frame.ending (objects_in p.frame.objects), held_counts (only counted_instance) p)

  -- A party that has the same has as much live, with the same frame.
  pub same_live : (n : Counts) (p : RunningParty P) (live : List (Option (Grant P PlainHeap))) → HaveSame p (record p { live = live }) → sum_by (granted_to (grant_counted n)) live ≡ sum_by (granted_to (grant_counted n)) p.live
  same_live n p live same = omega (arith, same (of_counts n), live_counts n live, live_counts n p.live)

  -- what live grants have, once there is another in one of their places
  replaced : (of : Grant P PlainHeap → ℕ) (live : List (Option (Grant P PlainHeap))) (i : ℕ) (o : Option (Grant P PlainHeap)) → sum_by (granted_to of) (slice_set live i o) + granted_to of (slice_index_or live i None) ≤ sum_by (granted_to of) live + granted_to of o
  replaced of live i o =
      elim (cases_lt i (length live)) [
        | inl inside ↦ omega (arith, sum_by-set (granted_to of) live i o None inside)
        | inr past ↦ omega (arith, ap (sum_by (granted_to of)) (set_past live i o past), ap (granted_to of) (get_or_past live i None past))
      ]

module _ {P : Type 0} where
  -- what the party's live instances and its call are then
  answered_within : (others most : ℕ) (c : PoolCore P PlainHeap) (p : RunningParty P) (f : Frame P PlainHeap) (o : Option (Outcome P PlainHeap)) → others + sum_by (granted_to grant_instances) p.live + (admitted_at (stage_of f) + count_granted grant_instances o) ≤ most → others + admitted_to (answered o c (record p { frame = f })).party ≤ most
  answered_within others most c p f None within = omega (arith, within)
  answered_within others most c p f (Some answer.Key) within = omega (arith, within)
  answered_within others most c p f (Some (answer.Granted grant)) within = omega (arith, within, replaced grant_instances p.live p.done (Some grant))
  answered_within others most c p f (Some answer.Returned) within = omega (arith, within)
  answered_within others most c p f (Some (answer.Purged n)) within = omega (arith, within)
  answered_within others most c p f (Some (answer.Released n)) within = omega (arith, within)
  answered_within others most c p f (Some (answer.Refused e)) within = omega (arith, within)

  -- A step of a call, where all that is admitted is counted.
  step_within : (maker : MakerTold) (others : ℕ) (c : PoolCore P PlainHeap) (p : RunningParty P) (t : Turned P) → CanTurn maker c p → Steps c p t → others + admitted_to p ≤ c.settings.max_core_instances → others + admitted_to p ≤ c.counters.core_instances → others + admitted_to t.party ≤ c.settings.max_core_instances
  step_within maker others c p t can steps within counted =
      let more : ℕ = others + sum_by (granted_to grant_instances) p.live in
      let a : After P PlainHeap = steps.0 in
      let on : IsStepped maker steps.1.0 steps.1.1 c p.frame a = stepped maker steps.1.0 steps.1.1 c p.frame a (can_step maker c p can) steps.1.3 in
      let T : Turned P → Type 0 = λ x. others + admitted_to x.party ≤ c.settings.max_core_instances in
      let after : Admits more c.settings.max_core_instances (stage_of a.frame) a.outcome =
      admits maker steps.1.0 steps.1.1 c p.frame more (stage_of p.frame) (stage_of a.frame) a.outcome on.goes.way (omega (arith, within)) (omega (arith, counted)) in
      subst T (sym steps.2) (answered_within others c.settings.max_core_instances a.core (record p { heaps = t.party.heaps }) a.frame a.outcome after.within)

-- a party whose turn it is, and what all others are admitted for
module _ {P : Type 0} (others : ℕ) (c : PoolCore P PlainHeap) (p : RunningParty P) (within : others + admitted_to p ≤ c.settings.max_core_instances) (counted : others + admitted_to p ≤ c.counters.core_instances) where
  -- what the party is admitted for after its turn may be
  abbrev pub StaysWithin : Turned P → Type 0
  StaysWithin t = others + admitted_to t.party ≤ c.settings.max_core_instances

  follows_within : (maker : MakerTold) (o : Opening P) (t : Turned P) → IsOpened maker c p o → Leaves o c p t → StaysWithin t
  follows_within maker rests t is follows = subst StaysWithin (sym follows) within
  follows_within maker (replies reply live store) t is follows = subst StaysWithin (sym follows) (omega (arith, within, same_live (only counted_instance) p live is.same))
  follows_within maker (makes_step frame live) t is follows = step_within maker others c (record p { frame = frame; live = live }) t is.can follows (omega (arith, is.admitted, within)) (omega (arith, is.admitted, counted))

  -- Each turn of a party.
  pub party_within : (w : World) (modules : List ModuleAsked) (commands : List Command) (t : Turned P) → AreCallsFor w.terms c.settings modules → CanTurn w.maker c p → length commands ≤ length p.live → Turns modules commands c p t → StaysWithin t
  party_within w modules commands t calls can room turns = follows_within w.maker turns.0 t (opened w.maker c p w.terms modules commands turns.0 calls can room turns.1) turns.2

-- how many components a party has live, once more may be granted to it
module _ {P : Type 0} (c : PoolCore P PlainHeap) (p : RunningParty P) where
  -- no more than before, or one more, where fewer are counted than there may be
  pub data MayHave (t : Turned P) : Type 0 where
    no_more : live_components t.party ≤ live_components p → MayHave t
    one_more : live_components t.party ≤ live_components p + 1 → c.counters.component_instances < c.settings.max_component_instances → MayHave t

  answered_components : (heaps : ListedHeaps) (d : PoolCore P PlainHeap) (f : Frame P PlainHeap) (live : List (Option (Grant P PlainHeap))) (o : Option (Outcome P PlainHeap)) → sum_by (granted_to grant_components) live ≤ live_components p → MayGrant c o → MayHave (answered o d (record p { frame = f; live = live; heaps = heaps }))
  answered_components heaps d f live None fewer may = no_more fewer
  answered_components heaps d f live (Some answer.Key) fewer may = no_more fewer
  answered_components heaps d f live (Some (answer.Granted grant)) fewer may =
      elim may [
        | inl none ↦ no_more (omega (arith, none, fewer, replaced grant_components live p.done (Some grant)))
        | inr some ↦ one_more (omega (arith, some.0, fewer, replaced grant_components live p.done (Some grant))) some.1
      ]
  answered_components heaps d f live (Some answer.Returned) fewer may = no_more fewer
  answered_components heaps d f live (Some (answer.Refused e)) fewer may = no_more fewer
  answered_components heaps d f live (Some (answer.Purged n)) fewer may = no_more fewer
  answered_components heaps d f live (Some (answer.Released n)) fewer may = no_more fewer

  follows_components : (maker : MakerTold) (o : Opening P) (t : Turned P) → IsOpened maker c p o → Leaves o c p t → MayHave t
  follows_components maker rests t is follows = subst MayHave (sym follows) (no_more (omega arith))
  follows_components maker (replies reply live store) t is follows = subst MayHave (sym follows) (no_more (omega (arith, same_live (only counted_component) p live is.same)))
  follows_components maker (makes_step frame live) t is follows =
      let a : After P PlainHeap = follows.0 in
      let q : RunningParty P = record p { frame = frame; live = live } in
      let on : IsStepped maker follows.1.0 follows.1.1 c frame a = stepped maker follows.1.0 follows.1.1 c frame a (can_step maker c q is.can) follows.1.3 in
      subst MayHave (sym follows.2) (answered_components t.party.heaps a.core a.frame live a.outcome is.components (may_grant maker follows.1.0 follows.1.1 c frame (stage_of frame) (stage_of a.frame) a.outcome on.goes.way))

  pub party_components : (w : World) (modules : List ModuleAsked) (commands : List Command) (t : Turned P) → AreCallsFor w.terms c.settings modules → CanTurn w.maker c p → length commands ≤ length p.live → Turns modules commands c p t → MayHave t
  party_components w modules commands t calls can room turns = follows_components w.maker turns.0 t (opened w.maker c p w.terms modules commands turns.0 calls can room turns.1) turns.2

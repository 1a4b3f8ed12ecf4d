-- What a turn leaves of a party and of the pool: what one loses comes to the other, and what is to come is still to come.
use Rattle.std.proofs.Common.{◌≡◌, ℕ, ◌+◌, ◌<◌, ◌≤◌, List, length, Option, Some, None, refl, sym, ap, ◌∙◌, subst, arith, true, slice_set, slice_index_or, sum_by}
use Rattle.pool_run.proofs.Imports.{MakerTold, objects_in, IsIdle, After, PoolCore, Frame, ModuleAsked, Grant, Outcome, Phase, ListedStore, length-set, get_or-set_other, sum_by-set, kept_count, count_granted, CanStep, Conserves, IsSameSize, IsSearchedAt, IsSearched, stage_at, stage_of, PlainHeap, Weight, away_weight, grant_weight}
use Rattle.pool_alloc.specs.declared.frame.Outcome.TheVariants as answer
use Rattle.pool_run.specs.Rooms.{World}
use Rattle.pool_run.specs.PartyRules.{host_of}
use Rattle.pool_run.specs.Turns.{Turned, host_of_party, one_step, ended_with, ended_at_once, answered, Steps, Turns, Opening, rests, replies, makes_step, Leaves}
use Rattle.pool_run.specs.Ties.{IsParty, IsSoundParty, CanTurn, is_asking, granted_to, held_by_party}
use Rattle.pool_run.proofs.Sounds.{reply_sound, step_sound, IsSoundTurn}
use Rattle.pool_run.specs.Worlds.{AreCallsFor}
use Rattle.pool_run.specs.declared.command.Command.{Command}
use Rattle.pool_run.specs.declared.reply.Reply.{Reply}
use Rattle.pool_run.specs.declared.reply.Reply.TheVariants.{Returned, Purged, Released, Refused}
use Rattle.pool_run.specs.declared.reply.Refusal.TheVariants.{Alloc}
use Rattle.pool_run.specs.declared.running_party.RunningParty.{RunningParty}
use Rattle.pool_run.proofs.Parties.{can_step, HaveSame}
use Rattle.pool_run.proofs.Opened.{IsOpened, opened}
use Rattle.pool_run.proofs.StageSteps.{IsStagedStep, settled_place}
use Rattle.pool_run.proofs.HeapCalls.{list_kept}
use Rattle.pool_run.proofs.Stepped.{IsStepped, stepped}

module _ {P : Type 0} where
  -- What the pool loses comes to the party, and the other way round. The pool has the same sizes, and the party as many
  -- places, of which those to come are empty, and one is there for what is asked for.
  pub record HasTurned (c : PoolCore P PlainHeap) (p : RunningParty P) (t : Turned P) : Type 0 where
    pub conserves : (w : Weight) → kept_count w.unit t.core + held_by_party t.party w + away_weight w c ≡ kept_count w.unit c + held_by_party p w + away_weight w t.core
    pub size : IsSameSize c t.core
    pub room : length t.party.live ≡ length p.live
    pub host : host_of_party t.party ≡ host_of_party p
    pub to_come : (k : ℕ) → t.party.done ≤ k → slice_index_or t.party.live k None ≡ None
    pub place : is_asking (stage_of t.party.frame) ≡ true → t.party.done < length t.party.live
    pub searched : IsSearched c p.frame → IsSearched t.core t.party.frame

  same_size : (c : PoolCore P PlainHeap) → IsSameSize c c
  same_size c = record { settings = refl; plan = refl }

  -- Nothing happened.
  stayed : (c : PoolCore P PlainHeap) (p : RunningParty P) → ((k : ℕ) → p.done ≤ k → slice_index_or p.live k None ≡ None) → (is_asking (stage_of p.frame) ≡ true → p.done < length p.live) → HasTurned c p (record { core = c; party = p; reply = None })
  stayed c p to_come place = record { conserves = λ w. refl; size = same_size c; room = refl; host = refl; to_come = to_come; place = place; searched = λ s. s }

  -- A command ended at once, and the party has the same of the pool.
  ended : (c : PoolCore P PlainHeap) (p : RunningParty P) (live : List (Option (Grant P PlainHeap))) (store : ListedStore) (reply : Reply) → HaveSame p (record p { live = live }) → length live ≡ length p.live → ((k : ℕ) → p.done ≤ k → slice_index_or live k None ≡ None) → IsIdle p.frame → store.failing ≡ p.store.failing → HasTurned c p (ended_at_once reply c (record p { live = live; store = store }))
  ended c p live store reply same room to_come idle listed = record {
    conserves = λ w. omega (arith, same w);
    size = same_size c;
    room = room;
    host = ap (λ (failing : List ℕ). host_of p.limits failing p.heaps.failing) listed;
    to_come = λ k behind. to_come k (omega (arith, behind));
    place = λ is. settled_place (stage_of p.frame) (ap (λ (phase : Phase P PlainHeap). stage_at phase p.frame.asked p.frame.ending (objects_in p.frame.objects)) idle) is;
    searched = λ s. let S : Phase P PlainHeap → Type 0 = λ phase. IsSearchedAt phase c (one_step p.frame) in subst S (sym idle) tt;
  }

  -- what the live grants have, once one more is granted
  more : (of : Grant P PlainHeap → ℕ) (live : List (Option (Grant P PlainHeap))) (i : ℕ) (grant : Grant P PlainHeap) → i < length live → slice_index_or live i None ≡ None → sum_by (granted_to of) (slice_set live i (Some grant)) ≡ sum_by (granted_to of) live + of grant
  more of live i grant inside none =
      let here : granted_to of (slice_index_or live i None) ≡ 0 = ap (granted_to of) none in
      omega (arith, sum_by-set (granted_to of) live i (Some grant) None inside)

  -- a call that ended with no grant
  told_turned : (reply : Reply) (o : Outcome P PlainHeap) (c : PoolCore P PlainHeap) (p : RunningParty P) (d : PoolCore P PlainHeap) (f : Frame P PlainHeap) → ((of : Grant P PlainHeap → ℕ) → count_granted of (Some o) ≡ 0) → ((k : ℕ) → p.done ≤ k → slice_index_or p.live k None ≡ None) → Conserves c p.frame (record { core = d; frame = f; outcome = Some o }) → IsSameSize c d → IsStagedStep (stage_of p.frame) (stage_of f) (Some o) → (IsSearched c p.frame → IsSearched d f) → HasTurned c p (ended_with reply d (record p { frame = f }))
  told_turned reply o c p d f none to_come b size staged after = record {
    conserves = λ w. omega (arith, b w, none (grant_weight w));
    size = size;
    room = refl;
    host = refl;
    to_come = λ k behind. to_come k (omega (arith, behind));
    place = λ is. settled_place (stage_of f) (staged.settled refl) is;
    searched = after;
  }

  answered_turned : (c : PoolCore P PlainHeap) (p : RunningParty P) (d : PoolCore P PlainHeap) (f : Frame P PlainHeap) (o : Option (Outcome P PlainHeap)) → ((k : ℕ) → p.done ≤ k → slice_index_or p.live k None ≡ None) → Conserves c p.frame (record { core = d; frame = f; outcome = o }) → IsSameSize c d → IsStagedStep (stage_of p.frame) (stage_of f) o → (is_asking (stage_of p.frame) ≡ true → p.done < length p.live) → (IsSearched c p.frame → IsSearched d f) → HasTurned c p (answered o d (record p { frame = f }))
  answered_turned c p d f None to_come b size staged place after = record {
    conserves = λ w. omega (arith, b w);
    size = size;
    room = refl;
    host = refl;
    to_come = to_come;
    place = λ is. place (staged.asking is);
    searched = after;
  }
  answered_turned c p d f (Some answer.Key) to_come b size staged place after = record {
    conserves = λ w. omega (arith, b w);
    size = size;
    room = refl;
    host = refl;
    to_come = to_come;
    place = λ is. settled_place (stage_of f) (staged.settled refl) is;
    searched = after;
  }
  answered_turned c p d f (Some (answer.Granted grant)) to_come b size staged place after =
      let none : slice_index_or p.live p.done None ≡ None = to_come p.done (omega arith) in
      record {
        conserves = λ w. omega (arith, b w, more (grant_weight w) p.live p.done grant (place staged.granted) none);
        size = size;
        room = length-set p.live p.done (Some grant);
        host = refl;
        to_come = λ k behind. get_or-set_other p.live p.done k (Some grant) None (λ is. omega (arith, is, behind)) ∙ to_come k (omega (arith, behind));
        place = λ is. settled_place (stage_of f) (staged.settled refl) is;
        searched = after;
      }
  answered_turned c p d f (Some answer.Returned) to_come b size staged place after = told_turned Returned answer.Returned c p d f (λ of. refl) to_come b size staged after
  answered_turned c p d f (Some (answer.Purged n)) to_come b size staged place after = told_turned (Purged n) (answer.Purged n) c p d f (λ of. refl) to_come b size staged after
  answered_turned c p d f (Some (answer.Released n)) to_come b size staged place after = told_turned (Released n) (answer.Released n) c p d f (λ of. refl) to_come b size staged after
  answered_turned c p d f (Some (answer.Refused e)) to_come b size staged place after = told_turned (Refused (Alloc e)) (answer.Refused e) c p d f (λ of. refl) to_come b size staged after

  -- The same from a party with as much of the pool.
  turned_from : (c : PoolCore P PlainHeap) (p q : RunningParty P) (t : Turned P) → HaveSame p q → length q.live ≡ length p.live → host_of_party q ≡ host_of_party p → (IsSearched c p.frame → IsSearched c q.frame) → HasTurned c q t → HasTurned c p t
  turned_from c p q t same room host searching turned = record {
    conserves = λ w. omega (arith, turned.conserves w, same w);
    size = turned.size;
    room = turned.room ∙ room;
    host = turned.host ∙ host;
    to_come = turned.to_come;
    place = turned.place;
    searched = λ s. turned.searched (searching s);
  }

  -- A step of the call under way, wherever it can be made. The maker of heaps keeps its list.
  pub step_turned : (maker : MakerTold) (c : PoolCore P PlainHeap) (p : RunningParty P) (t : Turned P) → CanStep maker c p.frame → IsParty maker c p → Steps c p t → HasTurned c p t
  step_turned maker c p t can party steps =
      let a : After P PlainHeap = steps.0 in
      let q : RunningParty P = record p { heaps = t.party.heaps } in
      let on : IsStepped maker steps.1.0 steps.1.1 c p.frame a = stepped maker steps.1.0 steps.1.1 c p.frame a can steps.1.3 in
      let same : HaveSame p q = (λ w. refl) in
      turned_from c p q t same refl (ap (host_of p.limits p.store.failing) (list_kept steps.1)) (λ s. s)
      (subst (HasTurned c q) (sym steps.2) (answered_turned c q a.core a.frame a.outcome party.to_come on.conserves on.size on.staged party.place on.searched))

  -- What it leaves is sound.
  pub step_left : (maker : MakerTold) (c : PoolCore P PlainHeap) (p : RunningParty P) (t : Turned P) → CanStep maker c p.frame → IsSoundParty maker c p → Steps c p t → IsSoundTurn maker t
  step_left maker c p t can has steps =
      let on : IsStepped maker steps.1.0 steps.1.1 c p.frame steps.0 = stepped maker steps.1.0 steps.1.1 c p.frame steps.0 can steps.1.3 in
      let sound : IsSoundParty maker c (record p { heaps = t.party.heaps }) = record { frame = has.frame; grants = has.grants } in
      subst (IsSoundTurn maker) (sym steps.2) (step_sound maker c (record p { heaps = t.party.heaps }) steps.0 sound on)

module _ {P : Type 0} (maker : MakerTold) (c : PoolCore P PlainHeap) (p : RunningParty P) (can : CanTurn maker c p) where
  pub follows_turned : (o : Opening P) (t : Turned P) → IsOpened maker c p o → Leaves o c p t → HasTurned c p t
  follows_turned rests t is follows = subst (HasTurned c p) (sym follows) (stayed c p can.party.to_come can.party.place)
  follows_turned (replies reply live store) t is follows = subst (HasTurned c p) (sym follows) (ended c p live store reply is.same is.room is.to_come is.idle is.listed)
  follows_turned (makes_step frame live) t is follows =
      let q : RunningParty P = record p { frame = frame; live = live } in
      turned_from c p q t is.same is.room refl is.searched (step_turned maker c q t (can_step maker c q is.can) is.can.party follows)

  -- What it leaves is sound.
  pub follows_sound : (o : Opening P) (t : Turned P) → IsOpened maker c p o → Leaves o c p t → IsSoundTurn maker t
  follows_sound rests t is leaves = subst (IsSoundTurn maker) (sym leaves) (record { core = can.core; party = can.party.sound })
  follows_sound (replies reply live store) t is leaves = subst (IsSoundTurn maker) (sym leaves) (reply_sound maker c (record p { live = live; store = store }) reply can.core is.idle (record { frame = is.sound.frame; grants = is.sound.grants }))
  follows_sound (makes_step frame live) t is leaves =
      let q : RunningParty P = record p { frame = frame; live = live } in
      step_left maker c q t (can_step maker c q is.can) is.can.party.sound leaves

module _ {P : Type 0} where
  -- What each turn of a party leaves.
  pub has_turned : (w : World) (modules : List ModuleAsked) (commands : List Command) (c : PoolCore P PlainHeap) (p : RunningParty P) (t : Turned P) → AreCallsFor w.terms c.settings modules → CanTurn w.maker c p → length commands ≤ length p.live → Turns modules commands c p t → HasTurned c p t
  has_turned w modules commands c p t calls can room turns = follows_turned w.maker c p can turns.0 t (opened w.maker c p w.terms modules commands turns.0 calls can room turns.1) turns.2

  pub turn_sound : (w : World) (modules : List ModuleAsked) (commands : List Command) (c : PoolCore P PlainHeap) (p : RunningParty P) (t : Turned P) → AreCallsFor w.terms c.settings modules → CanTurn w.maker c p → length commands ≤ length p.live → Turns modules commands c p t → IsSoundTurn w.maker t
  turn_sound w modules commands c p t calls can room turns = follows_sound w.maker c p can turns.0 t (opened w.maker c p w.terms modules commands turns.0 calls can room turns.1) turns.2

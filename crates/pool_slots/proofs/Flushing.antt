-- A flush: the decommits of all runs of ranges from the first on, up to the first that fails, and the return of the slots.
use Rattle.std.proofs.Common.{◌≡◌, ℕ, ◌+◌, ◌<◌, Bool, true, false, List, [], ◌∷◌, ◌++◌, length, refl, sym, ap, ◌∙◌, subst, inl, inr, arith, map, filter, not}
use Rattle.pool_slots.proofs.Imports.{AllZip, cases_Bool, append-nil, append_assoc, map-append, Count, Told, PageCall, decommitting, ByteRange, Follows, Slot, SlotIdentity, decommitted_all, follows_then}
use Rattle.pool_slots.specs.declared.queued_range.QueuedRange.{QueuedRange}
use Rattle.pool_slots.specs.declared.slot_name.SlotName.{SlotName}
use Rattle.pool_slots.specs.SlotQueues.{Queued, Queue, front, behind, same_slot, owner, is_of, ranges_of, HasOwners, change_at, first_slot, after_run_of, after_run, IsFaulted, IsLeftBy, IsSlotLeft, forgotten_slot, settle, settled}
use Rattle.pool_slots.specs.SlotOrders.{decommits, run_of, FollowsAt, AreInOrder}
use Rattle.pool_slots.specs.Flushes.{FollowsOwn, AreDecommitted, IsLostAt, AreLost, first_run}
use Rattle.pool_slots.proofs.Resets.{decommits_append, decommits_same}
use Rattle.pool_slots.proofs.SlotFaults.{forgotten_region}
use Rattle.pool_slots.proofs.SlotLists.{ranges_append, change_here, change_elsewhere, AreOwned}
use Rattle.pool_slots.proofs.SlotNames.{slot_is, slot_self}
use Rattle.pool_slots.proofs.SlotOrders.{follows_none}

-- the front of a list, and the rest
front_split : {X : Type 0} (p : X → Bool) (xs : List X) → front p xs ++ behind p xs ≡ xs
front_split p [] = refl
front_split p (x ∷ xs) =
    elim (cases_Bool (p x)) [
      | inl e ↦ rw e (ap (λ l. x ∷ l) (front_split p xs))
      | inr e ↦ rw e refl
    ]

filter_front : {X : Type 0} (p : X → Bool) (xs : List X) → filter p (front p xs) ≡ front p xs
filter_front p [] = refl
filter_front p (x ∷ xs) =
    elim (cases_Bool (p x)) [
      | inl e ↦ rw (e, e) (ap (λ l. x ∷ l) (filter_front p xs))
      | inr e ↦ rw e refl
    ]

filter_other : {X : Type 0} (p q : X → Bool) (xs : List X) → ((x : X) → p x ≡ true → q x ≡ false) → filter q (front p xs) ≡ []
filter_other p q [] apart = refl
filter_other p q (x ∷ xs) apart =
    elim (cases_Bool (p x)) [
      | inl e ↦ rw (e, apart x e) (filter_other p q xs apart)
      | inr e ↦ rw e refl
    ]

-- which ranges of a run are of a slot: all or none
run_here : (k slot : SlotName) (rs : List QueuedRange) → same_slot k slot ≡ true → ranges_of slot (front (is_of k) rs) ≡ run_of k rs
run_here k slot rs e =
    let f : QueuedRange → ByteRange = λ r. r.range in
    let F : SlotName → Type 0 = λ n. ranges_of n (front (is_of k) rs) ≡ run_of k rs in
    subst F (slot_is k slot e) (ap (map f) (filter_front (is_of k) rs))

run_elsewhere : (k slot : SlotName) (rs : List QueuedRange) → same_slot k slot ≡ false → ranges_of slot (front (is_of k) rs) ≡ []
run_elsewhere k slot rs e =
    let f : QueuedRange → ByteRange = λ r. r.range in
    ap (map f) (filter_other (is_of k) (is_of slot) rs (λ r of. ap (λ (n : SlotName). same_slot n slot) (slot_is (owner r) k of) ∙ e))

-- one run more is decommitted
settle_run : (k : SlotName) (done rs : List QueuedRange) (m : Queued) → change_at k (decommitted_all (run_of k rs)) (settle done m) ≡ settle (done ++ front (is_of k) rs) m
settle_run k done rs m =
    let run : List QueuedRange = front (is_of k) rs in
    let mine : List ByteRange = ranges_of m.name done in
    let all : ranges_of m.name (done ++ run) ≡ mine ++ ranges_of m.name run = ranges_append m.name done run in
    let S : List ByteRange → Queued = λ l. record m { slot = decommitted_all l m.slot } in
    elim (cases_Bool (same_slot k m.name)) [
      | inl e ↦
          change_here k (decommitted_all (run_of k rs)) (settle done m) e
          ∙ ap (λ (s : Slot). record m { slot = s }) (sym (decommits_append mine (run_of k rs) m.slot))
          ∙ ap S (sym (all ∙ ap (λ (l : List ByteRange). mine ++ l) (run_here k m.name rs e)))
      | inr e ↦
          change_elsewhere k (decommitted_all (run_of k rs)) (settle done m) e
          ∙ ap S (sym (all ∙ ap (λ (l : List ByteRange). mine ++ l) (run_elsewhere k m.name rs e) ∙ append-nil mine))
    ]

settle_runs : (k : SlotName) (done rs : List QueuedRange) (ms : List Queued) → map (change_at k (decommitted_all (run_of k rs))) (map (settle done) ms) ≡ map (settle (done ++ front (is_of k) rs)) ms
settle_runs k done rs [] = refl
settle_runs k done rs (m ∷ ms) = rw (settle_run k done rs m, settle_runs k done rs ms) refl

-- the calls of a slot's ranges, and then those of further ones
follows_more : (done more : List QueuedRange) (ok : Bool) (m p : Queued) → FollowsOwn done true m (settle done m) → FollowsOwn more ok (settle done m) p → FollowsOwn (done ++ more) ok m p
follows_more done more ok m p first rest =
    let n : Queued = settle done m in
    let mine : List ByteRange = ranges_of m.name done in
    let further : List ByteRange = ranges_of m.name more in
    let same = (decommits_same mine m.slot).same in
    let start : ℕ = m.slot.base.bytes in
    let call : ByteRange → PageCall = λ r. decommitting (start + r.start) r.len in
    let F : Count → Type 0 = λ b. Follows (decommits b.bytes further) ok n.slot.region p.slot.region in
    let G : List PageCall → Type 0 = λ l. Follows l ok m.slot.region p.slot.region in
    let all : decommits start (ranges_of m.name (done ++ more)) ≡ decommits start mine ++ decommits start further =
    ap (decommits start) (ranges_append m.name done more) ∙ map-append call mine further in
    subst G (sym all) (follows_then (decommits start mine) (decommits start further) ok m.slot.region n.slot.region p.slot.region (ap (λ (i : SlotIdentity). i.plan) same) first (subst F (ap (λ (i : SlotIdentity). i.base) same) rest))

-- the calls of a run are on its slot, and on no other
run_follows : (k : SlotName) (rs : List QueuedRange) (ok : Bool) (n p : Queued) → same_slot k n.name ≡ true → FollowsAt k (run_of k rs) ok n p → FollowsOwn (front (is_of k) rs) ok n p
run_follows k rs ok n p e at =
    let C : List ByteRange → Type 0 = λ l. Follows (decommits n.slot.base.bytes l) ok n.slot.region p.slot.region in
    subst C (sym (run_here k n.name rs e)) (at (sym (slot_is k n.name e)))

other_follows : (k : SlotName) (rs : List QueuedRange) (n p : Queued) → same_slot k n.name ≡ false → p.slot.region ≡ n.slot.region → FollowsOwn (front (is_of k) rs) true n p
other_follows k rs n p e same =
    let C : List ByteRange → Type 0 = λ l. Follows (decommits n.slot.base.bytes l) true n.slot.region p.slot.region in
    let D : Told → Type 0 = λ t. Follows [] true n.slot.region t in
    subst C (sym (run_elsewhere k n.name rs e)) (subst D (sym same) (follows_none n.slot.region))

one_follows : (k : SlotName) (rs : List QueuedRange) (n : Queued) → FollowsAt k (run_of k rs) true n (change_at k (decommitted_all (run_of k rs)) n) → FollowsOwn (front (is_of k) rs) true n (change_at k (decommitted_all (run_of k rs)) n)
one_follows k rs n at =
    let p : Queued = change_at k (decommitted_all (run_of k rs)) n in
    elim (cases_Bool (same_slot k n.name)) [
      | inl e ↦ run_follows k rs true n p e at
      | inr e ↦ other_follows k rs n p e (ap (λ (x : Queued). x.slot.region) (change_elsewhere k (decommitted_all (run_of k rs)) n e))
    ]

follows_next : (k : SlotName) (done rs : List QueuedRange) (ms : List Queued) → AllZip (FollowsOwn done true) ms (map (settle done) ms) → AreInOrder k (run_of k rs) true (map (settle done) ms) (map (change_at k (decommitted_all (run_of k rs))) (map (settle done) ms)) → AllZip (FollowsOwn (done ++ front (is_of k) rs) true) ms (map (settle (done ++ front (is_of k) rs)) ms)
follows_next k done rs [] before now = tt
follows_next k done rs (m ∷ ms) before now =
    let n : Queued = settle done m in
    let p : Queued = change_at k (decommitted_all (run_of k rs)) n in
    let S : Queued → Type 0 = λ x. FollowsOwn (done ++ front (is_of k) rs) true m x in
    (subst S (settle_run k done rs m) (follows_more done (front (is_of k) rs) true m p before.0 (one_follows k rs n now.0)), follows_next k done rs ms before.1 now.1)

-- nothing was done yet
nothing_follows : (ms : List Queued) → AllZip (FollowsOwn [] true) ms (map (settle []) ms)
nothing_follows [] = tt
nothing_follows (m ∷ ms) = (follows_none m.slot.region, nothing_follows ms)

nothing_done : (ms : List Queued) → map (settle []) ms ≡ ms
nothing_done [] = refl
nothing_done (m ∷ ms) = ap (λ (l : List Queued). m ∷ l) (nothing_done ms)

-- A flush under way: the ranges so far were decommitted, and the others are left.
pub record IsFlushing (old now : Queue) : Type 0 where
  pub done : List QueuedRange
  pub split : old.ranges ≡ done ++ now.ranges
  pub slots : now.slots ≡ map (settle done) old.slots
  pub order : AllZip (FollowsOwn done true) old.slots (map (settle done) old.slots)
  pub owned : HasOwners now
  pub range_room : now.range_room ≡ old.range_room
  pub slot_room : now.slot_room ≡ old.slot_room
  pub takes : now.takes ≡ old.takes
  pub appended : now.appended ≡ old.appended

pub flush_begins : (q : Queue) → HasOwners q → IsFlushing q q
flush_begins q owned =
    record {
      done = [];
      split = refl;
      slots = sym (nothing_done q.slots);
      order = nothing_follows q.slots;
      owned = owned;
      range_room = refl;
      slot_room = refl;
      takes = refl;
      appended = refl;
    }

step_of : (k : SlotName) (old now : Queue) → IsFlushing old now → HasOwners (after_run_of k now) → AreInOrder k (run_of k now.ranges) true now.slots (after_run_of k now).slots → IsFlushing old (after_run_of k now)
step_of k old now flushing owned order =
    let done : List QueuedRange = flushing.done in
    let run : List QueuedRange = front (is_of k) now.ranges in
    let rest : List QueuedRange = behind (is_of k) now.ranges in
    let change : Queued → Queued = change_at k (decommitted_all (run_of k now.ranges)) in
    let O : List Queued → Type 0 = λ ms. AreInOrder k (run_of k now.ranges) true ms (map change ms) in
    record {
      done = done ++ run;
      split = flushing.split ∙ ap (λ (l : List QueuedRange). done ++ l) (sym (front_split (is_of k) now.ranges)) ∙ sym (append_assoc done run rest);
      slots = ap (map change) flushing.slots ∙ settle_runs k done now.ranges old.slots;
      order = follows_next k done now.ranges old.slots flushing.order (subst O flushing.slots order);
      owned = owned;
      range_room = flushing.range_room;
      slot_room = flushing.slot_room;
      takes = flushing.takes;
      appended = flushing.appended;
    }

pub flush_step : (old now new : Queue) → IsFlushing old now → new ≡ after_run now → HasOwners new → AreInOrder (first_slot now.ranges) (run_of (first_slot now.ranges) now.ranges) true now.slots new.slots → IsFlushing old new
flush_step old now new flushing is owned order =
    let k : SlotName = first_slot now.ranges in
    let F : Queue → Type 0 = λ q. IsFlushing old q in
    let H : Queue → Type 0 = λ q. HasOwners q in
    let O : Queue → Type 0 = λ q. AreInOrder k (run_of k now.ranges) true now.slots q.slots in
    subst F (sym is) (step_of k old now flushing (subst H is owned) (subst O is order))

behind_fewer : {X : Type 0} (p : X → Bool) (xs : List X) → length (behind p xs) < length xs + 1
behind_fewer p [] = omega arith
behind_fewer p (x ∷ xs) =
    let r = behind_fewer p xs in
    elim (cases_Bool (p x)) [
      | inl e ↦ rw e (omega (arith, r))
      | inr e ↦ rw e (omega arith)
    ]

smaller_of : (ranges : List QueuedRange) → 0 < length ranges → length (behind (is_of (first_slot ranges)) ranges) < length ranges
smaller_of [] some = absurd (omega arith)
smaller_of (r ∷ rs) some =
    let fewer = behind_fewer (is_of (owner r)) rs in
    rw (slot_self (owner r)) (omega (arith, fewer))

pub flush_smaller : (now new : Queue) → 0 < length now.ranges → new ≡ after_run now → length new.ranges < length now.ranges
flush_smaller now new some is = rw is (smaller_of now.ranges some)

-- all ranges were decommitted
pub flush_over : (old now : Queue) → IsFlushing old now → now.ranges ≡ [] → AreDecommitted old now.slots
flush_over old now flushing none =
    let all : flushing.done ≡ old.ranges = sym (flushing.split ∙ ap (λ (l : List QueuedRange). flushing.done ++ l) none ∙ append-nil flushing.done) in
    let slots : now.slots ≡ settled old = flushing.slots ∙ ap (λ (l : List QueuedRange). map (settle l) old.slots) all in
    let D : List QueuedRange → Type 0 = λ l. AllZip (FollowsOwn l true) old.slots (map (settle l) old.slots) in
    let E : List Queued → Type 0 = λ l. AllZip (FollowsOwn old.ranges true) old.slots l in
    record { slots = slots; order = subst E (sym slots) (subst D all flushing.order) }

drained_of : (old now : Queue) → now.ranges ≡ [] → now.range_room ≡ old.range_room → now.slot_room ≡ old.slot_room → now.takes ≡ old.takes → now.appended ≡ old.appended → now ≡ record old { ranges = []; slots = now.slots }
drained_of old now none ranges slots takes appended =
    λ i. record { ranges = none i; slots = now.slots; range_room = ranges i; slot_room = slots i; takes = takes i; appended = appended i }

pub flush_same : (old now : Queue) → IsFlushing old now → now.ranges ≡ [] → now ≡ record old { ranges = []; slots = now.slots }
flush_same old now flushing none = drained_of old now none flushing.range_room flushing.slot_room flushing.takes flushing.appended

pub fault_same : (old now new : Queue) → IsFlushing old now → IsFaulted now new → new ≡ record old { ranges = []; slots = new.slots }
fault_same old now new flushing fault = drained_of old new fault.ranges (fault.range_room ∙ flushing.range_room) (fault.slot_room ∙ flushing.slot_room) (fault.takes ∙ flushing.takes) (fault.appended ∙ flushing.appended)

-- one failed
lost_follows : (k : SlotName) (b : Bool) (rs : List QueuedRange) (n p : Queued) → same_slot k n.name ≡ b → IsLeftBy k n p → FollowsAt k (run_of k rs) false n p → FollowsOwn (front (is_of k) rs) (not b) n p
lost_follows k true rs n p e left at = run_follows k rs false n p e at
lost_follows k false rs n p e left at =
    let B : Bool → Type 0 = λ b. IsSlotLeft b (forgotten_slot n.name.kind n.slot) p.slot in
    let same : p.slot ≡ forgotten_slot n.name.kind n.slot = subst B e left.slot in
    other_follows k rs n p e (ap (λ (s : Slot). s.region) same ∙ forgotten_region n.name.kind n.slot)

lost_after : (done rs : List QueuedRange) (ms ps : List Queued) → AllZip (FollowsOwn done true) ms (map (settle done) ms) → AllZip (IsLeftBy (first_slot rs)) (map (settle done) ms) ps → AreInOrder (first_slot rs) (run_of (first_slot rs) rs) false (map (settle done) ms) ps → AllZip (IsLostAt done rs) ms ps
lost_after done rs [] [] before left order = tt
lost_after done rs [] (p ∷ ps) before left order = absurd left
lost_after done rs (m ∷ ms) [] before left order = absurd left
lost_after done rs (m ∷ ms) (p ∷ ps) before left order =
    let k : SlotName = first_slot rs in
    let here : IsLostAt done rs m p =
    record {
      left = left.0;
      order = follows_more done (first_run rs) (not (same_slot k m.name)) m p before.0 (lost_follows k (same_slot k m.name) rs (settle done m) p refl left.0 order.0);
    } in
    (here, lost_after done rs ms ps before.1 left.1 order.1)

pub flush_failed : (old now new : Queue) → IsFlushing old now → 0 < length now.ranges → IsFaulted now new → AreInOrder (first_slot now.ranges) (run_of (first_slot now.ranges) now.ranges) false now.slots new.slots → AreLost old new.slots
flush_failed old now new flushing some fault order =
    let k : SlotName = first_slot now.ranges in
    let L : List Queued → Type 0 = λ ms. AllZip (IsLeftBy k) ms new.slots in
    let O : List Queued → Type 0 = λ ms. AreInOrder k (run_of k now.ranges) false ms new.slots in
    record {
      done = flushing.done;
      others = now.ranges;
      split = flushing.split;
      some = some;
      slots = lost_after flushing.done now.ranges old.slots new.slots flushing.order (subst L flushing.slots fault.slots) (subst O flushing.slots order);
    }

pub no_ranges : (ranges : List QueuedRange) → (0 < length ranges → ⊥) → ranges ≡ []
no_ranges [] none = refl
no_ranges (r ∷ rs) none = absurd (none (omega arith))

-- Runs of ranges of one slot.
use Rattle.std.proofs.Common.{◌≡◌, ℕ, ◌+◌, ◌<◌, Bool, true, false, List, [], ◌∷◌, length, get_or, refl, sym, ap, ◌∙◌, subst, inl, inr, arith, map}
use Rattle.pool_slots.proofs.Imports.{AllZip, HoldsAt, cases_Bool, length-map, get_or-map, decommitting, SlotKind, ByteRange, Slot, decommitted_all, IsLike, like_self}
use Rattle.pool_hall.specs.declared.unit_name.SlotKind.TheVariants as of_slot
use Rattle.pool_slots.specs.declared.queued_range.QueuedRange.{QueuedRange}
use Rattle.pool_slots.specs.declared.slot_name.SlotName.{SlotName}
use Rattle.pool_slots.specs.SlotQueues.{front, behind, decommitted_at, IsSlotLeft, Queued, Queue, same_slot, owner, is_of, holds, HasOwners, change_at, first_slot, after_run_of, IsFaulted, IsLeftBy, forgotten_slot}
use Rattle.pool_slots.specs.SlotSteps.{begins_with, after_first_of, after_first}
use Rattle.pool_slots.proofs.Lists.{zip_same, zip_both, zip_map}
use Rattle.pool_slots.proofs.Resets.{like_called, left_after}
use Rattle.pool_slots.proofs.SlotLists.{change_name, change_here, change_elsewhere, AreOwned}
use Rattle.pool_slots.proofs.SlotNames.{slot_is}
use Rattle.pool_slots.proofs.SlotSteps.{owners_first}

change_twice : (k : SlotName) (f g : Slot → Slot) (m : Queued) → change_at k f (change_at k g m) ≡ change_at k (λ s. f (g s)) m
change_twice k f g m =
    elim (cases_Bool (same_slot k m.name)) [
      | inl e ↦
          ap (change_at k f) (change_here k g m e)
          ∙ change_here k f (record m { slot = g m.slot }) e
          ∙ sym (change_here k (λ s. f (g s)) m e)
      | inr e ↦
          ap (change_at k f) (change_elsewhere k g m e)
          ∙ change_elsewhere k f m e
          ∙ sym (change_elsewhere k (λ s. f (g s)) m e)
    ]

changes_twice : (k : SlotName) (f g : Slot → Slot) (ms : List Queued) → map (change_at k f) (map (change_at k g) ms) ≡ map (change_at k (λ s. f (g s))) ms
changes_twice k f g [] = refl
changes_twice k f g (m ∷ ms) = rw (change_twice k f g m, changes_twice k f g ms) refl

no_change : (k : SlotName) (m : Queued) → change_at k (λ s. s) m ≡ m
no_change k m =
    elim (cases_Bool (same_slot k m.name)) [
      | inl e ↦ change_here k (λ s. s) m e
      | inr e ↦ change_elsewhere k (λ s. s) m e
    ]

no_changes : (k : SlotName) (ms : List Queued) → map (change_at k (λ s. s)) ms ≡ ms
no_changes k [] = refl
no_changes k (m ∷ ms) = rw (no_change k m, no_changes k ms) refl

-- the first range of a run, and the rest of it
pub run_next : (k : SlotName) (r : QueuedRange) (rs : List QueuedRange) (q : Queue) → is_of k r ≡ true → after_run_of k (after_first_of (r ∷ rs) q) ≡ after_run_of k (record q { ranges = r ∷ rs })
run_next k r rs q e =
    let done : List ByteRange = map (λ r. r.range) (front (is_of k) rs) in
    let f : SlotName → Queued → Queued = λ n. change_at n (decommitted_at r.range) in
    let memories : map (change_at k (decommitted_all done)) (map (f (owner r)) q.slots) ≡ map (change_at k (decommitted_all (r.range ∷ done))) q.slots =
    ap (λ (n : SlotName). map (change_at k (decommitted_all done)) (map (f n) q.slots)) (slot_is (owner r) k e)
    ∙ changes_twice k (decommitted_all done) (decommitted_at r.range) q.slots in
    ap (λ (l : List Queued). record q { ranges = behind (is_of k) rs; slots = l }) memories
    ∙ sym (rw e refl)

run_end_of : (k : SlotName) (ranges : List QueuedRange) (q : Queue) → begins_with k ranges ≡ false → after_run_of k (record q { ranges = ranges }) ≡ record q { ranges = ranges }
run_end_of k [] q e = ap (λ (l : List Queued). record q { ranges = []; slots = l }) (no_changes k q.slots)
run_end_of k (r ∷ rs) q e =
    let memories : map (change_at k (λ s. s)) q.slots ≡ q.slots = no_changes k q.slots in
    rw (e, memories) refl

-- nothing is done where no run begins
pub run_end : (k : SlotName) (q : Queue) → begins_with k q.ranges ≡ false → after_run_of k q ≡ q
run_end k q e = run_end_of k q.ranges q e

-- decommits of the slot with this number succeeded
pub record IsKeptBy (k : SlotName) (old new : Queued) : Type 0 where
  pub same : new ≡ record old { slot = new.slot }
  pub slot : IsLike old.slot new.slot
  pub other : same_slot k old.name ≡ false → new.slot ≡ old.slot

pub kept_by_self : (k : SlotName) (m : Queued) → IsKeptBy k m m
kept_by_self k m = record { same = refl; slot = like_self m.slot; other = λ _. refl }

-- one range more is decommitted
kept_name : (k : SlotName) (m n : Queued) → IsKeptBy k m n → n.name ≡ m.name
kept_name k m n kept = ap (λ (x : Queued). x.name) kept.same

pub kept_more : (k : SlotName) (r : ByteRange) (m n : Queued) → IsKeptBy k m n → IsKeptBy k m (change_at k (decommitted_at r) n)
kept_more k r m n kept =
    let P : Queued → Type 0 = λ x. IsKeptBy k m x in
    elim (cases_Bool (same_slot k n.name)) [
      | inl e ↦
          let mine : same_slot k m.name ≡ true = ap (λ (i : SlotName). same_slot k i) (sym (kept_name k m n kept)) ∙ e in
          let t : Slot = decommitted_at r n.slot in
          subst P (sym (change_here k (decommitted_at r) n e)) (record {
            same = ap (λ (x : Queued). record x { slot = t }) kept.same;
            slot = like_called m.slot n.slot (decommitting (n.slot.base.bytes + r.start) r.len) kept.slot;
            other = λ no. absurd (cc (mine, no));
          })
      | inr e ↦ subst P (sym (change_elsewhere k (decommitted_at r) n e)) kept
    ]

slot_left : (b : Bool) (s t u : Slot) → IsLike s t → (b ≡ false → t ≡ s) → IsSlotLeft b t u → IsSlotLeft b s u
slot_left true s t u kept other left = left_after s t u kept left
slot_left false s t u kept other left = left ∙ other refl

like_forgotten : (kind : SlotKind) (s t : Slot) → IsLike s t → IsLike (forgotten_slot kind s) (forgotten_slot kind t)
like_forgotten of_slot.Memory s t like = record { same = like.same; faults = like.faults }
like_forgotten of_slot.Table s t like = like
like_forgotten of_slot.Stack s t like = like
like_forgotten of_slot.Heap s t like = like

-- a fault after some decommits of the same run is one of the whole run
pub left_by : (k : SlotName) (m n p : Queued) → IsKeptBy k m n → IsLeftBy k n p → IsLeftBy k m p
left_by k m n p kept left =
    let kind : SlotKind = m.name.kind in
    let S : SlotName → Type 0 = λ i. IsSlotLeft (same_slot k i) (forgotten_slot i.kind n.slot) p.slot in
    record {
      same = left.same ∙ ap (λ (x : Queued). record x { slot = forgotten_slot x.name.kind p.slot; known = false }) kept.same;
      slot = slot_left (same_slot k m.name) (forgotten_slot kind m.slot) (forgotten_slot kind n.slot) p.slot (like_forgotten kind m.slot n.slot kept.slot) (λ other. ap (forgotten_slot kind) (kept.other other)) (subst S (kept_name k m n kept) left.slot);
    }

-- A run under way: what is left of it leads to the same queue, and only the slot at this place has changed.
pub record IsRunning (k : SlotName) (i : ℕ) (old now : Queue) : Type 0 where
  pub rest : after_run_of k now ≡ after_run_of k old
  pub owned : HasOwners now
  pub inside : i < length now.slots
  pub name : HoldsAt (λ m. m.name ≡ k) now.slots i
  pub kept : AllZip (IsKeptBy k) old.slots now.slots
  pub range_room : now.range_room ≡ old.range_room
  pub slot_room : now.slot_room ≡ old.slot_room
  pub takes : now.takes ≡ old.takes
  pub appended : now.appended ≡ old.appended

pub run_begins : (k : SlotName) (i : ℕ) (q : Queue) → HasOwners q → i < length q.slots → HoldsAt (λ m. m.name ≡ k) q.slots i → IsRunning k i q q
run_begins k i q owned inside index =
    record {
      rest = refl;
      owned = owned;
      inside = inside;
      name = index;
      kept = zip_same (IsKeptBy k) q.slots (kept_by_self k);
      range_room = refl;
      slot_room = refl;
      takes = refl;
      appended = refl;
    }

run_step_of : (k : SlotName) (i : ℕ) (old now : Queue) (ranges : List QueuedRange) → IsRunning k i old (record now { ranges = ranges }) → begins_with k ranges ≡ true → IsRunning k i old (after_first_of ranges now)
run_step_of k i old now [] running begins = absurd cc
run_step_of k i old now (r ∷ rs) running begins =
    let f : Queued → Queued = change_at (owner r) (decommitted_at r.range) in
    let same : owner r ≡ k = slot_is (owner r) k begins in
    let K : SlotName → Type 0 = λ n. AllZip (IsKeptBy k) old.slots (map (change_at n (decommitted_at r.range)) now.slots) in
    record {
      rest = run_next k r rs now begins ∙ running.rest;
      owned = owners_first r rs now running.owned;
      inside = omega (arith, running.inside, length-map now.slots f);
      name = λ d. ap (λ (m : Queued). m.name) (get_or-map f now.slots i d d running.inside) ∙ change_name (owner r) (decommitted_at r.range) (get_or now.slots i d) ∙ running.name d;
      kept = subst K (sym same) (zip_map (IsKeptBy k) (IsKeptBy k) (change_at k (decommitted_at r.range)) old.slots now.slots (kept_more k r.range) running.kept);
      range_room = running.range_room;
      slot_room = running.slot_room;
      takes = running.takes;
      appended = running.appended;
    }

pub run_step : (k : SlotName) (i : ℕ) (old now new : Queue) → IsRunning k i old now → begins_with k now.ranges ≡ true → new ≡ after_first now → IsRunning k i old new
run_step k i old now new running begins is =
    let R : Queue → Type 0 = λ q. IsRunning k i old q in
    subst R (sym is) (run_step_of k i old now now.ranges running begins)

pub run_over : (k : SlotName) (i : ℕ) (old now : Queue) → IsRunning k i old now → begins_with k now.ranges ≡ false → now ≡ after_run_of k old
run_over k i old now running ends = sym (run_end k now ends) ∙ running.rest

begins_some : (k : SlotName) (ranges : List QueuedRange) → begins_with k ranges ≡ true → (0 < length ranges) × (first_slot ranges ≡ k)
begins_some k [] begins = absurd cc
begins_some k (r ∷ rs) begins = (omega arith, slot_is (owner r) k begins)

-- a fault in a run under way is one of the whole run
pub run_faulted : (k : SlotName) (i : ℕ) (old now new : Queue) → IsRunning k i old now → begins_with k now.ranges ≡ true → first_slot old.ranges ≡ k → IsFaulted now new → IsFaulted old new
run_faulted k i old now new running begins first fault =
    let here : first_slot now.ranges ≡ k = (begins_some k now.ranges begins).1 in
    let L : SlotName → Type 0 = λ n. AllZip (IsLeftBy n) now.slots new.slots in
    let M : SlotName → Type 0 = λ n. AllZip (IsLeftBy n) old.slots new.slots in
    record {
      ranges = fault.ranges;
      slots = subst M (sym first) (zip_both (IsKeptBy k) (IsLeftBy k) (IsLeftBy k) old.slots now.slots new.slots (left_by k) running.kept (subst L here fault.slots));
      sound = fault.sound;
      range_room = fault.range_room ∙ running.range_room;
      slot_room = fault.slot_room ∙ running.slot_room;
      takes = fault.takes ∙ running.takes;
      appended = fault.appended ∙ running.appended;
    }

-- no range is left after a fault
pub faulted_owned : (old new : Queue) → IsFaulted old new → HasOwners new
faulted_owned old new fault =
    let O : List QueuedRange → Type 0 = λ l. AreOwned l new.slots in
    subst O (sym fault.ranges) tt

-- a queue without slots has no ranges
pub no_slots : (ranges : List QueuedRange) (ms : List Queued) → ms ≡ [] → AreOwned ranges ms → ranges ≡ []
no_slots [] ms none owned = refl
no_slots (r ∷ rs) ms none owned =
    let H : List Queued → Type 0 = λ l. holds (owner r) l ≡ true in
    let unheld : false ≡ true = subst H none owned.0 in
    absurd cc

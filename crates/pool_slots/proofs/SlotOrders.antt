-- The decommits of a run in their order: those of its ranges, one after the other.
use Rattle.std.proofs.Common.{◌≡◌, ℕ, zero, suc, ◌+◌, ◌<◌, Bool, true, false, List, [], ◌∷◌, length, get_or, refl, sym, ap, ◌∙◌, subst, arith, Option, Some, None, map, slice_set, if◌then◌else◌, IfSome}
use Rattle.pool_slots.proofs.Imports.{AllZip, HoldsAt, or_parts, true≢false, IfSome_then, Told, PageCall, succeeded, passes, decommitting, SlotIdentity, Follows, failed, outcome, ByteRange, follows_then}
use Rattle.pool_slots.specs.declared.queued_range.QueuedRange.{QueuedRange}
use Rattle.pool_slots.specs.declared.slot_name.SlotName.{SlotName}
use Rattle.pool_slots.specs.SlotQueues.{decommitted_at, Queued, Queue, same_slot, owner, is_of, holds, AreDistinct, IsQueue, change_at, first_slot, forgotten}
use Rattle.pool_slots.specs.SlotOrders.{decommits, run_of, first_of, FollowsAt, AreInOrder}
use Rattle.pool_slots.specs.SlotSteps.{begins_with, after_first_of, after_first}
use Rattle.pool_slots.proofs.Lists.{zip_and, zip_weaker, zip_same, zip_both, zip_map}
use Rattle.pool_slots.proofs.SlotFaults.{forgotten_region}
use Rattle.pool_slots.proofs.SlotLists.{apart_of_unheld}
use Rattle.pool_slots.proofs.SlotNames.{slot_is, slot_not, slots_apart}
use Rattle.pool_slots.proofs.SlotRuns.{IsKeptBy, kept_by_self, kept_more}

-- no calls at all
none_told : (plan : Option (List ℕ)) (t : Told) → IfSome plan (λ p. ◌≡◌ {A = Bool × Told} (true, t) (true, t))
none_told None t = tt
none_told (Some p) t = refl

-- a first call that fails is the last
fault_ends : (b : Bool) (new : Told) (one all end : Bool × Told) → one.0 ≡ true → ◌≡◌ {A = Bool × Told} (false, new) (if b then one else end) → ◌≡◌ {A = Bool × Told} (false, new) (if b then all else end)
fault_ends true new one all end ok e = absurd (true≢false (sym ok ∙ sym (ap (λ (p : Bool × Told). p.0) e)))
fault_ends false new one all end ok e = e

pub follows_none : (t : Told) → Follows [] true t t
follows_none t = none_told t.plan t

pub follows_failed : (x : PageCall) (ys : List PageCall) (old new : Told) → Follows (x ∷ []) false old new → Follows (x ∷ ys) false old new
follows_failed x ys old new first =
    IfSome_then old.plan first (λ plan e. fault_ends (passes plan x old) new (true, succeeded x old) (outcome plan ys (succeeded x old)) (false, failed x old) refl e)

-- The slot at a place is the only one with its name.
order_other : (k : SlotName) (ranges : List ByteRange) (ok : Bool) (m : Queued) → same_slot k m.name ≡ false → FollowsAt k ranges ok m m
order_other k ranges ok m other e = absurd (slots_apart k m.name other (sym e))

order_rest : (k : SlotName) (ranges : List ByteRange) (ok : Bool) (ms : List Queued) → holds k ms ≡ false → AreInOrder k ranges ok ms ms
order_rest k ranges ok [] free = tt
order_rest k ranges ok (m ∷ ms) free = (order_other k ranges ok m (apart_of_unheld k (m ∷ ms) zero m (omega arith) free), order_rest k ranges ok ms (or_parts (same_slot k m.name) (holds k ms) free).1)

order_at : (k : SlotName) (ranges : List ByteRange) (ok : Bool) (ms : List Queued) (i : ℕ) (d x : Queued) → i < length ms → AreDistinct ms → (get_or ms i d).name ≡ k → Follows (decommits (get_or ms i d).slot.base.bytes ranges) ok (get_or ms i d).slot.region (get_or (slice_set ms i x) i d).slot.region → AreInOrder k ranges ok ms (slice_set ms i x)
order_at k ranges ok [] i d x inside distinct e follows = absurd (omega arith)
order_at k ranges ok (m ∷ ms) zero d x inside distinct e follows =
    let H : SlotName → Type 0 = λ n. holds n ms ≡ false in
    (λ _. follows, order_rest k ranges ok ms (subst H e distinct.0))
order_at k ranges ok (m ∷ ms) (suc i) d x inside distinct e follows =
    let under : i < length ms = omega arith in
    let apart : same_slot m.name k ≡ false = ap (λ (n : SlotName). same_slot m.name n) (sym e) ∙ apart_of_unheld m.name ms i d under distinct.0 in
    let other : same_slot k m.name ≡ false = slot_not k m.name (λ same. slots_apart m.name k apart (sym same)) in
    (order_other k ranges ok m other, order_at k ranges ok ms i d x under distinct.1 e follows)

-- The first range is decommitted at the place of its slot.
order_set : (ms : List Queued) (r : QueuedRange) (i : ℕ) (ok : Bool) (new : List Queued) → i < length ms → AreDistinct ms → HoldsAt (λ m. is_of m.name r ≡ true) ms i → ((d : Queued) → (x : Queued) × (new ≡ slice_set ms i x)) → HoldsAt (λ m. HoldsAt (λ n. Follows (decommits m.slot.base.bytes (r.range ∷ [])) ok m.slot.region n.slot.region) new i) ms i → AreInOrder (owner r) (r.range ∷ []) ok ms new
order_set [] r i ok new inside distinct of set follows = absurd (omega arith)
order_set (m ∷ ms) r i ok new inside distinct of set follows =
    let all : List Queued = m ∷ ms in
    let here : Queued = get_or all i m in
    let w = set m in
    let F : List Queued → Type 0 = λ l. Follows (decommits here.slot.base.bytes (r.range ∷ [])) ok here.slot.region (get_or l i m).slot.region in
    let Z : List Queued → Type 0 = λ l. AreInOrder (owner r) (r.range ∷ []) ok all l in
    subst Z (sym w.1) (order_at (owner r) (r.range ∷ []) ok all i m w.0 inside distinct (sym (slot_is (owner r) here.name (of m))) (subst F w.1 (follows m m)))

pub order_first : (q : Queue) (r : QueuedRange) (rs : List QueuedRange) (i : ℕ) (ok : Bool) (new : List Queued) → IsQueue q → q.ranges ≡ r ∷ rs → i < length q.slots → HoldsAt (λ m. begins_with m.name q.ranges ≡ true) q.slots i → ((d : Queued) → (x : Queued) × (new ≡ slice_set q.slots i x)) → HoldsAt (λ m. HoldsAt (λ n. Follows (decommits m.slot.base.bytes (r.range ∷ [])) ok m.slot.region n.slot.region) new i) q.slots i → AreInOrder (first_slot q.ranges) (first_of q.ranges) ok q.slots new
order_first q r rs i ok new is e inside begins set follows =
    let B : List QueuedRange → Type 0 = λ l. HoldsAt (λ m. begins_with m.name l ≡ true) q.slots i in
    let Z : List QueuedRange → Type 0 = λ l. AreInOrder (first_slot l) (first_of l) ok q.slots new in
    subst Z (sym e) (order_set q.slots r i ok new inside is.distinct (subst B e begins) set follows)

-- what is known of a slot doesn't matter
forgotten_follows : (k : SlotName) (ranges : List ByteRange) (ok : Bool) (m n : Queued) → FollowsAt k ranges ok m n → FollowsAt k ranges ok m (forgotten n)
forgotten_follows k ranges ok m n follows e =
    let F : Told → Type 0 = λ t. Follows (decommits m.slot.base.bytes ranges) ok m.slot.region t in
    subst F (sym (forgotten_region n.name.kind n.slot)) (follows e)

pub order_forgotten : (k : SlotName) (ranges : List ByteRange) (ok : Bool) (ms new : List Queued) → AreInOrder k ranges ok ms new → AreInOrder k ranges ok ms (map forgotten new)
order_forgotten k ranges ok ms new order = zip_map (FollowsAt k ranges ok) (FollowsAt k ranges ok) forgotten ms new (forgotten_follows k ranges ok) order

-- one range, and more after it
order_next : (k : SlotName) (r : ByteRange) (rs : List ByteRange) (ok : Bool) (m n p : Queued) → FollowsAt k (r ∷ []) true m n × IsKeptBy k m n → FollowsAt k rs ok n p → FollowsAt k (r ∷ rs) ok m p
order_next k r rs ok m n p first rest e =
    let base : n.slot.base.bytes ≡ m.slot.base.bytes = ap (λ (i : SlotIdentity). i.base.bytes) first.1.slot.same in
    let F : ℕ → Type 0 = λ b. Follows (decommits b rs) ok n.slot.region p.slot.region in
    follows_then (decommits m.slot.base.bytes (r ∷ [])) (decommits m.slot.base.bytes rs) ok m.slot.region n.slot.region p.slot.region (ap (λ (i : SlotIdentity). i.plan) first.1.slot.same) (first.0 e) (subst F base (rest (ap (λ (x : Queued). x.name) first.1.same ∙ e)))

orders_next : (k : SlotName) (r : ByteRange) (rs : List ByteRange) (ok : Bool) (ms ns ps : List Queued) → AreInOrder k (r ∷ []) true ms ns → AllZip (IsKeptBy k) ms ns → AreInOrder k rs ok ns ps → AreInOrder k (r ∷ rs) ok ms ps
orders_next k r rs ok ms ns ps first kept rest =
    zip_both (λ m n. FollowsAt k (r ∷ []) true m n × IsKeptBy k m n) (FollowsAt k rs ok) (FollowsAt k (r ∷ rs) ok) ms ns ps (order_next k r rs ok) (zip_and (FollowsAt k (r ∷ []) true) (IsKeptBy k) ms ns first kept) rest

run_more : (k : SlotName) (r : QueuedRange) (rs : List QueuedRange) → is_of k r ≡ true → run_of k (r ∷ rs) ≡ r.range ∷ run_of k rs
run_more k r rs e = rw e refl

run_none : (k : SlotName) (ranges : List QueuedRange) → begins_with k ranges ≡ false → run_of k ranges ≡ []
run_none k [] e = refl
run_none k (r ∷ rs) e = rw e refl

-- A run under way: as what is left of it ends, so does the whole run.
abbrev pub EndsAs : SlotName → Queue → Queue → Type 0
EndsAs k old now = (ok : Bool) (end : List Queued) → AreInOrder k (run_of k now.ranges) ok now.slots end → AreInOrder k (run_of k old.ranges) ok old.slots end

step_of : (k : SlotName) (ranges : List QueuedRange) (q : Queue) (ok : Bool) (end : List Queued) → begins_with k ranges ≡ true → AreInOrder (first_slot ranges) (first_of ranges) true q.slots (after_first_of ranges q).slots → AreInOrder k (run_of k (after_first_of ranges q).ranges) ok (after_first_of ranges q).slots end → AreInOrder k (run_of k ranges) ok q.slots end
step_of k [] q ok end begins first rest = absurd cc
step_of k (r ∷ rs) q ok end begins first rest =
    let f : SlotName → Queued → Queued = λ n. change_at n (decommitted_at r.range) in
    let same : owner r ≡ k = slot_is (owner r) k begins in
    let K : SlotName → Type 0 = λ n. AllZip (IsKeptBy k) q.slots (map (f n) q.slots) in
    let O : SlotName → Type 0 = λ n. AreInOrder n (r.range ∷ []) true q.slots (map (f (owner r)) q.slots) in
    let kept : AllZip (IsKeptBy k) q.slots (map (f (owner r)) q.slots) =
    subst K (sym same) (zip_map (IsKeptBy k) (IsKeptBy k) (f k) q.slots q.slots (kept_more k r.range) (zip_same (IsKeptBy k) q.slots (kept_by_self k))) in
    let Z : List ByteRange → Type 0 = λ l. AreInOrder k l ok q.slots end in
    subst Z (sym (run_more k r rs begins)) (orders_next k r.range (run_of k rs) ok q.slots (map (f (owner r)) q.slots) end (subst O same first) kept rest)

pub order_step : (k : SlotName) (old now new : Queue) → EndsAs k old now → begins_with k now.ranges ≡ true → new ≡ after_first now → AreInOrder (first_slot now.ranges) (first_of now.ranges) true now.slots new.slots → EndsAs k old new
order_step k old now new ends begins is first ok end rest =
    let F : Queue → Type 0 = λ q. AreInOrder (first_slot now.ranges) (first_of now.ranges) true now.slots q.slots in
    let R : Queue → Type 0 = λ q. AreInOrder k (run_of k q.ranges) ok q.slots end in
    ends ok end (step_of k now.ranges now ok end begins (subst F is first) (subst R is rest))

pub order_over : (k : SlotName) (old now : Queue) → EndsAs k old now → begins_with k now.ranges ≡ false → AreInOrder k (run_of k old.ranges) true old.slots now.slots
order_over k old now ends over =
    let Z : List ByteRange → Type 0 = λ l. AreInOrder k l true now.slots now.slots in
    ends true now.slots (subst Z (sym (run_none k now.ranges over)) (zip_same (FollowsAt k [] true) now.slots (λ m _. follows_none m.slot.region)))

fault_of : (k : SlotName) (ranges : List QueuedRange) (ms end : List Queued) → begins_with k ranges ≡ true → AreInOrder (first_slot ranges) (first_of ranges) false ms end → AreInOrder k (run_of k ranges) false ms end
fault_of k [] ms end begins first = absurd cc
fault_of k (r ∷ rs) ms end begins first =
    let O : SlotName → Type 0 = λ n. AreInOrder n (r.range ∷ []) false ms end in
    let Z : List ByteRange → Type 0 = λ l. AreInOrder k l false ms end in
    subst Z (sym (run_more k r rs begins))
    (zip_weaker (FollowsAt k (r.range ∷ []) false) (FollowsAt k (r.range ∷ run_of k rs) false) ms end
    (λ m n f e. follows_failed (decommitting (m.slot.base.bytes + r.range.start) r.range.len) (decommits m.slot.base.bytes (run_of k rs)) m.slot.region n.slot.region (f e))
    (subst O (slot_is (owner r) k begins) first))

pub order_faulted : (k : SlotName) (old now new : Queue) → EndsAs k old now → begins_with k now.ranges ≡ true → AreInOrder (first_slot now.ranges) (first_of now.ranges) false now.slots new.slots → AreInOrder k (run_of k old.ranges) false old.slots new.slots
order_faulted k old now new ends begins first = ends false new.slots (fault_of k now.ranges now.slots new.slots begins first)

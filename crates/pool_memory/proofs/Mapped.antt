-- A memory in a region of its own, as it is read, written and grown in its place.
use Rattle.std.proofs.Common.{◌≡◌, ℕ, ◌+◌, ◌-◌, ◌*◌, ◌%◌, ◌<◌, ◌≤◌, ◌++◌, Bool, true, false, List, [], length, take, drop, min, refl, sym, ap, ◌∙◌, subst, arith, slice_range, replicate, Option, Some, None, IfSome, option_map, if◌then◌else◌, nat_lt, ◌==◌, ◌||◌, not}
use Rattle.pool_memory.proofs.Imports.{list_any, nat_tests, div-eq_of_lt, append-nil, rounded_up, Contents, written, risen, Slot, SlotIdentity, IsSlot, IsReady, OnlyExposed, identity, limited, raised, written_at, kept_self, followed}
use Rattle.pool_memory.specs.Growing.{GrowsTo, IsCallPlanned}
use Rattle.pool_memory.specs.Layouts.{Layout}
use Rattle.pool_memory.specs.Linear.{Linear, IsLinear, in_slot, linear_bytes, ready}
use Rattle.pool_memory.specs.Mapped.{Mapped, IsMapped, KeepsLayout, used, held_in, mapped_linear, mapped_capacity}
use Rattle.pool_memory.specs.Static.{IsStatic, CanHold}
use Rattle.pool_memory.proofs.Copies.{tells_mapped}
use Rattle.pool_memory.proofs.Raised.{kept_static, raise_room, raised_grows}
use Rattle.pool_memory.proofs.Statics.{static_is_linear, written_is_static}

-- marked as in use it is a slot still
pub used_slot : (s : Slot) → IsSlot s → IsSlot (used s)
used_slot s fits = record { sizes = fits.sizes; told = fits.told }

-- and can be used where it could
pub used_ready : (s : Slot) → IfSome s.region.contents (IsReady s) → IfSome s.region.contents (IsReady (used s))
used_ready s told = followed (IsReady s) (IsReady (used s)) s.region.contents (λ c h. record { reach = h.reach; origin = h.origin; beyond = h.beyond; colour = h.colour }) told

unused_ready : (s : Slot) → IfSome s.region.contents (IsReady (used s)) → IfSome s.region.contents (IsReady s)
unused_ready s told = followed (IsReady (used s)) (IsReady s) s.region.contents (λ c h. record { reach = h.reach; origin = h.origin; beyond = h.beyond; colour = h.colour }) told

abbrev with_known : Slot → ℕ → ℕ → Bool → Mapped
with_known s size extra known = record { slot = s; size = size; extra = extra; as_made = false; known = known }

nothing_behind : (b n size : ℕ) (o : Option Contents) → n ≡ 0 → IfSome (option_map (λ c. slice_range c.bytes b (b + n)) o) (λ bytes. slice_range bytes size n ≡ replicate (n - size) 0)
nothing_behind b n size None none = tt
nothing_behind b n size (Some c) none =
    let P : ℕ → Type 0 = λ k. slice_range (slice_range c.bytes b (b + k)) size k ≡ replicate (k - size) 0 in
    let less : 0 - size ≡ 0 = omega arith in
    let first : take (0 - size) (drop size (slice_range c.bytes b (b + 0))) ≡ [] = ap (λ (k : ℕ). take k (drop size (slice_range c.bytes b (b + 0)))) less in
    subst P (sym none) (first ∙ ap (λ (k : ℕ). replicate {A = ℕ} k 0) (sym less))

known_linear : (s : Slot) (size extra : ℕ) (known : Bool) → IsSlot s → (known ≡ true → IsStatic (held_in (with_known s size extra known))) → (known ≡ false → size ≡ 0) → IsLinear (mapped_linear (with_known s size extra known))
known_linear s size extra true fits holds empty =
    let is = static_is_linear (held_in (with_known s size extra true)) (used_slot s fits) (holds refl) in
    record { within = is.within; reached = is.reached; zeros = is.zeros }
known_linear s size extra false fits holds empty =
    let none : size ≡ 0 = empty refl in
    record {
      within = omega (arith, none);
      reached = omega (arith, none);
      zeros = nothing_behind s.base.bytes (min s.accessible.bytes 0) size s.region.contents (omega arith);
    }

-- it is a linear memory
pub mapped_is_linear : (m : Mapped) → IsSlot m.slot → IsMapped m → IsLinear (mapped_linear m)
mapped_is_linear m fits is = known_linear m.slot m.size m.extra m.known fits is.holds is.empty

known_by : (b : Bool) (n : ℕ) → (b ≡ false → n ≡ 0) → 0 < n → b ≡ true
known_by true n empty some = refl
known_by false n empty some = absurd (let none : n ≡ 0 = empty refl in omega arith)

-- where it has bytes it is known what its slot holds
pub some_known : (m : Mapped) (n : ℕ) → IsMapped m → n ≤ m.size → 0 < n → m.known ≡ true
some_known m n is within some = known_by m.known m.size is.empty (omega arith)

-- it is one still where bytes of it were written
pub written_is_mapped : (m : Mapped) (at : ℕ) (new : List ℕ) → IsSlot m.slot → IsMapped m → m.known ≡ true → at + length new ≤ m.size → IfSome (written_at at new m.slot).region.contents (IsReady (written_at at new m.slot)) → IsMapped (record m { slot = written_at at new m.slot; as_made = false })
written_is_mapped m at new fits is known below ready =
    record {
      holds = λ _. written_is_static (held_in m) at new (used_slot m.slot fits) (is.holds known) below ready;
      clean = λ made. absurd (cc made);
      known_made = λ made. absurd (cc made);
      unmapped = λ made. absurd (cc made);
      restores = is.restores;
      whole = is.whole;
      inside = is.inside;
      empty = λ unknown. absurd (cc (sym known ∙ unknown));
    }

-- more of it exposed, marked as in use
used_exposed : (s t : Slot) → OnlyExposed s t → OnlyExposed (used s) (used t)
used_exposed s t kept = record {
  same = kept.same;
  image = kept.image;
  dirty = refl;
  bytes = kept.bytes;
  ready = λ told. used_ready t (kept.ready (unused_ready s told));
  clean = λ clean. absurd (let no : true ≡ false = clean.not_dirty in cc no);
}

used_if : (b : Bool) (n : ℕ) (s : Slot) → used (if b then raised n s else s) ≡ (if b then raised n (used s) else used s)
used_if true n s = refl
used_if false n s = refl

used_limited : (n : ℕ) (s : Slot) → used (limited n s) ≡ limited n (used s)
used_limited n s = used_if (nat_lt s.accessible.bytes (rounded_up s.region.page n)) (rounded_up s.region.page n) s

-- the condition of a growth in its place
pub mapped_room : (m : Mapped) (n : ℕ) → IsSlot m.slot → IsMapped m → m.known ≡ true → n ≤ m.slot.static_size → rounded_up m.slot.region.page n ≤ m.slot.static_size
mapped_room m n fits is known within = raise_room (held_in m) n (used_slot m.slot fits) (is.holds known) within

-- it is one still, with any size that can be reached
pub kept_mapped : (m : Mapped) (n : ℕ) (t : Slot) → IsSlot m.slot → IsMapped m → OnlyExposed m.slot t → m.size ≤ n → n ≤ mapped_capacity m → (m.known ≡ true → n ≤ t.accessible.bytes) → IsMapped (record m { slot = t; size = n; as_made = false })
kept_mapped m n t fits is kept more within reached =
    let base : t.base.bytes ≡ m.slot.base.bytes = ap (λ (i : SlotIdentity). i.base.bytes) kept.same in
    let static : t.static_size ≡ m.slot.static_size = ap (λ (i : SlotIdentity). i.static_size) kept.same in
    let page : t.region.page ≡ m.slot.region.page = ap (λ (i : SlotIdentity). i.page) kept.same in
    let len : t.region.len ≡ m.slot.region.len = ap (λ (i : SlotIdentity). i.len) kept.same in
    record {
      holds = λ known.
          let room : n ≤ m.slot.static_size = subst (λ (b : Bool). n ≤ (if b then m.slot.static_size else 0)) known within in
          let S : ℕ → Type 0 = λ c. IsStatic (record { slot = used t; size = n; capacity = c }) in
          subst S (sym static) (kept_static (held_in m) n (used t) (used_slot m.slot fits) (is.holds known) (used_exposed m.slot t kept) more room (reached known));
      clean = λ made. absurd (cc made);
      known_made = λ made. absurd (cc made);
      unmapped = λ made. absurd (cc made);
      restores = ap (λ (i : SlotIdentity). i.behaviour) kept.same ∙ is.restores;
      whole = ap (λ (k : ℕ). k % t.region.page) static ∙ ap (λ (p : ℕ). m.slot.static_size % p) page ∙ is.whole;
      inside = omega (arith, base, static, len, is.inside);
      empty = λ unknown. let none : n ≤ 0 = subst (λ (b : Bool). n ≤ (if b then m.slot.static_size else 0)) unknown within in omega arith;
    }

-- and with any size that can be reached
pub sized_mapped : (m : Mapped) (n : ℕ) → IsSlot m.slot → IsMapped m → m.size ≤ n → n ≤ ready (mapped_linear m) → IsMapped (record m { size = n })
sized_mapped m n fits is more within =
    let kept = kept_mapped m n m.slot fits is (kept_self m.slot) more (omega arith) (λ _. omega arith) in
    record {
      holds = kept.holds;
      clean = is.clean;
      known_made = is.known_made;
      unmapped = is.unmapped;
      restores = is.restores;
      whole = is.whole;
      inside = is.inside;
      empty = kept.empty;
    }

-- what a kept slot has of its layout
pub kept_layout : (l : Layout) (m n : Mapped) → KeepsLayout l m → identity n.slot ≡ identity m.slot → IsMapped n → KeepsLayout l n
kept_layout l m n keeps same is = record {
  is = is;
  before = keeps.before ∙ sym (ap (λ (i : SlotIdentity). i.base.bytes) same);
  capacity = keeps.capacity ∙ sym (ap (λ (i : SlotIdentity). i.static_size) same);
  page = keeps.page ∙ sym (ap (λ (i : SlotIdentity). i.page) same);
  len = keeps.len ∙ sym (ap (λ (i : SlotIdentity). i.len) same);
}

-- it has grown in its place
pub mapped_grows : (m : Mapped) (n : ℕ) (t : Slot) → IsSlot m.slot → IsMapped m → m.known ≡ true → OnlyExposed m.slot t → m.size ≤ n → n ≤ m.slot.static_size → t ≡ limited n m.slot → IsCallPlanned true n (in_slot m.slot) → GrowsTo n (mapped_linear m) (mapped_linear (record m { slot = t; size = n }))
mapped_grows m n t fits is known kept more within is_limited planned =
    let same : used t ≡ limited n (used m.slot) = ap used is_limited ∙ used_limited n m.slot in
    let grows = raised_grows (held_in m) n (used t) (used_slot m.slot fits) (is.holds known) (used_exposed m.slot t kept) more within same planned in
    let static : t.static_size ≡ m.slot.static_size = ap (λ (i : SlotIdentity). i.static_size) kept.same in
    let Cap : Bool → ℕ → ℕ = λ b c. if b then c else 0 in
    let Lin : ℕ → Slot → Linear = λ c x. record { size = n; capacity = c; moves = true; extra = m.extra; storage = in_slot x } in
    record {
      same_size = refl;
      bytes = λ _. grows.bytes within;
      moves = refl;
      extra = refl;
      place = refl;
      moved = λ past. absurd (let room : m.slot.static_size < n = subst (λ (b : Bool). Cap b m.slot.static_size < n) known past in omega arith);
      in_place = λ _. ap (λ (c : ℕ). Lin c (used t)) (ap (Cap m.known) static) ∙ ap (Lin (Cap m.known m.slot.static_size)) same;
      planned = λ _. planned;
    }

add_none : (k : ℕ) (o : Option (List ℕ)) → k ≡ 0 → option_map (λ b. b ++ replicate {A = ℕ} k 0) o ≡ o
add_none k None none = refl
add_none k (Some b) none = ap (λ (n : ℕ). Some (b ++ replicate {A = ℕ} n 0)) none ∙ ap (λ (l : List ℕ). Some l) (append-nil b)

not_less : (a b : ℕ) → b ≡ 0 → nat_lt a b ≡ false
not_less a b none = grind (arith, nat_tests)

limit_if : (b : Bool) (n : ℕ) (s : Slot) → b ≡ false → (if b then raised n s else s) ≡ s
limit_if true n s off = absurd (cc off)
limit_if false n s off = refl

pass_nothing : (o : Option (List ℕ)) (k made : ℕ) → k ≡ 0 → IfSome o (λ plan. true ≡ ((k == 0) || not (list_any (λ n. n == made) plan)))
pass_nothing None k made none = tt
pass_nothing (Some plan) k made none = subst (λ (n : ℕ). true ≡ ((n == 0) || not (list_any (λ i. i == made) plan))) (sym none) refl

rounded_none : (page n : ℕ) → 0 < page → n ≡ 0 → rounded_up page n ≡ 0
rounded_none page n some none =
    let under : n + page - 1 < page = omega arith in
    let zero_pages : 0 * page ≡ 0 = omega arith in
    ap (λ (q : ℕ). q * page) (div-eq_of_lt under) ∙ zero_pages

-- one of which nothing is known has nothing, and keeps that
pub nothing_grows : (m : Mapped) (n : ℕ) → IsSlot m.slot → IsMapped m → m.known ≡ false → n ≤ mapped_capacity m → GrowsTo n (mapped_linear m) (mapped_linear m)
nothing_grows m n fits is unknown within =
    let Cap : Bool → ℕ = λ b. if b then m.slot.static_size else 0 in
    let none : n ≤ 0 = subst (λ (b : Bool). n ≤ Cap b) unknown within in
    let empty : m.size ≡ 0 = is.empty unknown in
    let up : rounded_up m.slot.region.page n ≡ 0 = rounded_none m.slot.region.page n (omega (arith, fits.sizes.page_size.at_least)) (omega arith) in
    let kept : limited n (used m.slot) ≡ used m.slot = limit_if (nat_lt m.slot.accessible.bytes (rounded_up m.slot.region.page n)) (rounded_up m.slot.region.page n) (used m.slot) (not_less m.slot.accessible.bytes (rounded_up m.slot.region.page n) up) in
    let Lin : ℕ → Slot → Linear = λ k x. record { size = k; capacity = mapped_capacity m; moves = true; extra = m.extra; storage = in_slot x } in
    record {
      same_size = omega arith;
      bytes = λ _. add_none (n - m.size) (linear_bytes (mapped_linear m)) (omega arith);
      moves = refl;
      extra = refl;
      place = refl;
      moved = λ past. absurd (omega arith);
      in_place = λ _. ap (λ (k : ℕ). Lin k (used m.slot)) (omega arith) ∙ ap (Lin n) (sym kept);
      planned = λ _. pass_nothing m.slot.region.plan (rounded_up m.slot.region.page n - m.slot.accessible.bytes) (risen m.slot.region.made) (omega arith);
    }

-- it is the same slot where bytes were written
pub same_written : (s : Slot) (at : ℕ) (new : List ℕ) → identity (written_at at new s) ≡ identity s
same_written s at new = ap (λ (b : Bool). record (identity s) { tells = b }) (tells_mapped (written (s.base.bytes + at) new) s.region.contents)

pub not_empty : (n : ℕ) → (n == 0) ≡ false → 0 < n
not_empty n some = grind (arith, nat_tests)

-- with its layout where bytes were written
pub wrote_keeps : (l : Layout) (m : Mapped) (at : ℕ) (new : List ℕ) (t : Slot) → KeepsLayout l m → IsSlot m.slot → 0 < length new → at + length new ≤ m.size → t ≡ written_at at new m.slot → IfSome t.region.contents (IsReady t) → KeepsLayout l (record m { slot = t; as_made = false })
wrote_keeps l m at new t keeps fits some below is ready =
    let known : m.known ≡ true = some_known m (length new) keeps.is (omega arith) some in
    let R : Slot → Type 0 = λ s. IfSome s.region.contents (IsReady s) in
    let K : Slot → Type 0 = λ s. KeepsLayout l (record m { slot = s; as_made = false }) in
    let n : Mapped = record m { slot = written_at at new m.slot; as_made = false } in
    subst K (sym is) (kept_layout l m n keeps (same_written m.slot at new) (written_is_mapped m at new fits keeps.is known below (subst R is ready)))

-- as it begins with an image
pub started_keeps : (l : Layout) (m : Mapped) (t : Slot) → KeepsLayout l m → identity t ≡ identity m.slot → CanHold m.size t → m.size ≤ m.slot.static_size → KeepsLayout l (record m { slot = t; as_made = false })
started_keeps l m t keeps same holds inside =
    let base : t.base.bytes ≡ m.slot.base.bytes = ap (λ (i : SlotIdentity). i.base.bytes) same in
    let static : t.static_size ≡ m.slot.static_size = ap (λ (i : SlotIdentity). i.static_size) same in
    let page : t.region.page ≡ m.slot.region.page = ap (λ (i : SlotIdentity). i.page) same in
    let len : t.region.len ≡ m.slot.region.len = ap (λ (i : SlotIdentity). i.len) same in
    let whole : t.static_size % t.region.page ≡ 0 = ap (λ (k : ℕ). k % t.region.page) static ∙ ap (λ (p : ℕ). m.slot.static_size % p) page ∙ keeps.is.whole in
    let n : Mapped = record m { slot = t; as_made = false } in
    kept_layout l m n keeps same (record {
      holds = λ known. record {
        slot = record { in_use = record { dirty = refl; ready = used_ready t holds.in_use.ready }; reached = holds.reached; inside = holds.inside; zeros = holds.zeros };
        within = omega (arith, static, inside);
        room = let old = keeps.is.holds known in subst (λ (p : ℕ). rounded_up p t.static_size ≤ t.static_size) (sym page) (subst (λ (k : ℕ). rounded_up m.slot.region.page k ≤ k) (sym static) old.room);
      };
      clean = λ made. absurd (cc made);
      known_made = λ made. absurd (cc made);
      unmapped = λ made. absurd (cc made);
      restores = ap (λ (i : SlotIdentity). i.behaviour) same ∙ keeps.is.restores;
      whole = whole;
      inside = omega (arith, base, static, len, keeps.is.inside);
      empty = keeps.is.empty;
    })

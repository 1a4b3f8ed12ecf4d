-- The slot in a region that is made for a memory.
use Rattle.std.proofs.Common.{◌≡◌, ℕ, ◌+◌, ◌-◌, ◌/◌, ◌%◌, ◌^◌, ◌<◌, ◌≤◌, Bool, true, false, List, refl, sym, ap, ◌∙◌, subst, arith, slice_range, replicate, Option, Some, None, IfSome, option_map, if◌then◌else◌}
use Rattle.pool_memory.proofs.Imports.{replicated, Count, count, IsPageSize, rounded_up, Contents, CanReach, MakerTold, Planned, fresh, next_after, fails_making, RaisesFaults, RaisesBehind, MakeFault, OnDemand, Told, Rose, page_from, Slot, SlotIdentity, IsSlot, IsClean, HasColour, OnlyExposed, identity, range-zeros, followed, rounded_up_more, whole_leaves, rounded_same}
use Rattle.pool_pages.specs.declared.maker.MakeFault.TheVariants as making
use Rattle.pool_memory.specs.Layouts.{Layout, layout_len}
use Rattle.pool_memory.specs.Mapped.{IsMadeSlot}
use Rattle.pool_memory.specs.Moving.{region_for, slot_of_region, IsRegionMade, IsRegionRefused}
use Rattle.pool_memory.proofs.Raised.{bytes_carried}

-- what such a region tells, where it tells its pages
record TellsFresh (before size len page : ℕ) (c : Contents) : Type 0 where
  origin : c.origin ≡ replicate len 0
  zeros : slice_range c.bytes before (before + size) ≡ replicate size 0
  reach : CanReach before 0 c
  has_colour : HasColour before size None c

tells_fresh : (b : Bool) (page before size len : ℕ) → before % page ≡ 0 → before + size ≤ len → IfSome (if b then Some (fresh page 0 len) else None) (TellsFresh before size len page)
tells_fresh false page before size len whole inside = tt
tells_fresh true page before size len whole inside =
    let n : before + size - before ≡ size = omega arith in
    record {
      origin = refl;
      zeros = range-zeros len before (before + size) inside ∙ ap (λ (k : ℕ). replicate {A = ℕ} k 0) n;
      reach = λ k from below. absurd (omega (arith, page_from page before k whole from));
      has_colour = λ k inside_it. replicated (len / page) k;
    }

-- a slot can be made in it
pub region_made : (m : MakerTold) (l : Layout) (t : Told) → t ≡ region_for m l → IsPageSize l.page → l.before % l.page ≡ 0 → l.capacity % l.page ≡ 0 → layout_len l < 2 ^ 64 → IsRegionMade l t
region_made m l t is sized before capacity fits =
    let u : Told = region_for m l in
    let n : ℕ = rounded_up l.page l.capacity in
    let same : n ≡ l.capacity = rounded_same l.page l.capacity (omega (arith, sized.at_least)) capacity in
    let inside : l.before + n ≤ layout_len l = omega (arith, same) in
    let told : IfSome u.contents (TellsFresh l.before n (layout_len l) l.page) = tells_fresh m.tells l.page l.before n (layout_len l) before inside in
    let made : IsRegionMade l u = record {
      fresh = record {
        base_page = refl;
        accessible_page = refl;
        inside = inside;
        bounded = whole_leaves l.page l.capacity sized capacity (omega arith);
        within = omega arith;
        origin = followed (TellsFresh l.before n (layout_len l) l.page) (λ c. c.origin ≡ replicate (layout_len l) 0) u.contents (λ c h. h.origin) told;
        zeros = followed (TellsFresh l.before n (layout_len l) l.page) (λ c. slice_range c.bytes l.before (l.before + n) ≡ replicate n 0) u.contents (λ c h. h.zeros) told;
        reach = followed (TellsFresh l.before n (layout_len l) l.page) (CanReach l.before 0) u.contents (λ c h. h.reach) told;
        has_colour = followed (TellsFresh l.before n (layout_len l) l.page) (HasColour l.before n None) u.contents (λ c h. h.has_colour) told;
      };
      page = refl;
      len = refl;
      restores = refl;
    } in
    subst (IsRegionMade l) (sym is) made

abbrev layout_by : SlotIdentity → Layout
layout_by i = record { page = i.page; before = i.base.bytes; capacity = i.static_size; guard = i.len - i.static_size - i.base.bytes }

-- the slot as it is made for a memory, once its bytes can be reached
pub made_slot : (l : Layout) (region : Told) (size : ℕ) (s t : Slot) → s ≡ slot_of_region region l → IsRegionMade l region → IsPageSize l.page → l.capacity % l.page ≡ 0 → IsClean s → OnlyExposed s t → IsSlot t → size ≤ l.capacity → size ≤ t.accessible.bytes → IsMadeSlot l size t
made_slot l region size s t is made sized whole clean kept fits within reached =
    let id : identity t ≡ identity (slot_of_region region l) = kept.same ∙ ap identity is in
    let same : rounded_up region.page l.capacity ≡ l.capacity = ap (λ (p : ℕ). rounded_up p l.capacity) made.page ∙ rounded_same l.page l.capacity (omega (arith, sized.at_least)) whole in
    let Z : ℕ → Type 0 = λ n. IfSome region.contents (λ c. slice_range c.bytes l.before (l.before + n) ≡ replicate n 0) in
    let zeros : IfSome region.contents (λ c. slice_range c.bytes l.before (l.before + l.capacity) ≡ replicate l.capacity 0) = subst Z same made.fresh.zeros in
    let bytes : option_map (λ c. c.bytes) t.region.contents ≡ option_map (λ c. c.bytes) region.contents = kept.bytes ∙ ap (λ (x : Slot). option_map (λ c. c.bytes) x.region.contents) is in
    let carried : IfSome t.region.contents (λ c. slice_range c.bytes l.before (l.before + l.capacity) ≡ replicate l.capacity 0) = bytes_carried (λ b. slice_range b l.before (l.before + l.capacity) ≡ replicate l.capacity 0) region.contents t.region.contents bytes zeros in
    let B : ℕ → ℕ → Type 0 = λ base n. IfSome t.region.contents (λ c. slice_range c.bytes base (base + n) ≡ replicate n 0) in
    let base : t.base.bytes ≡ l.before = ap (λ (i : SlotIdentity). i.base.bytes) id in
    let static : t.static_size ≡ l.capacity = ap (λ (i : SlotIdentity). i.static_size) id in
    let page : t.region.page ≡ l.page = ap (λ (i : SlotIdentity). i.page) id ∙ made.page in
    let guard : region.len - l.capacity - l.before ≡ l.guard = omega (arith, made.len) in
    record {
      clean = kept.clean clean;
      fits = fits;
      restores = ap (λ (i : SlotIdentity). i.behaviour) id ∙ made.restores;
      layout = ap layout_by id ∙ ap (λ (p : ℕ). record { page = p; before = l.before; capacity = l.capacity; guard = region.len - l.capacity - l.before }) made.page ∙ ap (λ (n : ℕ). record l { guard = n }) guard;
      reached = reached;
      inside = omega (arith, static);
      whole = ap (λ (n : ℕ). n % t.region.page) static ∙ ap (λ (p : ℕ). l.capacity % p) page ∙ whole;
      image = kept.image ∙ ap (λ (x : Slot). x.image) is;
      zeros = subst (λ (n : ℕ). B t.base.bytes n) (sym static) (subst (λ (b : ℕ). B b l.capacity) (sym base) carried);
    }

-- the condition of the call that exposes it
pub open_room : (l : Layout) (region : Told) (s : Slot) (size : ℕ) → s ≡ slot_of_region region l → IsRegionMade l region → IsPageSize l.page → l.capacity % l.page ≡ 0 → size ≤ l.capacity → rounded_up s.region.page size ≤ s.static_size
open_room l region s size is made sized whole within =
    let some : 0 < l.page = omega (arith, sized.at_least) in
    let page : s.region.page ≡ l.page = ap (λ (x : Slot). x.region.page) is ∙ made.page in
    let most : rounded_up l.page size ≤ rounded_up l.page l.capacity = rounded_up_more l.page size l.capacity some within in
    let same : rounded_up l.page l.capacity ≡ l.capacity = rounded_same l.page l.capacity some whole in
    let static : s.static_size ≡ l.capacity = ap (λ (x : Slot). x.static_size) is in
    let up : rounded_up s.region.page size ≡ rounded_up l.page size = ap (λ (p : ℕ). rounded_up p size) page in
    omega (arith, up, most, same, static)

listed_as : (o : Option (List Planned)) (n : ℕ) → IfSome o (λ plan. making.PageFault ≡ making.PageFault → fails_making (OnDemand n) plan ≡ true) → IfSome o (λ plan. fails_making (OnDemand n) plan ≡ true)
listed_as None n told = tt
listed_as (Some plan) n told = told refl

-- and one that didn't
fault_as : (n : ℕ) (old new : MakerTold) → n ≡ old.next → new ≡ record old { next = next_after (OnDemand n) old.next; behind = new.behind; faults = new.faults } → Rose old.faults new.faults → RaisesBehind (fails_making (OnDemand n) old.listed) old.behind new.behind making.PageFault
    → IfSome old.plan (λ plan. making.PageFault ≡ making.PageFault → fails_making (OnDemand n) plan ≡ true) → IsRegionRefused making.PageFault old new
fault_as n old new same asked rose behind planned = record {
  asked = subst (λ (k : ℕ). new ≡ record old { next = next_after (OnDemand k) old.next; behind = new.behind; faults = new.faults }) same asked;
  cause = record {
    rose = rose;
    behind = subst (λ (k : ℕ). RaisesBehind (fails_making (OnDemand k) old.listed) old.behind new.behind making.PageFault) same behind;
    planned = subst (λ (k : ℕ). IfSome old.plan (λ plan. fails_making (OnDemand k) plan ≡ true)) same (listed_as old.plan n planned);
  };
}

behind_kept : (b : Bool) (old new : ℕ) → RaisesBehind b old new making.Memory → new ≡ old
behind_kept true old new is = is
behind_kept false old new is = is

want_as : (n : ℕ) (old new : MakerTold) → n ≡ old.next → new ≡ record old { next = next_after (OnDemand n) old.next; behind = new.behind; faults = new.faults } → new.faults ≡ old.faults → RaisesBehind (fails_making (OnDemand n) old.listed) old.behind new.behind making.Memory → IsRegionRefused making.Memory old new
want_as n old new same asked faults behind = record {
  asked = subst (λ (k : ℕ). new ≡ record old { next = next_after (OnDemand k) old.next; behind = new.behind; faults = new.faults }) same asked;
  cause = record { faults = faults; behind = behind_kept (fails_making (OnDemand n) old.listed) old.behind new.behind behind };
}

-- a making that was refused
pub refused_as : (e : MakeFault) (n : ℕ) (old new : MakerTold) → n ≡ old.next → new ≡ record old { next = next_after (OnDemand n) old.next; behind = new.behind; faults = new.faults } → RaisesFaults old.faults new.faults e → RaisesBehind (fails_making (OnDemand n) old.listed) old.behind new.behind e
    → IfSome old.plan (λ plan. e ≡ making.PageFault → fails_making (OnDemand n) plan ≡ true) → IsRegionRefused e old new
refused_as making.Memory n old new same asked faults behind planned = want_as n old new same asked faults behind
refused_as making.PageFault n old new same asked faults behind planned = fault_as n old new same asked faults behind planned

-- the slot that is made in a region
pub opened : (l : Layout) (region : Told) (s : Slot) (base accessible : Count) (static : ℕ) → s ≡ record { region = region; base = base; accessible = accessible; static_size = static; image = None; dirty = false; colour = None } → base ≡ count l.page l.before → accessible ≡ count l.page 0 → static ≡ l.capacity → s ≡ slot_of_region region l
opened l region s base accessible static is first second third =
    is
    ∙ ap (λ (b : Count). record { region = region; base = b; accessible = accessible; static_size = static; image = None; dirty = false; colour = None }) first
    ∙ ap (λ (a : Count). record { region = region; base = count l.page l.before; accessible = a; static_size = static; image = None; dirty = false; colour = None }) second
    ∙ ap (λ (n : ℕ). record (slot_of_region region l) { static_size = n }) third

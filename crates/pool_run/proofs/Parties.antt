-- A party whose turn it is: its call can make its next step, and so it can once another call began.
use Rattle.std.proofs.Common.{◌≡◌, ℕ, zero, suc, ◌+◌, ◌<◌, ◌≤◌, true, false, List, [], ◌∷◌, length, Option, Some, None, refl, ap, subst, arith, All, sym, ◌∙◌, IfSome, sum_by, slice_set, slice_index_or}
use Rattle.pool_run.proofs.Imports.{table_slot, All-set, All-get_or, sum_by-set, MakerTold, right_to, region_of, IsFrame, AreImagesOf, HasImages, IsIdle, IsGrant, MayBegin, begun_call, call_has, begun_frame, CanStep, is_idle, grant_count, PoolCore, Settings, memories_wanted, images_wanted, ModuleAsked, stack_slot, heap_slot, nothing_asked, module_asked, Lease, memory_slot, LeasedTable, IsSearched, returning, stage_of, returned_next, Call, Frame, Grant, instance, component, one_memory, one_table, stack, heap, heap_over, both_regions, sum_by_agree, leased_regions, tables_regions, Plan, SlotName, PlainHeap, Weight, of_units, grant_weight, begun_weight}
use Rattle.pool_alloc.specs.declared.frame.Ending.TheVariants as ending
use Rattle.pool_run.specs.Turns.{IsPlain, asks_grant}
use Rattle.pool_alloc.specs.declared.frame.Call.TheVariants as call
use Rattle.pool_run.specs.Ties.{is_asking, is_for_objects, granted_to, held_by_party, FitsParty, CanTurn}
use Rattle.pool_run.specs.declared.running_party.RunningParty.{RunningParty}
use Rattle.pool_run.proofs.Weighed.{held_units}

module _ {P : Type 0} where
  grant_regions : (k : SlotName) (o : Option (Grant P PlainHeap)) → granted_to (grant_count (region_of k)) o ≡ granted_to (grant_count (right_to k)) o
  grant_regions k None = refl
  grant_regions k (Some (instance lease)) = omega (arith, leased_regions k lease.memories.items, tables_regions k lease.tables.items)
  grant_regions k (Some component) = refl
  grant_regions k (Some (one_memory lease)) = both_regions k (memory_slot lease.index) lease.numbers
  grant_regions k (Some (one_table lease)) = both_regions k (table_slot lease.index) lease.numbers
  grant_regions k (Some (stack lease)) = both_regions k (stack_slot lease.stack.index) lease.numbers
  grant_regions k (Some (heap lease memory)) = omega (arith, both_regions k (heap_slot lease.index) lease.numbers, both_regions k (memory_slot memory.index) memory.numbers)
  grant_regions k (Some (heap_over lease)) = both_regions k (heap_slot lease.index) lease.numbers

  -- The live grants have the region of each of their slots.
  pub live_regions : (k : SlotName) (live : List (Option (Grant P PlainHeap))) → sum_by (granted_to (grant_count (region_of k))) live ≡ sum_by (granted_to (grant_count (right_to k))) live
  live_regions k live = sum_by_agree (granted_to (grant_count (region_of k))) (granted_to (grant_count (right_to k))) (grant_regions k) live

  -- The party's call can make its next step.
  pub can_step : (maker : MakerTold) (c : PoolCore P PlainHeap) (p : RunningParty P) → CanTurn maker c p → CanStep maker c p.frame
  can_step maker c p can = record {
    core = can.core;
    frame = can.party.sound.frame;
    fits = record {
      once = λ w. omega (arith, can.fits.once w);
      others = λ k. omega (arith, can.fits.others k, live_regions k p.live, held_units (right_to k) p, held_units (region_of k) p);
    };
  }

  -- the parties have the same of the pool
  abbrev pub HaveSame : RunningParty P → RunningParty P → Type 0
  HaveSame p q = (w : Weight) → held_by_party q w ≡ held_by_party p w

  pub fits_same : (c : PoolCore P PlainHeap) (p q : RunningParty P) → HaveSame p q → FitsParty c p → FitsParty c q
  fits_same c p q same fits = record {
    once = λ w. omega (arith, fits.once w, same w);
    others = λ k. omega (arith, fits.others k, same (of_units (right_to k)), same (of_units (region_of k)));
  }

  -- a place with a grant is there
  pub grant_inside : (live : List (Option (Grant P PlainHeap))) (i : ℕ) (grant : Grant P PlainHeap) → slice_index_or live i None ≡ Some grant → i < length live
  grant_inside [] i grant is = absurd cc
  grant_inside (x ∷ xs) zero grant is = omega arith
  grant_inside (x ∷ xs) (suc i) grant is = omega (arith, grant_inside xs i grant is)

  pub live_grant : (maker : MakerTold) (s : Settings) (plan : Plan) (live : List (Option (Grant P PlainHeap))) (i : ℕ) (grant : Grant P PlainHeap) → All (λ g. IfSome g (IsGrant maker s plan)) live → slice_index_or live i None ≡ Some grant → IsGrant maker s plan grant
  live_grant maker s plan live i grant each is =
      let G : Option (Grant P PlainHeap) → Type 0 = λ g. IfSome g (IsGrant maker s plan) in
      subst G is (All-get_or G live i None (grant_inside live i grant is) each)

  -- a party with another call begun, whose grants are these
  abbrev pub with_call : Call P PlainHeap → List (Option (Grant P PlainHeap)) → RunningParty P → RunningParty P
  with_call asked live p = record p { frame = begun_call asked p.frame; live = live }

  -- The grant that a call brings along was one of the party's, and the others stay.
  abbrev pub Brings : Call P PlainHeap → List (Option (Grant P PlainHeap)) → List (Option (Grant P PlainHeap)) → Type 0
  Brings asked old new = (w : Weight) → sum_by (granted_to (grant_weight w)) new + call_has (grant_weight w) asked ≡ sum_by (granted_to (grant_weight w)) old

  pub has_call : (maker : MakerTold) (asked : Call P PlainHeap) (new : List (Option (Grant P PlainHeap))) (c : PoolCore P PlainHeap) (p : RunningParty P) → IsFrame maker c.settings c.plan p.frame → MayBegin maker c.settings c.plan asked p.frame → Brings asked p.live new → HaveSame p (with_call asked new p)
  has_call maker asked new c p frame may brings = λ w. omega (arith, begun_weight maker w asked c.settings c.plan p.frame frame may, brings w)

  -- a call that brings nothing along
  brings_none : (asked : Call P PlainHeap) (live : List (Option (Grant P PlainHeap))) → ((of : Grant P PlainHeap → ℕ) → call_has of asked ≡ 0) → Brings asked live live
  brings_none asked live none = λ w. omega (arith, none (grant_weight w))

  pub brings_nothing : (asked : Call P PlainHeap) → IsPlain asked → (live : List (Option (Grant P PlainHeap))) → Brings asked live live
  brings_nothing call.Key plain live = brings_none call.Key live (λ of. refl)
  brings_nothing (call.Component info) plain live = brings_none (call.Component info) live (λ of. refl)
  brings_nothing call.Stack plain live = brings_none call.Stack live (λ of. refl)
  brings_nothing (call.Heap ty) plain live = brings_none (call.Heap ty) live (λ of. refl)
  brings_nothing (call.Purge id) plain live = brings_none (call.Purge id) live (λ of. refl)
  brings_nothing call.Release plain live = brings_none call.Release live (λ of. refl)
  brings_nothing _ plain live = absurd plain

  pub brings_module : (m : ModuleAsked) (live : List (Option (Grant P PlainHeap))) → Brings (call.Module m) live live
  brings_module m live = brings_none (call.Module m) live (λ of. refl)

  pub fewer : (of : Grant P PlainHeap → ℕ) (live : List (Option (Grant P PlainHeap))) (i : ℕ) (grant : Grant P PlainHeap) → slice_index_or live i None ≡ Some grant → sum_by (granted_to of) (slice_set live i None) + of grant ≡ sum_by (granted_to of) live
  fewer of live i grant is =
      let here : granted_to of (slice_index_or live i None) ≡ of grant = ap (granted_to of) is in
      omega (arith, sum_by-set (granted_to of) live i None None (grant_inside live i grant is))

  pub brings_grant : (live : List (Option (Grant P PlainHeap))) (i : ℕ) (grant : Grant P PlainHeap) → slice_index_or live i None ≡ Some grant → Brings (call.GiveBack grant) live (slice_set live i None)
  brings_grant live i grant is = λ w. fewer (grant_weight w) live i grant is

  -- nothing comes into a place that is emptied
  pub still_none : (live : List (Option (Grant P PlainHeap))) (i k : ℕ) → slice_index_or live k None ≡ None → slice_index_or (slice_set live i None) k None ≡ None
  still_none [] i k none = none
  still_none (x ∷ xs) zero zero none = refl
  still_none (x ∷ xs) zero (suc k) none = none
  still_none (x ∷ xs) (suc i) zero none = none
  still_none (x ∷ xs) (suc i) (suc k) none = still_none xs i k none

  -- The party can make its turn once a call began that may.
  pub called : (maker : MakerTold) (asked : Call P PlainHeap) (new : List (Option (Grant P PlainHeap))) (c : PoolCore P PlainHeap) (p : RunningParty P) → CanTurn maker c p → MayBegin maker c.settings c.plan asked p.frame → Brings asked p.live new → All (λ g. IfSome g (IsGrant maker c.settings c.plan)) new → ((k : ℕ) → p.done ≤ k → slice_index_or new k None ≡ None) → (is_asking (stage_of (begun_call asked p.frame)) ≡ true → p.done < length new) → CanTurn maker c (with_call asked new p)
  called maker asked new c p can may brings grants to_come place = record {
    core = can.core;
    party = record {
      sound = record { frame = begun_frame maker asked c.settings c.plan p.frame can.party.sound.frame may; grants = grants };
      to_come = to_come;
      place = place;
    };
    fits = fits_same c p (with_call asked new p) (has_call maker asked new c p can.party.sound.frame may brings) can.fits;
  }

  pub plain_asks : (asked : Call P PlainHeap) (f : Frame P PlainHeap) → IsPlain asked → is_asking (stage_of (begun_call asked f)) ≡ asks_grant asked
  plain_asks call.Key f plain = refl
  plain_asks (call.Component info) f plain = refl
  plain_asks call.Stack f plain = refl
  plain_asks (call.Heap ty) f plain = refl
  plain_asks (call.Purge id) f plain = refl
  plain_asks call.Release f plain = refl
  plain_asks _ f plain = absurd plain

  -- its reply lists no slots, and it is not admitted to be an instance
  pub plain_lists : (asked : Call P PlainHeap) (f : Frame P PlainHeap) → IsPlain asked → is_for_objects (stage_of (begun_call asked f)) ≡ false
  plain_lists call.Key f plain = refl
  plain_lists (call.Component info) f plain = refl
  plain_lists call.Stack f plain = refl
  plain_lists (call.Heap ty) f plain = refl
  plain_lists (call.Purge id) f plain = refl
  plain_lists call.Release f plain = refl
  plain_lists _ f plain = absurd plain

  -- a call that needs nothing of the party, as it begins
  pub record BeginsPlain (maker : MakerTold) (asked : Call P PlainHeap) (c : PoolCore P PlainHeap) (f : Frame P PlainHeap) : Type 0 where
    pub may : IsIdle f → MayBegin maker c.settings c.plan asked f
    pub busy : is_idle (begun_call asked f).phase ≡ false
    pub searched : IsSearched c (begun_call asked f)
    pub stripe : (begun_call asked f).stripe ≡ f.stripe

  pub begins_plain : (maker : MakerTold) (asked : Call P PlainHeap) (c : PoolCore P PlainHeap) (f : Frame P PlainHeap) → IsPlain asked → BeginsPlain maker asked c f
  begins_plain maker call.Key c f plain = record { may = λ idle. idle; busy = refl; searched = tt; stripe = refl }
  begins_plain maker (call.Component info) c f plain = record { may = λ idle. idle; busy = refl; searched = tt; stripe = refl }
  begins_plain maker call.Stack c f plain = record { may = λ idle. idle; busy = refl; searched = tt; stripe = refl }
  begins_plain maker (call.Heap ty) c f plain = record { may = λ idle. (idle, plain); busy = refl; searched = tt; stripe = refl }
  begins_plain maker (call.Purge id) c f plain = record { may = λ idle. idle; busy = refl; searched = tt; stripe = refl }
  begins_plain maker call.Release c f plain = record { may = λ idle. idle; busy = refl; searched = tt; stripe = refl }
  begins_plain maker _ c f plain = absurd plain

  pub called_plain : (maker : MakerTold) (asked : Call P PlainHeap) (c : PoolCore P PlainHeap) (p : RunningParty P) → IsPlain asked → CanTurn maker c p → IsIdle p.frame → (asks_grant asked ≡ true → p.done < length p.live) → CanTurn maker c (record p { frame = begun_call asked p.frame })
  called_plain maker asked c p plain can idle place =
      let begins = begins_plain maker asked c p.frame plain in
      called maker asked p.live c p can (begins.may idle) (brings_nothing asked plain p.live) can.party.sound.grants can.party.to_come (λ asking. place (sym (plain_asks asked p.frame plain) ∙ asking))

  pub called_module : (maker : MakerTold) (m : ModuleAsked) (c : PoolCore P PlainHeap) (p : RunningParty P) → CanTurn maker c p → IsIdle p.frame → AreImagesOf c.settings (memories_wanted (module_asked m)) (images_wanted (module_asked m)) → HasImages (module_asked m) → p.done < length p.live → CanTurn maker c (record p { frame = begun_call (call.Module m) p.frame })
  called_module maker m c p can idle images each room = called maker (call.Module m) p.live c p can (idle, images, each) (brings_module m p.live) can.party.sound.grants can.party.to_come (λ is. room)

  -- a give-back is under way then
  next_stage : (leases : List Lease) (tables : List LeasedTable) (f : Frame P PlainHeap) → stage_of (returned_next leases tables (record f { asked = nothing_asked; ending = ending.Returned })).frame ≡ returning
  next_stage [] [] f = refl
  next_stage [] (t ∷ ts) f = refl
  next_stage (l ∷ ls) ts f = refl

  pub returned_stage : (grant : Grant P PlainHeap) (f : Frame P PlainHeap) → stage_of (begun_call (call.GiveBack grant) f) ≡ returning
  returned_stage (instance lease) f = next_stage lease.memories.items lease.tables.items (record f { objects = lease })
  returned_stage component f = refl
  returned_stage (one_memory lease) f = refl
  returned_stage (one_table lease) f = refl
  returned_stage (stack lease) f = refl
  returned_stage (heap lease memory) f = refl
  returned_stage (heap_over lease) f = refl

  pub returned_asks : (grant : Grant P PlainHeap) (f : Frame P PlainHeap) → is_asking (stage_of (begun_call (call.GiveBack grant) f)) ≡ true → ⊥
  returned_asks grant f asking = let no : is_asking (stage_of (begun_call (call.GiveBack grant) f)) ≡ false = ap is_asking (returned_stage grant f) in absurd cc

  pub called_back : (maker : MakerTold) (i : ℕ) (grant : Grant P PlainHeap) (c : PoolCore P PlainHeap) (p : RunningParty P) → CanTurn maker c p → IsIdle p.frame → slice_index_or p.live i None ≡ Some grant → CanTurn maker c (record p { live = slice_set p.live i None; frame = begun_call (call.GiveBack grant) p.frame })
  called_back maker i grant c p can idle is =
      called maker (call.GiveBack grant) (slice_set p.live i None) c p can (idle, live_grant maker c.settings c.plan p.live i grant can.party.sound.grants is) (brings_grant p.live i grant is)
      (All-set (λ g. IfSome g (IsGrant maker c.settings c.plan)) p.live i None tt can.party.sound.grants)
      (λ k behind. still_none p.live i k (can.party.to_come k behind))
      (λ asking. absurd (returned_asks grant p.frame asking))

  next_searched : (leases : List Lease) (tables : List LeasedTable) (c : PoolCore P PlainHeap) (f : Frame P PlainHeap) → IsSearched c (record (returned_next leases tables (record f { asked = nothing_asked })).frame { step_count = 0 })
  next_searched [] [] c f = tt
  next_searched [] (t ∷ ts) c f = tt
  next_searched (l ∷ ls) ts c f = tt

  pub returned_searched : (grant : Grant P PlainHeap) (c : PoolCore P PlainHeap) (f : Frame P PlainHeap) → IsSearched c (begun_call (call.GiveBack grant) f)
  returned_searched (instance lease) c f = next_searched lease.memories.items lease.tables.items c (record f { objects = lease; ending = ending.Returned })
  returned_searched component c f = tt
  returned_searched (one_memory lease) c f = tt
  returned_searched (one_table lease) c f = tt
  returned_searched (stack lease) c f = tt
  returned_searched (heap lease memory) c f = tt
  returned_searched (heap_over lease) c f = tt

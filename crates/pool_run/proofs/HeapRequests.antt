-- A request for a heap: why it is refused, and what is granted.
use Rattle.std.proofs.Common.{◌≡◌, ℕ, ◌+◌, ◌*◌, ◌<◌, ◌≤◌, inl, inr, List, [], ◌∷◌, length, Bool, true, false, Option, Some, None, Result, Ok, Err, refl, sym, ap, ◌∙◌, subst, arith, sum_by, not, nat_lt, if◌then◌else◌, option_map, slice_get, slice_index_or}
use Rattle.pool_run.proofs.Imports.{cases_lt, lt-ltb, le-ltb, SlotKind, memory_kind, heap_kind, MemoryDecl, MemoryType, Unsupported, memory_answer, minimum_asked, maximum_asked, MemoryState, HeapsTold, has_number, AllocError, MemoryStripe, GcHeaps, HeapMakeFault, ListedHeaps, PlainHeap, Allocator, SlotName, AsksForMemory, IsHeapOf, LeasedHeap, Lease, memory_slot, made_for, heap_refusal_of, PartyTold, MakesHeap, right_to, slot_count, heap_refused, type_refused, IsMemoryNext, IsHeapNext, IsSupported, FindsNone, IsPageFaulted, Makes, SeeksHeap, FailsHeap, IsHeapUntested, IsHeapTested, IsUntested, Follows, Raises, seeks_heap, memories_wanted, images_wanted, heaps_wanted, kind_by, kind_next, memory_slots, stripe_allocator, allocator_of, allocator_for, plain_decl, grant_count, limit_of, MemoryWant, new_memory, Asked, heap_asked, Frame, Grant, instance, heap, PoolCore, Settings}
use Rattle.pool_slots.specs.declared.errors.AllocError.TheVariants as refusal
use Rattle.pool_slots.specs.declared.heap_maker.HeapMakeFault.TheVariants.{HeapFault}
use Rattle.pool_run.specs.Private.{Grants, Terms, heap_grant, begun_memory, own_refusal, stripe_slots, heap_memory, heap_barred, heap_refusal, HeapRefusal, RefusesHeap, CountsRefused}
use Rattle.pool_run.specs.PrivateTables.{goes_through}
use Rattle.pool_run.specs.Rooms.{World, live_count, heap_count, IsForHeapRoom}
use Rattle.pool_run.specs.Turns.{private_memory, private_grant, grants_of, heaps_told}
use Rattle.pool_run.specs.Ties.{granted_to}
use Rattle.pool_run.proofs.Bytes.{begun_seen}
use Rattle.pool_run.proofs.Causes.{GoesWith, own_goes, fault_of_slot}
use Rattle.pool_run.proofs.Growths.{answer_told}
use Rattle.pool_run.proofs.OwnRefusals.{IsOwn, answer_own}
use Rattle.pool_run.proofs.Requests.{IsBefore, gone, told_of}
use Rattle.pool_run.proofs.SlotKinds.{memories_taken, heaps_taken, memory_free, memories_told, heaps_told as heaps_counted_told}
use Rattle.pool_run.proofs.SlotsMade.{made_slot}

-- what a heap's memory has of one is such
own_is : (t : Terms) (ty : MemoryType) (e : AllocError) → heap_refusal t ty ≡ Some e → IsOwn e
own_is t ty e is = answer_own (memory_answer (Some t.host.rule) (Ok true) (minimum_asked ty) (maximum_asked ty)) ty e is

-- A refusal of a heap, before a maker is asked, with what that tells of room and of the calls on the maker.
pub record RefusesNow (w : World) (told : Grants) (ty : MemoryType) (e : AllocError) (calls after : ℕ) : Type 0 where
  pub refused : HeapRefusal w.terms ty e
  pub room : IsForHeapRoom w told e
  pub counts : CountsRefused w.terms.host.unmade e calls after

own_refuses : (w : World) (told : Grants) (ty : MemoryType) (calls after : ℕ) (e : AllocError) → heap_refusal w.terms ty ≡ Some e → IsOwn e → after ≡ calls → RefusesNow w told ty e calls after
own_refuses w told ty calls after (refusal.Unsupported rule) is own same = record { refused = inl (inr is); room = tt; counts = same }
own_refuses w told ty calls after (refusal.LimiterDenied table least) is own same = record { refused = inl (inr is); room = tt; counts = same }
own_refuses w told ty calls after (refusal.LimiterFault x) is own same = record { refused = inl (inr is); room = tt; counts = same }
own_refuses w told ty calls after _ is own same = absurd own

-- a party of this world whose call asks for a heap with a memory of this type
module _ {P : Type 0} (w : World) (old new : PartyTold) (c : PoolCore P PlainHeap) (f : Frame P PlainHeap) (live : List (Option (Grant P PlainHeap))) (told : Grants) (is : IsBefore w old new c f live told) (seen : grants_of live ≡ told) (ty : MemoryType) (for : f.asked ≡ heap_asked ty) where
  its_kind : kind_next f ≡ (if nat_lt (length f.objects.memories.items) 1 then memory_kind else heap_kind)
  its_kind = ap (λ (asked : Asked). kind_by asked (length f.objects.memories.items)) for

  one_memory : length (memories_wanted f.asked) ≡ 1
  one_memory = ap (λ (asked : Asked). length (memories_wanted asked)) for

  next_memory : IsMemoryNext f → kind_next f ≡ memory_kind
  next_memory next = its_kind ∙ ap (λ b. if b then memory_kind else heap_kind) (lt-ltb (length f.objects.memories.items) 1 (omega (arith, next, one_memory)))

  next_heap : IsHeapNext f → kind_next f ≡ heap_kind
  next_heap next = its_kind ∙ ap (λ b. if b then memory_kind else heap_kind) (le-ltb (length f.objects.memories.items) 1 (omega (arith, next.0, one_memory)))

  -- how it is refused where no slot is found
  refused_for : (n : ℕ) (e : AllocError) → FindsNone c f n e → (kind : SlotKind) → kind_next f ≡ kind → e ≡ refusal.Limit (record { limit = (allocator_of c.plan kind f.stripe).capacity; kind = limit_of kind f.stripe })
  refused_for n e none kind next = let Limits : SlotKind → AllocError = λ k. refusal.Limit (record { limit = (allocator_of c.plan k f.stripe).capacity; kind = limit_of k f.stripe }) in none.is ∙ ap Limits next

  -- No slot is found for its memory,
  no_memory_slot : (n : ℕ) (e : AllocError) (calls after : ℕ) → FindsNone c f n e → IsMemoryNext f → after ≡ calls → RefusesNow w told ty e calls after
  no_memory_slot n e calls after none next same =
      let s : ℕ = w.terms.stripe in
      let count : ℕ = w.terms.settings.num_stripes in
      let within : s < count = omega (arith, is.frame.stripe, is.stripe, is.world.plan.count) in
      let kind : kind_next f ≡ memory_kind = next_memory next in
      let its : allocator_for c.plan f ≡ stripe_allocator c.plan s = ap (λ (k : SlotKind). allocator_of c.plan k f.stripe) kind ∙ ap (stripe_allocator c.plan) is.stripe in
      let E : ℕ → ℕ → AllocError = λ limit stripe. refusal.Limit (record { limit = limit; kind = MemoryStripe stripe }) in
      let left : e ≡ E (stripe_slots w.terms) s =
      refused_for n e none memory_kind kind ∙ ap (λ (i : ℕ). E (stripe_allocator c.plan i).capacity i) is.stripe ∙ ap (λ (limit : ℕ). E limit s) (is.world.plan.room s within) in
      let full : w.alone ≡ true → stripe_slots w.terms ≤ live_count told =
      λ a.
      omega (
        arith,
        next,
        one_memory,
        memories_taken s count (stripe_slots w.terms) (instance f.objects) live is.world.plan.some
            (λ j below. gone w old new c f live told is n e none a memory_kind kind (s + j * count) (ap (λ (x : Allocator). has_number x (s + j * count)) its ∙ is.world.plan.each s j within below)),
        memories_told live told seen,
      ) in
      let Now : AllocError → Type 0 = λ x. RefusesNow w told ty x calls after in
      subst Now (sym left) (record { refused = inr (inl (inl refl)); room = full; counts = same })

  -- or for the heap.
  no_heap_slot : (n : ℕ) (e : AllocError) (calls after : ℕ) → FindsNone c f n e → IsHeapNext f → heap_refusal w.terms ty ≡ None → after ≡ calls → RefusesNow w told ty e calls after
  no_heap_slot n e calls after none next allowed same =
      let kind : kind_next f ≡ heap_kind = next_heap next in
      let its : allocator_for c.plan f ≡ allocator_of c.plan heap_kind 0 = ap (λ (k : SlotKind). allocator_of c.plan k f.stripe) kind in
      let E : ℕ → AllocError = λ limit. refusal.Limit (record { limit = limit; kind = GcHeaps }) in
      let left : e ≡ E w.terms.heap_slots = refused_for n e none heap_kind kind ∙ ap E is.world.heaps.room in
      let full : w.alone ≡ true → w.terms.heap_slots ≤ heap_count told =
      λ a.
      omega (
        arith,
        heaps_taken 0 1 w.terms.heap_slots (instance f.objects) live (omega arith)
            (λ j below. gone w old new c f live told is n e none a heap_kind kind (0 + j * 1) (ap (λ (x : Allocator). has_number x (0 + j * 1)) its ∙ is.world.heaps.each (0 + j * 1) (omega (arith, below)))),
        heaps_counted_told live told seen,
      ) in
      let Now : AllocError → Type 0 = λ x. RefusesNow w told ty x calls after in
      subst Now (sym left) (record { refused = inr (inr (allowed, refl)); room = full; counts = same })

  -- A call on the pages of its memory's slot failed.
  heap_faulted : (n : ℕ) (e : AllocError) (calls after : ℕ) → IsPageFaulted w.maker c f n e → after ≡ calls → RefusesNow w told ty e calls after
  heap_faulted n e calls after fault same =
      let slot : ℕ = fault.name.slot in
      let its : fault.name ≡ memory_slot slot = (λ i. record { kind = fault.region.kind i; slot = slot }) in
      let Has : SlotName → Type 0 = λ name. (k : ℕ) → slot_count (right_to (memory_slot k)) name + sum_by (granted_to (grant_count (right_to (memory_slot k)))) live ≤ made_slot k (memory_slots c.plan) in
      let held : Has (memory_slot slot) = subst Has its (λ k. omega (arith, fault.has (memory_slot k), is.once (memory_slot k))) in
      let inside : slot < memory_slots c.plan = fault.region.inside in
      let free : live_count told < w.terms.slots = omega (arith, memory_free (memory_slots c.plan) slot live held inside, memories_told live told seen, is.world.plan.total) in
      let Now : AllocError → Type 0 = λ x. RefusesNow w told ty x calls after in
      subst Now (sym fault.is)
      (record {
        refused = inr (inl (inr refl));
        room = (fault_of_slot w c.settings (memory_slots c.plan) slot fault.old fault.new is.world.plan.total inside fault.region.region fault.left, free);
        counts = same;
      })

  -- What is made of its memory goes with its own refusal.
  heap_made : (n : ℕ) (made : Result MemoryState AllocError) → Makes old new c f n made → GoesWith (heap_refusal w.terms ty) made
  heap_made n made makes =
      let k : ℕ = length f.objects.memories.items in
      let want : MemoryWant = heap_memory ty in
      let first : k ≡ 0 = omega (arith, makes.next, one_memory) in
      let there : slice_get (memories_wanted f.asked) k ≡ Some want.decl = ap (λ (asked : Asked). slice_get (memories_wanted asked) k) for ∙ ap (λ (i : ℕ). slice_get (want.decl ∷ []) i) first in
      let supported : IsSupported c.settings want.decl (slice_index_or (images_wanted f.asked) k None) = told_of (λ d. IsSupported c.settings d (slice_index_or (images_wanted f.asked) k None)) (slice_get (memories_wanted f.asked) k) want.decl there (makes.allocating.to_grant.supported.each k) in
      let asks : AsksForMemory makes.given old.limiter new.limiter want.decl = told_of (AsksForMemory makes.given old.limiter new.limiter) (slice_get (memories_wanted f.asked) k) want.decl there makes.asked in
      let own : Option AllocError = own_refusal w.terms (new_memory want) in
      let Made : Option MemoryDecl → Type 0 = λ o. GoesWith own (made_for c.settings.max_memory_size makes.given makes.held o) in
      subst (GoesWith own) makes.is
      (subst Made (sym there) (own_goes w.terms makes.given want c.settings.max_memory_size makes.held (answer_told w.terms.host.rule old.limiter.rule makes.given (minimum_asked want.decl.ty) (maximum_asked want.decl.ty) is.rule asks.answer) supported.minimum))

  heap_own : (n : ℕ) (e : AllocError) (calls after : ℕ) → Makes old new c f n (Err e) → after ≡ calls → RefusesNow w told ty e calls after
  heap_own n e calls after makes same = let own : heap_refusal w.terms ty ≡ Some e = heap_made n (Err e) makes in own_refuses w told ty calls after e own (own_is w.terms ty e own) same

  -- Its memory was made where so many of its objects are.
  pub heap_allowed : (n m : ℕ) → (0 < n → heap_refusal w.terms ty ≡ None) → Follows old new c f (seeks_heap n) (seeks_heap m) → 0 < m → heap_refusal w.terms ty ≡ None
  heap_allowed n m allowed follows some =
      elim follows [
        | inl same ↦ allowed (omega (arith, same, some))
        | inr more ↦ heap_made n (Ok more.1.0) more.1.1
      ]

  -- Where the heap is next, it was.
  pub heap_sought : (n : ℕ) → SeeksHeap c f n → 0 < n
  heap_sought n seeks = omega (arith, seeks.number, seeks.next.0, one_memory)

  -- the maker of the party's heaps, before and after
  module _ (was now : ListedHeaps) (of_old : old.heaps ≡ heaps_told was) (of_new : new.heaps ≡ heaps_told now) (listed : was.failing ≡ w.terms.host.unmade) where
    -- The maker failed.
    maker_failed : (n : ℕ) (e : AllocError) → (0 < n → heap_refusal w.terms ty ≡ None) → FailsHeap old new c f n e → RefusesNow w told ty e was.made now.made
    maker_failed n e allowed failed =
        let fault : HeapMakeFault = failed.0 in
        let Old : HeapsTold → Type 0 = λ t. MakesHeap {H = PlainHeap} (Err fault) t new.heaps in
        let New : HeapsTold → Type 0 = λ t. MakesHeap {H = PlainHeap} (Err fault) (heaps_told was) t in
        let makes : MakesHeap {H = PlainHeap} (Err fault) (heaps_told was) (heaps_told now) = subst New of_new (subst Old of_old failed.1.1.0) in
        let its : fault ≡ HeapFault = (makes.wants refl).0 in
        let Now : AllocError → Type 0 = λ x. RefusesNow w told ty x was.made now.made in
        let listed_now : goes_through w.terms.host.unmade was.made ≡ false = ap (λ (l : List ℕ). goes_through l was.made) (sym listed) ∙ ap not (makes.planned its) in
        subst Now (sym (failed.1.1.1 ∙ ap heap_refusal_of its))
        (record { refused = allowed (heap_sought n failed.1.0); room = tt; counts = (listed_now, ap (λ (t : HeapsTold). t.made) makes.maker) })

    -- Each refusal of a heap that was tested.
    pub heap_refused_now : (n : ℕ) (e : AllocError) → (0 < n → heap_refusal w.terms ty ≡ None) → now.made ≡ was.made → Raises w.maker old new c f (seeks_heap n) e → RefusesNow w told ty e was.made now.made
    heap_refused_now n e allowed same raises =
        elim raises [
          | inl found ↦
              elim (cases_lt (length f.objects.memories.items) 1) [
                | inl memory ↦ no_memory_slot n e was.made now.made found (omega (arith, memory, one_memory)) same
                | inr there ↦
                    let one : heaps_wanted f.asked ≡ 1 = ap heaps_wanted for in
                    no_heap_slot n e was.made now.made found (omega (arith, there, one_memory), one) (allowed (omega (arith, found.number, there))) same
              ]
          | inr (inl fault) ↦ heap_faulted n e was.made now.made fault same
          | inr (inr (inl makes)) ↦ heap_own n e was.made now.made makes same
          | inr (inr (inr failed)) ↦ maker_failed n e allowed failed
        ]

    -- Where the maker fails in this step, its memory was made.
    pub heap_failed_now : (n : ℕ) → (0 < n → heap_refusal w.terms ty ≡ None) → Raises w.maker old new c f (seeks_heap n) refusal.HeapFault → heap_refusal w.terms ty ≡ None
    heap_failed_now n allowed raises =
        elim raises [
          | inl found ↦ absurd (let no : refusal.HeapFault ≡ refusal.Limit _ = found.is in cc)
          | inr (inl fault) ↦ absurd (let no : refusal.HeapFault ≡ refusal.PageFault = fault.is in cc)
          | inr (inr (inl makes)) ↦ absurd (own_is w.terms ty refusal.HeapFault (heap_made n (Err refusal.HeapFault) makes))
          | inr (inr (inr failed)) ↦ allowed (heap_sought n failed.1.0)
        ]

  -- How the test of a heap ends it at once,
  barred_by : (collector : Bool) (o : Option Unsupported) → c.settings.tunables.tunables.collector ≡ collector → heap_refused c.settings f.asked ≡ o → heap_barred w.terms ty ≡ (if collector then option_map refusal.Unsupported o else Some refusal.HeapsDisabled)
  barred_by collector o is_on rules =
      let B : Settings → Option AllocError = λ s. if s.tunables.tunables.collector then option_map refusal.Unsupported (type_refused s ty) else Some refusal.HeapsDisabled in
      let its : type_refused c.settings ty ≡ o = ap (heap_refused c.settings) (sym for) ∙ rules in
      ap B is.world.settings ∙ ap (λ b. if b then option_map refusal.Unsupported (type_refused c.settings ty) else Some refusal.HeapsDisabled) is_on
      ∙ ap (λ (x : Option Unsupported). if collector then option_map refusal.Unsupported x else Some refusal.HeapsDisabled) its

  abbrev pub RefusedAt : ℕ → ℕ → AllocError → Type 0
  RefusedAt calls after e = RefusesHeap (heap_barred w.terms ty) w.terms ty e × IsForHeapRoom w told e × CountsRefused w.terms.host.unmade e calls after

  untested_by : (calls after : ℕ) (o : Option Unsupported) (e : AllocError) → after ≡ calls → c.settings.tunables.tunables.collector ≡ true → heap_refused c.settings f.asked ≡ o → IsUntested o e → RefusedAt calls after e
  untested_by calls after (Some rule) e same on rules untested =
      let R : Option AllocError → Type 0 = λ o. RefusesHeap o w.terms ty (refusal.Unsupported rule) in
      subst (RefusedAt calls after) (sym untested) (subst R (sym (barred_by true (Some rule) on rules)) refl, tt, same)
  untested_by calls after None e same on rules untested =
      let R : Option AllocError → Type 0 = λ o. RefusesHeap o w.terms ty refusal.Memory in
      subst (RefusedAt calls after) (sym untested) (subst R (sym (barred_by true None on rules)) (inl (inl refl)), tt, same)

  pub untested_heap : (calls after : ℕ) (e : AllocError) → after ≡ calls → IsHeapUntested c f e → RefusedAt calls after e
  untested_heap calls after e same untested =
      elim untested [
        | inl off ↦
            let R : Option AllocError → Type 0 = λ o. RefusesHeap o w.terms ty refusal.HeapsDisabled in
            subst (RefusedAt calls after) (sym off.1) (subst R (sym (barred_by false (heap_refused c.settings f.asked) off.0 refl)) refl, tt, same)
        | inr on ↦ untested_by calls after (heap_refused c.settings f.asked) e same on.0 refl on.2
      ]

  -- and that it is passed.
  pub tested_heap : IsHeapTested c f → heap_barred w.terms ty ≡ None
  tested_heap tested = barred_by true None tested.enabled tested.rules

  -- What is granted begins as what is asked for does.
  pub heap_begun : (lease : LeasedHeap PlainHeap) (memory : Lease) → IsHeapOf w.maker c.settings c.plan f.asked lease memory → private_grant {P = P} (heap lease memory) ≡ heap_grant lease.index (begun_memory w.terms memory.index (heap_memory ty))
  heap_begun lease memory of =
      let its : of.ty ≡ ty = let both : heap_asked of.ty ≡ heap_asked ty = sym of.asked_for ∙ for in cc in
      let begins : private_memory memory ≡ begun_memory w.terms memory.index (heap_memory of.ty) = begun_seen w.terms w.maker c.settings None (plain_decl of.ty) memory is.world.tells is.world.settings of.memory_is.slot of.begins tt in
      ap (heap_grant lease.index) (begins ∙ ap (λ (x : MemoryType). begun_memory w.terms memory.index (heap_memory x)) its)

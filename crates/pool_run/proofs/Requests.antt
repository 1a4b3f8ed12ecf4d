-- What a step makes of a request, as its party is told: it goes on, is refused for a cause, or is granted what it asked for.
use Rattle.std.proofs.Common.{◌≡◌, ℕ, zero, suc, ◌+◌, ◌*◌, ◌<◌, ◌≤◌, ◌⊎◌, if◌then◌else◌, true, List, [], ◌∷◌, length, map, Option, Some, None, Result, Ok, Err, refl, sym, ap, ◌∙◌, subst, inl, inr, arith, All, nat_lt, IfSome, slice_get, slice_index_or, sum_by}
use Rattle.pool_run.proofs.Imports.{kept_of, cases_eq, cases_lt, le-ltb, lt-ltb, All-get_or, slice_get_within, get_or_from_slice_get, MemoryDecl, Unsupported, Image, FitsInto, minimum_byte_size, minimum_asked, maximum_asked, MemoryState, AllocError, PartyTold, AsksForMemory, Lease, memory_slot, made_for, objects_in, objects_wanted, right_to, instance_count, slot_count, frame_count, kept_count, away_count, frame_instances, Asked, module_asked, MemoryWant, Want, new_memory, new_table, wants_from, module_refused, IsFrame, IsAllocating, IsMemoryNext, IsTableNext, IsSupported, AreSupported, IsNew, AreBegun, IsLeaseOf, AreLeasesOf, Progress, untested, uncounted, admitted, seeks_stack, tests_heap, seeks_heap, seeks_single, counts_heap, FindsNone, IsPageFaulted, Makes, MakesTable, IsUntested, Raises, Follows, grant_count, IsModule, kind_by, IsForObjects, info_wanted, memories_wanted, images_wanted, tables_wanted, memory_slots, stripe_allocator, allocator_of, allocator_for, kind_next, limit_of, IsTableLease, IsBegunTable, LeasedTable, AsksForTable, table_in, made_table, made_unless, table_refused, SlotKind, memory_kind, table_kind, ModuleInfo, TableType, type_maximum, PoolCore, Settings, Frame, Grant, instance, InstanceLease, of_kind, SlotName, Allocator, has_number, PlainHeap, Counts, counted_instance, counters_counted, frame_counted, only, grant_counted}
use Rattle.pool_slots.specs.declared.errors.AllocError.TheVariants as refusal
use Rattle.pool_run.proofs.SlotsMade.{made_slot}
use Rattle.pool_run.specs.Private.{Grants, stripe_slots, PrivateMemory, instance_grant, module_of, Request, request_of, wants_of, begun, begun_memory, begun_table, begun_instance, own_refusal, slots_asked, table_room}
use Rattle.pool_run.specs.PrivateTables.{PrivateTable}
use Rattle.pool_run.specs.Rooms as rooms
use Rattle.pool_run.specs.Rooms.{World, live_count, table_count}
use Rattle.pool_run.specs.Turns.{grants_of, private_memory, private_table, private_grant}
use Rattle.pool_run.specs.Ties.{granted_to, IsFor, HasNoRefusal, IsAdmitted, IsSoFar, HasCause, IsAlone}
use Rattle.pool_run.specs.Worlds.{IsWorldOf}
use Rattle.pool_run.proofs.Bytes.{begun_seen}
use Rattle.pool_run.proofs.Causes.{slots_given, tables_given, instances_given, fault_given, fault_of_slot, given_cause, own_cause, broken_cause, memory_cause, first_is, asked_more, GoesWith, own_goes, table_goes}
use Rattle.pool_run.proofs.Exhausted.{instances_told}
use Rattle.pool_run.proofs.SlotKinds.{memories_taken, tables_taken, memory_free, memories_told, tables_told}
use Rattle.pool_run.proofs.TableChanges.{table_answer_told}
use Rattle.pool_run.proofs.TablesBegun.{table_seen}
use Rattle.pool_run.proofs.Growths.{answer_told}
use Rattle.pool_run.proofs.Wants.{IsWanted, wants_there, count_wanted, count_all, memory_at, table_at}
use Rattle.pool_run.proofs.Weighed.{alone_units, alone_counts}
use Rattle.pool_alloc.proofs.StageCounts.{no_instance_counted}

-- the tables of the module that is asked for
tables_told_by : (asked : Asked) → IsModule asked → tables_wanted asked ≡ (info_wanted asked).tables
tables_told_by (module_asked m) is = refl
tables_told_by _ is = absurd is

-- a module has memories and tables, and neither a stack nor a heap
for_instance : (asked : Asked) → IsModule asked → IsForObjects asked
for_instance (module_asked m) is = record { no_stack = refl; no_heap = refl }
for_instance _ is = absurd is

kind_of_module : (asked : Asked) (n : ℕ) → IsModule asked → kind_by asked n ≡ (if nat_lt n (length (memories_wanted asked)) then memory_kind else table_kind)
kind_of_module (module_asked m) n is = refl
kind_of_module _ n is = absurd is

-- what there is of an element that is told of
told_there : {X : Type 0} (Q : Type 0) (xs : List X) (k : ℕ) → k < length xs → ((x : X) → slice_get xs k ≡ Some x → Q) → Q
told_there Q [] k below step = absurd (omega (arith, below))
told_there Q (x ∷ xs) zero below step = step x refl
told_there Q (x ∷ xs) (suc k) below step = told_there Q xs k (omega (arith, below)) (λ y is. step y is)

-- what is told of it
pub told_of : {X : Type 0} (A : X → Type 0) (o : Option X) (x : X) → o ≡ Some x → IfSome o A → A x
told_of A None x is h = absurd cc
told_of A (Some y) x is h = let same : y ≡ x = cc in subst A same h

leased : {L : Type 0} (A : L → Type 0) (leases : List L) (j : ℕ) (l : L) → slice_get leases j ≡ Some l → All A leases → A l
leased A leases j l there each = subst A (get_or_from_slice_get leases j l l there) (All-get_or A leases j l (slice_get_within leases j l there) each)

-- the slots of leases
abbrev pub slots_of : List Lease → List ℕ
slots_of leases = map (λ l. l.index) leases

abbrev pub table_slots_of : List LeasedTable → List ℕ
table_slots_of leases = map (λ l. l.index) leases

-- leases that each begin so are objects that begin so
all_begun : {W L X : Type 0} (make : ℕ → W → X) (index : L → ℕ) (seen : L → X) (wants : List W) (leases : List L) → length leases ≡ length wants → ((j : ℕ) (l : L) (want : W) → slice_get leases j ≡ Some l → slice_get wants j ≡ Some want → seen l ≡ make (index l) want) → map seen leases ≡ begun make wants (map index leases)
all_begun make index seen [] [] same each = refl
all_begun make index seen [] (l ∷ ls) same each = absurd (omega (arith, same))
all_begun make index seen (x ∷ xs) [] same each = absurd (omega (arith, same))
all_begun {X = X} make index seen (x ∷ xs) (l ∷ ls) same each =
    let rest : map seen ls ≡ begun make xs (map index ls) = all_begun make index seen xs ls (omega (arith, same)) (λ j y want there asked. each (suc j) y want there asked) in
    ap (λ (m : X). m ∷ map seen ls) (each 0 l x refl refl) ∙ ap (λ (ms : List X). make (index l) x ∷ ms) rest

-- a party of this world with these live grants, which was told of these, and whose call is this
module _ {P : Type 0} (w : World) (old new : PartyTold) (c : PoolCore P PlainHeap) (f : Frame P PlainHeap) (live : List (Option (Grant P PlainHeap))) (told : Grants) where
  -- What is so of the pool and the party before a step.
  pub record IsBefore : Type 0 where
    pub world : IsWorldOf w c
    pub frame : IsFrame w.maker c.settings c.plan f
    pub once : (name : SlotName) → frame_count (right_to name) f + sum_by (granted_to (grant_count (right_to name))) live ≤ made_slot name.slot (of_kind name.kind c.plan.totals)
    pub counted : w.counts ≡ true → (n : Counts) → frame_counted n f + sum_by (granted_to (grant_counted n)) live ≤ counters_counted n c.counters
    pub alone : w.alone ≡ true → IsAlone c f live
    pub rule : old.limiter.rule ≡ Some w.terms.host.rule
    pub stripe : f.stripe ≡ w.terms.stripe

module _ {P : Type 0} (w : World) (old new : PartyTold) (c : PoolCore P PlainHeap) (f : Frame P PlainHeap) (live : List (Option (Grant P PlainHeap))) (told : Grants) (is : IsBefore w old new c f live told) where
  -- Where the party is alone and no slot is found, each of the allocator is with it.
  pub gone : (n : ℕ) (e : AllocError) → FindsNone c f n e → w.alone ≡ true → (kind : SlotKind) → kind_next f ≡ kind → (k : ℕ) → has_number (allocator_for c.plan f) k ≡ true
      → 1 ≤ instance_count (right_to (record { kind = kind; slot = k })) f.objects + sum_by (granted_to (grant_count (right_to (record { kind = kind; slot = k })))) live
  gone n e none a kind next k number =
      let name : SlotName = record { kind = kind; slot = k } in
      let alone : IsAlone c f live = is.alone a in
      let Gone : SlotKind → Type 0 = λ x. (kept_count (right_to (record { kind = x; slot = k })) c ≡ 0) × (away_count (right_to (record { kind = x; slot = k })) c ≡ 1) in
      let out : Gone kind = subst Gone next (none.none alone.searched k number) in
      omega (arith, alone_units c f live alone (right_to name), out.0, out.1, none.has name)

module _ {P : Type 0} (w : World) (old new : PartyTold) (c : PoolCore P PlainHeap) (f : Frame P PlainHeap) (live : List (Option (Grant P PlainHeap))) (told : Grants) (is : IsBefore w old new c f live told) (seen : grants_of live ≡ told) (number : ℕ) (asked : IsFor w.terms number f.asked) where
  abbrev request : Request
  request = request_of w.terms number

  -- the party's stripe is one of the pool's
  within_stripes : w.terms.stripe < w.terms.settings.num_stripes
  within_stripes = omega (arith, is.frame.stripe, is.stripe, is.world.plan.count)

  -- the allocator of a memory, and that of a table
  of_stripe : kind_next f ≡ memory_kind → allocator_for c.plan f ≡ stripe_allocator c.plan w.terms.stripe
  of_stripe next = ap (λ (kind : SlotKind). allocator_of c.plan kind f.stripe) next ∙ ap (stripe_allocator c.plan) is.stripe

  of_tables : kind_next f ≡ table_kind → allocator_for c.plan f ≡ allocator_of c.plan table_kind 0
  of_tables next = ap (λ (kind : SlotKind). allocator_of c.plan kind f.stripe) next

  -- what comes next: a memory, or a table
  next_memory : IsMemoryNext f → kind_next f ≡ memory_kind
  next_memory next = kind_of_module f.asked (length f.objects.memories.items) asked.of_module ∙ ap (λ b. if b then memory_kind else table_kind) (lt-ltb (length f.objects.memories.items) (length (memories_wanted f.asked)) next)

  next_table : IsTableNext f → kind_next f ≡ table_kind
  next_table next = kind_of_module f.asked (length f.objects.memories.items) asked.of_module ∙ ap (λ b. if b then memory_kind else table_kind) (le-ltb (length f.objects.memories.items) (length (memories_wanted f.asked)) next.0)

  its_tables : tables_wanted f.asked ≡ request.tables
  its_tables = tables_told_by f.asked asked.of_module ∙ ap (λ (m : ModuleInfo). m.tables) asked.info

  pub memory_number : length (memories_wanted f.asked) ≡ length request.memories
  memory_number = sym (count_wanted (memories_wanted f.asked) (images_wanted f.asked)) ∙ ap (length {A = MemoryWant}) asked.memories

  pub table_number : length (tables_wanted f.asked) ≡ length request.tables
  table_number = ap (length {A = TableType}) its_tables

  pub same_number : objects_wanted f.asked ≡ length (wants_of request)
  same_number = omega (arith, memory_number, table_number, (for_instance f.asked asked.of_module).no_stack, (for_instance f.asked asked.of_module).no_heap, count_all request)

  -- the rule that the module breaks
  broken_is : (o : Option Unsupported) → module_refused c.settings c.plan.totals.table (info_wanted f.asked) ≡ o → request.broken ≡ o
  broken_is o broken =
      let m : ModuleInfo = module_of w.terms number in
      ap (λ (s : Settings). module_refused s w.terms.table_slots m) is.world.settings ∙ ap (λ (n : ℕ). module_refused c.settings n m) is.world.tables.total
      ∙ ap (module_refused c.settings c.plan.totals.table) (sym asked.info) ∙ broken

  -- a slot is asked for what is allocated
  asked_now : (n : ℕ) → IsAdmitted w request told n → n ≡ objects_in f.objects → IsAllocating c.settings c.plan f → n < slots_asked w.terms (wants_of request)
  asked_now n so same allocating =
      asked_more w.terms (wants_of request) n (omega (arith, same, allocating.more, same_number)) so.allowed

  -- the memory that is allocated, and the table
  memory_now : (Q : Type 0) (n : ℕ) → n ≡ objects_in f.objects → IsAllocating c.settings c.plan f → IsMemoryNext f
      → ((want : MemoryWant) → n ≡ length f.objects.memories.items → slice_get request.memories n ≡ Some want → IsWanted (memories_wanted f.asked) (images_wanted f.asked) (length f.objects.memories.items) want → Q) → Q
  memory_now Q n same allocating next step =
      let place : n ≡ length f.objects.memories.items = omega (arith, same, ap (length {A = LeasedTable}) (allocating.to_grant.order next)) in
      told_there Q request.memories n (omega (arith, place, next, memory_number))
      (λ want there.
      let at : slice_get (wants_from (memories_wanted f.asked) (images_wanted f.asked)) (length f.objects.memories.items) ≡ Some want =
      ap (slice_get (wants_from (memories_wanted f.asked) (images_wanted f.asked))) (sym place) ∙ ap (λ (ws : List MemoryWant). slice_get ws n) asked.memories ∙ there in
      step want place there (wants_there (memories_wanted f.asked) (images_wanted f.asked) (length f.objects.memories.items) want at))

  table_now : (Q : Type 0) (n : ℕ) → n ≡ objects_in f.objects → IsAllocating c.settings c.plan f → IsTableNext f
      → ((ty : TableType) → n ≡ length request.memories + length f.objects.tables.items → slice_get request.tables (length f.objects.tables.items) ≡ Some ty → Q) → Q
  table_now Q n same allocating next step =
      let place : n ≡ length request.memories + length f.objects.tables.items = omega (arith, same, memory_number, next.0, allocating.to_grant.few, (kept_of f.asked).memories) in
      told_there Q request.tables (length f.objects.tables.items) (omega (arith, place, same, allocating.more, memory_number, table_number, (for_instance f.asked asked.of_module).no_stack, (for_instance f.asked asked.of_module).no_heap)) (λ ty there. step ty place there)

  -- how it is refused
  refused_for : (n : ℕ) (e : AllocError) → FindsNone c f n e → (kind : SlotKind) → kind_next f ≡ kind → e ≡ refusal.Limit (record { limit = (allocator_for c.plan f).capacity; kind = limit_of kind f.stripe })
  refused_for n e none kind next = none.is ∙ ap (λ (k : SlotKind). refusal.Limit (record { limit = (allocator_for c.plan f).capacity; kind = limit_of k f.stripe })) next

  -- No slot is found for a memory, or for a table: where the party is alone, its live ones and those of the instance are too
  -- many.
  no_memory_slot : (n : ℕ) (e : AllocError) → IsAdmitted w request told n → FindsNone c f n e → IsMemoryNext f → HasCause w request told e
  no_memory_slot n e so none next =
      let s : ℕ = w.terms.stripe in
      let count : ℕ = w.terms.settings.num_stripes in
      let kind : kind_next f ≡ memory_kind = next_memory next in
      let its : allocator_for c.plan f ≡ stripe_allocator c.plan s = of_stripe kind in
      let room : stripe_slots w.terms ≡ (allocator_for c.plan f).capacity = sym (is.world.plan.room s within_stripes) ∙ sym (ap (λ (x : Allocator). x.capacity) its) in
      memory_now (HasCause w request told e) n none.number none.allocating next
      (λ want place there wanted.
      let full : w.alone ≡ true → stripe_slots w.terms ≤ live_count told + n =
      λ a.
      omega (
        arith,
        place,
        memories_taken s count (stripe_slots w.terms) (instance f.objects) live is.world.plan.some
            (λ j below. gone w old new c f live told is n e none a memory_kind kind (s + j * count) (ap (λ (x : Allocator). has_number x (s + j * count)) its ∙ is.world.plan.each s j within_stripes below)),
        memories_told live told seen,
      ) in
      subst (HasCause w request told) (sym (refused_for n e none memory_kind kind))
      (given_cause w request told _ so.supported (slots_given w request told (allocator_for c.plan f).capacity f.stripe n want room is.stripe there (asked_now n so none.number none.allocating) full)))

  no_table_slot : (n : ℕ) (e : AllocError) → IsAdmitted w request told n → FindsNone c f n e → IsTableNext f → HasCause w request told e
  no_table_slot n e so none next =
      let kind : kind_next f ≡ table_kind = next_table next in
      let its : allocator_for c.plan f ≡ allocator_of c.plan table_kind 0 = of_tables kind in
      let room : w.terms.table_slots ≡ (allocator_for c.plan f).capacity = sym is.world.tables.room ∙ sym (ap (λ (x : Allocator). x.capacity) its) in
      table_now (HasCause w request told e) n none.number none.allocating next
      (λ ty place there.
      let full : w.alone ≡ true → w.terms.table_slots ≤ table_count told + length f.objects.tables.items =
      λ a.
      omega (
        arith,
        tables_taken 0 1 w.terms.table_slots (instance f.objects) live (omega arith)
            (λ j below. gone w old new c f live told is n e none a table_kind kind (0 + j * 1) (ap (λ (x : Allocator). has_number x (0 + j * 1)) its ∙ is.world.tables.each (0 + j * 1) (omega (arith, below)))),
        tables_told live told seen,
      ) in
      subst (HasCause w request told) (sym (refused_for n e none table_kind kind))
      (given_cause w request told _ so.supported
      (tables_given w request told (allocator_for c.plan f).capacity (length f.objects.tables.items) ty room there (omega (arith, place, asked_now n so none.number none.allocating)) full)))

  none_cause : (n : ℕ) (e : AllocError) → IsAdmitted w request told n → FindsNone c f n e → HasCause w request told e
  none_cause n e so none =
      elim (cases_lt (length f.objects.memories.items) (length (memories_wanted f.asked))) [ inl memory ↦ no_memory_slot n e so none memory | inr table ↦ no_table_slot n e so none (table, for_instance f.asked asked.of_module) ]

  -- A call on the pages of its slot failed.
  fault_cause : (n : ℕ) (e : AllocError) → IsAdmitted w request told n → IsPageFaulted w.maker c f n e → HasCause w request told e
  fault_cause n e so fault =
      let slot : ℕ = fault.name.slot in
      let its : fault.name ≡ memory_slot slot = (λ i. record { kind = fault.region.kind i; slot = slot }) in
      let Has : SlotName → Type 0 = λ name. (k : ℕ) → slot_count (right_to (memory_slot k)) name + sum_by (granted_to (grant_count (right_to (memory_slot k)))) live ≤ made_slot k (memory_slots c.plan) in
      let held : Has (memory_slot slot) = subst Has its (λ k. omega (arith, fault.has (memory_slot k), is.once (memory_slot k))) in
      let inside : slot < memory_slots c.plan = fault.region.inside in
      let free : live_count told < w.terms.slots = omega (arith, memory_free (memory_slots c.plan) slot live held inside, memories_told live told seen, is.world.plan.total) in
      memory_now (HasCause w request told e) n fault.number fault.allocating fault.next
      (λ want place there wanted.
      subst (HasCause w request told) (sym fault.is)
      (given_cause w request told refusal.PageFault so.supported
      (fault_given w request told n want there (asked_now n so fault.number fault.allocating)
      (fault_of_slot w c.settings (memory_slots c.plan) slot fault.old fault.new is.world.plan.total inside fault.region.region fault.left) free)))

  -- What is made of memory n goes with its own refusal.
  made_own : (n : ℕ) (made : Result MemoryState AllocError) (want : MemoryWant) → IsWanted (memories_wanted f.asked) (images_wanted f.asked) (length f.objects.memories.items) want → Makes old new c f n made → GoesWith (own_refusal w.terms (new_memory want)) made
  made_own n made want wanted makes =
      let k : ℕ = length f.objects.memories.items in
      let there : slice_get (memories_wanted f.asked) k ≡ Some want.decl = wanted.wanted in
      let supported : IsSupported c.settings want.decl (slice_index_or (images_wanted f.asked) k None) = told_of (λ d. IsSupported c.settings d (slice_index_or (images_wanted f.asked) k None)) (slice_get (memories_wanted f.asked) k) want.decl there (makes.allocating.to_grant.supported.each k) in
      let asks : AsksForMemory makes.given old.limiter new.limiter want.decl = told_of (AsksForMemory makes.given old.limiter new.limiter) (slice_get (memories_wanted f.asked) k) want.decl there makes.asked in
      let own : Option AllocError = own_refusal w.terms (new_memory want) in
      let Made : Option MemoryDecl → Type 0 = λ o. GoesWith own (made_for c.settings.max_memory_size makes.given makes.held o) in
      subst (GoesWith own) makes.is
      (subst Made (sym there) (own_goes w.terms makes.given want c.settings.max_memory_size makes.held (answer_told w.terms.host.rule old.limiter.rule makes.given (minimum_asked want.decl.ty) (maximum_asked want.decl.ty) is.rule asks.answer) supported.minimum))

  -- And so does what is made of a table.
  table_own : (n : ℕ) (made : Result LeasedTable AllocError) (ty : TableType) → slice_get request.tables (length f.objects.tables.items) ≡ Some ty → MakesTable old new c f n made → GoesWith (own_refusal w.terms (new_table ty)) made
  table_own n made ty at makes =
      let k : ℕ = length f.objects.tables.items in
      let there : slice_get (tables_wanted f.asked) k ≡ Some ty = ap (λ (ts : List TableType). slice_get ts k) its_tables ∙ at in
      let asks : AsksForTable makes.given old.limiter new.limiter ty = told_of (AsksForTable makes.given old.limiter new.limiter) (slice_get (tables_wanted f.asked) k) ty there makes.asked in
      let own : Option AllocError = own_refusal w.terms (new_table ty) in
      let most : Option ℕ = Some (type_maximum ty) in
      let Made : Option TableType → Type 0 = λ o. GoesWith own (made_table c.settings makes.given makes.at makes.region o) in
      let In : Settings → Type 0 = λ s. GoesWith own (made_unless (table_refused makes.given ty.limits.min (table_room s ty)) (table_in c.settings ty makes.at makes.region)) in
      subst (GoesWith own) makes.is
      (subst Made (sym there)
      (subst In is.world.settings (table_goes w.terms makes.given ty (table_in c.settings ty makes.at makes.region) (table_answer_told w.terms.host.rule old.limiter.rule makes.given ty.limits.min most is.rule asks.answers))))

  own_by : (n : ℕ) (e : AllocError) → IsAdmitted w request told n → Makes old new c f n (Err e) → HasCause w request told e
  own_by n e so makes =
      memory_now (HasCause w request told e) n makes.number makes.allocating makes.next
      (λ want place there wanted.
      let own : own_refusal w.terms (new_memory want) ≡ Some e = made_own n (Err e) want wanted makes in
      own_cause w request told (new_memory want) e so.supported own (first_is w.terms (wants_of request) n (new_memory want) e so.allowed (memory_at request n want there) own))

  table_own_by : (n : ℕ) (e : AllocError) → IsAdmitted w request told n → MakesTable old new c f n (Err e) → HasCause w request told e
  table_own_by n e so makes =
      table_now (HasCause w request told e) n makes.number makes.allocating makes.next
      (λ ty place there.
      let own : own_refusal w.terms (new_table ty) ≡ Some e = table_own n (Err e) ty there makes in
      let at : slice_get (wants_of request) n ≡ Some (new_table ty) = ap (slice_get (wants_of request)) place ∙ table_at request (length f.objects.tables.items) ty there in
      own_cause w request told (new_table ty) e so.supported own (first_is w.terms (wants_of request) n (new_table ty) e so.allowed at own))

  untested_cause : (o : Option Unsupported) (e : AllocError) → module_refused c.settings c.plan.totals.table (info_wanted f.asked) ≡ o → IsUntested o e → HasCause w request told e
  untested_cause None e broken raises = subst (HasCause w request told) (sym raises) (memory_cause w request told)
  untested_cause (Some rule) e broken raises = subst (HasCause w request told) (sym raises) (broken_cause w request told rule (broken_is (Some rule) broken))

  -- A request is refused only for a cause.
  pub raised_cause : (p : Progress) (e : AllocError) → (p ≡ uncounted → frame_instances f ≡ 0) → IsSoFar w request told p → Raises w.maker old new c f p e → HasCause w request told e
  raised_cause untested e none so raises = untested_cause (module_refused c.settings c.plan.totals.table (info_wanted f.asked)) e refl raises
  raised_cause uncounted e none so raises =
      let most : w.terms.settings.max_core_instances ≡ c.settings.max_core_instances = ap (λ (s : Settings). s.max_core_instances) is.world.settings in
      let full : w.alone ≡ true → w.terms.settings.max_core_instances ≤ rooms.instance_count told =
      λ a. omega (arith, most, raises.1, alone_counts c f live (is.alone a) (only counted_instance), none refl, no_instance_counted f.phase, instances_told live told seen) in
      subst (HasCause w request told) (sym raises.0) (given_cause w request told _ so (instances_given w request told c.settings.max_core_instances most full))
  raised_cause (seeks_single n) e none so raises = absurd so
  raised_cause seeks_stack e none so raises = absurd so
  raised_cause tests_heap e none so raises = absurd so
  raised_cause (seeks_heap n) e none so raises = absurd so
  raised_cause counts_heap e none so raises = absurd so
  raised_cause (admitted n) e none so raises =
      elim raises [
        | inl found ↦ none_cause n e so found
        | inr (inl fault) ↦ fault_cause n e so fault
        | inr (inr (inl makes)) ↦ own_by n e so makes
        | inr (inr (inr makes)) ↦ table_own_by n e so makes
      ]

  no_own : (n : ℕ) (want : Want) → slice_get (wants_of request) n ≡ Some want → own_refusal w.terms want ≡ None → HasNoRefusal w.terms (wants_of request) n
  no_own n want at own =
      let Own : Option Want → Type 0 = λ o. IfSome o (λ x. own_refusal w.terms x ≡ None) in
      subst Own (sym at) own

  allowed_more : (n : ℕ) → IsAdmitted w request told n → ((memory : MemoryState) × Makes old new c f n (Ok memory)) ⊎ ((lease : LeasedTable) × MakesTable old new c f n (Ok lease)) → HasNoRefusal w.terms (wants_of request) n
  allowed_more n so (inl (memory, makes)) =
      memory_now (HasNoRefusal w.terms (wants_of request) n) n makes.number makes.allocating makes.next
      (λ want place there wanted. no_own n (new_memory want) (memory_at request n want there) (made_own n (Ok memory) want wanted makes))
  allowed_more n so (inr (lease, makes)) =
      table_now (HasNoRefusal w.terms (wants_of request) n) n makes.number makes.allocating makes.next
      (λ ty place there. no_own n (new_table ty) (ap (slice_get (wants_of request)) place ∙ table_at request (length f.objects.tables.items) ty there) (table_own n (Ok lease) ty there makes))

  -- It goes on with what is known of it then.
  pub goes_so_far : (p q : Progress) → IsSoFar w request told p → Follows old new c f p q → IsSoFar w request told q
  goes_so_far untested uncounted so follows = broken_is None follows
  goes_so_far uncounted (admitted m) so follows =
      let most : w.terms.settings.max_core_instances ≡ c.settings.max_core_instances = ap (λ (s : Settings). s.max_core_instances) is.world.settings in
      record { supported = so; counted = λ counts. omega (arith, most, follows.1, is.counted counts (only counted_instance), instances_told live told seen); allowed = λ k below. absurd (omega (arith, follows.0, below)) }
  goes_so_far (admitted n) (admitted m) so follows =
      elim follows [
        | inl same ↦ subst (IsAdmitted w request told) (sym same) so
        | inr more ↦
            record {
              supported = so.supported;
              counted = so.counted;
              allowed = λ k below.
                  elim (cases_eq k n) [
                    | inl last ↦ subst (HasNoRefusal w.terms (wants_of request)) (sym last) (allowed_more n so more.1)
                    | inr other ↦ so.allowed k (omega (arith, more.0, below, other))
                  ];
            }
      ]
  goes_so_far (seeks_single n) q so follows = absurd so
  goes_so_far seeks_stack q so follows = absurd so
  goes_so_far tests_heap q so follows = absurd so
  goes_so_far (seeks_heap n) q so follows = absurd so
  goes_so_far counts_heap q so follows = absurd so
  goes_so_far _ _ so follows = absurd follows

  -- What is granted begins as what is asked for does.
  pub granted_begun : (lease : InstanceLease P) → AreLeasesOf w.maker c.settings c.plan lease → length lease.memories.items ≡ length (memories_wanted f.asked) → AreBegun c.settings f.asked lease → length lease.tables.items ≡ length (tables_wanted f.asked) → AreSupported c.settings (memories_wanted f.asked) (images_wanted f.asked) → private_grant (instance lease) ≡ instance_grant (begun_instance w.terms request (slots_of lease.memories.items) (table_slots_of lease.tables.items))
  granted_begun lease each count begins table_count supported =
      let leases : List Lease = lease.memories.items in
      let tables : List LeasedTable = lease.tables.items in
      let Begun : List MemoryWant → Type 0 = λ ws. map private_memory leases ≡ begun (begun_memory w.terms) ws (slots_of leases) in
      let TablesBegun : List TableType → Type 0 = λ ts. map private_table tables ≡ begun (begun_table w.terms) ts (table_slots_of tables) in
      let begun_tables : TablesBegun request.tables =
      subst TablesBegun its_tables (all_begun (begun_table w.terms) (λ (l : LeasedTable). l.index) private_table (tables_wanted f.asked) tables table_count
      (λ j l ty there at.
      let begun_one : IsBegunTable c.settings l ty = told_of (IsBegunTable c.settings l) (slice_get (tables_wanted f.asked) j) ty at (told_of (λ x. IfSome (slice_get (tables_wanted f.asked) j) (IsBegunTable c.settings x)) (slice_get tables j) l there (begins.1 j)) in
      table_seen w.terms w.maker c.settings c.plan ty l is.world.tells is.world.settings (leased (IsTableLease w.maker c.settings c.plan) tables j l there each.1) begun_one)) in
      ap (λ (ts : List PrivateTable). instance_grant (record { memories = map private_memory leases; tables = ts })) begun_tables
      ∙ ap (λ (ms : List PrivateMemory). instance_grant (record { memories = ms; tables = begun (begun_table w.terms) request.tables (table_slots_of tables) }))
      (subst Begun asked.memories (all_begun (begun_memory w.terms) (λ (l : Lease). l.index) private_memory (wants_from (memories_wanted f.asked) (images_wanted f.asked)) leases (count ∙ sym (count_wanted (memories_wanted f.asked) (images_wanted f.asked)))
      (λ j l want there at.
      let given : Option Image = slice_index_or (images_wanted f.asked) j None in
      let asks : IsWanted (memories_wanted f.asked) (images_wanted f.asked) j want = wants_there (memories_wanted f.asked) (images_wanted f.asked) j want at in
      let decl : MemoryDecl = want.decl in
      let leased_one : IsLeaseOf w.maker c.settings c.plan l = leased (IsLeaseOf w.maker c.settings c.plan) leases j l there each.0 in
      let new : IsNew c.settings.max_memory_size given l.memory decl = told_of (IsNew c.settings.max_memory_size given l.memory) (slice_get (memories_wanted f.asked) j) decl asks.wanted (told_of (λ x. IfSome (slice_get (memories_wanted f.asked) j) (IsNew c.settings.max_memory_size given x.memory)) (slice_get leases j) l there (begins.0 j)) in
      let fits : IfSome given (FitsInto c.settings.page (minimum_byte_size decl.ty)) = (told_of (λ d. IsSupported c.settings d given) (slice_get (memories_wanted f.asked) j) decl asks.wanted (supported.each j)).image_fits in
      begun_seen w.terms w.maker c.settings given decl l is.world.tells is.world.settings leased_one.slot new fits ∙ ap (λ (image : Option Image). begun_memory w.terms l.index (record { decl = decl; image = image })) (sym asks.image))))

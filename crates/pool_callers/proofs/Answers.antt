-- What a call's end says of what it was for: a grant, a refusal, or a give-back.
use Rattle.std.proofs.Common.{◌≡◌, ⊎_elim, inr, ℕ, List, [], ◌∷◌, refl, sym, subst, ◌∙◌, arith, Some, None, ◌⊎◌, inl, Result, Err}
use Rattle.pool_limits.specs.Exchanges.{Exchange}
use Rattle.pool_limits.specs.LimiterTold.{LimiterTold}
use Rattle.pool_slots.specs.HeapsTold.{HeapsTold}
use Rattle.pool_alloc.specs.PartyTold.{PartyTold, MakesHeap}
use Rattle.pool_driver.specs.Asking.{CallAsks, HasAsked, AnswersMade, CallWants, HasCause, IfRefused as IfAskedRefused, WantsOfMaker}
use Rattle.pool_hall.specs.declared.view.View.{View}
use Rattle.pool_slots.specs.declared.errors.AllocError.{AllocError}
use Rattle.pool_slots.specs.declared.errors.AllocError.TheVariants as refusal
use Rattle.pool_slots.specs.declared.plan.Plan.{Plan}
use Rattle.pool_alloc.specs.Calls.{IsGrantOf, IsIdle, IfGranted}
use Rattle.pool_alloc.specs.Stepping.{count_granted}
use Rattle.pool_alloc.specs.declared.frame.Asked.{Asked}
use Rattle.pool_alloc.specs.declared.frame.Asked.TheVariants.{Nothing}
use Rattle.pool_alloc.specs.declared.frame.Asked.TheVariants as asked
use Rattle.pool_alloc.specs.declared.frame.Ending.TheVariants.{Returned as returned_ending}
use Rattle.pool_alloc.specs.declared.frame.Grant.TheVariants.{Instance}
use Rattle.pool_alloc.specs.declared.leases.instance.InstanceLease.{InstanceLease}
use Rattle.pool_alloc.specs.Leases.{Lease}
use Rattle.pool_alloc.specs.TableLeases.{LeasedTable}
use Rattle.pool_alloc.specs.Turns.{all_returned, returned_next}
use Rattle.pool_alloc.specs.declared.frame.Call.{Call}
use Rattle.pool_alloc.specs.declared.frame.Call.TheVariants as call
use Rattle.pool_alloc.specs.declared.frame.Frame.{Frame}
use Rattle.pool_alloc.specs.declared.frame.Grant.{Grant}
use Rattle.pool_alloc.specs.declared.frame.Outcome.{Outcome}
use Rattle.pool_alloc.specs.declared.frame.Outcome.TheVariants.{Key, Granted, Returned, Refused, Purged, Released}
use Rattle.pool_alloc.specs.CallStages.{stage_of}
use Rattle.pool_driver.specs.Appending.{IsForOne, NoneAppended, frame_dues, grant_dues, owed_by}
use Rattle.pool_driver.specs.Calling.{CallKind, HasEnded, MayAnswer, asks_for, draws_key, gives_back, kind_at, purges, releases}
use Rattle.pool_driver.specs.Driving.{IsDriven}
use Rattle.pool_driver.specs.Erasing.{GrantErased}
use Rattle.pool_driver.specs.Placed.{About}
use Rattle.pool_driver.specs.Limits.{IfRefused, KeepsStripe, Names}
use Rattle.pool_driver.specs.PageFaults.{CellFaulted, IfFaulted}
use Rattle.pool_driver.specs.Spending.{RefusalFewer}
use Rattle.pool_driver.specs.Telling.{AnswerTold, RefusalTold, WasOver, component_counter, instance_counter}
use Rattle.pool_driver.specs.UnknownPuts.{AnswerCaused, UnknownCaused, UnlessUnmade}
use Rattle.pool_alloc.proofs.BegunFrames.{at_rest}
use Rattle.pool_driver.proofs.Appending.{begun_owes}
use Rattle.pool_driver.proofs.Calling.{grant_of, none_returned}
use Rattle.pool_callers.specs.Callers.{Gives, Goes, IsBounded, IsGivenBack, IsGranted, IsKept, IsRefused, begun_from, given_for, given_in, HasAskedMaker}
use Rattle.pool_callers.specs.NoHeapsTold.{nobody_told}
use Rattle.pool_callers.proofs.Settling.{gains, keeps, loses, may_give}
use Rattle.pool_slots.specs.declared.heap_maker.HeapMakeFault.{HeapMakeFault}
use Rattle.pool_slots.specs.declared.heap_maker.HeapMakeFault.TheVariants as no_heap
use Rattle.pool_types.specs.Rising.{Rose}
use Rattle.pool_slots.specs.declared.allocation_index.MemoryAllocationIndex.{MemoryAllocationIndex}

-- What a call owes that gives something back, in a seat that makes none.
pub owes_grant : {T P H : Type 0} (places : ℕ) (a : About) (v : View T) (home : ℕ) (f : Frame P H) (x : Grant P H) → IsIdle f → IsDriven places (given_in a v) v f None → frame_dues (owed_by a.settings) (begun_from home (call.GiveBack x) f) ≡ grant_dues (owed_by a.settings) x
owes_grant places a v home f x idle driven = begun_owes (owed_by a.settings) x (record f { home = home }) (at_rest a.maker a.settings a.plan f driven.frame idle)

-- A give-back is answered so.
pub returned : {P H : Type 0} (x : Outcome P H) → MayAnswer gives_back x → x ≡ Returned
returned Returned may = refl
returned x may = absurd may

-- A key brings nothing.
pub none_drawn : {P H : Type 0} (of : Grant P H → ℕ) (o : Outcome P H) → MayAnswer draws_key o → count_granted of (Some o) ≡ 0
none_drawn of Key may = refl
none_drawn of o may = absurd may

-- What is known of it where a key was drawn,
pub drawn_caused : {P H : Type 0} (known : Type 0) (o : Outcome P H) → MayAnswer draws_key o → AnswerCaused known o → known
drawn_caused known Key may k = k
drawn_caused known o may k = absurd may

-- where a seat's view stays,
pub stays_caused : {T : Type 0} (v : View T) (plan : Plan) → UnknownCaused v v plan
stays_caused v plan = inr (λ place slot role. refl)

-- and where a release is refused for want of memory.
pub wants_caused : (known : Type 0) (e : AllocError) → e ≡ refusal.Memory → UnlessUnmade known e → known
wants_caused known e is k = subst (UnlessUnmade known) is k

module _ {T P H : Type 0} (places : ℕ) (a : About) (v w : View T) (first f : Frame P H) (o : Outcome P H) (ended : HasEnded a v w first f o) where
  goes_here : Goes v w
  goes_here = record { portions = ended.portions; more = ended.more }

  bounded : (kind : CallKind) → kind_at (stage_of first) ≡ kind → IsBounded a.plan kind first.asked v w
  bounded kind is = subst (λ (k : CallKind). IsBounded a.plan k first.asked v w) is (record { cold = ended.cold; instances = ended.instances; components = ended.components })

  -- the bounds of a call that asks
  asking : (asked : Asked) → first.asked ≡ asked → kind_at (stage_of first) ≡ asks_for → IsBounded a.plan asks_for asked v w
  asking asked asks kind = subst (λ (x : Asked). IsBounded a.plan asks_for x v w) asks (bounded asks_for kind)

  -- and of one that doesn't
  pub purging : kind_at (stage_of first) ≡ purges → IsBounded a.plan purges Nothing v w
  purging kind = let b = bounded purges kind in record { cold = b.cold; instances = b.instances; components = b.components }

  pub releasing : kind_at (stage_of first) ≡ releases → IsBounded a.plan releases Nothing v w
  releasing kind = let b = bounded releases kind in record { cold = b.cold; instances = b.instances; components = b.components }

  pub drawing : kind_at (stage_of first) ≡ draws_key → IsBounded a.plan draws_key Nothing v w
  drawing kind = let b = bounded draws_key kind in record { cold = b.cold; instances = b.instances; components = b.components }

  returning : kind_at (stage_of first) ≡ gives_back → IsBounded a.plan gives_back Nothing v w
  returning kind = let b = bounded gives_back kind in record { cold = b.cold; instances = b.instances; components = b.components }

  -- what one for one object appends
  one_appends : (asked : Asked) → first.asked ≡ asked → kind_at (stage_of first) ≡ asks_for → IsForOne asked → NoneAppended v w a.plan
  one_appends asked asks kind one = ended.appended.one kind (subst IsForOne (sym asks) one)

  pub is_granted : (asked : Asked) (grant : Grant P H) → first.asked ≡ asked → kind_at (stage_of first) ≡ asks_for → IsDriven places (given_in a v) w f (Some o) → o ≡ Granted grant → IsGranted a asked grant v w
  is_granted asked grant asks kind driven is =
      let of : IsGrantOf a.maker a.settings a.plan asked grant = subst (λ (x : Asked). IsGrantOf a.maker a.settings a.plan x grant) asks (subst (λ (x : Outcome P H). IfGranted (IsGrantOf a.maker a.settings a.plan first.asked) (Some x)) is ended.granted) in
      let has : IsDriven places (given_in a v) w f (Some (Granted grant)) = subst (λ (x : Outcome P H). IsDriven places (given_in a v) w f (Some x)) is driven in
      record {
        is = of;
        erased = subst (λ (x : Outcome P H). IfGranted GrantErased (Some x)) is ended.erased;
        gains = gains places a v w f ended.idle grant has;
        gives = may_give places a v w f ended.idle grant (grant_of a.maker a.settings a.plan asked grant of) has;
        unknown = subst (λ (x : Outcome P H). AnswerCaused (UnknownCaused v w a.plan) x) is ended.parts.unknown;
        appended = one_appends asked asks kind;
        bounds = asking asked asks kind;
        goes = goes_here;
      }

  pub is_refused : (home stripe : ℕ) (asked : Asked) (e : AllocError) → first.home ≡ home → first.stripe ≡ stripe → first.asked ≡ asked → kind_at (stage_of first) ≡ asks_for → IsDriven places (given_in a v) w f (Some o) → o ≡ Refused e → IsRefused a home stripe asked e v w
  is_refused home stripe asked e at' of asks kind driven is =
      let same : f.stripe ≡ first.stripe = subst (λ (x : Outcome P H). KeepsStripe x first.stripe f.stripe) is ended.stripe in
      record {
        names = subst (λ (n : ℕ). Names a.settings a.plan n e) (same ∙ of) (subst (λ (x : Outcome P H). IfRefused (Names a.settings a.plan f.stripe) x) is ended.names);
        told = subst (λ (n : ℕ). RefusalTold v w (WasOver v w instance_counter) (WasOver v w component_counter) a.plan n e) at' (subst (λ (x : Outcome P H). AnswerTold v w a.plan first.home (Some x)) is ended.told);
        fewer = subst (λ (x : Asked). RefusalFewer v w a.plan x e) asks (subst (λ (x : Outcome P H). IfRefused (RefusalFewer v w a.plan first.asked) x) is ended.fewer);
        fault = subst (λ (x : Outcome P H). IfRefused (IfFaulted (CellFaulted v w a.plan)) x) is ended.parts.fault;
        unknown = subst (λ (x : Outcome P H). AnswerCaused (UnknownCaused v w a.plan) x) is ended.parts.unknown;
        appended = one_appends asked asks kind;
        keeps = keeps places a v w f ended.idle (Some o) (λ of. subst (λ (x : Outcome P H). count_granted of (Some x) ≡ 0) (sym is) refl) driven;
        bounds = asking asked asks kind;
        goes = goes_here;
      }

  pub is_kept : ((of : Grant P H → ℕ) → count_granted of (Some o) ≡ 0) → IsDriven places (given_in a v) w f (Some o) → IsKept v w
  is_kept none driven = record { keeps = keeps places a v w f ended.idle (Some o) none driven; goes = goes_here }

  pub is_given_back : (grant : Grant P H) → kind_at (stage_of first) ≡ gives_back → frame_dues (owed_by a.settings) first ≡ grant_dues (owed_by a.settings) grant → MayAnswer gives_back o → Gives a grant v → IsDriven places (given_for a (call.GiveBack grant) v) w f (Some o) → IsGivenBack a grant v w
  is_given_back grant kind owes may gives driven = record {
    loses = loses places a v w f ended.idle grant (Some o) (λ of. none_returned of o may) gives driven;
    none = subst (λ (x : Outcome P H). AnswerTold v w a.plan first.home (Some x)) (returned o may) ended.told;
    appended = λ puts. omega (arith, ended.appended.back kind puts, owes);
    unknown = subst (λ (x : Outcome P H). AnswerCaused (UnknownCaused v w a.plan) x) (returned o may) ended.parts.unknown;
    bounds = returning kind;
    goes = goes_here;
  }

  -- What is given back leaves the stripe.
  pub stripe_stays : (stripe : ℕ) → first.stripe ≡ stripe → MayAnswer gives_back o → f.stripe ≡ stripe
  stripe_stays stripe of may = subst (λ (x : Outcome P H). KeepsStripe x first.stripe f.stripe) (returned o may) ended.stripe ∙ of

module _ {P H : Type 0} where
  back_stripe : (memories : List Lease) (tables : List LeasedTable) (f : Frame P H) → f.asked ≡ asked.Nothing → (returned_next memories tables f).frame.stripe ≡ f.stripe
  back_stripe (lease ∷ memories) tables f nothing = refl
  back_stripe [] (lease ∷ tables) f nothing = refl
  back_stripe [] [] f nothing = subst (λ (a : Asked). (all_returned a f).frame.stripe ≡ f.stripe) (sym nothing) refl

  -- An instance that is given back begins with the seat's stripe.
  pub instance_stripe : (home : ℕ) (lease : InstanceLease P) (f : Frame P H) → (begun_from home (call.GiveBack (Instance lease)) f).stripe ≡ f.stripe
  instance_stripe home lease f = back_stripe lease.memories.items lease.tables.items (record f { home = home; asked = asked.Nothing; objects = lease; ending = returned_ending }) refl

-- What a call exchanged with its limiter, where it asks no maker of heaps
module _ {P H L : Type 0} (leads : L → Exchange → L → Type 0) (Silent ForHeap : Type 0) (c : Call P H) (first last : L) where
  pub asked_as : (old new : PartyTold) (o x : Outcome P H) → o ≡ x → HasAsked leads Silent ForHeap (CallAsks c o) first last old new o → HasAsked leads Silent ForHeap (CallAsks c x) first last old new x
  asked_as old new o x is asked = subst (λ (z : Outcome P H). HasAsked leads Silent ForHeap (CallAsks c z) first last old new z) is asked

  pub nobody_asked : (ForHeap → ⊥) → (had left : LimiterTold) (old new : HeapsTold) (o x : Outcome P H) → old ≡ nobody_told → o ≡ x → HasAsked leads Silent ForHeap (CallAsks c o) first last (record { limiter = had; heaps = old }) (record { limiter = left; heaps = new }) o → HasAsked leads Silent ForHeap (CallAsks c x) first last (record { limiter = had; heaps = nobody_told }) (record { limiter = left; heaps = nobody_told }) x
  nobody_asked not_heap had left old new o x nobody is asked =
      let stays : new ≡ old = ⊎_elim (λ same. same) (λ made. absurd (not_heap made.0)) asked.made in
      let then : HasAsked leads Silent ForHeap (CallAsks c o) first last (record { limiter = had; heaps = old }) (record { limiter = left; heaps = nobody_told }) o = subst (λ (h : HeapsTold). HasAsked leads Silent ForHeap (CallAsks c o) first last (record { limiter = had; heaps = old }) (record { limiter = left; heaps = h }) o) (stays ∙ nobody) asked in
      let first' : HasAsked leads Silent ForHeap (CallAsks c o) first last (record { limiter = had; heaps = nobody_told }) (record { limiter = left; heaps = nobody_told }) o = subst (λ (h : HeapsTold). HasAsked leads Silent ForHeap (CallAsks c o) first last (record { limiter = had; heaps = h }) (record { limiter = left; heaps = nobody_told }) o) nobody then in
      asked_as (record { limiter = had; heaps = nobody_told }) (record { limiter = left; heaps = nobody_told }) o x is first'

module _ {P H L : Type 0} (leads : L → Exchange → L → Type 0) (Silent : Type 0) (Says : List Exchange → Type 0) (first last : L) where
  -- What a call asked is what it asked of the maker of heaps, where its limiter is nobody's.
  pub maker_asked : (had left : LimiterTold) (old new : HeapsTold) (o x : Outcome P H) → o ≡ x → (memory : MemoryAllocationIndex) → IfAskedRefused (CallWants {P = P} {H = H} (call.HeapOver memory) old new) o → HasAsked leads Silent (Unit {0}) Says first last (record { limiter = had; heaps = old }) (record { limiter = left; heaps = new }) o → HasAskedMaker old new x
  maker_asked had left old new o x is memory wants has = subst (λ (z : Outcome P H). HasAskedMaker old new z) is (record {
    made = ⊎_elim (λ (same : new ≡ old). inl same) (λ (one : Unit {0} × ((answer : Result H HeapMakeFault) × (AnswersMade answer o × MakesHeap answer old new))). inr one.1) has.made;
    cause = by o has.cause;
    wants = wanting o wants;
  })
    where
      wanting : (z : Outcome P H) → IfAskedRefused (CallWants {P = P} {H = H} (call.HeapOver memory) old new) z → IfAskedRefused (λ e. e ≡ refusal.Memory → MakesHeap {H = H} (Err no_heap.Memory) old new) z
      wanting (Refused e) wants = λ want. subst (WantsOfMaker H (asked.HeapOver memory) old new) want wants
      wanting Key wants = tt
      wanting (Granted grant) wants = tt
      wanting Returned wants = tt
      wanting (Purged n) wants = tt
      wanting (Released n) wants = tt

      by : (z : Outcome P H) → IfAskedRefused (HasCause (record { limiter = had; heaps = old }) (record { limiter = left; heaps = new })) z → IfAskedRefused (λ e. e ≡ refusal.HeapFault → Rose old.faults new.faults) z
      by (Refused e) cause = λ fault. subst (HasCause (record { limiter = had; heaps = old }) (record { limiter = left; heaps = new })) fault cause
      by Key cause = tt
      by (Granted grant) cause = tt
      by Returned cause = tt
      by (Purged n) cause = tt
      by (Released n) cause = tt

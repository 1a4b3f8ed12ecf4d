-- One step has one answer of the maker of heaps, whose list says it, and leaves one maker.
use Rattle.std.proofs.Common.{◌≡◌, ℕ, List, true, false, Result, Ok, Err, refl, sym, ap, ◌∙◌, subst, IfErr, MatchResult}
use Rattle.pool_run.proofs.Imports.{same_Some, risen, GrowthRule, HeapsTold, fails_next, HeapMakeFault, ListedHeaps, PlainHeap, MakesOf, MakesHeap, StepGiven, After, Frame, Phase, MakeHeap, PoolCore}
use Rattle.pool_slots.specs.declared.heap_maker.HeapMakeFault.TheVariants.{HeapFault}
use Rattle.pool_run.specs.Turns.{heaps_told, StepsUnder}

-- a heap has nothing in it
one_heap : (a b : PlainHeap) → a ≡ b
one_heap a b = refl

-- An answer by the list is the only one.
answers_same : (old : HeapsTold) (unmade : List ℕ) (X Y : Type 0) (r s : Result PlainHeap HeapMakeFault) → MatchResult r (λ _. fails_next unmade old ≡ false) (λ e. e ≡ HeapFault → fails_next unmade old ≡ true) → IfErr r (λ e. (e ≡ HeapFault) × X) → MatchResult s (λ _. fails_next unmade old ≡ false) (λ e. e ≡ HeapFault → fails_next unmade old ≡ true) → IfErr s (λ e. (e ≡ HeapFault) × Y) → r ≡ s
answers_same old unmade X Y (Ok a) (Ok b) one first two second = ap (λ (x : PlainHeap). Ok x) (one_heap a b)
answers_same old unmade X Y (Ok a) (Err e) one first two second = absurd (let wrong : false ≡ true = sym one ∙ two second.0 in cc)
answers_same old unmade X Y (Err e) (Ok b) one first two second = absurd (let wrong : false ≡ true = sym two ∙ one first.0 in cc)
answers_same old unmade X Y (Err e) (Err d) one first two second = ap (λ (x : HeapMakeFault). Err x) (first.0 ∙ sym second.0)

-- So it leaves one count of faults.
faults_same : (r : Result PlainHeap HeapMakeFault) (old new other : HeapsTold) → MatchResult r (λ _. new.faults ≡ old.faults) (λ e. new.faults ≡ risen old.faults) → MatchResult r (λ _. other.faults ≡ old.faults) (λ e. other.faults ≡ risen old.faults) → new.faults ≡ other.faults
faults_same (Ok heap) old new other one two = one ∙ sym two
faults_same (Err e) old new other one two = one ∙ sym two

counted : (r : Result PlainHeap HeapMakeFault) (old new : HeapsTold) (A : HeapMakeFault → Type 0) → MatchResult r (λ _. new.faults ≡ old.faults) A → IfErr r (λ e. (e ≡ HeapFault) × (new.faults ≡ risen old.faults)) → MatchResult r (λ _. new.faults ≡ old.faults) (λ e. new.faults ≡ risen old.faults)
counted (Ok heap) old new A faults wants = faults
counted (Err e) old new A faults wants = wants.1

module _ (was : ListedHeaps) where
  abbrev old : HeapsTold
  old = heaps_told was

  pub given_same : (new other : HeapsTold) (r s : Result PlainHeap HeapMakeFault) → MakesHeap r old new → MakesHeap s old other → r ≡ s
  given_same new other r s one two = answers_same old was.failing (new.faults ≡ risen old.faults) (other.faults ≡ risen old.faults) r s one.planned (one.wants refl) two.planned (two.wants refl)

  makes_same : (new other : HeapsTold) (r : Result PlainHeap HeapMakeFault) → MakesHeap r old new → MakesHeap r old other → new ≡ other
  makes_same new other r one two =
      let same : new.faults ≡ other.faults = faults_same r old new other (counted r old new _ one.faults (one.wants refl)) (counted r old other _ two.faults (two.wants refl)) in
      one.maker ∙ ap (λ (n : ℕ). record old { made = risen old.made; faults = n }) same ∙ sym two.maker

  told_same : {P : Type 0} (new other : HeapsTold) (g h : StepGiven PlainHeap) (phase : Phase P PlainHeap) → MakesOf old new g phase → MakesOf old other h phase → new ≡ other
  told_same new other g h (MakeHeap at) one two =
      let Of : Result PlainHeap HeapMakeFault → Type 0 = λ r. MakesHeap r old other in
      makes_same new other g.heap one (subst Of (sym (given_same new other g.heap h.heap one two)) two)
  told_same new other g h _ one two = one ∙ sym two

-- what a maker tells is all that it is
pub listed_same : (x y : ListedHeaps) → heaps_told x ≡ heaps_told y → x ≡ y
listed_same x y same =
    let failing : x.failing ≡ y.failing = same_Some x.failing y.failing (ap (λ (t : HeapsTold). t.plan) same) in
    let made : x.made ≡ y.made = ap (λ (t : HeapsTold). t.made) same in
    let faults : x.faults ≡ y.faults = ap (λ (t : HeapsTold). t.faults) same in
    let M : List ℕ → ℕ → ℕ → ListedHeaps = λ l m n. record { failing = l; made = m; faults = n } in
    ap (λ (l : List ℕ). M l x.made x.faults) failing ∙ ap (λ (m : ℕ). M y.failing m x.faults) made ∙ ap (M y.failing y.made) faults

module _ {P : Type 0} where
  -- Two steps from one maker leave one.
  pub makers_same : (rule : GrowthRule) (was now other : ListedHeaps) (c : PoolCore P PlainHeap) (f : Frame P PlainHeap) (a b : After P PlainHeap) → StepsUnder rule was now c f a → StepsUnder rule was other c f b → now ≡ other
  makers_same rule was now other c f a b one two =
      let First : HeapsTold → HeapsTold → Type 0 = λ x y. MakesOf x y one.3.0 f.phase in
      let Second : HeapsTold → HeapsTold → Type 0 = λ x y. MakesOf x y two.3.0 f.phase in
      let first : First (heaps_told was) (heaps_told now) = subst (First (heaps_told was)) one.5 (subst (λ (x : HeapsTold). First x one.1.heaps) one.4 one.3.1.heaps) in
      let second : Second (heaps_told was) (heaps_told other) = subst (Second (heaps_told was)) two.5 (subst (λ (x : HeapsTold). Second x two.1.heaps) two.4 two.3.1.heaps) in
      listed_same now other (told_same was (heaps_told now) (heaps_told other) one.3.0 two.3.0 f.phase first second)

-- What a maker with a list of failures makes, and what it tells of a making, by what the maker behind it does.
use Rattle.std.proofs.Common.{◌≡◌, ℕ, Bool, true, false, List, [], ◌∷◌, Option, Some, None, refl, sym, ap, ◌∙◌}
use Rattle.pool_pages.proofs.Imports.{fold-append, IfSome, Count, DecommitBehavior}
use Rattle.pool_pages.specs.Told.{Told, joined_plan}
use Rattle.pool_pages.specs.MakerTold.{MakerTold, Planned, calls_of, part_of, made_region, no_calls}
use Rattle.pool_pages.specs.FailingTold.{failing_told, if_empty, no_counts}
use Rattle.pool_pages.specs.FaultPlans.{failing_maker, layers_before}
use Rattle.pool_pages.specs.MakeFaults.{RaisesFaults, RaisesBehind}
use Rattle.pool_pages.specs.declared.maker.MakeFault.{MakeFault}
use Rattle.pool_pages.specs.declared.pages.RegionName.{RegionName}
use Rattle.pool_pages.specs.declared.pages.PageCalls.{PageCalls}
use Rattle.pool_pages.specs.declared.call_counts.CallCounts.{CallCounts}

-- a making that the list lists, by a test of plans that an empty one doesn't pass
pub listed_fails : (A : Type 0) (test : List Planned → Bool) (plan : Option (List Planned)) (listed : List Planned) → test [] ≡ false → test listed ≡ true → IfSome (joined_plan plan listed) (λ p. A → test p ≡ true)
listed_fails A test plan [] empty h = absurd (cc (sym empty ∙ h))
listed_fails A test None (x ∷ xs) empty h = tt
listed_fails A test (Some []) (x ∷ xs) empty h = λ a. h
listed_fails A test (Some (y ∷ ys)) (x ∷ xs) empty h = tt

-- a making that neither lists
pub neither_fails : (test : List Planned → Bool) (plan : Option (List Planned)) (listed : List Planned) → test listed ≡ false → IfSome plan (λ p. test p ≡ false) → IfSome (joined_plan plan listed) (λ p. test p ≡ false)
neither_fails test plan [] h behind = behind
neither_fails test None (x ∷ xs) h behind = tt
neither_fails test (Some []) (x ∷ xs) h behind = h
neither_fails test (Some (y ∷ ys)) (x ∷ xs) h behind = tt

if_empty_same : {X : Type 0} (listed : List ℕ) (x : X) → if_empty listed x x ≡ x
if_empty_same [] x = refl
if_empty_same (n ∷ ns) x = refl

joined_none : (listed : List ℕ) → joined_plan None listed ≡ None
joined_none [] = refl
joined_none (n ∷ ns) = refl

joined_empty : (listed : List ℕ) → joined_plan (Some []) listed ≡ Some listed
joined_empty [] = refl
joined_empty (n ∷ ns) = refl

-- a region's part of the joined plans is the join of its parts
joined_part : (name : RegionName) (plan : Option (List Planned)) (layers : List (List Planned)) (listed : List Planned) → joined_plan (part_of name plan layers) (calls_of name listed) ≡ part_of name (joined_plan plan listed) (layers_before listed plan layers)
joined_part name (Some plan) layers [] = refl
joined_part name None [] [] = refl
joined_part name None (last ∷ before) [] = sym (fold-append (λ plan layer. joined_plan plan (calls_of name layer)) (Some (calls_of name last)) before ([] ∷ []))
joined_part name (Some []) layers (x ∷ xs) = joined_empty (calls_of name (x ∷ xs))
joined_part name (Some (y ∷ ys)) layers (x ∷ xs) = refl
joined_part name None [] (x ∷ xs) = joined_none (calls_of name (x ∷ xs))
joined_part name None (last ∷ before) (x ∷ xs) = sym (fold-append (λ plan layer. joined_plan plan (calls_of name layer)) (Some (calls_of name last)) before ((x ∷ xs) ∷ []))

abbrev told : Told → Option (List ℕ) → ℕ → PageCalls → ℕ → Told
told t plan made calls faults = record t { plan = plan; made = made; calls = calls; faults = faults }

-- a region of the maker behind, with its part of the list
pub made_failing : (name : RegionName) (behaviour : DecommitBehavior) (accessible len : Count) (maker : MakerTold) (page next faults : ℕ) (listed : List Planned) (region : Told) (calls : List ℕ) (counts : CallCounts) → region ≡ made_region name behaviour accessible len maker → calls ≡ calls_of name listed → counts ≡ no_counts → failing_told region calls counts ≡ made_region name behaviour accessible len (failing_maker maker page listed next faults)
made_failing name behaviour accessible len maker page next faults listed region calls counts made part none =
    let t : Told = made_region name behaviour accessible len maker in
    let l : List ℕ = calls_of name listed in
    ap (λ r. failing_told r calls counts) made
    ∙ ap (λ c. failing_told (made_region name behaviour accessible len maker) c counts) part
    ∙ ap (λ c. failing_told (made_region name behaviour accessible len maker) (calls_of name listed) c) none
    ∙ ap (λ p. told t p (if_empty l 0 0) (if_empty l no_calls no_calls) (if_empty l 0 0)) (joined_part name maker.plan maker.layers listed)
    ∙ ap (λ n. told t (part_of name (joined_plan maker.plan listed) (layers_before listed maker.plan maker.layers)) n (if_empty l no_calls no_calls) n) (if_empty_same l 0)
    ∙ ap (λ n. told t (part_of name (joined_plan maker.plan listed) (layers_before listed maker.plan maker.layers)) 0 n 0) (if_empty_same l no_calls)

-- a listed making leaves the count of the maker behind
pub listed_stays : (listed : Bool) (n : ℕ) (fault : MakeFault) → listed ≡ true → RaisesBehind listed n n fault
listed_stays true n fault e = refl
listed_stays false n fault e = absurd (cc e)

-- a making that isn't listed is made by the maker behind
pub made_behind : (listed : Bool) (old new : ℕ) (fault : MakeFault) → listed ≡ false → RaisesFaults old new fault → RaisesBehind listed old new fault
made_behind true old new fault e h = absurd (cc e)
made_behind false old new fault e h = h

-- What a view notes only grows, whatever part is put back.
use Rattle.std.proofs.Common.{◌≡◌, ℕ, ◌+◌, ◌≤◌, ◌==◌, Bool, true, false, ◌∷◌, if◌then◌else◌, refl, ap, ◌∙◌, arith}
use Rattle.pool_index.proofs.Imports.{View, one_if, often, counted, number, rise_at, Meaning, put_view}
use Rattle.pool_index.specs.Round.{OnlyGrows}

pub grows_after : {T : Type 0} (m : Meaning T) (p : ℕ) (x y : T) (v w : View T) → w ≡ put_view m p x y v → OnlyGrows v w
grows_after m p x y v w e = record {
  counts = λ q i. let a : number (counted q i) w ≡ rise_at q i (record { place = p; before = m.counts x; after = m.counts y }) + number (counted q i) v = ap (λ (z : View _). number (counted q i) z) e in omega arith;
  topped = λ q. noted (m.topped y) refl q;
}
  where
    noted : (b : Bool) → m.topped y ≡ b → (q : ℕ) → often q v.topped ≤ often q w.topped
    noted true f q = let a : often q w.topped ≡ one_if (q == p) + often q v.topped = ap (λ (z : View _). often q z.topped) e ∙ ap (λ b. often q (if b then p ∷ v.topped else v.topped)) f in omega arith
    noted false f q = let a : often q w.topped ≡ often q v.topped = ap (λ (z : View _). often q z.topped) e ∙ ap (λ b. often q (if b then p ∷ v.topped else v.topped)) f in omega arith

pub grows_same : {T : Type 0} (v w : View T) → w ≡ v → OnlyGrows v w
grows_same v w e = record {
  counts = λ p i. let a : number (counted p i) w ≡ number (counted p i) v = ap (λ (z : View _). number (counted p i) z) e in omega arith;
  topped = λ p. let a : often p w.topped ≡ often p v.topped = ap (λ (z : View _). often p z.topped) e in omega arith;
}

pub grows_both : {T : Type 0} (u v w : View T) → OnlyGrows u v → OnlyGrows v w → OnlyGrows u w
grows_both u v w a b = record {
  counts = λ p i. let c = a.counts p i in let d = b.counts p i in omega arith;
  topped = λ p. let c = a.topped p in let d = b.topped p in omega arith;
}

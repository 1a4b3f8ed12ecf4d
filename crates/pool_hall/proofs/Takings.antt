-- What a try that took its place tells the seat, by the hall's own record of what it was made with.
use Rattle.std.proofs.Common.{◌≡◌, ℕ, ◌<◌, List, ◌∷◌, length, [], sym, ap, subst, ◌∙◌}
use Rattle.pool_hall.specs.declared.hall.Hall.{Hall}
use Rattle.pool_hall.specs.declared.hall.HallSeat.{HallSeat}
use Rattle.pool_hall.specs.declared.view.View.{View}
use Rattle.atomic_table.specs.Table.{Me}
use Rattle.pool_hall.specs.Meaning.{Meaning}
use Rattle.pool_hall.specs.Step.{with_held, Taken}
use Rattle.pool_hall.specs.Seat.{made_with, view, IsSeatOf, IsFree, IsTaken}

module _ {T : Type 0} (m : Meaning T) where
  pub is_taken : (h : Hall T) (s t : HallSeat T) (q : ℕ) → q ≡ t.place → IsSeatOf h s → IsFree s → t.place < length (made_with h)
      → ((x : T) × (t.seat.me ≡ (with_held q x (view s), (q, x) ∷ s.seat.me.1)) × Taken m (view s).parts (view s).limits q x (view s)) → IsTaken m h s t
  is_taken h s t q named own free near found =
      let p : ℕ = t.place in
      let x : T = found.0 in
      let me : t.seat.me ≡ (with_held p x (view s), (p, x) ∷ []) = found.1 ∙ (λ i. (with_held (named i) x (view s), (named i, x) ∷ free.slots i)) in
      let is : view t ≡ with_held p x (view s) = ap (λ (z : Me T (View T)). z.0) me in
      record {
        part = x;
        holds = record { place = ap (λ (z : View T). z.held) is; slots = ap (λ (z : Me T (View T)). z.1) me; within = subst (λ (ps : List T). p < length ps) (sym (ap (λ (z : View T). z.parts) is ∙ own.parts)) near };
        told = subst (λ (k : List T × List ℕ × ℕ). Taken m k.0 k.1 k.2 x (view s)) (λ i. (own.parts i, own.limits i, named i)) found.2;
        view = is;
      }

use Rattle.std.proofs.Common.{◌≡◌, ℕ, zero, suc, ◌+◌, ◌∷◌, [], ◌++◌, Bool, false, List, take, set, get_or, refl, sym, ap, ◌∙◌, arith, get_or-set_other, below_more}
use Rattle.pool_hall.proofs.Totals.{take_next}
use Rattle.pool_hall.proofs.ends.emptied.Goals as goal

cleared : (l : List Bool) (i : ℕ) → get_or (set l i false) i false ≡ false
cleared [] i = refl
cleared (b ∷ bs) zero = refl
cleared (b ∷ bs) (suc i) = cleared bs i

pub loop-i-preserved : goal.loop-i-preserved
loop-i-preserved g c =
    let i = c.loop-i.invariant in
    let at : ℕ = c.loop-i.i in
    let t = c.take-part.ensures.others in
    record {
      moved = c.push_reserved.ensures.items ∙ ap (λ l. l ++ c.take-part.result ∷ []) i.moved ∙ sym (take_next _ _ _ c.take-part.ensures.value) ∙ ap (take (at + 1)) (sym t.0);
      same = t.0 ∙ i.same;
      places = t.2 ∙ i.places;
      room = c.push_reserved.ensures.capacity ∙ i.room;
      full = λ k from to. ap (λ l. get_or l k false) t.1 ∙ get_or-set_other _ at k false false (λ e. omega arith) ∙ i.full k (omega arith) (omega arith);
      empty = below_more _ at (λ k below. ap (λ l. get_or l k false) t.1 ∙ get_or-set_other _ at k false false (λ e. omega arith) ∙ i.empty k below) (ap (λ l. get_or l at false) t.1 ∙ cleared _ at);
    }

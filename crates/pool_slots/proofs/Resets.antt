-- A slot on whose region calls succeed, and then one fails.
use Rattle.std.proofs.Common.{ℕ, ◌≡◌, ◌+◌, ◌<◌, List, [], ◌∷◌, ◌++◌, length, refl, ap, ◌∙◌, subst, Option, IfSome}
use Rattle.pool_slots.proofs.Imports.{PageCall, decommitting, Rose, ByteRange, Slot, SlotIdentity, IsLeft, called, decommitted_all, IsLike, like_self, same_called, next}

pub like_called : (s t : Slot) (call : PageCall) → IsLike s t → IsLike s (called call t)
like_called s t call like = record { same = same_called call t ∙ like.same; faults = like.faults }

like_after : (ranges : List ByteRange) (s t : Slot) → IsLike s t → IsLike s (decommitted_all ranges t)
like_after [] s t like = like
like_after (r ∷ rs) s t like = like_after rs s (next r t) (like_called s t (decommitting (t.base.bytes + r.start) r.len) like)

-- decommits leave the slot the same
pub decommits_same : (ranges : List ByteRange) (s : Slot) → IsLike s (decommitted_all ranges s)
decommits_same ranges s = like_after ranges s s (like_self s)

-- ranges after others
pub decommits_append : (a b : List ByteRange) (s : Slot) → decommitted_all (a ++ b) s ≡ decommitted_all b (decommitted_all a s)
decommits_append [] b s = refl
decommits_append (r ∷ a) b s = decommits_append a b (next r s)

pub left_after : (s t u : Slot) → IsLike s t → IsLeft t u → IsLeft s u
left_after s t u like left =
    let R : ℕ → Type 0 = λ n. Rose n u.region.faults in
    let L : Option (List ℕ) → Type 0 = λ o. IfSome o (λ plan. 0 < length plan) in
    record {
      same = left.same ∙ like.same;
      rose = subst R like.faults left.rose;
      listed = subst L (ap (λ (i : SlotIdentity). i.plan) like.same) left.listed;
    }

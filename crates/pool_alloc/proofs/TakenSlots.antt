-- Lists of slots that a release took, as the code goes through them.
use Rattle.std.proofs.Common.{◌≡◌, ℕ, suc, ◌+◌, ◌<◌, ◌≤◌, List, length, sym, ap, ◌∙◌, arith, get_or, All, ◌-◌, subst, ◌==◌, drop, map, if◌then◌else◌}
use Rattle.pool_alloc.proofs.Imports.{drop-cons, get_or-drop, length-drop, All-get_or, known_outside, ShardState, SlotId}
use Rattle.pool_alloc.specs.Releases.{not_resident, slot_outside}
use Rattle.pool_alloc.specs.declared.frame.FreedSlot.{FreedSlot}

behind : (xs : List FreedSlot) (k : ℕ) (d : FreedSlot) → k < length xs → not_resident (drop k xs) ≡ (if (get_or xs k d).bytes == 0 then not_resident (drop (k + 1) xs) + 1 else 0)
behind xs k d below =
    let next : suc k ≡ k + 1 = omega arith in
    ap not_resident (drop-cons xs k d below) ∙ ap (λ (n : ℕ). if (get_or xs k d).bytes == 0 then not_resident (drop n xs) + 1 else 0) next

-- these slots of a shard by their names
abbrev pub named : ShardState → List (SlotId × ℕ) → List FreedSlot
named shard slots = map slot_outside (map (known_outside shard) slots)

-- it is one of the shard's
pub inside_shard : (capacity from at' : ℕ) (all items : List (SlotId × ℕ)) (d : SlotId × ℕ) → items ≡ all → from ≤ at' → at' < length all → All (λ p. p.0.0 < capacity) (drop from all) → (get_or items at' d).0.0 < capacity
inside_shard capacity from at' all items d is behind below slots =
    let at_last : from + (at' - from) ≡ at' = omega (arith, behind) in
    let inside : at' - from < length (drop from all) = omega (arith, length-drop from all, behind, below) in
    let its : get_or (drop from all) (at' - from) d ≡ get_or items at' d = get_or-drop from all (at' - from) d ∙ ap (λ (n : ℕ). get_or all n d) at_last ∙ ap (λ (l : List (SlotId × ℕ)). get_or l at' d) (sym is) in
    subst (λ (p : SlotId × ℕ). p.0.0 < capacity) its (All-get_or (λ (p : SlotId × ℕ). p.0.0 < capacity) (drop from all) (at' - from) d inside slots)

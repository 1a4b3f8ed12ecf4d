-- Lists of units: what equal names are, and how often a unit stands in what is left of a list.
use Rattle.std.proofs.Common.{◌≡◌, ℕ, ◌+◌, ◌-◌, ◌==◌, if◌then◌else◌, Bool, true, false, List, [], ◌∷◌, ◌++◌, ⊎_elim, refl, ap, ◌∙◌, arith}
use Rattle.std.proofs.lemmas.Bool.{and_parts, eqb-true, eq-eqb, cases_Bool, and_from}
use Rattle.pool_hall.specs.declared.unit_name.SlotKind.{SlotKind}
use Rattle.pool_hall.specs.declared.unit_name.SlotKind.TheVariants.{Memory, Table, Stack, Heap}
use Rattle.pool_hall.specs.declared.unit_name.UnitName.{UnitName}
use Rattle.pool_hall.specs.Sum.{one_if}
use Rattle.pool_hall.specs.Unit.{kind_number, same, times, without, minus}
use Rattle.pool_hall.proofs.Totals.{total_append}

kinds : (a b : SlotKind) → kind_number a ≡ kind_number b → a ≡ b
kinds Memory Memory e = refl
kinds Memory Table e = absurd (omega arith)
kinds Memory Stack e = absurd (omega arith)
kinds Memory Heap e = absurd (omega arith)
kinds Table Memory e = absurd (omega arith)
kinds Table Table e = refl
kinds Table Stack e = absurd (omega arith)
kinds Table Heap e = absurd (omega arith)
kinds Stack Memory e = absurd (omega arith)
kinds Stack Table e = absurd (omega arith)
kinds Stack Stack e = refl
kinds Stack Heap e = absurd (omega arith)
kinds Heap Memory e = absurd (omega arith)
kinds Heap Table e = absurd (omega arith)
kinds Heap Stack e = absurd (omega arith)
kinds Heap Heap e = refl

bits : (a b : Bool) → one_if a ≡ one_if b → a ≡ b
bits true true e = refl
bits true false e = absurd (omega arith)
bits false true e = absurd (omega arith)
bits false false e = refl

pub same_is : (u w : UnitName) → same u w ≡ true → u ≡ w
same_is u w e =
    let a = and_parts _ _ e in
    let b = and_parts _ _ a.1 in
    let c = and_parts _ _ b.1 in
    let d = and_parts (u.first == w.first) (u.second == w.second) c.1 in
    λ i. record {
      kind = kinds u.kind w.kind (eqb-true _ _ a.0) i;
      slot = eqb-true _ _ b.0 i;
      region = bits u.region w.region (eqb-true _ _ c.0) i;
      first = eqb-true u.first w.first d.0 i;
      second = eqb-true u.second w.second d.1 i;
    }

pub same_self : (u : UnitName) → same u u ≡ true
same_self u =
    let it = λ (n : ℕ). eq-eqb n n refl in
    and_from _ _ (it (kind_number u.kind)) (and_from _ _ (it u.slot) (and_from _ _ (it (one_if u.region)) (and_from _ _ (it u.first) (it u.second))))

pub times_append : (u : UnitName) (us ws : List UnitName) → times u (us ++ ws) ≡ times u us + times u ws
times_append u us ws = total_append (λ w. one_if (same u w)) us ws

apart : (u w x : UnitName) → same w x ≡ false → same u w ≡ true → one_if (same u x) ≡ 0
apart u w x other one = let e : u ≡ w = same_is u w one in ap one_if (ap (λ (z : UnitName). same z x) e ∙ other)

times_without : (u w : UnitName) (us : List UnitName) → times u (without w us) ≡ times u us - one_if (same u w)
times_without u w [] = omega arith
times_without u w (x ∷ us) =
    let r = times_without u w us in
    ⊎_elim
    (λ (hit : same w x ≡ true).
    let e : w ≡ x = same_is w x hit in
    let n : one_if (same u w) ≡ one_if (same u x) = ap (λ (z : UnitName). one_if (same u z)) e in
    ap (λ b. times u (if b then us else x ∷ without w us)) hit ∙ (omega arith))
    (λ (miss : same w x ≡ false).
    let left : times u (if same w x then us else x ∷ without w us) ≡ one_if (same u x) + times u (without w us) = ap (λ b. times u (if b then us else x ∷ without w us)) miss in
    ⊎_elim
    (λ (is : same u w ≡ true). let z = apart u w x miss is in left ∙ (omega arith))
    (λ (other : same u w ≡ false). let z : one_if (same u w) ≡ 0 = ap one_if other in left ∙ (omega arith))
    (cases_Bool (same u w)))
    (cases_Bool (same w x))

-- what is left of a list has each unit as often as before, less as often as it was taken
pub times_minus : (u : UnitName) (us ws : List UnitName) → times u (minus us ws) ≡ times u us - times u ws
times_minus u us [] = omega arith
times_minus u us (w ∷ ws) = let r = times_minus u (without w us) ws in let s = times_without u w us in omega arith

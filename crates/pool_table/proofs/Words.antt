-- The words of elements: how long they are, and that they read back.
use Rattle.std.proofs.Common.{◌≡◌, ℕ, ◌+◌, ◌-◌, ◌%◌, ◌==◌, Bool, true, false, List, ◌++◌, take, drop, Some, None, refl, ap, ◌∙◌, arith, if◌then◌else◌}
use Rattle.pool_table.proofs.Imports.{w64, to_le_bytes, from_le_bytes, nat_tests, from_le_bytes-to_le_bytes_4, from_le_bytes-to_le_bytes_8}
use Rattle.pool_table.specs.declared.element.VMContObj.{VMContObj}
use Rattle.pool_table.specs.Elements.{functions, gc_refs, continuations, uninitialised, func, gc_ref, cont, word, element_of, func_read, gc_read, cont_read, IsName, IsGcRef, IsContObj, ReadsBack, ZeroIsEmpty}

test_false : (n m : ℕ) → (n ≡ m → ⊥) → (n == m) ≡ false
test_false n m other = grind (arith, nat_tests)

lazy_name : (name : ℕ) → IsName name → func_read true (name + 1) ≡ func (Some name)
lazy_name name is =
    let first : (name + 1 == 0) ≡ false = test_false (name + 1) 0 (λ e. omega (arith, e)) in
    let second : (name + 1 == 1) ≡ false = test_false (name + 1) 1 (λ e. omega (arith, e, is.positive)) in
    let low : name + 1 - (name + 1) % 2 ≡ name = omega (arith, is.even) in
    ap (λ (b : Bool). if b then uninitialised else (if name + 1 == 1 then func None else func (Some (name + 1 - (name + 1) % 2)))) first
    ∙ ap (λ (b : Bool). if b then func None else func (Some (name + 1 - (name + 1) % 2))) second
    ∙ ap (λ (n : ℕ). func (Some n)) low

eager_name : (name : ℕ) → IsName name → func_read false name ≡ func (Some name)
eager_name name is = ap (λ (b : Bool). if b then func None else func (Some name)) (test_false name 0 (λ e. omega (arith, e, is.positive)))

a_ref : (ref : ℕ) → IsGcRef ref → gc_read ref ≡ gc_ref (Some ref)
a_ref ref is = ap (λ (b : Bool). if b then gc_ref None else gc_ref (Some ref)) (test_false ref 0 (λ e. omega (arith, e, is.positive)))

an_object : (object : VMContObj) → IsContObj object → cont_read object.contref object.revision ≡ cont (Some object)
an_object object is = ap (λ (b : Bool). if b then cont None else cont (Some object)) (test_false object.contref 0 (λ e. omega (arith, e, is.positive)))

parts : (object : VMContObj) → IsContObj object → element_of continuations (word continuations (cont (Some object))) ≡ cont (Some object)
parts object is =
    let first : List ℕ = to_le_bytes w64 object.contref in
    let second : List ℕ = to_le_bytes w64 object.revision in
    let front : take 8 (first ++ second) ≡ first = refl in
    let back : drop 8 (first ++ second) ≡ second = refl in
    ap (λ (n : ℕ). cont_read n (from_le_bytes w64 second)) (from_le_bytes-to_le_bytes_8 object.contref is.bounded)
    ∙ ap (λ (n : ℕ). cont_read object.contref n) (from_le_bytes-to_le_bytes_8 object.revision is.revision)
    ∙ an_object object is

pub reads_back : ReadsBack
reads_back (functions true) uninitialised valid = refl
reads_back (functions false) uninitialised valid = absurd valid
reads_back (functions true) (func None) valid = refl
reads_back (functions false) (func None) valid = refl
reads_back (functions true) (func (Some name)) valid = ap (func_read true) (from_le_bytes-to_le_bytes_8 (name + 1) (omega (arith, valid.even, valid.bounded))) ∙ lazy_name name valid
reads_back (functions false) (func (Some name)) valid = ap (func_read false) (from_le_bytes-to_le_bytes_8 name valid.bounded) ∙ eager_name name valid
reads_back (functions true) (gc_ref r) valid = absurd valid
reads_back (functions false) (gc_ref r) valid = absurd valid
reads_back (functions true) (cont c) valid = absurd valid
reads_back (functions false) (cont c) valid = absurd valid
reads_back gc_refs uninitialised valid = absurd valid
reads_back gc_refs (func f) valid = absurd valid
reads_back gc_refs (gc_ref None) valid = refl
reads_back gc_refs (gc_ref (Some ref)) valid = ap gc_read (from_le_bytes-to_le_bytes_4 ref valid.bounded) ∙ a_ref ref valid
reads_back gc_refs (cont c) valid = absurd valid
reads_back continuations uninitialised valid = absurd valid
reads_back continuations (func f) valid = absurd valid
reads_back continuations (gc_ref r) valid = absurd valid
reads_back continuations (cont None) valid = refl
reads_back continuations (cont (Some object)) valid = parts object valid

pub zero_is_empty : ZeroIsEmpty
zero_is_empty (functions true) = refl
zero_is_empty (functions false) = refl
zero_is_empty gc_refs = refl
zero_is_empty continuations = refl

-- Two tables that look alike to a party but for their slots and their room stay so, and are answered alike, where both are
-- served.
use Rattle.std.proofs.Common.{◌≡◌, ℕ, ◌+◌, ◌-◌, ◌^◌, Bool, true, false, List, ◌++◌, nat_lt, replicate, Option, Some, None, Ok, inl, inr, refl, sym, ap, ◌∙◌, subst, arith, is_some, ◌==◌, if◌then◌else◌, IfSome, slice_get}
use Rattle.pool_run_on_demand.proofs.Imports.{some_mapped, put_all, risen, GrowthRule, table_answer, table_failure, TableOutOfBounds, ElementKind, functions, gc_refs, continuations, uninitialised, func, gc_ref, cont, type_of, empty, element_of, Element, TableOp, gets, sets, lengthens, asks_length, Host, PrivateTable, StoredTable, TableMoves, IsGot, calls_through, calls_after, table_filled, kind_filled, filled_by, table_growth, table_left, element_for, GrowthEnd, Reply, Done, Size, Grown, told_element, Refused, GcStoreFault, Alloc}
use Rattle.pool_run.specs.declared.reply.Reply.TheVariants.{Trap}
use Rattle.pool_table.specs.Elements as elem
use Rattle.pool_alloc.specs.declared.leases.element.Element.TheVariants as item
use Rattle.pool_slots.specs.declared.errors.AllocError.TheVariants as alloc
use Rattle.pool_run_on_demand.specs.OnDemand.{TableMovesOnDemand}
use Rattle.pool_run_on_demand.specs.Alike.{table_in, IsServed}
use Rattle.pool_run_on_demand.proofs.AlikeBytes.{granted, granted_end}

-- A table in another slot, with other room.
abbrev pub placed : ℕ → ℕ → PrivateTable → PrivateTable
placed slot most t = record t { slot = slot; maximum = most }

abbrev placed_stored : ℕ → ℕ → StoredTable → StoredTable
placed_stored slot most s = record s { table = placed slot most s.table }

abbrev placed_result : ℕ → ℕ → StoredTable × Reply → StoredTable × Reply
placed_result slot most p = (placed_stored slot most p.0, p.1)

-- Two tables are the same but for these, and their elements are told.
pub record AreTablesAlike (t u : PrivateTable) : Type 0 where
  pub same : u ≡ placed u.slot u.maximum t
  pub told : is_some t.elements ≡ true

-- what a reply tells of an element is the element
abbrev item_of : elem.Element → Element
item_of uninitialised = item.Uninitialised
item_of (func f) = item.Func f
item_of (gc_ref r) = item.Gc r
item_of (cont c) = item.Cont c

item_back : (x : Element) → item_of (element_of x) ≡ x
item_back item.Uninitialised = refl
item_back (item.Func f) = refl
item_back (item.Gc r) = refl
item_back (item.Cont c) = refl

one_element : (o : Option (List elem.Element)) (i : ℕ) (x y : Element) → is_some o ≡ true → IfSome o (λ es. slice_get es i ≡ Some (element_of x)) → IfSome o (λ es. slice_get es i ≡ Some (element_of y)) → x ≡ y
one_element None i x y told one two = absurd cc
one_element (Some es) i x y told one two =
    let same : element_of x ≡ element_of y = cc (sym one ∙ two) in
    sym (item_back x) ∙ ap item_of same ∙ item_back y

got_alike : (t : PrivateTable) (i : ℕ) (r q : Reply) → is_some t.elements ≡ true → IsGot t i r → IsGot t i q → r ≡ q
got_alike t i (told_element x) (told_element y) told one two = ap (λ (e : Element). told_element e) (one_element t.elements i x y told one.1 two.1)
got_alike t i (told_element x) (Trap v) told one two = absurd (omega (arith, one.0, two.1))
got_alike t i (told_element x) _ told one two = absurd two
got_alike t i (Trap u) (told_element y) told one two = absurd (omega (arith, two.0, one.1))
got_alike t i (Trap u) (Trap v) told one two = ap (λ x. Trap x) (one.0 ∙ sym two.0)
got_alike t i (Trap u) _ told one two = absurd two
got_alike t i _ q told one two = absurd one

-- a fill is the same wherever the table is
if_placed : (b : Bool) (slot most : ℕ) (x y : StoredTable × Reply) → (if b then placed_result slot most x else placed_result slot most y) ≡ placed_result slot most (if b then x else y)
if_placed true slot most x y = refl
if_placed false slot most x y = refl

kind_placed : (kind : ElementKind) (failing : List ℕ) (i count : ℕ) (e : elem.Element) (s : StoredTable) (slot most : ℕ) → kind_filled kind failing i count e (placed_stored slot most s) ≡ placed_result slot most (kind_filled kind failing i count e s)
kind_placed (functions lazy) failing i count e s slot most = refl
kind_placed continuations failing i count e s slot most = refl
kind_placed gc_refs failing i count e s slot most =
    let through : ℕ = calls_through failing s.calls count in
    if_placed (through == count) slot most (record { table = table_filled i count e s.table; calls = calls_after count s.calls }, Done) _

filled_placed : (failing : List ℕ) (i count : ℕ) (e : elem.Element) (s : StoredTable) (slot most : ℕ) → filled_by failing i count e (placed_stored slot most s) ≡ placed_result slot most (filled_by failing i count e s)
filled_placed failing i count e s slot most =
    let past : Bool = nat_lt s.table.size (i + count) in
    ap (λ (p : StoredTable × Reply). if past then placed_result slot most (s, Trap TableOutOfBounds) else p) (kind_placed s.table.kind failing i count e s slot most)
    ∙ if_placed past slot most (s, Trap TableOutOfBounds) (kind_filled s.table.kind failing i count e s)

-- it still tells its elements
abbrev first_of_two : StoredTable × Reply → StoredTable
first_of_two p = p.0

tells_either : (b : Bool) (x y : StoredTable × Reply) → is_some x.0.table.elements ≡ true → is_some y.0.table.elements ≡ true → is_some (first_of_two (if b then x else y)).table.elements ≡ true
tells_either true x y one two = one
tells_either false x y one two = two

kind_tells : (kind : ElementKind) (failing : List ℕ) (i count : ℕ) (e : elem.Element) (s : StoredTable) → is_some s.table.elements ≡ true → is_some (kind_filled kind failing i count e s).0.table.elements ≡ true
kind_tells (functions lazy) failing i count e s told = some_mapped (put_all i count e) s.table.elements told
kind_tells continuations failing i count e s told = some_mapped (put_all i count e) s.table.elements told
kind_tells gc_refs failing i count e s told =
    let through : ℕ = calls_through failing s.calls count in
    tells_either (through == count) (record { table = table_filled i count e s.table; calls = calls_after count s.calls }, Done) (record { table = table_filled i through e s.table; calls = risen (calls_after through s.calls) }, Refused GcStoreFault)
    (some_mapped (put_all i count e) s.table.elements told) (some_mapped (put_all i through e) s.table.elements told)

filled_tells : (failing : List ℕ) (i count : ℕ) (e : elem.Element) (s : StoredTable) → is_some s.table.elements ≡ true → is_some (filled_by failing i count e s).0.table.elements ≡ true
filled_tells failing i count e s told = tells_either (nat_lt s.table.size (i + count)) (s, Trap TableOutOfBounds) (kind_filled s.table.kind failing i count e s) told (kind_tells s.table.kind failing i count e s told)

-- so is a growth that was granted
left_placed : (nothing : Bool) (by slot most : ℕ) (t : PrivateTable) → table_left (granted_end nothing) by (placed slot most t) ≡ placed slot most (table_left (granted_end nothing) by t)
left_placed true by slot most t = refl
left_placed false by slot most t = refl

left_tells : (nothing : Bool) (by : ℕ) (t : PrivateTable) → is_some t.elements ≡ true → is_some (table_left (granted_end nothing) by t).elements ≡ true
left_tells true by t told = told
left_tells false by t told = some_mapped (λ es. es ++ replicate by (empty t.kind)) t.elements told

table_granted : (rule : GrowthRule) (by : ℕ) (t : PrivateTable) (old : ℕ) → (table_growth rule by t).1 ≡ Grown (Some old) → ◌≡◌ {A = GrowthEnd × Reply} (table_growth rule by t) (granted_end (by == 0), Grown (Some t.size))
table_granted rule by t old is =
    granted (by == 0) (nat_lt (2 ^ 64 - 1) (t.size + by)) (table_answer (Some rule) (Ok true) (t.size + by) (Some t.maximum)) (nat_lt t.maximum (t.size + by)) false (table_failure (Some rule) (Ok tt)) t.size old is

-- what is left of both, as many calls on the store made, and the replies
pub record StayAlike (a b : StoredTable) (r q : Reply) : Type 0 where
  pub tables : AreTablesAlike a.table b.table
  pub calls : b.calls ≡ a.calls
  pub replies : r ≡ q

module _ (host : Host) (t u : PrivateTable) (alike : AreTablesAlike t u) (calls : ℕ) where
  abbrev pub first_stored : StoredTable
  first_stored = record { table = t; calls = calls }

  abbrev pub second_stored : StoredTable
  second_stored = record { table = u; calls = calls }

  -- both are as they were
  still_alike : (a b : StoredTable) (r q : Reply) → a ≡ first_stored → b ≡ second_stored → r ≡ q → StayAlike a b r q
  still_alike a b r q one two same =
      let Left : StoredTable → Type 0 = λ x. StayAlike x b r q in
      let Right : StoredTable → Type 0 = λ x. StayAlike first_stored x r q in
      subst Left (sym one) (subst Right (sym two) (record { tables = alike; calls = refl; replies = same }))

  pub table_alike : (op : TableOp) (a b : StoredTable) (r q : Reply) → TableMoves op host first_stored a r → TableMovesOnDemand op host second_stored b q → IsServed (table_in 0 op) r → IsServed (table_in 0 op) q → StayAlike a b r q
  table_alike (gets i) a b r q one two first second =
      let Got : PrivateTable → Type 0 = λ x. IsGot x i q in
      still_alike a b r q one.1 two.1 (got_alike t i r q alike.told one.0 (subst Got alike.same two.0))
  table_alike (sets i count value) a b r q one two first second =
      let e : elem.Element = element_for (type_of t.kind) value in
      let kind : u.kind ≡ t.kind = ap (λ (x : PrivateTable). x.kind) alike.same in
      let F : StoredTable × Reply = filled_by host.failing i count e first_stored in
      let moved : ◌≡◌ {A = StoredTable × Reply} (b, q) (placed_result u.slot u.maximum F) =
      two ∙ ap (λ (k : ElementKind). filled_by host.failing i count (element_for (type_of k) value) second_stored) kind ∙ ap (λ (x : PrivateTable). filled_by host.failing i count e (record { table = x; calls = calls })) alike.same ∙ filled_placed host.failing i count e first_stored u.slot u.maximum in
      let left : a ≡ F.0 = ap (λ (p : StoredTable × Reply). p.0) one in
      let right : b ≡ placed_stored u.slot u.maximum F.0 = ap (λ (p : StoredTable × Reply). p.0) moved in
      let Left : StoredTable → Type 0 = λ x. StayAlike x b r q in
      let Right : StoredTable → Type 0 = λ x. StayAlike F.0 x r q in
      subst Left (sym left) (subst Right (sym right) (record { tables = record { same = refl; told = filled_tells host.failing i count e first_stored alike.told }; calls = refl; replies = ap (λ (p : StoredTable × Reply). p.1) one ∙ sym (ap (λ (p : StoredTable × Reply). p.1) moved) }))
  table_alike (lengthens by) a b r q one (inl two) first second =
      let rule : GrowthRule = host.rule in
      let mine = table_granted rule by t first.0 (sym one.1 ∙ first.1) in
      let other = table_granted rule by u second.0 (sym two.1 ∙ second.1) in
      let size : u.size ≡ t.size = ap (λ (x : PrivateTable). x.size) alike.same in
      let L : PrivateTable = table_left (granted_end (by == 0)) by t in
      let left : a ≡ record { table = L; calls = calls } = one.0 ∙ ap (λ (p : GrowthEnd × Reply). record { table = table_left p.0 by t; calls = calls }) mine in
      let right : b ≡ record { table = placed u.slot u.maximum L; calls = calls } =
      two.0 ∙ ap (λ (p : GrowthEnd × Reply). record { table = table_left p.0 by u; calls = calls }) other ∙ ap (λ (x : PrivateTable). record { table = table_left (granted_end (by == 0)) by x; calls = calls }) alike.same
      ∙ ap (λ (x : PrivateTable). record { table = x; calls = calls }) (left_placed (by == 0) by u.slot u.maximum t) in
      let replies : r ≡ q = one.1 ∙ ap (λ (p : GrowthEnd × Reply). p.1) mine ∙ ap (λ (n : ℕ). Grown (Some n)) (sym size) ∙ sym (ap (λ (p : GrowthEnd × Reply). p.1) other) ∙ sym two.1 in
      let Left : StoredTable → Type 0 = λ x. StayAlike x b r q in
      let Right : StoredTable → Type 0 = λ x. StayAlike (record { table = L; calls = calls }) x r q in
      subst Left (sym left) (subst Right (sym right) (record { tables = record { same = refl; told = left_tells (by == 0) by t alike.told }; calls = refl; replies = replies }))
  table_alike (lengthens by) a b r q one (inr wants) first second = let wrong : Refused (Alloc alloc.Memory) ≡ Grown (Some second.0) = sym wants.1.0 ∙ second.1 in absurd (cc wrong)
  table_alike asks_length a b r q one two first second =
      still_alike a b r q one.1 two.1 (one.0 ∙ ap (λ (x : PrivateTable). Size x.size) (sym alike.same) ∙ sym two.0)

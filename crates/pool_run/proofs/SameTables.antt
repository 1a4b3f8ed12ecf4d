-- A command on a table of the pool has one outcome, where the maker tells what its regions hold.
use Rattle.std.proofs.Common.{◌≡◌, ℕ, true, List, Option, Some, None, refl, sym, ap, ◌∙◌, subst, is_some, [], ◌<◌, ◌≤◌, IfSome, slice_get, arith}
use Rattle.pool_run.proofs.Imports.{some_mapped, told_if, Contents, MakerTold, Told, SlotIdentity, GrowthRule, Plan, elements, elements_in, TableView, state_in, ListedStore, IsTableLease, LeasedTable, element_of, Settings, Element}
use Rattle.pool_table.specs.Elements as elem
use Rattle.pool_alloc.specs.declared.leases.element.Element.TheVariants as item
use Rattle.pool_run.specs.Acts.{TableOp, gets, sets, lengthens, asks_length}
use Rattle.pool_run.specs.PrivateTables.{Host, PrivateTable, StoredTable, IsGot, TableMoves}
use Rattle.pool_run.specs.Turns.{private_table, stored_as, faults_left, MovesTable}
use Rattle.pool_run.specs.declared.reply.Reply.{Reply}
use Rattle.pool_run.specs.declared.reply.Reply.TheVariants as reply

-- an element has one name
element_one : (a b : Element) → element_of a ≡ element_of b → a ≡ b
element_one item.Uninitialised item.Uninitialised same = refl
element_one (item.Func f) (item.Func g) same = let both : f ≡ g = cc in ap (λ x. item.Func x) both
element_one (item.Gc f) (item.Gc g) same = let both : f ≡ g = cc in ap (λ x. item.Gc x) both
element_one (item.Cont f) (item.Cont g) same = let both : f ≡ g = cc in ap (λ x. item.Cont x) both
element_one item.Uninitialised (item.Func g) same = absurd cc
element_one item.Uninitialised (item.Gc g) same = absurd cc
element_one item.Uninitialised (item.Cont g) same = absurd cc
element_one (item.Func f) item.Uninitialised same = absurd cc
element_one (item.Func f) (item.Gc g) same = absurd cc
element_one (item.Func f) (item.Cont g) same = absurd cc
element_one (item.Gc f) item.Uninitialised same = absurd cc
element_one (item.Gc f) (item.Func g) same = absurd cc
element_one (item.Gc f) (item.Cont g) same = absurd cc
element_one (item.Cont f) item.Uninitialised same = absurd cc
element_one (item.Cont f) (item.Func g) same = absurd cc
element_one (item.Cont f) (item.Gc g) same = absurd cc

-- a look at one element, where elements are told
one_told : (o : Option (List elem.Element)) (at : ℕ) (a b : Element) → is_some o ≡ true → IfSome o (λ es. slice_get es at ≡ Some (element_of a)) → IfSome o (λ es. slice_get es at ≡ Some (element_of b)) → element_of a ≡ element_of b
one_told None at a b told one two = absurd cc
one_told (Some es) at a b told one two = let both : Some (element_of a) ≡ Some (element_of b) = sym one ∙ two in cc

within : {A : Type 0} (n size : ℕ) → n < size → size ≤ n → A
within n size lt le = absurd (omega (arith, lt, le))

got_same : (t : PrivateTable) (at : ℕ) (r q : Reply) → is_some t.elements ≡ true → IsGot t at r → IsGot t at q → r ≡ q
got_same t at (reply.Element a) (reply.Element b) told one two = ap (λ x. reply.Element x) (element_one a b (one_told t.elements at a b told one.1 two.1))
got_same t at (reply.Element a) (reply.Trap u) told one two = within at t.size one.0 two.1
got_same t at (reply.Trap trap) (reply.Element b) told one two = within at t.size two.0 one.1
got_same t at (reply.Trap trap) (reply.Trap u) told one two = ap (λ x. reply.Trap x) (one.0 ∙ sym two.0)
got_same t at (reply.Element a) _ told one two = absurd two
got_same t at (reply.Trap trap) _ told one two = absurd two
got_same t at _ q told one two = absurd one

-- each operation on a table of which elements are told
move_same : (op : TableOp) (host : Host) (t x y : StoredTable) (r q : Reply) → is_some t.table.elements ≡ true → TableMoves op host t x r → TableMoves op host t y q → (x ≡ y) × (r ≡ q)
move_same (gets at) host t x y r q told one two = (one.1 ∙ sym two.1, got_same t.table at r q told one.0 two.0)
move_same (sets at count value) host t x y r q told one two =
    let both : (x, r) ≡ (y, q) = one ∙ sym two in
    (ap (λ (p : StoredTable × Reply). p.0) both, ap (λ (p : StoredTable × Reply). p.1) both)
move_same (lengthens by) host t x y r q told one two = (one.0 ∙ sym two.0, one.1 ∙ sym two.1)
move_same asks_length host t x y r q told one two = (one.1 ∙ sym two.1, one.0 ∙ sym two.0)

-- what is left of a table and its store, and the reply
pub record IsSameTable (new other : LeasedTable) (after left : ListedStore) (r q : Reply) : Type 0 where
  pub lease : new ≡ other
  pub store : after ≡ left
  pub reply : r ≡ q

module _ (maker : MakerTold) (s : Settings) (plan : Plan) (tells : maker.tells ≡ true) (l : LeasedTable) (of : IsTableLease maker s plan l) where
  -- the elements are told
  elements_told : is_some l.table.elements ≡ true
  elements_told =
      let contents : is_some of.region.contents ≡ true = ap (λ (z : SlotIdentity). z.tells) of.slot.same ∙ told_if maker.tells _ ∙ tells in
      let There : Option Told → Type 0 = λ o. IfSome o (λ region. l.table.elements ≡ elements (state_in region l.table)) in
      let lies : l.table.elements ≡ elements (state_in of.region l.table) = subst There of.lies.is of.there.lies in
      ap (λ (o : Option (List elem.Element)). is_some o) lies ∙ some_mapped (λ (c : Contents). elements_in l.table.kind l.table.size c.bytes) of.region.contents contents

  pub table_same : (op : TableOp) (rule : GrowthRule) (before after left : ListedStore) (new other : LeasedTable) (r q : Reply) → MovesTable op rule before after l new r → MovesTable op rule before left l other q → IsSameTable new other after left r q
  table_same op rule before after left new other r q one two =
      let both = move_same op (record { rule = rule; failing = before.failing; unmade = [] }) (stored_as l before) (stored_as new after) (stored_as other left) r q elements_told one.move two.move in
      let View : PrivateTable → Option Told → TableView = λ t region. record { kind = t.kind; size = t.size; maximum = t.maximum; elements = t.elements; region = region } in
      let table : new.table ≡ other.table = ap (λ (x : StoredTable). View x.table new.table.region) both.0 ∙ ap (View (private_table other)) (one.region ∙ sym two.region) in
      let made : after.made ≡ left.made = ap (λ (x : StoredTable). x.calls) both.0 in
      record {
        lease = one.same ∙ ap (λ (t : TableView). record l { table = t }) table ∙ sym two.same;
        store = one.store ∙ ap (λ (n : ℕ). record before { made = n; faults = faults_left r before.faults }) made ∙ ap (λ (x : Reply). record before { made = left.made; faults = faults_left x before.faults }) both.1 ∙ sym two.store;
        reply = both.1;
      }

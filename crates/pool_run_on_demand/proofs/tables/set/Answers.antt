use Rattle.std.proofs.Common.{◌≡◌, sym, ap, ◌∙◌, subst}
use Rattle.pool_run_on_demand.proofs.Imports.{always, TableElementType, type_of, StoreCall, table_view, TableView, ListedStore, element_of, IsSet, sets, store_told, element_for, Reply}
use Rattle.pool_table.specs.Elements as elem
use Rattle.pool_run_on_demand.specs.Seen.{ViewMovesOnDemand}
use Rattle.pool_run_on_demand.proofs.TableMoves.{set_seen}
use Rattle.pool_run_on_demand.proofs.tables.set.Goals as goal

pub returns-clause-moves : goal.returns-clause-moves
returns-clause-moves g c rule =
    let t : TableView = table_view c.args.table.now in
    let new : TableView = table_view c.set_elements.new.table in
    let leads : ListedStore → StoreCall → ListedStore → Type 0 = λ _ _ _. Unit {0} in
    let For : TableElementType → elem.Element = λ ty. element_for ty c.args.value in
    let is : element_of c.element_for-element.result ≡ For (type_of t.kind) = c.element_for-element.ensures.value ∙ ap For (c.element_type.ensures ∙ c.requires.held) in
    let Set : elem.Element → Type 0 = λ e. IsSet store_told leads c.args.at c.args.len e t new c.args.store.now c.set_elements.new.store c.set_elements.result in
    let Moved : Reply → Type 0 = λ reply. ViewMovesOnDemand (sets c.args.at c.args.len c.args.value) rule c.args.store.now c.set_elements.new.store t new reply in
    subst Moved (sym c.fill_reply.ensures) (set_seen leads c.args.at c.args.len c.args.value rule t new c.args.store.now c.set_elements.new.store c.set_elements.result (subst Set is c.set_elements.ensures.set)).0

pub returns-clause-failing : goal.returns-clause-failing
returns-clause-failing g c =
    let t : TableView = table_view c.args.table.now in
    let new : TableView = table_view c.set_elements.new.table in
    let leads : ListedStore → StoreCall → ListedStore → Type 0 = λ _ _ _. Unit {0} in
    let For : TableElementType → elem.Element = λ ty. element_for ty c.args.value in
    let is : element_of c.element_for-element.result ≡ For (type_of t.kind) = c.element_for-element.ensures.value ∙ ap For (c.element_type.ensures ∙ c.requires.held) in
    let Set : elem.Element → Type 0 = λ e. IsSet store_told leads c.args.at c.args.len e t new c.args.store.now c.set_elements.new.store c.set_elements.result in
    (set_seen leads c.args.at c.args.len c.args.value always t new c.args.store.now c.set_elements.new.store c.set_elements.result (subst Set is c.set_elements.ensures.set)).1

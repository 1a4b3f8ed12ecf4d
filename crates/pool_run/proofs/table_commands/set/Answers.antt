use Rattle.std.proofs.Common.{◌≡◌, List, Some, sym, ap, ◌∙◌, subst, slice_get, slice_index_or}
use Rattle.pool_run.proofs.Imports.{get_or_from_slice_get, slice_get-get_or, TableElementType, type_of, StoreCall, ListedStore, IsChanged, LeasedTable, element_of, IsFilled}
use Rattle.pool_table.specs.Elements as elem
use Rattle.pool_run.specs.Acts.{sets}
use Rattle.pool_run.specs.TableValues.{element_for}
use Rattle.pool_run.specs.AtOnce.{store_told}
use Rattle.pool_run.specs.Turns.{MovesTable}
use Rattle.pool_run.specs.declared.reply.Reply.{Reply}
use Rattle.pool_run.proofs.TableChanges.{filled_moves}
use Rattle.pool_run.proofs.table_commands.set.Goals as goal

pub returns : goal.returns
returns g c rule =
    let xs : List LeasedTable = c.args.tables.now.items in
    let l : LeasedTable = c.get.result.now in
    let leads : ListedStore → StoreCall → ListedStore → Type 0 = λ _ _ _. Unit {0} in
    let got : slice_get xs c.args.table ≡ Some l = slice_get-get_or xs c.args.table l c.requires ∙ ap Some (sym c.get.ensures) in
    let there : (d : LeasedTable) → slice_index_or xs c.args.table d ≡ l = λ d. get_or_from_slice_get xs c.args.table l d got in
    let For : TableElementType → elem.Element = λ ty. element_for ty c.args.value in
    let is : (d : LeasedTable) → element_of c.element_for-element.result ≡ For (type_of (slice_index_or xs c.args.table d).table.kind) =
    λ d. c.element_for-element.ensures.value ∙ ap For c.element_type.ensures ∙ ap (λ (x : LeasedTable). For (type_of x.table.kind)) (sym (there d)) in
    let Filled : LeasedTable → elem.Element → Type 0 = λ x e. IsFilled store_told leads c.args.at c.args.len e x c.fill.ensures.lease c.args.store.now c.fill.new.store c.fill.result in
    let Moved : Reply → Type 0 = λ reply. IsChanged (λ x n. MovesTable (sets c.args.at c.args.len c.args.value) rule c.args.store.now c.fill.new.store x n reply) c.args.table c.args.tables.now c.fill.new.self in
    subst Moved (sym c.fill_reply.ensures)
    (record {
      lease = c.fill.ensures.lease;
      change = λ d. filled_moves leads c.args.at c.args.len c.args.value rule (slice_index_or xs c.args.table d) c.fill.ensures.lease c.args.store.now c.fill.new.store c.fill.result (subst (Filled (slice_index_or xs c.args.table d)) (is d) (c.fill.ensures.change d));
      is = c.fill.ensures.is;
    })

-- A table that is new is to the party as private ones begin.
use Rattle.std.proofs.Common.{◌≡◌, Bool, Option, Some, None, List, replicate, refl, sym, ap, ◌∙◌, subst, is_some, if◌then◌else◌, option_map}
use Rattle.pool_run.proofs.Imports.{told_if, Contents, MakerTold, Told, TableType, SlotIdentity, Plan, ElementKind, empty, kind_of, TableView, in_region, IsTableLease, IsBegunTable, LeasedTable, table_bytes, Settings}
use Rattle.pool_table.specs.Elements.{Element}
use Rattle.pool_table.specs.Making.{new_table}
use Rattle.pool_run.specs.Private.{Terms, begun_table}
use Rattle.pool_run.specs.PrivateTables.{PrivateTable}
use Rattle.pool_run.specs.Turns.{private_table}

-- what is told of where contents are told
told_of_contents : {X : Type 0} (o : Option Contents) (x : X) (tells : Bool) → is_some o ≡ tells → option_map (λ c. x) o ≡ (if tells then Some x else None)
told_of_contents {X = X} None x tells told = let P : Bool → Type 0 = λ b. ◌≡◌ {A = Option X} None (if b then Some x else None) in subst P told refl
told_of_contents {X = X} (Some c) x tells told = let P : Bool → Type 0 = λ b. ◌≡◌ {A = Option X} (Some x) (if b then Some x else None) in subst P told refl

pub table_seen : (t : Terms) (maker : MakerTold) (s : Settings) (plan : Plan) (ty : TableType) (l : LeasedTable) → t.tells ≡ maker.tells → t.settings ≡ s → IsTableLease maker s plan l → IsBegunTable s l ty → private_table l ≡ begun_table t l.index ty
table_seen t maker s plan ty l tells same of new =
    let Begins : Settings → Type 0 = λ x. IsBegunTable x l ty in
    let begins : IsBegunTable t.settings l ty = subst Begins (sym same) new in
    let kind : ElementKind = kind_of ty.element t.settings.tunables.tunables.table_lazy_init in
    let elements : List Element = replicate ty.limits.min (empty kind) in
    let view : TableView = in_region (new_table ty t.settings.tunables.tunables.table_lazy_init (table_bytes t.settings ty) begins.region) in
    let there : l.table.region ≡ Some begins.region = ap (λ (v : TableView). v.region) begins.table in
    let same_region : of.region ≡ begins.region = let both : Some of.region ≡ Some begins.region = sym of.lies.is ∙ there in cc in
    let told : is_some begins.region.contents ≡ t.tells = ap (λ (r : Told). is_some r.contents) (sym same_region) ∙ ap (λ (z : SlotIdentity). z.tells) of.slot.same ∙ told_if maker.tells _ ∙ sym tells in
    let Parts : TableView → Option (List Element) → PrivateTable = λ v es. record { slot = l.index; kind = v.kind; size = v.size; maximum = v.maximum; elements = es } in
    ap (λ (v : TableView). Parts v l.table.elements) begins.table ∙ ap (Parts view) (begins.elements ∙ told_of_contents begins.region.contents elements t.tells told)

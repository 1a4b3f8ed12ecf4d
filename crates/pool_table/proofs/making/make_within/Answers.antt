use Rattle.std.proofs.Common.{◌≡◌, ◌/◌, ◌<◌, ◌≤◌, ◌^◌, ℕ, Bool, Ok, refl, sym, ap, ◌∙◌, subst, arith, min}
use Rattle.pool_table.proofs.Imports.{Count, Told, TableType}
use Rattle.pool_table.specs.Elements.{element_size}
use Rattle.pool_table.specs.Tables.{IsTable, type_maximum}
use Rattle.pool_table.specs.Views.{in_region}
use Rattle.pool_table.specs.TableStates.{table_view}
use Rattle.pool_table.specs.Making.{kind_of, room_of, MakesWithin, new_table}
use Rattle.pool_table.proofs.Made.{made_is_table, made_new, has_room}
use Rattle.pool_table.proofs.making.make_within.Goals as goal

-- the greatest size as the code reckons it
greatest : (ty : TableType) (bytes size most result : ℕ) → size ≡ element_size ty.element → most ≡ type_maximum ty → result ≡ min (bytes / size) most → result ≡ min (room_of ty bytes) (type_maximum ty)
greatest ty bytes size most result first second is = is ∙ ap (λ (n : ℕ). min (bytes / n) most) first ∙ ap (λ (n : ℕ). min (room_of ty bytes) n) second

room_at : (ty : TableType) (bytes size least : ℕ) → size ≡ element_size ty.element → least ≤ bytes / size → least ≤ room_of ty bytes
room_at ty bytes size least same below = let P : ℕ → Type 0 = λ n. least ≤ bytes / n in subst P same below

pub over_region-requires : goal.over_region-requires
over_region-requires g c =
    let ty : TableType = c.args.ty.now in
    let region : Told = g.P.Pages.told c.args.region in
    let below : ty.limits.min ≤ room_of ty c.args.data_bytes = room_at ty c.args.data_bytes c.element_size.result ty.limits.min c.element_size.ensures c.if-min-limit.false in
    let T : ℕ → Type 0 = λ n. IsTable (record { kind = kind_of ty.element c.args.lazy; size = ty.limits.min; maximum = n; region = region }) in
    let bytes : c.byte_count-len.result ≡ region.len = c.byte_count-len.ensures.value ∙ ap (λ (n : Count). n.bytes) c.len.ensures.value in
    let bounded : region.len < 2 ^ 64 = rw (sym bytes) c.byte_count-len.type_inv in
    let page : c.len.result.page ≡ region.page = ap (λ (n : Count). n.page) c.len.ensures.value in
    let some : 0 < region.page = omega (arith, page, c.byte_count-len.ensures.page.at_least) in
    subst T (sym (greatest ty c.args.data_bytes c.element_size.result c.type_maximum.result c.min-maximum.result c.element_size.ensures c.type_maximum.ensures c.min-maximum.ensures))
    (made_is_table ty c.args.lazy c.args.data_bytes region below (c.requires.limits below) c.requires.inside some bounded c.requires.zeros)

pub returns-clause-value : goal.returns-clause-value
returns-clause-value g c =
    let ty : TableType = c.args.ty.now in
    let region : Told = g.P.Pages.told c.args.region in
    let below : ty.limits.min ≤ room_of ty c.args.data_bytes = room_at ty c.args.data_bytes c.element_size.result ty.limits.min c.element_size.ensures c.if-min-limit.false in
    let T : ℕ → Type 0 = λ n. table_view c.over_region.result ≡ in_region (record { kind = kind_of ty.element c.args.lazy; size = ty.limits.min; maximum = n; region = region }) in
    let view : table_view c.over_region.result ≡ in_region (new_table ty c.args.lazy c.args.data_bytes region) =
    subst T (greatest ty c.args.data_bytes c.element_size.result c.type_maximum.result c.min-maximum.result c.element_size.ensures c.type_maximum.ensures c.min-maximum.ensures) c.over_region.ensures.view in
    let M : Bool → Type 0 = λ b. MakesWithin b g.P.Pages.told ty c.args.lazy c.args.data_bytes c.args.region (Ok c.over_region.result) in
    subst M (sym (has_room (room_of ty c.args.data_bytes) ty.limits.min below))
    (c.over_region.result, (refl, made_new ty c.args.lazy c.args.data_bytes region c.over_region.result below (c.requires.limits below) c.requires.inside c.requires.zeros c.over_region.ensures.static_ c.over_region.ensures.element_type view))

-- Over a right plan no slot is given out twice, and no region of one: each has one place that can give it out.
use Rattle.std.proofs.Common.{◌≡◌, ◌≢◌, ℕ, ◌+◌, ◌-◌, ◌*◌, ◌/◌, ◌%◌, ◌<◌, ◌≤◌, ◌⊎◌, Bool, true, false, List, [], ◌∷◌, ◌++◌, length, refl, sym, ap, ◌∙◌, subst, inl, inr, arith, Option, None, Some, map, min, ◌==◌, ◌&&◌, nat_le, nat_lt, if◌then◌else◌}
use Rattle.pool_slots.proofs.Imports.{AllByRecursion, cases_Bool, and_parts, and_from, eq-eqb, le-leb, leb-true, lt-ltb, ltb-true, true≢false, div-mul-add, mul-mod_left, mul-div_left, one_if, total, same, times, pick_unit, SlotKind, UnitName, inside, same_is, used_units, shard_units, ShardState, MemoryInModule, is_out, out_once}
use mathlib.Core.Option.{some}
use lib.ListN.{get_elem?}
use Rattle.pool_hall.specs.declared.unit_name.SlotKind.TheVariants as of_slot
use Rattle.pool_slots.specs.Cells.{Cell, unmapped, unknown, previously_used, taken}
use Rattle.pool_slots.specs.HeapLists.{heap_entry, heaps_away, is_out as is_out_entry}
use Rattle.pool_slots.specs.HeapUnits.{heap_slot}
use Rattle.pool_slots.specs.declared.heap_list.HeapEntry.{HeapEntry}
use Rattle.pool_slots.specs.ListUnits.{bare, is_right, is_region, IsShardOf, StandsAs, StandAsPlanned, AwayOnce}
use Rattle.pool_slots.specs.PartUnits.{part_away}
use Rattle.pool_slots.specs.Parts.{part_at}
use Rattle.pool_slots.specs.Plans.{allocators_of, allocators, number_in, number_at, slots_at, has_number, home_in, home_among, home_of, cell_place, heap_or, region_place, Role, shard_role, cell_role, queue_role, heaps_role, no_role, Block, shards_block, cells_block, blocks, is_within, role_among, role_at, IsAllocator, have_number, IsPlanned}
use Rattle.pool_slots.specs.RegionCells.{CellState, away_by, cell_away, region_of, right_to}
use Rattle.pool_slots.specs.SlotNames.{of_kind}
use Rattle.pool_slots.specs.declared.slot_name.SlotName.{SlotName}
use Rattle.pool_slots.specs.declared.slot_name.RegionNumbers.{RegionNumbers}
use Rattle.pool_slots.specs.declared.plan.Allocator.{Allocator}
use Rattle.pool_slots.specs.declared.plan.Home.{Home}
use Rattle.pool_slots.specs.declared.plan.Plan.{Plan}
use Rattle.pool_slots.specs.declared.part.PoolPart.{PoolPart}
use Rattle.pool_slots.specs.declared.part.PoolPart.TheVariants as part
use Rattle.pool_slots.proofs.HeapUnits.{units_of_out_slots}
use Rattle.pool_slots.proofs.ListUnits.{read_at, total_once, away_parts}

-- some element of a list
abbrev pub AnyOf : {X : Type 0} → (X → Type 0) → List X → Type 0
AnyOf P [] = ⊥
AnyOf P (x ∷ xs) = P x ⊎ AnyOf P xs

any_split : {X : Type 0} (P : X → Type 0) (xs ys : List X) → AnyOf P (xs ++ ys) → AnyOf P xs ⊎ AnyOf P ys
any_split P [] ys any = inr any
any_split P (x ∷ xs) ys any =
    elim any [
      | inl here ↦ inl (inl here)
      | inr later ↦ elim (any_split P xs ys later) [ inl left ↦ inl (inr left) | inr right ↦ inr right ]
    ]

any_map : {X Y : Type 0} (P : Y → Type 0) (f : X → Y) (xs : List X) → AnyOf P (map f xs) → AnyOf (λ x. P (f x)) xs
any_map P f [] any = any
any_map P f (x ∷ xs) any = elim any [ inl here ↦ inl here | inr later ↦ inr (any_map P f xs later) ]

any_weaker : {X : Type 0} (P Q : X → Type 0) (xs : List X) → ((x : X) → P x → Q x) → AnyOf P xs → AnyOf Q xs
any_weaker P Q [] step any = any
any_weaker P Q (x ∷ xs) step any = elim any [ inl here ↦ inl (step x here) | inr later ↦ inr (any_weaker P Q xs step later) ]

any_of : {X : Type 0} (P : X → Type 0) (R : Type 0) (xs : List X) → ((x : X) → P x → R) → AnyOf P xs → R
any_of P R [] step any = absurd any
any_of P R (x ∷ xs) step any = elim any [ inl here ↦ step x here | inr later ↦ any_of P R xs step later ]

any_each : {X : Type 0} (P Q : X → Type 0) (R : Type 0) (xs : List X) → ((x : X) → P x → Q x → R) → AnyOf P xs → AllByRecursion Q xs → R
any_each P Q R [] step any each = absurd any
any_each P Q R (x ∷ xs) step any each = elim any [ inl here ↦ step x here each.0 | inr later ↦ any_each P Q R xs step later each.1 ]

-- the block that gives a place its role
abbrev Gives : ℕ → Role → Block → Type 0
Gives p r b = (is_within b p ≡ true) × (b.role (p - b.first) ≡ r)

chosen : (b : Bool) (x y r : Role) → (if b then x else y) ≡ r → ((b ≡ true) × (x ≡ r)) ⊎ (y ≡ r)
chosen true x y r e = inl (refl, e)
chosen false x y r e = inr e

given : (bs : List Block) (p : ℕ) (r : Role) → role_among bs p ≡ r → (no_role ≡ r → ⊥) → AnyOf (Gives p r) bs
given [] p r e some' = absurd (some' e)
given (b ∷ bs) p r e some' =
    elim (chosen (is_within b p) (b.role (p - b.first)) (role_among bs p) r e) [
      | inl here ↦ inl here
      | inr later ↦ inr (given bs p r later some')
    ]

from_first : (b : Block) (p : ℕ) → is_within b p ≡ true → b.first ≤ p
from_first b p is = leb-true b.first p (and_parts (nat_le b.first p) (nat_lt p (b.first + b.count)) is).0

-- what a role tells
abbrev is_cell : Role → Bool
is_cell (shard_role a j) = false
is_cell (cell_role name) = true
is_cell queue_role = false
is_cell (heaps_role n) = false
is_cell no_role = false

abbrev is_shard : Role → Bool
is_shard (shard_role a j) = true
is_shard (cell_role name) = false
is_shard queue_role = false
is_shard (heaps_role n) = false
is_shard no_role = false

abbrev name_in : SlotName → Role → SlotName
name_in d (shard_role a j) = d
name_in d (cell_role name) = name
name_in d queue_role = d
name_in d (heaps_role n) = d
name_in d no_role = d

abbrev shard_in : Allocator → Role → Allocator
shard_in d (shard_role a j) = a
shard_in d (cell_role name) = d
shard_in d queue_role = d
shard_in d (heaps_role n) = d
shard_in d no_role = d

abbrev index_in : Role → ℕ
index_in (shard_role a j) = j
index_in (cell_role name) = 0
index_in queue_role = 0
index_in (heaps_role n) = 0
index_in no_role = 0

-- a cell's place is that of its slot
from_cells : (plan : Plan) (kind : SlotKind) (p : ℕ) (name : SlotName) → Gives p (cell_role name) (cells_block plan kind) → p ≡ cell_place plan name
from_cells plan kind p name gives =
    let from : of_kind kind plan.cells ≤ p = from_first (cells_block plan kind) p gives.0 in
    let is : record { kind = kind; slot = p - of_kind kind plan.cells } ≡ name = ap (name_in name) gives.1 in
    let back : p ≡ of_kind kind plan.cells + (p - of_kind kind plan.cells) = omega (arith, from) in
    back ∙ ap (cell_place plan) is

no_cell : (r : Role) (name : SlotName) → is_cell r ≡ false → r ≡ cell_role name → ⊥
no_cell r name other e = true≢false (sym (ap is_cell e) ∙ other)

no_shard : (r : Role) (a : Allocator) (j : ℕ) → is_shard r ≡ false → r ≡ shard_role a j → ⊥
no_shard r a j other e = true≢false (sym (ap is_shard e) ∙ other)

pub cell_at : (plan : Plan) (p : ℕ) (name : SlotName) → role_at plan p ≡ cell_role name → p ≡ cell_place plan name
cell_at plan p name e =
    let any : AnyOf (Gives p (cell_role name)) (blocks plan) = given (blocks plan) p (cell_role name) e (no_cell no_role name refl) in
    elim any [
      | inl memory ↦ from_cells plan of_slot.Memory p name memory
      | inr rest ↦ elim rest [
        | inl table ↦ from_cells plan of_slot.Table p name table
        | inr rest ↦ elim rest [
          | inl stack ↦ from_cells plan of_slot.Stack p name stack
          | inr rest ↦ elim rest [
            | inl queue ↦ absurd (no_cell queue_role name refl queue.1)
            | inr rest ↦ elim rest [
              | inl heaps ↦ absurd (no_cell (heaps_role plan.totals.heap) name refl heaps.1)
              | inr shards ↦
                  any_of (λ a. Gives p (cell_role name) (shards_block a)) (p ≡ cell_place plan name) (allocators plan)
                  (λ a gives. absurd (no_cell (shard_role a (p - a.first_place)) name refl gives.1))
                  (any_map (Gives p (cell_role name)) shards_block (allocators plan) shards)
            ]
          ]
        ]
      ]
    ]

-- a shard's place is that which its allocator gives it
abbrev IsPlacedAs : ℕ → Allocator → ℕ → Allocator → Type 0
IsPlacedAs p a j b = (b ≡ a) × (p ≡ a.first_place + j)

placed_as : (p : ℕ) (a : Allocator) (j : ℕ) (b : Allocator) → Gives p (shard_role a j) (shards_block b) → IsPlacedAs p a j b
placed_as p a j b gives =
    let is : b ≡ a = ap (shard_in a) gives.1 in
    let index : p - b.first_place ≡ j = ap index_in gives.1 in
    let from : b.first_place ≤ p = from_first (shards_block b) p gives.0 in
    let same' : b.first_place ≡ a.first_place = ap (λ (x : Allocator). x.first_place) is in
    (is, omega (arith, index, from, same'))

shard_at : (plan : Plan) (p : ℕ) (a : Allocator) (j : ℕ) → role_at plan p ≡ shard_role a j → AnyOf (IsPlacedAs p a j) (allocators plan)
shard_at plan p a j e =
    let r : Role = shard_role a j in
    let any : AnyOf (Gives p r) (blocks plan) = given (blocks plan) p r e (no_shard no_role a j refl) in
    let cells : (kind : SlotKind) → Gives p r (cells_block plan kind) → ⊥ = λ kind gives. no_shard (cell_role (record { kind = kind; slot = p - of_kind kind plan.cells })) a j refl gives.1 in
    elim any [
      | inl memory ↦ absurd (cells of_slot.Memory memory)
      | inr rest ↦ elim rest [
        | inl table ↦ absurd (cells of_slot.Table table)
        | inr rest ↦ elim rest [
          | inl stack ↦ absurd (cells of_slot.Stack stack)
          | inr rest ↦ elim rest [
            | inl queue ↦ absurd (no_shard queue_role a j refl queue.1)
            | inr rest ↦ elim rest [
              | inl heaps ↦ absurd (no_shard (heaps_role plan.totals.heap) a j refl heaps.1)
              | inr shards ↦
                  any_weaker (λ b. Gives p r (shards_block b)) (IsPlacedAs p a j) (allocators plan) (placed_as p a j)
                  (any_map (Gives p r) shards_block (allocators plan) shards)
            ]
          ]
        ]
      ]
    ]

-- an allocator has the numbers of its slots, and no other one of its kind has them
has_its : (a : Allocator) (m : ℕ) → 0 < a.step → m < a.capacity → (has_number a (number_in a m) ≡ true) × ((number_in a m - a.first) / a.step ≡ m)
has_its a m apart inside' =
    let n : ℕ = number_in a m in
    let off : number_in a m - a.first ≡ m * a.step = omega arith in
    let whole : (number_in a m - a.first) % a.step ≡ 0 = ap (λ (x : ℕ). x % a.step) off ∙ mul-mod_left m a.step in
    let quotient : (number_in a m - a.first) / a.step ≡ m = ap (λ (x : ℕ). x / a.step) off ∙ mul-div_left m apart in
    let less : (number_in a m - a.first) / a.step < a.capacity = rw quotient inside' in (
      and_from (nat_le a.first n) (((n - a.first) % a.step == 0) && nat_lt ((n - a.first) / a.step) a.capacity) (le-leb a.first n (omega arith))
          (and_from ((n - a.first) % a.step == 0) (nat_lt ((n - a.first) / a.step) a.capacity) (eq-eqb ((n - a.first) % a.step) 0 whole) (lt-ltb ((n - a.first) / a.step) a.capacity less)),
      quotient,
    )

one_here : (b : Bool) → b ≡ true → ◌≡◌ {A = ℕ} (if b then 1 else 0) 1
one_here b e = rw e refl

none_here : (b : Bool) → b ≡ false → ◌≡◌ {A = ℕ} (if b then 1 else 0) 0
none_here b e = rw e refl

counted : (as' : List Allocator) (a : Allocator) (n : ℕ) → AnyOf (λ b. b ≡ a) as' → has_number a n ≡ true → 0 < have_number as' n
counted [] a n any has = absurd any
counted (b ∷ bs) a n any has =
    elim any [
      | inl is ↦
          let one = one_here (has_number b n) (ap (λ (x : Allocator). has_number x n) is ∙ has) in
          omega (arith, one)
      | inr later ↦ let rest = counted bs a n later has in omega (arith, rest)
    ]

unique : (as' : List Allocator) (a : Allocator) (n : ℕ) → AnyOf (λ b. b ≡ a) as' → has_number a n ≡ true → have_number as' n ≡ 1 → home_among as' n ≡ home_in a n
unique [] a n any has one = absurd any
unique (b ∷ bs) a n any has one =
    elim (cases_Bool (has_number b n)) [
      | inl here ↦ elim any [
        | inl is ↦ let first : home_among (b ∷ bs) n ≡ home_in b n = rw here refl in first ∙ ap (λ (x : Allocator). home_in x n) is
        | inr later ↦
            let mine = one_here (has_number b n) here in
            let rest = counted bs a n later has in
            absurd (omega (arith, one, mine, rest))
      ]
      | inr other ↦ elim any [
        | inl is ↦ absurd (true≢false (sym (ap (λ (x : Allocator). has_number x n) is ∙ has) ∙ other))
        | inr later ↦
            let mine = none_here (has_number b n) other in
            let passed : home_among (b ∷ bs) n ≡ home_among bs n = rw other refl in
            passed ∙ unique bs a n later has (omega (arith, one, mine))
      ]
    ]

-- the allocators of one kind among all
pub record IsOfKind (plan : Plan) (p : ℕ) (a : Allocator) (j : ℕ) : Type 0 where
  pub kind : SlotKind
  pub is : a.kind ≡ kind
  pub among : AnyOf (λ b. b ≡ a) (allocators_of plan kind)
  pub allocator : IsAllocator kind (of_kind kind plan.totals) a
  pub place : p ≡ a.first_place + j

of_kind_of : (plan : Plan) (places p : ℕ) (a : Allocator) (j : ℕ) (kind : SlotKind) → IsPlanned plan places → AnyOf (IsPlacedAs p a j) (allocators_of plan kind) → IsOfKind plan p a j
of_kind_of plan places p a j kind planned any =
    let total' : ℕ = of_kind kind plan.totals in
    let is : IsAllocator kind total' a =
    any_each (IsPlacedAs p a j) (IsAllocator kind total') (IsAllocator kind total' a) (allocators_of plan kind) (λ b at is. subst (IsAllocator kind total') at.0 is) any (planned.slots kind).each in
    record {
      kind = kind;
      is = is.kind_is;
      among = any_weaker (IsPlacedAs p a j) (λ b. b ≡ a) (allocators_of plan kind) (λ b at. at.0) any;
      allocator = is;
      place = any_of (IsPlacedAs p a j) (p ≡ a.first_place + j) (allocators_of plan kind) (λ b at. at.1) any;
    }

pub shard_of_kind : (plan : Plan) (places p : ℕ) (a : Allocator) (j : ℕ) → IsPlanned plan places → role_at plan p ≡ shard_role a j → IsOfKind plan p a j
shard_of_kind plan places p a j planned e =
    let P : Allocator → Type 0 = IsPlacedAs p a j in
    elim (any_split P plan.memories (plan.tables ++ (plan.stacks ++ plan.heaps)) (shard_at plan p a j e)) [
      | inl memory ↦ of_kind_of plan places p a j of_slot.Memory planned memory
      | inr rest ↦ elim (any_split P plan.tables (plan.stacks ++ plan.heaps) rest) [
        | inl table ↦ of_kind_of plan places p a j of_slot.Table planned table
        | inr rest ↦ elim (any_split P plan.stacks plan.heaps rest) [
          | inl stack ↦ of_kind_of plan places p a j of_slot.Stack planned stack
          | inr heap ↦ of_kind_of plan places p a j of_slot.Heap planned heap
        ]
      ]
    ]

-- slot k of shard j of an allocator is at home there
pub home_there : (plan : Plan) (places p : ℕ) (a : Allocator) (j k : ℕ) (name : SlotName) → IsPlanned plan places → role_at plan p ≡ shard_role a j → name.kind ≡ a.kind → k < slots_at a j → name.slot ≡ number_in a (j * a.slots_per_shard + k) → p ≡ (home_of plan name).place
home_there plan places p a j k name planned role kind inside' slot =
    let of' = shard_of_kind plan places p a j planned role in
    let m : ℕ = j * a.slots_per_shard + k in
    let local : k < a.slots_per_shard = omega (arith, inside') in
    let below : j * a.slots_per_shard + k < a.capacity = omega (arith, inside') in
    let its = has_its a m of'.allocator.apart below in
    let one : have_number (allocators_of plan of'.kind) (number_in a m) ≡ 1 = (planned.slots of'.kind).one (number_in a m) (of'.allocator.below m below) in
    let home : home_among (allocators_of plan of'.kind) (number_in a m) ≡ home_in a (number_in a m) = unique (allocators_of plan of'.kind) a (number_in a m) of'.among its.0 one in
    let shard : (number_in a m - a.first) / a.step / a.slots_per_shard ≡ j = ap (λ (x : ℕ). x / a.slots_per_shard) its.1 ∙ div-mul-add j a.slots_per_shard k local in
    let named : name ≡ record { kind = of'.kind; slot = number_in a m } = (λ i. record { kind = (kind ∙ of'.is) i; slot = slot i }) in
    let place : (home_of plan name).place ≡ a.first_place + (number_in a m - a.first) / a.step / a.slots_per_shard = ap (λ (x : SlotName). (home_of plan x).place) named ∙ ap (λ (h : Home). h.place) home in
    omega (arith, of'.place, place, shard)

-- of used slots, the rights
bare_times : (u : UnitName) (kind : SlotKind) (step n : ℕ) (used : List (Option (Option MemoryInModule))) → total (λ w. one_if (same u (bare w))) (used_units kind step n used) ≡ times u (used_units kind step n used)
bare_times u kind step n [] = refl
bare_times u kind step n (None ∷ used) = bare_times u kind step (n + step) used
bare_times u kind step n (Some want ∷ used) = ap (λ (k : ℕ). one_if (same u (pick_unit kind n)) + k) (bare_times u kind step (n + step) used)

one_none : (b : Bool) → (b ≡ true → ⊥) → one_if b ≡ 0
one_none true no' = absurd (no' refl)
one_none false no' = refl

one_some : (b : Bool) → 0 < one_if b → b ≡ true
one_some true h = refl
one_some false h = absurd (omega arith)

at_most_one : (b : Bool) → one_if b ≤ 1
at_most_one true = omega arith
at_most_one false = omega arith

-- a region's unit is no right, and a right is no region's
not_same : (u w : UnitName) → u.region ≡ true → w.region ≡ false → one_if (same u w) ≡ 0
not_same u w is' other = one_none (same u w) (λ e. true≢false (sym is' ∙ ap (λ (x : UnitName). x.region) (same_is u w e) ∙ other))

other_same : (u w : UnitName) → u.region ≡ false → w.region ≡ true → one_if (same u w) ≡ 0
other_same u w no' other = one_none (same u w) (λ e. true≢false (sym other ∙ ap (λ (x : UnitName). x.region) (sym (same_is u w e)) ∙ no'))

no_region : (name : SlotName) (kind : SlotKind) (step n : ℕ) (used : List (Option (Option MemoryInModule))) → total (is_region name) (used_units kind step n used) ≡ 0
no_region name kind step n [] = refl
no_region name kind step n (None ∷ used) = no_region name kind step (n + step) used
no_region name kind step n (Some want ∷ used) =
    let here = not_same (region_of name (record { faults = 0; erases = 0 })) (pick_unit kind n) refl refl in
    let rest = no_region name kind step (n + step) used in
    omega (arith, here, rest)

no_right : (name own : SlotName) (out : RegionNumbers) (held : Cell) → total (is_right name) (away_by own out held) ≡ 0
no_right name own out (unmapped region) = refl
no_right name own out (unknown slot) = refl
no_right name own out (previously_used slot) = refl
no_right name own out taken = let none = other_same (right_to name) (bare (region_of own out)) refl refl in omega (arith, none)

-- a region that is out is that of the cell's slot
region_named : (name own : SlotName) (out : RegionNumbers) (held : Cell) → 0 < total (is_region name) (away_by own out held) → own ≡ name
region_named name own out (unmapped region) some' = absurd (omega arith)
region_named name own out (unknown slot) some' = absurd (omega arith)
region_named name own out (previously_used slot) some' = absurd (omega arith)
region_named name own out taken some' =
    let u : UnitName = region_of name (record { faults = 0; erases = 0 }) in
    let w : UnitName = bare (region_of own out) in
    let is : u ≡ w = same_is u w (one_some (same u w) (omega (arith, some'))) in
    (λ i. record { kind = (sym is i).kind; slot = (sym is i).slot })

region_once : (name own : SlotName) (out : RegionNumbers) (held : Cell) → total (is_region name) (away_by own out held) ≤ 1
region_once name own out (unmapped region) = omega arith
region_once name own out (unknown slot) = omega arith
region_once name own out (previously_used slot) = omega arith
region_once name own out taken = let one = at_most_one (same (region_of name (record { faults = 0; erases = 0 })) (bare (region_of own out))) in omega (arith, one)

-- the part that has a slot's region out is the slot's cell
cell_there : (plan : Plan) (p : ℕ) (r : Role) (cell : CellState) (own name : SlotName) → role_at plan p ≡ cell_role own → cell.name ≡ own → 0 < total (is_region name) (cell_away cell) → p ≡ cell_place plan name
cell_there plan p r cell own name role named some' =
    let is : cell.name ≡ name = region_named name cell.name cell.out cell.holds some' in
    cell_at plan p name (role ∙ ap cell_role (sym named ∙ is))

abbrev is_heap : SlotKind → Bool
is_heap of_slot.Memory = false
is_heap of_slot.Table = false
is_heap of_slot.Stack = false
is_heap of_slot.Heap = true

cell_region : (plan : Plan) (p : ℕ) (r : Role) (kind : SlotKind) (cell : CellState) (own name : SlotName) → ((list cell : ℕ) → heap_or kind list cell ≡ cell) → role_at plan p ≡ cell_role own → own.kind ≡ kind → cell.name ≡ own → 0 < total (is_region name) (cell_away cell) → p ≡ region_place plan name
cell_region plan p r kind cell own name other role of' named some' =
    let is : cell.name ≡ name = region_named name cell.name cell.out cell.holds some' in
    let kind' : name.kind ≡ kind = ap (λ (n : SlotName). n.kind) (sym is ∙ named) ∙ of' in
    cell_there plan p r cell own name role named some' ∙ sym (ap (λ (k : SlotKind). heap_or k plan.heap_list (cell_place plan name)) kind' ∙ other plan.heap_list (cell_place plan name))

-- the place of the list of heaps
abbrev is_list : Role → Bool
is_list (shard_role a j) = false
is_list (cell_role name) = false
is_list queue_role = false
is_list (heaps_role n) = true
is_list no_role = false

no_list : (r : Role) (n : ℕ) → is_list r ≡ false → r ≡ heaps_role n → ⊥
no_list r n other e = true≢false (sym (ap is_list e) ∙ other)

pub list_at : (plan : Plan) (p n : ℕ) → role_at plan p ≡ heaps_role n → p ≡ plan.heap_list
list_at plan p n e =
    let any : AnyOf (Gives p (heaps_role n)) (blocks plan) = given (blocks plan) p (heaps_role n) e (no_list no_role n refl) in
    let cells : (kind : SlotKind) → Gives p (heaps_role n) (cells_block plan kind) → ⊥ = λ kind gives. no_list (cell_role (record { kind = kind; slot = p - of_kind kind plan.cells })) n refl gives.1 in
    elim any [
      | inl memory ↦ absurd (cells of_slot.Memory memory)
      | inr rest ↦ elim rest [
        | inl table ↦ absurd (cells of_slot.Table table)
        | inr rest ↦ elim rest [
          | inl stack ↦ absurd (cells of_slot.Stack stack)
          | inr rest ↦ elim rest [
            | inl queue ↦ absurd (no_list queue_role n refl queue.1)
            | inr rest ↦ elim rest [
              | inl heaps ↦ one_place plan p heaps.0
              | inr shards ↦
                  any_of (λ a. Gives p (heaps_role n) (shards_block a)) (p ≡ plan.heap_list) (allocators plan)
                  (λ a gives. absurd (no_list (shard_role a (p - a.first_place)) n refl gives.1))
                  (any_map (Gives p (heaps_role n)) shards_block (allocators plan) shards)
            ]
          ]
        ]
      ]
    ]
  where
    one_place : (plan : Plan) (p : ℕ) → (nat_le plan.heap_list p && nat_lt p (plan.heap_list + min 1 plan.totals.heap)) ≡ true → p ≡ plan.heap_list
    one_place plan p is =
        let parts = and_parts (nat_le plan.heap_list p) (nat_lt p (plan.heap_list + min 1 plan.totals.heap)) is in
        let from = leb-true plan.heap_list p parts.0 in
        let to = ltb-true p (plan.heap_list + min 1 plan.totals.heap) parts.1 in
        omega (arith, from, to)

-- the part that has given out the right to a slot is the shard at its home
shard_there : (plan : Plan) (places p : ℕ) (a : Allocator) (j : ℕ) (s : ShardState) (name : SlotName) → IsPlanned plan places → role_at plan p ≡ shard_role a j → IsShardOf a j s → 0 < total (is_right name) (shard_units s) → p ≡ (home_of plan name).place
shard_there plan places p a j s name planned role of' some' =
    let bare' = bare_times (right_to name) s.kind s.step s.first s.used in
    let out' = is_out s.kind s.step (right_to name) s.first s.used (omega (arith, some', bare')) in
    let kind : name.kind ≡ a.kind = ap (λ (u : UnitName). u.kind) out'.is ∙ of'.kind in
    let number : name.slot ≡ s.first + out'.slot * s.step = ap (λ (u : UnitName). u.slot) out'.is in
    let within : out'.slot < slots_at a j = let i = out'.inside in let n = of'.sound.entries in let c = of'.capacity in omega (arith, i, n, c) in
    let first : s.first ≡ number_at a j 0 = of'.first in
    let stepped' : out'.slot * s.step ≡ out'.slot * a.step = ap (λ (n : ℕ). out'.slot * n) of'.step in
    let slot : name.slot ≡ number_in a (j * a.slots_per_shard + out'.slot) = (λ i. (number ∙ (λ k. first k + stepped' k)) i) ∙ spread a.first (j * a.slots_per_shard) out'.slot a.step in
    home_there plan places p a j out'.slot name planned role kind within slot
  where
    spread : (f m k t : ℕ) → (f + (m + 0) * t) + k * t ≡ f + (m + k) * t
    spread f m k t = omega arith

other_kind : (name : SlotName) (kind : SlotKind) → name.kind ≡ kind → is_heap kind ≡ false → name.kind ≢ of_slot.Heap
other_kind name kind is other e = true≢false (sym (ap is_heap (sym is ∙ e)) ∙ other)

module _ {H : Type 0} where
  heap_there : (plan : Plan) (p n : ℕ) (heaps : List (HeapEntry H)) (name : SlotName) (kind : SlotKind) → role_at plan p ≡ heaps_role n → name.kind ≡ kind → 0 < total (is_region name) (heaps_away heaps) → p ≡ region_place plan name
  heap_there plan p n heaps name of_slot.Heap role is some' = list_at plan p n role ∙ sym (ap (λ (k : SlotKind). heap_or k plan.heap_list (cell_place plan name)) is)
  heap_there plan p n heaps name of_slot.Memory role is some' = let none = (units_of_out_slots heaps).no_others name (other_kind name of_slot.Memory is refl) in absurd (omega (arith, some', none))
  heap_there plan p n heaps name of_slot.Table role is some' = let none = (units_of_out_slots heaps).no_others name (other_kind name of_slot.Table is refl) in absurd (omega (arith, some', none))
  heap_there plan p n heaps name of_slot.Stack role is some' = let none = (units_of_out_slots heaps).no_others name (other_kind name of_slot.Stack is refl) in absurd (omega (arith, some', none))

  heap_once : (heaps : List (HeapEntry H)) (name : SlotName) (kind : SlotKind) → name.kind ≡ kind → total (is_region name) (heaps_away heaps) ≤ 1
  heap_once heaps name of_slot.Heap is =
      let one = (units_of_out_slots heaps).once name.slot in
      let few = at_most_one (is_out_entry (heap_entry name.slot heaps)) in
      let same' : total (is_region name) (heaps_away heaps) ≡ total (is_region (heap_slot name.slot)) (heaps_away heaps) = ap (λ (k : SlotKind). total (is_region (record { kind = k; slot = name.slot })) (heaps_away heaps)) is in
      omega (arith, one, few, same')
  heap_once heaps name of_slot.Memory is = let none = (units_of_out_slots heaps).no_others name (other_kind name of_slot.Memory is refl) in omega (arith, none)
  heap_once heaps name of_slot.Table is = let none = (units_of_out_slots heaps).no_others name (other_kind name of_slot.Table is refl) in omega (arith, none)
  heap_once heaps name of_slot.Stack is = let none = (units_of_out_slots heaps).no_others name (other_kind name of_slot.Stack is refl) in omega (arith, none)

module _ {P H : Type 0} where
  pub region_there : (plan : Plan) (p : ℕ) (r : Role) (x : PoolPart P H) (name : SlotName) → role_at plan p ≡ r → StandsAs r x → 0 < total (is_region name) (part_away x) → p ≡ region_place plan name
  region_there plan p r (part.Shard s) name role st some' = let none = no_region name s.kind s.step s.first s.used in absurd (omega (arith, some', none))
  region_there plan p r (part.Queue q) name role st some' = absurd (omega (arith, some'))
  region_there plan p (cell_role own) (part.Memory cell) name role st some' = cell_region plan p (cell_role own) of_slot.Memory cell own name (λ list cell. refl) role st.0 st.1 some'
  region_there plan p (cell_role own) (part.Table cell) name role st some' = cell_region plan p (cell_role own) of_slot.Table cell own name (λ list cell. refl) role st.0 st.1 some'
  region_there plan p (cell_role own) (part.Stack cell) name role st some' = cell_region plan p (cell_role own) of_slot.Stack cell own name (λ list cell. refl) role st.0 st.1 some'
  region_there plan p (shard_role a j) (part.Memory cell) name role st some' = absurd st
  region_there plan p (shard_role a j) (part.Table cell) name role st some' = absurd st
  region_there plan p (shard_role a j) (part.Stack cell) name role st some' = absurd st
  region_there plan p queue_role (part.Memory cell) name role st some' = absurd st
  region_there plan p queue_role (part.Table cell) name role st some' = absurd st
  region_there plan p queue_role (part.Stack cell) name role st some' = absurd st
  region_there plan p (heaps_role n) (part.Memory cell) name role st some' = absurd st
  region_there plan p (heaps_role n) (part.Table cell) name role st some' = absurd st
  region_there plan p (heaps_role n) (part.Stack cell) name role st some' = absurd st
  region_there plan p no_role (part.Memory cell) name role st some' = absurd st
  region_there plan p no_role (part.Table cell) name role st some' = absurd st
  region_there plan p no_role (part.Stack cell) name role st some' = absurd st
  region_there plan p (heaps_role n) (part.Heaps heaps) name role st some' = heap_there plan p n heaps name name.kind role refl some'
  region_there plan p (shard_role a j) (part.Heaps heaps) name role st some' = absurd st
  region_there plan p (cell_role own) (part.Heaps heaps) name role st some' = absurd st
  region_there plan p queue_role (part.Heaps heaps) name role st some' = absurd st
  region_there plan p no_role (part.Heaps heaps) name role st some' = absurd st

  pub part_region_once : (x : PoolPart P H) (name : SlotName) → total (is_region name) (part_away x) ≤ 1
  part_region_once (part.Shard s) name = let none = no_region name s.kind s.step s.first s.used in omega (arith, none)
  part_region_once (part.Memory cell) name = region_once name cell.name cell.out cell.holds
  part_region_once (part.Table cell) name = region_once name cell.name cell.out cell.holds
  part_region_once (part.Stack cell) name = region_once name cell.name cell.out cell.holds
  part_region_once (part.Queue q) name = omega arith
  part_region_once (part.Heaps heaps) name = heap_once heaps name name.kind refl

  pub right_there : (plan : Plan) (places p : ℕ) (r : Role) (x : PoolPart P H) (name : SlotName) → IsPlanned plan places → role_at plan p ≡ r → StandsAs r x → 0 < total (is_right name) (part_away x) → p ≡ (home_of plan name).place
  right_there plan places p (shard_role a j) (part.Shard s) name planned role st some' = shard_there plan places p a j s name planned role st some'
  right_there plan places p (cell_role own) (part.Shard s) name planned role st some' = absurd st
  right_there plan places p queue_role (part.Shard s) name planned role st some' = absurd st
  right_there plan places p (heaps_role n) (part.Shard s) name planned role st some' = absurd st
  right_there plan places p no_role (part.Shard s) name planned role st some' = absurd st
  right_there plan places p r (part.Memory cell) name planned role st some' = let none = no_right name cell.name cell.out cell.holds in absurd (omega (arith, some', none))
  right_there plan places p r (part.Table cell) name planned role st some' = let none = no_right name cell.name cell.out cell.holds in absurd (omega (arith, some', none))
  right_there plan places p r (part.Stack cell) name planned role st some' = let none = no_right name cell.name cell.out cell.holds in absurd (omega (arith, some', none))
  right_there plan places p r (part.Queue q) name planned role st some' = absurd (omega (arith, some'))
  right_there plan places p r (part.Heaps heaps) name planned role st some' = let none = (units_of_out_slots heaps).no_rights name in absurd (omega (arith, some', none))

  pub part_right_once : (r : Role) (x : PoolPart P H) (name : SlotName) → StandsAs r x → total (is_right name) (part_away x) ≤ 1
  part_right_once (shard_role a j) (part.Shard s) name st =
      let bare' = bare_times (right_to name) s.kind s.step s.first s.used in
      let once = out_once s.kind s.step (right_to name) st.sound.numbers.apart s.first s.used in
      omega (arith, bare', once)
  part_right_once (cell_role own) (part.Shard s) name st = absurd st
  part_right_once queue_role (part.Shard s) name st = absurd st
  part_right_once (heaps_role n) (part.Shard s) name st = absurd st
  part_right_once no_role (part.Shard s) name st = absurd st
  part_right_once r (part.Memory cell) name st = let none = no_right name cell.name cell.out cell.holds in omega (arith, none)
  part_right_once r (part.Table cell) name st = let none = no_right name cell.name cell.out cell.holds in omega (arith, none)
  part_right_once r (part.Stack cell) name st = let none = no_right name cell.name cell.out cell.holds in omega (arith, none)
  part_right_once r (part.Queue q) name st = omega arith
  part_right_once r (part.Heaps heaps) name st = let none = (units_of_out_slots heaps).no_rights name in omega (arith, none)

  stands_at : (plan : Plan) (parts : List (PoolPart P H)) (i : ℕ) (x : PoolPart P H) → StandAsPlanned plan parts → get_elem? parts i ≡ some x → StandsAs (role_at plan i) x
  stands_at plan parts i x stand e =
      let S : PoolPart P H → Type 0 = λ y. StandsAs (role_at plan i) y in
      let at : part_at i parts ≡ x = read_at parts i _ x e in
      subst S at (stand.stand i (inside parts i x e))

pub away_once : (P H : Type 0) → AwayOnce P H
away_once P H plan parts name stand =
    let rights = away_parts (is_right name) parts in
    let regions = away_parts (is_region name) parts in
    let right' : total (λ x. total (is_right name) (part_away x)) parts ≤ 1 =
    total_once (λ x. total (is_right name) (part_away x)) parts (home_of plan name).place
    (λ i x e some'. right_there plan (length parts) i (role_at plan i) x name stand.planned refl (stands_at plan parts i x stand e) some')
    (λ i x e. part_right_once (role_at plan i) x name (stands_at plan parts i x stand e)) in
    let region' : total (λ x. total (is_region name) (part_away x)) parts ≤ 1 =
    total_once (λ x. total (is_region name) (part_away x)) parts (region_place plan name)
    (λ i x e some'. region_there plan i (role_at plan i) x name refl (stands_at plan parts i x stand e) some')
    (λ i x e. part_region_once x name) in
    (omega (arith, rights, right'), omega (arith, regions, region'))

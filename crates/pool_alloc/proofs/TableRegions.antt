-- Regions of tables: as they are made, with a table in them, and back again.
use Rattle.std.proofs.Common.{◌≡◌, ℕ, ◌+◌, ◌-◌, ◌*◌, ◌/◌, ◌%◌, ◌^◌, ◌<◌, ◌≤◌, Bool, true, false, List, length, get_or, replicate, slice_range, refl, sym, ap, ◌∙◌, subst, arith, min, Option, Some, None, IfSome, if◌then◌else◌, Result, Ok, Err, IfOk, slice_get, nat_lt, option_map}
use Rattle.pool_alloc.proofs.Imports.{refused_limits, mul-le-mul_right, div-mul-le_self, ltb-false, get_or-replicate, told_weaker, rounded_same, range_within, same_at, IsPageSize, count, rounded_up, Contents, IsShaped, MakerTold, fresh, Told, TellsShaped, TableType, Slot, SlotIdentity, IsSlot, IsClean, IsFresh, Holds, HasColour, identity, size_of, fresh_keeps, fresh_clean, IsGood, good, followed, IsPlain, IsUnusedFrom, Queued, plain_slot, CanBeZeroed, Plan, RegionNumbers, width, element_size, empty, kind_of, room_of, IsRoom, type_maximum, greatest_of, greatest_index, TableView, fresh_room, made_inside, empty_by, made_is_table, zeros_from, above, IndexType, I32, I64, TableElementType, Func, GcRef, Cont, Unsupported, TableSize, data_size, LimiterError}
use Rattle.pool_slots.proofs.Layouts.{rounded_within}
use Rattle.pool_slots.specs.declared.errors.AllocError.TheVariants as alloc
use Rattle.pool_alloc.specs.declared.frame.TakenSlot.{TakenSlot}
use Rattle.pool_alloc.specs.PoolTables.{table_region, IsPoolTable, IsTableRegion, IsTableLease, IsBegunTable}
use Rattle.pool_alloc.specs.BetweenSteps.{IsSettings}
use Rattle.pool_alloc.specs.TableLeases.{LeasedTable, LiesInRegion}
use Rattle.pool_alloc.specs.TableSteps.{IsNewLease, bytes_used, table_bytes, table_in, table_refused, made_unless, made_table, table_made}
use Rattle.pool_alloc.specs.declared.pool_core.Settings.{Settings}
use Rattle.pool_alloc.proofs.ToldElements.{replicated}

-- what a region tells as it is made
made_room : (page len : ℕ) (tells : Bool) → 0 < page → len % page ≡ 0 → IfSome (if tells then Some (fresh page len len) else None) (λ c. IsRoom page len 0 len c × HasColour 0 (rounded_up page (len - 0)) None c)
made_room page len true some pages = (fresh_room page len len len some pages pages (omega arith) (omega arith), λ k inside. replicated (len / page) k 0)
made_room page len false some pages = tt

-- A region as it was made holds zeros.
pub table_region_made : (maker : MakerTold) (s : Settings) (i : ℕ) → s.page ≡ maker.page → IsSettings s → IsTableRegion maker s i (table_region maker s i)
table_region_made maker s i paged sound =
    let page : ℕ = maker.page in
    let len : ℕ = s.table_slot in
    let t : Told = table_region maker s i in
    let z : Slot = plain_slot 0 t in
    let sized : IsPageSize page = subst IsPageSize paged sound.page in
    let pages : len % page ≡ 0 = rw (← paged) sound.table_whole in
    let all : len - 0 ≡ len = omega arith in
    let up : rounded_up page (len - 0) ≡ len - 0 = ap (rounded_up page) all ∙ rounded_same page len (omega (arith, sized.at_least)) pages ∙ sym all in
    let T : Contents → Type 0 = λ c. IsRoom page len 0 len c × HasColour 0 (rounded_up page (len - 0)) None c in
    let told : IfSome t.contents T = made_room page len maker.tells (omega (arith, sized.at_least)) pages in
    let shaped : TellsShaped t = told_weaker T (IsShaped page len) t.contents (λ c h. h.0.shaped) told in
    let is : IsFresh (count page 0) (count page (len - 0)) (len - 0) None t = record {
      base_page = refl;
      accessible_page = refl;
      inside = omega (arith, up);
      bounded = omega (arith, sized.at_most, sound.table_few);
      within = omega (arith, up);
      origin = told_weaker T (λ c. c.origin ≡ replicate len 0) t.contents (λ c h. h.0.origin) told;
      zeros = told_weaker T (λ c. slice_range c.bytes 0 (0 + rounded_up page (len - 0)) ≡ replicate (rounded_up page (len - 0)) 0) t.contents
          (λ c h.
          let Z : ℕ → Type 0 = λ n. slice_range c.bytes 0 (0 + n) ≡ replicate n 0 in
          let zero : Z len = ap (slice_range c.bytes 0) {x = 0 + len} {y = len} (omega arith) ∙ h.0.zeros ∙ ap (λ (n : ℕ). replicate {A = ℕ} n 0) all in
          subst Z (sym (up ∙ all)) zero) told;
      reach = told_weaker T _ t.contents (λ c h k from below. h.0.reach k from (omega (arith, below))) told;
      has_colour = told_weaker T _ t.contents (λ c h. h.1) told;
    } in
    let fits : IsSlot z = (fresh_keeps t (count page 0) (count page (len - 0)) (len - 0) None is sized (omega arith) (ap (λ (n : ℕ). n % page) all ∙ pages) (omega (arith, sound.table_few)) shaped).fits in
    let clean : IsClean z = fresh_clean t (count page 0) (count page (len - 0)) (len - 0) None is shaped in
    record {
      slot = record { same = ap (λ (n : ℕ). record (identity z) { static_size = n }) all };
      plain = record { fits = fits; whole = up; all = refl; image = refl; not_dirty = refl; ready = clean.ready };
      clean = clean;
    }

-- what the identity of a table's slot says of its region
module _ (maker : MakerTold) (s : Settings) (i : ℕ) (region : Told) (of : IsPoolTable maker s i (plain_slot 0 region)) where
  pub its_page : region.page ≡ maker.page
  its_page = ap (λ (x : SlotIdentity). x.page) of.same

  pub its_len : region.len ≡ s.table_slot
  its_len = ap (λ (x : SlotIdentity). x.len) of.same

-- A table can lie in it.
room_in : (s : Slot) (page n : ℕ) (c : Contents) → s.base.bytes ≡ 0 → n ≤ s.region.len → n ≤ s.accessible.bytes → n ≤ size_of s → s.image ≡ None → IsGood s c → IsRoom s.region.page s.region.len 0 n c
room_in s page n c base fits reached within none g =
    let bytes : length c.bytes ≡ s.region.len = g.sound.shaped.bytes in
    let origin : length c.origin ≡ s.region.len = g.sound.shaped.origin in
    let Z : _ → Type 0 = λ o. c.origin ≡ Rattle.pool_images.specs.Slots.placed s.base.bytes (Rattle.pool_images.specs.Slots.restored_image o s.region.behaviour) c.origin in
    let zeros : c.origin ≡ replicate s.region.len 0 = subst Z none g.ready.origin ∙ ap (λ (m : ℕ). replicate {A = ℕ} m 0) origin in
    record {
      shaped = g.sound.shaped;
      reach = λ k from below. g.ready.reach k (rw base from) (omega (arith, below, base, reached));
      origin = zeros;
      zeros = zeros_from c.bytes 0 n (omega (arith, bytes, fits)) (λ j d from below.
          same_at c.bytes c.origin (s.base.bytes + 0) (s.base.bytes + size_of s) j d g.holds (omega (arith, base, from)) (omega (arith, base, below, within))
          ∙ ap (λ (l : List ℕ). get_or l j d) zeros ∙ get_or-replicate s.region.len j 0 d (omega (arith, below, fits)));
    }

pub table_room : (maker : MakerTold) (s : Settings) (i n : ℕ) (region : Told) → IsTableRegion maker s i region → n ≤ region.len → IfSome region.contents (IsRoom region.page region.len 0 n)
table_room maker s i n region of fits =
    let z : Slot = plain_slot 0 region in
    let all : region.len - 0 ≡ region.len = omega arith in
    followed (IsGood z) (IsRoom region.page region.len 0 n) region.contents (λ c g. room_in z region.page n c refl fits (omega (arith, all, fits)) (omega (arith, of.plain.whole, all, fits)) refl g) (good z of.plain.fits of.clean)

-- The table that is made there lies in the region, and uses no more of it than its elements do.
unused_from : (n : ℕ) (region : Told) → IsPlain (plain_slot 0 region) → n ≤ region.len → IsClean (plain_slot 0 region) → IsUnusedFrom n (plain_slot 0 region)
unused_from n region plain fits clean =
    let z : Slot = plain_slot 0 region in
    let all : region.len - 0 ≡ region.len = omega arith in
    followed (IsGood z) (Holds z n (size_of z)) region.contents
    (λ c g. range_within c.bytes c.origin (z.base.bytes + 0) (z.base.bytes + size_of z) (z.base.bytes + n) (z.base.bytes + size_of z) (omega (arith, g.sound.shaped.bytes, plain.fits.sizes.inside)) (omega (arith, g.sound.shaped.origin, plain.fits.sizes.inside)) (omega arith) (omega arith) g.holds)
    (good z plain.fits clean)

pub lease_made : (maker : MakerTold) (s : Settings) (plan : Plan) (ty : TableType) (lazy : Bool) (bytes i : ℕ) (numbers : RegionNumbers) (region : Told) (l : LeasedTable) → s.page ≡ maker.page → IsSettings s → i < plan.totals.table → IsTableRegion maker s i region → bytes ≤ s.table_slot → ty.limits.min ≤ room_of ty bytes → ty.limits.min ≤ type_maximum ty → IsNewLease ty lazy bytes i numbers region l → IsTableLease maker s plan l
lease_made maker s plan ty lazy bytes i numbers region l paged sound inside of fits first second new =
    let kind = kind_of ty.element lazy in
    let most : ℕ = min (room_of ty bytes) (type_maximum ty) in
    let page : region.page ≡ s.page = its_page maker s i region of.slot ∙ sym paged in
    let long : region.len ≡ s.table_slot = its_len maker s i region of.slot in
    let size : l.table.size ≡ ty.limits.min = ap (λ (t : TableView). t.size) new.table in
    let wide : width l.table.kind ≡ width kind = ap (λ (t : TableView). width t.kind) new.table in
    let used : l.table.size * width l.table.kind ≡ ty.limits.min * width kind = ap (λ (n : ℕ). n * width l.table.kind) size ∙ ap (λ (w : ℕ). ty.limits.min * w) wide in
    let few : ty.limits.min ≤ most = omega (arith, first, second) in
    let held : ty.limits.min * width kind ≤ region.len = omega (arith, mul-le-mul_right (width kind) few, made_inside ty lazy bytes, fits, long) in
    let pages : region.len % s.page ≡ 0 = rw long sound.table_whole in
    let within : bytes_used s.page l ≤ region.len = rounded_within s.page (l.table.size * width l.table.kind) region.len (omega (arith, sound.page.at_least)) pages (omega (arith, used, held)) in
    let I : ℕ → Type 0 = λ n. n < plan.totals.table in
    let R : ℕ → Type 0 = λ n. IsPoolTable maker s n (plain_slot 0 region) in
    let room = table_room maker s i bytes region of (omega (arith, fits, long)) in
    let table = made_is_table ty lazy bytes region first second (omega (arith, fits, long)) (omega (arith, of.plain.fits.sizes.page_size.at_least)) of.plain.fits.sizes.bounded room in
    let L : TableView → Type 0 = LiesInRegion in
    record {
      inside = subst I (sym new.slot_is) inside;
      region = region;
      slot = subst R (sym new.slot_is) of.slot;
      lies = record {
        is = ap (λ (t : TableView). t.region) new.table;
        same_page = page;
        plain = of.plain;
        few = omega (arith, long, sound.table_few);
        within = within;
        unused = unused_from (bytes_used s.page l) region of.plain within of.clean;
      };
      there = subst L (sym new.table) (record { region = region; is = refl; holds = table; lies = refl });
    }

-- A region comes back clean.
pub region_back : (maker : MakerTold) (s : Settings) (i : ℕ) (slot : Slot) → s.page ≡ maker.page → IsSettings s → IsPoolTable maker s i slot → slot ≡ plain_slot 0 slot.region → IsSlot slot → IsClean slot → IsTableRegion maker s i slot.region
region_back maker s i slot paged sound of is fits clean =
    let r : Told = slot.region in
    let z : Slot = plain_slot 0 r in
    let P : Slot → Type 0 = IsPoolTable maker s i in
    let there : IsPoolTable maker s i z = subst P is of in
    let whole_slot : IsSlot z = subst IsSlot is fits in
    let cleaned : IsClean z = subst IsClean is clean in
    let some : 0 < r.page = omega (arith, whole_slot.sizes.page_size.at_least) in
    let pages : r.len % r.page ≡ 0 = rw (its_len maker s i r there, its_page maker s i r there ∙ sym paged) sound.table_whole in
    let all : r.len - 0 ≡ r.len = omega arith in
    record {
      slot = there;
      plain = record {
        fits = whole_slot;
        whole = ap (rounded_up r.page) all ∙ rounded_same r.page r.len some pages ∙ sym all;
        all = refl;
        image = refl;
        not_dirty = refl;
        ready = cleaned.ready;
      };
      clean = cleaned;
    }

-- What is made is a table as it begins, in the region of its slot.
pub record IsMadeTable (s : Settings) (at : TakenSlot) (region : Told) (l : LeasedTable) (ty : TableType) : Type 0 where
  pub is : l ≡ table_in s ty at region
  pub fits : ty.limits.min ≤ room_of ty (table_bytes s ty)

made_unless_refused : (answer : Result Bool LimiterError) (s : Settings) (at : TakenSlot) (region : Told) (ty : TableType) → IfOk (made_unless (table_refused answer ty.limits.min (room_of ty (table_bytes s ty))) (table_in s ty at region)) (λ l. IsMadeTable s at region l ty)
made_unless_refused (Err e) s at region ty = tt
made_unless_refused (Ok false) s at region ty = tt
made_unless_refused (Ok true) s at region ty = made_within _ refl
  where
    made_within : (b : Bool) → nat_lt (room_of ty (table_bytes s ty)) ty.limits.min ≡ b → IfOk (made_unless (if b then Some (alloc.Unsupported (TableSize ty.limits.min (room_of ty (table_bytes s ty)))) else None) (table_in s ty at region)) (λ l. IsMadeTable s at region l ty)
    made_within true e = tt
    made_within false e = record { is = refl; fits = ltb-false _ _ e }

made_wanted : (o : Option TableType) (answer : Result Bool LimiterError) (s : Settings) (at : TakenSlot) (region : Told) → IfOk (made_table s answer at region o) (λ l. IfSome o (IsMadeTable s at region l))
made_wanted None answer s at region = tt
made_wanted (Some ty) answer s at region = made_unless_refused answer s at region ty

pub table_made_is : (s : Settings) (tables : List TableType) (k : ℕ) (answer : Result Bool LimiterError) (at : TakenSlot) (region : Told) → IfOk (table_made s tables k answer at region) (λ l. IfSome (slice_get tables k) (IsMadeTable s at region l))
table_made_is s tables k answer at region = made_wanted (slice_get tables k) answer s at region

-- A table has no more bytes than its slot, and no more elements than its type allows.
bytes_of : (elements size : ℕ) (element : TableElementType) → data_size elements size element ≤ size
bytes_of elements size Func = omega (arith, div-mul-le_self size 8)
bytes_of elements size GcRef = omega (arith, div-mul-le_self size 4)
bytes_of elements size Cont = omega (arith, div-mul-le_self size 16)

pub bytes_within : (s : Settings) (ty : TableType) → table_bytes s ty ≤ s.table_slot
bytes_within s ty = bytes_of s.table_elements s.table_slot ty.element

room_small : (bytes : ℕ) (element : TableElementType) → bytes ≤ 2 ^ 32 → bytes / element_size element < 2 ^ 32
room_small bytes Func small = omega (arith, div-mul-le_self bytes 8)
room_small bytes GcRef small = omega (arith, div-mul-le_self bytes 4)
room_small bytes Cont small = omega (arith, div-mul-le_self bytes 16)

greatest_small : (ty : IndexType) (n : ℕ) → n < 2 ^ 32 → n ≤ greatest_index ty
greatest_small I32 n small = omega arith
greatest_small I64 n small = omega arith

not_above : (b : Bool) (x : Unsupported) → (if b then Some x else None) ≡ None → b ≡ false
not_above true x e = absurd cc
not_above false x e = refl

type_allows : (o : Option ℕ) (ty : IndexType) (n : ℕ) → above n o ≡ None → n < 2 ^ 32 → n ≤ greatest_of o (greatest_index ty)
type_allows None ty n e small = greatest_small ty n small
type_allows (Some most) ty n e small = ltb-false most n (not_above (nat_lt most n) _ e)

pub type_enough : (s : Settings) (ty : TableType) → IsSettings s → refused_limits ty.limits ≡ None → ty.limits.min ≤ room_of ty (table_bytes s ty) → ty.limits.min ≤ type_maximum ty
type_enough s ty sound supports fits = type_allows ty.limits.max ty.idx_type ty.limits.min supports (omega (arith, fits, room_small (table_bytes s ty) ty.element (omega (arith, bytes_within s ty, sound.table_few))))

-- So it is a lease of the pool, and begins as asked.
pub begun_table : (maker : MakerTold) (s : Settings) (plan : Plan) (at : TakenSlot) (region : Told) (l : LeasedTable) (ty : TableType) → s.page ≡ maker.page → IsSettings s → at.name.slot < plan.totals.table → IsTableRegion maker s at.name.slot region → refused_limits ty.limits ≡ None → IsMadeTable s at region l ty → IsTableLease maker s plan l × IsBegunTable s l ty
begun_table maker s plan at region l ty paged sound inside of supports made =
    let lazy : Bool = s.tunables.tunables.table_lazy_init in
    let kind = kind_of ty.element lazy in
    let bytes : ℕ = table_bytes s ty in
    let t : LeasedTable = table_in s ty at region in
    let long : region.len ≡ s.table_slot = its_len maker s at.name.slot region of.slot in
    let within : bytes ≤ region.len = omega (arith, bytes_within s ty, long) in
    let allowed = type_enough s ty sound supports made.fits in
    let few : ty.limits.min ≤ min (room_of ty bytes) (type_maximum ty) = omega (arith, made.fits, allowed) in
    let held : ty.limits.min * width kind ≤ bytes = omega (arith, mul-le-mul_right (width kind) few, made_inside ty lazy bytes) in
    let room : IfSome region.contents (IsRoom region.page region.len 0 bytes) = table_room maker s at.name.slot bytes region of within in
    let elements : t.table.elements ≡ option_map (λ c. replicate ty.limits.min (empty kind)) region.contents = empty_by kind ty.limits.min region.page region.len bytes region.contents held within room in
    let new : IsNewLease ty lazy bytes at.name.slot at.numbers region t = record { slot_is = refl; numbers_are = refl; table = refl; elements = elements } in
    let Q : LeasedTable → Type 0 = λ x. IsTableLease maker s plan x × IsBegunTable s x ty in
    subst Q (sym made.is) (lease_made maker s plan ty lazy bytes at.name.slot at.numbers region t paged sound inside of (bytes_within s ty) made.fits allowed new, record { region = region; table = refl; elements = elements })

-- A table's slot that is settled, and known, has its region clean.
pub table_back : (maker : MakerTold) (s : Settings) (i n : ℕ) (m : Queued) → s.page ≡ maker.page → IsSettings s → IsPoolTable maker s i m.slot → CanBeZeroed n m.slot → IsClean m.slot → IsTableRegion maker s i m.slot.region
table_back maker s i n m paged sound of z clean =
    let slot : Slot = m.slot in
    let r : Told = slot.region in
    let page : ℕ = r.page in
    let paged_as : r.page ≡ maker.page = ap (λ (x : SlotIdentity). x.page) of.same in
    let long : r.len ≡ s.table_slot = ap (λ (x : SlotIdentity). x.len) of.same in
    let base : slot.base ≡ count r.page 0 = ap (λ (x : SlotIdentity). x.base) of.same ∙ ap (λ (p : ℕ). count p 0) (sym paged_as) in
    let size : slot.static_size ≡ r.len - 0 = ap (λ (x : SlotIdentity). x.static_size) of.same ∙ sym long ∙ (omega arith) in
    let reached : slot.accessible ≡ count r.page (r.len - 0) = (λ j. record { page = z.fits.sizes.accessible_page j; bytes = (z.all ∙ size) j }) in
    let colour : slot.colour ≡ None = ap (λ (x : SlotIdentity). x.colour) of.same in
    region_back maker s i slot paged sound of (λ j. record { region = r; base = base j; accessible = reached j; static_size = size j; image = z.image j; dirty = z.not_dirty j; colour = colour j }) z.fits clean

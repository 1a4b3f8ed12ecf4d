-- A memory as it is made on demand is to the party as private ones begin.
use Rattle.std.proofs.Common.{◌≡◌, ℕ, ◌+◌, ◌-◌, ◌^◌, ◌<◌, ◌≤◌, ◌%◌, Bool, true, false, List, length, replicate, Option, Some, None, refl, sym, ap, ◌∙◌, subst, arith, is_some, ◌==◌, ◌&&◌, if◌then◌else◌, IfSome}
use Rattle.pool_run_on_demand.proofs.Imports.{length-replicate, second_true, told_weaker, mapped_some, MakerTold, page_size, minimum_byte_size, memory_may_move, MemoryDecl, MemoryTunables, MemoryType, Image, start, SlotIdentity, room_for_page, Design, LiesIn, HasPage, in_regions, default_design, default_refusal, mapped_design, malloc_design, IsDynamic, Layout, Storage, in_slot, stored, slot_in, Linear, linear_bytes, first_bytes, maximum_asked, MemoryState, takes_image, has_whole_pages, BeginsWith, PrivateMemory, Terms}
use Rattle.pool_run_on_demand.specs.OnDemand.{most_between, image_taken, room_on_demand, made_memory}
use Rattle.pool_run_on_demand.specs.Seen.{layout_in, seen_made, HasAddresses, IsHeld, IsMakerFor}
use Rattle.pool_run_on_demand.proofs.Places.{begun_layout, design_addresses, lies_layout}
use Rattle.pool_run_on_demand.proofs.Moves.{put_long}

some_told : {X : Type 0} (o : Option X) (x : X) → is_some o ≡ true → IfSome o (λ y. y ≡ x) → o ≡ Some x
some_told None x some is = absurd cc
some_told (Some y) x some is = ap Some is

-- what a memory has that began with an image, or without
begun_sizes : (b : Bool) (image : Option Image) (made l : Linear) → BeginsWith b image made l → (l.size ≡ made.size) × (l.capacity ≡ made.capacity)
begun_sizes b None made l is = (ap (λ (x : Linear). x.size) is, ap (λ (x : Linear). x.capacity) is)
begun_sizes false (Some i) made l is = (ap (λ (x : Linear). x.size) is, ap (λ (x : Linear). x.capacity) is)
begun_sizes true (Some i) made l is = (ap (λ (x : Linear). x.size) is.same, ap (λ (x : Linear). x.capacity) is.same)

-- The bytes that it begins with.
slot_tells : (n : ℕ) (st : Storage) → is_some (slot_in st).region.contents ≡ true → is_some (first_bytes n st) ≡ true
slot_tells n (in_slot s) is = mapped_some _ s.region.contents ∙ is
slot_tells n (stored len bytes) is = absurd cc

whole_in_slot : (size n : ℕ) (st : Storage) → has_whole_pages size st ≡ true → is_some (first_bytes n st) ≡ true → is_some (slot_in st).region.contents ≡ true
whole_in_slot size n (in_slot s) whole is = sym (mapped_some _ s.region.contents) ∙ is
whole_in_slot size n (stored len bytes) whole is = absurd cc

no_image : (b : Bool) (n : ℕ) → start (if b then None else None) n ≡ replicate n 0
no_image true n = refl
no_image false n = refl

begun_bytes : (b : Bool) (image : Option Image) (made l : Linear) (n : ℕ) → b ≡ takes_image made → BeginsWith b image made l → made.size ≡ n → is_some (linear_bytes made) ≡ true → IfSome (linear_bytes made) (λ x. x ≡ replicate n 0) → linear_bytes l ≡ Some (start (if b then image else None) n)
begun_bytes b None made l n takes is size told zeros = ap linear_bytes is ∙ some_told (linear_bytes made) (replicate n 0) told zeros ∙ ap Some (sym (no_image b n))
begun_bytes false (Some i) made l n takes is size told zeros = ap linear_bytes is ∙ some_told (linear_bytes made) (replicate n 0) told zeros
begun_bytes true (Some i) made l n takes is size told zeros =
    let slot : is_some (slot_in made.storage).region.contents ≡ true = whole_in_slot made.size made.size made.storage (second_true made.moves (has_whole_pages made.size made.storage) (sym takes)) told in
    let tells : is_some (slot_in l.storage).region.contents ≡ true = ap (λ (x : SlotIdentity). x.tells) is.slot ∙ slot in
    some_told (linear_bytes l) (start (Some i) made.size) (slot_tells l.size l.storage tells) is.bytes ∙ ap (λ (k : ℕ). Some (start (Some i) k)) size

design_moves : (b : Bool) (page : ℕ) (tunables : MemoryTunables) (least : ℕ) (most : Option ℕ) → (if b then mapped_design page tunables least most else malloc_design tunables least).moves ≡ true
design_moves true page tunables least most = refl
design_moves false page tunables least most = refl

design_lies : (b : Bool) (page : ℕ) (tunables : MemoryTunables) (least : ℕ) (most : Option ℕ) → b ≡ true → is_some (if b then mapped_design page tunables least most else malloc_design tunables least).layout ≡ true
design_lies true page tunables least most is = refl
design_lies false page tunables least most is = absurd cc

whole_pages : (st : Storage) (o : Option Layout) (size page : ℕ) → is_some o ≡ true → LiesIn o st → HasPage page st → has_whole_pages size st ≡ (size % page == 0)
whole_pages st None size page some lies has = absurd cc
whole_pages (in_slot s) (Some l) size page some lies has = ap (λ (n : ℕ). size % n == 0) has
whole_pages (stored len bytes) (Some l) size page some lies has = absurd lies

taken_same : (b c : Bool) (image : Option Image) → IfSome image (λ i. b ≡ c) → (if b then image else None) ≡ (if c then image else None)
taken_same true true None same = refl
taken_same true false None same = refl
taken_same false true None same = refl
taken_same false false None same = refl
taken_same b c (Some i) same = ap (λ (x : Bool). if x then Some i else None) same

and_true : (a b : Bool) → b ≡ true → (a && b) ≡ a
and_true true b is = is
and_true false b is = refl

start_whole : (n : ℕ) (o : Option Image) → IfSome o (λ i. i.offset + length i.bytes ≤ n) → length (start o n) ≡ n
start_whole n None fits = length-replicate n 0
start_whole n (Some i) fits = put_long i.offset n i.bytes (replicate n 0) (length-replicate n 0) fits

taken_fits : (b : Bool) (o : Option Image) (P : Image → Type 0) → IfSome o P → IfSome (if b then o else None) P
taken_fits true o P is = is
taken_fits false o P is = tt

tells_if : {X : Type 0} (b : Bool) (o : Option X) (x : X) → (b ≡ true → o ≡ Some x) → (if b then o else None) ≡ (if b then Some x else None)
tells_if true o x is = is refl
tells_if false o x is = refl

module _ (t : Terms) where
  -- an image fits the memory, and where there are images memories lie in regions
  abbrev pub IsGood : MemoryType → Image → Type 0
  IsGood ty i = (i.offset + length i.bytes ≤ minimum_byte_size ty) × (in_regions t.settings.tunables ≡ true)

  abbrev design_of : MemoryType → Design
  design_of ty = default_design t.settings.page t.settings.tunables (minimum_byte_size ty) (maximum_asked ty)

  -- A memory that was made is to the party as private ones begin.
  module _ (decl : MemoryDecl) (image : Option Image) (to : ℕ) (maker : MakerTold) (m : MemoryState) (for : IsMakerFor t maker) (small : minimum_byte_size decl.ty < 2 ^ 64) (log : decl.ty.page_size_log2 < 64) (good : IfSome image (IsGood decl.ty)) (is : IsDynamic decl.ty t.settings.tunables (Some (design_of decl.ty)) image to maker m) where
    abbrev least : ℕ
    least = minimum_byte_size decl.ty

    moves : is.made.moves ≡ true
    moves = is.designed.moves ∙ design_moves (in_regions t.settings.tunables) t.settings.page t.settings.tunables least (maximum_asked decl.ty)

    may : m.may_move ≡ memory_may_move decl.ty t.settings.tunables
    may = is.may_move ∙ and_true (memory_may_move decl.ty t.settings.tunables) is.made.moves moves

    takes_by : in_regions t.settings.tunables ≡ true → takes_image is.made ≡ (least % t.settings.page == 0)
    takes_by inside =
        let whole : has_whole_pages is.made.size is.made.storage ≡ (is.made.size % maker.page == 0) = whole_pages is.made.storage (design_of decl.ty).layout is.made.size maker.page (design_lies (in_regions t.settings.tunables) t.settings.page t.settings.tunables least (maximum_asked decl.ty) inside) is.designed.place is.as_made.page in
        ap (λ (b : Bool). b && has_whole_pages is.made.size is.made.storage) moves ∙ whole ∙ ap (λ (n : ℕ). n % maker.page == 0) is.as_made.size ∙ ap (λ (n : ℕ). least % n == 0) (sym for.page)

    bytes : t.tells ≡ true → linear_bytes m.linear ≡ Some (start (image_taken t.settings.page least image) least)
    bytes say =
        begun_bytes (takes_image is.made) image is.made m.linear least refl is.begins is.as_made.size (is.as_made.told (sym for.tells ∙ say)) is.as_made.zeros
        ∙ ap (λ (o : Option Image). Some (start o least)) (taken_same (takes_image is.made) (least % t.settings.page == 0) image (told_weaker (IsGood decl.ty) (λ i. takes_image is.made ≡ (least % t.settings.page == 0)) image (λ i g. takes_by g.1) good))

    size_is : m.linear.size ≡ least
    size_is = (begun_sizes (takes_image is.made) image is.made m.linear is.begins).0 ∙ is.as_made.size

    capacity_is : m.linear.capacity ≡ (design_of decl.ty).capacity
    capacity_is = (begun_sizes (takes_image is.made) image is.made m.linear is.begins).1 ∙ is.designed.capacity

    lies : layout_in m.linear.storage ≡ (design_of decl.ty).layout
    lies = begun_layout (takes_image is.made) image is.made m.linear refl is.begins ∙ lies_layout (design_of decl.ty).layout is.made.storage is.designed.place

    pub made_seen : seen_made t.tells m ≡ made_memory t (record { decl = decl; image = image })
    made_seen =
        let Parts : MemoryType → ℕ → ℕ → Option (List ℕ) → PrivateMemory = λ ty size n b. record { slot = 2 ^ 32 - 1; ty = ty; size = size; capacity = n; bytes = b } in
        let told : Option (List ℕ) = if t.tells then linear_bytes m.linear else None in
        let most : Option Layout → ℕ = most_between in
        ap (λ (ty : MemoryType). Parts ty m.linear.size (if m.may_move then most (layout_in m.linear.storage) else m.linear.capacity) told) is.of_type
        ∙ ap (λ (n : ℕ). Parts decl.ty n (if m.may_move then most (layout_in m.linear.storage) else m.linear.capacity) told) size_is
        ∙ ap (λ (b : Bool). Parts decl.ty least (if b then most (layout_in m.linear.storage) else m.linear.capacity) told) may
        ∙ ap (λ (o : Option Layout). Parts decl.ty least (if memory_may_move decl.ty t.settings.tunables then most o else m.linear.capacity) told) lies
        ∙ ap (λ (n : ℕ). Parts decl.ty least (if memory_may_move decl.ty t.settings.tunables then most (design_of decl.ty).layout else n) told) capacity_is
        ∙ ap (Parts decl.ty least (room_on_demand t decl.ty)) (tells_if t.tells (linear_bytes m.linear) (start (image_taken t.settings.page least image) least) bytes)

    pub made_held : default_refusal t.settings.page t.settings.tunables least ≡ None → IsHeld t.tells m
    made_held made = record {
      room = let fits = room_for_page decl.ty.limits.min decl.ty.page_size_log2 log small in omega (arith, fits, size_is, ap page_size is.of_type);
      addresses =
          let Has : ℕ → Option Layout → Type 0 = HasAddresses in
          let designed = design_addresses (in_regions t.settings.tunables) t.settings.page t.settings.tunables least (maximum_asked decl.ty) (subst (λ (n : ℕ). 0 < n) (sym for.page) for.paged) made in
          subst (Has m.linear.capacity) (sym lies) (subst (λ (n : ℕ). Has n (design_of decl.ty).layout) (sym capacity_is) designed);
      told = λ say. (start (image_taken t.settings.page least image) least, (bytes say, start_whole least (image_taken t.settings.page least image) (taken_fits (least % t.settings.page == 0) image (λ i. i.offset + length i.bytes ≤ least) (told_weaker (IsGood decl.ty) (λ i. i.offset + length i.bytes ≤ least) image (λ i g. g.0) good)) ∙ sym size_is));
    }

-- Pages that lose their colour by a call, and get it again by the one behind it.
use Rattle.std.proofs.Common.{◌≡◌, ℕ, ◌+◌, ◌/◌, ◌%◌, ◌<◌, ◌≤◌, false, List, length, get_or, replicate, refl, ap, ◌∙◌, subst, inl, inr, arith, Option, Some, None, IfSome}
use Rattle.pool_images.proofs.Imports.{cases_lt, length-replicate, Contents, CanReach, IsIn, put_all, recoloured, Told, PageCall, succeeded, recolouring, add_whole, marks_fit, length-put}
use Rattle.pool_images.specs.Slots.{Slot, IsSlot, IsSound, IsReady, IsClean, Holds, size_of, origin_image, placed, colour_number, called, coloured, renewed}
use Rattle.pool_images.proofs.Identity.{IsLike, same_called}
use Rattle.pool_images.proofs.Marks.{marked_in, marked_below, marked_above}
use Rattle.pool_images.proofs.Ready.{lifted, followed}

-- colours of pages, once n of them from page i on have this one, if there is one
abbrev pub again : Option ℕ → ℕ → ℕ → List ℕ → List ℕ
again None i n cs = cs
again (Some colour) i n cs = put_all i n colour cs

none_long : (i n : ℕ) (cs : List ℕ) → i + n ≤ length cs → length (put_all i n 0 cs) ≡ length cs
none_long i n cs fits =
    let none : length (replicate {A = ℕ} n 0) ≡ n = length-replicate n 0 in
    length-put i (replicate n 0) cs (omega arith)

-- pages that lost their colour have it again
pub given_back : (o : Option ℕ) (i n k : ℕ) (cs : List ℕ) → i + n ≤ length cs → i ≤ k → k < i + n → get_or (again o i n (put_all i n 0 cs)) k 0 ≡ colour_number o
given_back None i n k cs fits from below = marked_in cs i n k 0 0 (omega arith) from below
given_back (Some colour) i n k cs fits from below =
    let long : length (put_all i n 0 cs) ≡ length cs = none_long i n cs fits in
    marked_in (put_all i n 0 cs) i n k colour 0 (omega arith) from below

-- other pages keep theirs
kept_below : (o : Option ℕ) (i n k : ℕ) (cs : List ℕ) → i + n ≤ length cs → k < i → get_or (again o i n (put_all i n 0 cs)) k 0 ≡ get_or cs k 0
kept_below None i n k cs fits below = marked_below cs i n k 0 0 (omega arith) below
kept_below (Some colour) i n k cs fits below =
    let long : length (put_all i n 0 cs) ≡ length cs = none_long i n cs fits in
    marked_below (put_all i n 0 cs) i n k colour 0 (omega arith) below ∙ marked_below cs i n k 0 0 (omega arith) below

kept_above : (o : Option ℕ) (i n k : ℕ) (cs : List ℕ) → i + n ≤ length cs → i + n ≤ k → get_or (again o i n (put_all i n 0 cs)) k 0 ≡ get_or cs k 0
kept_above None i n k cs fits above = marked_above cs i n k 0 0 (omega arith) above
kept_above (Some colour) i n k cs fits above =
    let long : length (put_all i n 0 cs) ≡ length cs = none_long i n cs fits in
    marked_above (put_all i n 0 cs) i n k colour 0 (omega arith) above ∙ marked_above cs i n k 0 0 (omega arith) above

-- so that all have it where all had it
pub all_coloured : (o : Option ℕ) (i n k : ℕ) (cs : List ℕ) → i + n ≤ length cs → get_or cs k 0 ≡ colour_number o → get_or (again o i n (put_all i n 0 cs)) k 0 ≡ colour_number o
all_coloured o i n k cs fits had = elim (cases_lt k i) [
  | inl below ↦ kept_below o i n k cs fits below ∙ had
  | inr from ↦ elim (cases_lt k (i + n)) [
    | inl inside ↦ given_back o i n k cs fits from inside
    | inr above ↦ kept_above o i n k cs fits above ∙ had
  ]
]

-- the pages of a range of the slot are pages of the region
pub colours_fit : (s : Slot) (c : Contents) (start len : ℕ) → IsSlot s → IsSound s.region.page s.region.len s.base.bytes (size_of s) c → start % s.region.page ≡ 0 → len % s.region.page ≡ 0 → start + len ≤ size_of s → (s.base.bytes + start) / c.page + len / c.page ≤ length c.colour
colours_fit s c start len fits sound start_whole len_whole within =
    let from : (s.base.bytes + start) % s.region.page ≡ 0 = add_whole s.base.bytes start s.region.page fits.sizes.base_whole start_whole in
    rw (sound.shaped.same_page, sound.shaped.colour) (marks_fit s.region.page (s.base.bytes + start) len s.region.len (omega (arith, fits.sizes.page_size.at_least)) from len_whole sound.shaped.whole (omega (arith, fits.sizes.inside)))

-- the pages, and the slot, once the range has its colour
abbrev pub coloured_pages : Option ℕ → ℕ → ℕ → Contents → Contents
coloured_pages None start len c = c
coloured_pages (Some colour) start len c = recoloured start len colour c

abbrev pub coloured_slot : Option ℕ → ℕ → ℕ → Slot → Slot
coloured_slot o start len u = record u { region = coloured o start len u.region }

pub lifted_coloured : (P Q : Contents → Type 0) (o : Option ℕ) (start len : ℕ) (t : Told) → ((c : Contents) → P c → Q (coloured_pages o start len c)) → IfSome t.contents P → IfSome (coloured o start len t).contents Q
lifted_coloured P Q None start len t step told = followed P Q t.contents step told
lifted_coloured P Q (Some colour) start len t step told = lifted P Q (recoloured start len colour) t.contents step told

pub coloured_bytes : (o : Option ℕ) (start len : ℕ) (c : Contents) → (coloured_pages o start len c).bytes ≡ c.bytes
coloured_bytes None start len c = refl
coloured_bytes (Some colour) start len c = refl

-- what holds of told pages that can be used once the range has its colour
pub record IsUncoloured (u : Slot) (start len : ℕ) (c : Contents) : Type 0 where
  pub reach : CanReach u.base.bytes u.accessible.bytes c
  pub origin : c.origin ≡ placed u.base.bytes (origin_image u) c.origin
  pub beyond : Holds u u.accessible.bytes (size_of u) c
  pub colour : (k : ℕ) → IsIn u.base.bytes (size_of u) c.page k → get_or (again u.colour (start / c.page) (len / c.page) c.colour) k 0 ≡ colour_number u.colour

pub coloured_ready : (o : Option ℕ) (u : Slot) (start len : ℕ) (c : Contents) → u.colour ≡ o → IsUncoloured u start len c → IsReady (coloured_slot o start len u) (coloured_pages o start len c)
coloured_ready None u start len c is r =
    let C : ℕ → Option ℕ → Type 0 = λ k x. get_or (again x (start / c.page) (len / c.page) c.colour) k 0 ≡ colour_number u.colour in
    record { reach = r.reach; origin = r.origin; beyond = r.beyond; colour = λ k inside. subst (λ (x : Option ℕ). C k x) is (r.colour k inside) }
coloured_ready (Some n) u start len c is r =
    let C : ℕ → Option ℕ → Type 0 = λ k x. get_or (again x (start / c.page) (len / c.page) c.colour) k 0 ≡ colour_number u.colour in
    record { reach = r.reach; origin = r.origin; beyond = r.beyond; colour = λ k inside. subst (λ (x : Option ℕ). C k x) is (r.colour k inside) }

coloured_holds : (o : Option ℕ) (u : Slot) (start len : ℕ) (c : Contents) → Holds u 0 (size_of u) c → Holds (coloured_slot o start len u) 0 (size_of (coloured_slot o start len u)) (coloured_pages o start len c)
coloured_holds None u start len c h = h
coloured_holds (Some n) u start len c h = h

coloured_origin : (o : Option ℕ) (u : Slot) (start len : ℕ) → origin_image u ≡ origin_image (coloured_slot o start len u)
coloured_origin None u start len = refl
coloured_origin (Some n) u start len = refl

-- what holds of told pages of a slot that is clean once the range has its colour
pub record IsAlmost (u : Slot) (start len : ℕ) (c : Contents) : Type 0 where
  pub ready : IsUncoloured u start len c
  pub holds : Holds u 0 (size_of u) c

pub coloured_clean : (o : Option ℕ) (u : Slot) (start len : ℕ) → u.colour ≡ o → u.dirty ≡ false → u.image ≡ origin_image u → IfSome u.region.contents (IsAlmost u start len) → IsClean (coloured_slot o start len u)
coloured_clean o u start len is clean image told =
    let v : Slot = coloured_slot o start len u in
    record {
      not_dirty = clean;
      image = image ∙ coloured_origin o u start len;
      ready = lifted_coloured (IsAlmost u start len) (IsReady v) o start len u.region (λ c a. coloured_ready o u start len c is a.ready) told;
      holds = lifted_coloured (IsAlmost u start len) (Holds v 0 (size_of v)) o start len u.region (λ c a. coloured_holds o u start len c a.holds) told;
    }

-- it is the same slot, and no count of faults rose
like_coloured : (o : Option ℕ) (start len : ℕ) (u : Slot) → IsLike u (coloured_slot o start len u)
like_coloured None start len u = record { same = refl; faults = refl }
like_coloured (Some n) start len u = record { same = same_called (recolouring start len n) u; faults = refl }

pub like_renewed : (call : PageCall) (s : Slot) → IsLike s (renewed call s)
like_renewed call s =
    let last : IsLike (called call s) (coloured_slot s.colour call.start call.len (called call s)) = like_coloured s.colour call.start call.len (called call s) in
    record { same = last.same ∙ same_called call s; faults = last.faults }

-- The same as the code says them: one call, and then the other over the same range.
pub renewed_after : (call : PageCall) (start len : ℕ) (s mid end : Slot) → mid ≡ called call s → end ≡ record mid { region = coloured mid.colour (mid.base.bytes + start) len mid.region } → s.base.bytes + start ≡ call.start → len ≡ call.len → end ≡ renewed call s
renewed_after call start len s mid end first second place long =
    let F : Slot → Slot = λ t. record t { region = coloured t.colour (t.base.bytes + start) len t.region } in
    second
    ∙ ap F first
    ∙ ap (λ (n : ℕ). record s { region = coloured s.colour n len (succeeded call s.region) }) place
    ∙ ap (λ (n : ℕ). record s { region = coloured s.colour call.start n (succeeded call s.region) }) long

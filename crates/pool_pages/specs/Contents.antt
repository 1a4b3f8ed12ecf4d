-- What a region holds: a row of pages, written as columns, and what each call changes of it.
use Rattle.std.specs.Prelude.{◌≡◌, ℕ, ◌+◌, ◌-◌, ◌*◌, ◌/◌, ◌%◌, ◌<◌, ◌≤◌, List, ◌++◌, length, take, drop, replicate, Bool, true, false, slice_range, slice_index_or, ◌==◌, ◌⊎◌, if◌then◌else◌}

-- Byte k of the region is `bytes` at k, and a page goes back to its part of `origin`: zeros, or a part of an
-- image. `accessible`, `dirty` and `colour` have an entry for each page.
pub record Contents : Type 0 where
  pub page : ℕ
  pub bytes : List ℕ
  pub origin : List ℕ
  pub accessible : List Bool
  pub dirty : List Bool
  pub colour : List ℕ

-- the list with ys from place i on
abbrev pub put : {X : Type 0} → ℕ → List X → List X → List X
put i ys xs = take i xs ++ (ys ++ drop (i + length ys) xs)

-- the list with x at each of n places from i on
abbrev pub put_all : {X : Type 0} → ℕ → ℕ → X → List X → List X
put_all i n x xs = put i (replicate n x) xs

-- the number of pages that the bytes from a place on touch
abbrev pub touched : ℕ → ℕ → ℕ → ℕ
touched page start n = if n == 0 then 0 else (start + n - 1) / page + 1 - start / page

-- The pages of a range can be reached; their bytes stay.
abbrev pub exposed : ℕ → ℕ → Contents → Contents
exposed start len c = record c { accessible = put_all (start / c.page) (len / c.page) true c.accessible }

-- The pages of a range can no longer be reached; their bytes stay.
abbrev pub hidden : ℕ → ℕ → Contents → Contents
hidden start len c = record c { accessible = put_all (start / c.page) (len / c.page) false c.accessible }

-- The pages can be reached, are clean and without colour, and hold the image, which becomes their origin.
abbrev pub image_mapped : ℕ → List ℕ → Contents → Contents
image_mapped start image c = record c {
  bytes = put start image c.bytes;
  origin = put start image c.origin;
  accessible = put_all (start / c.page) (length image / c.page) true c.accessible;
  dirty = put_all (start / c.page) (length image / c.page) false c.dirty;
  colour = put_all (start / c.page) (length image / c.page) 0 c.colour;
}

-- Where pages go back to zeros the image is as if it had been written: the origin stays, and the pages are dirty,
-- without colour and within reach.
abbrev pub image_copied : ℕ → List ℕ → Contents → Contents
image_copied start image c = record c {
  bytes = put start image c.bytes;
  accessible = put_all (start / c.page) (length image / c.page) true c.accessible;
  dirty = put_all (start / c.page) (length image / c.page) true c.dirty;
  colour = put_all (start / c.page) (length image / c.page) 0 c.colour;
}

-- The pages can't be reached, are clean and without colour, and hold zeros, which become their origin.
abbrev pub erased : ℕ → ℕ → Contents → Contents
erased start len c = record c {
  bytes = put_all start len 0 c.bytes;
  origin = put_all start len 0 c.origin;
  accessible = put_all (start / c.page) (len / c.page) false c.accessible;
  dirty = put_all (start / c.page) (len / c.page) false c.dirty;
  colour = put_all (start / c.page) (len / c.page) 0 c.colour;
}

-- The pages can be reached, are clean and without colour, and hold zeros, which become their origin.
abbrev pub remapped : ℕ → ℕ → Contents → Contents
remapped start len c = record (erased start len c) { accessible = put_all (start / c.page) (len / c.page) true c.accessible }

-- the pages have this colour
abbrev pub recoloured : ℕ → ℕ → ℕ → Contents → Contents
recoloured start len colour c = record c { colour = put_all (start / c.page) (len / c.page) colour c.colour }

-- The pages hold their origin and are clean.
abbrev pub decommitted : ℕ → ℕ → Contents → Contents
decommitted start len c = record c {
  bytes = put start (slice_range c.origin start (start + len)) c.bytes;
  dirty = put_all (start / c.page) (len / c.page) false c.dirty;
}

-- The bytes are written, and each page that they touch is dirty.
abbrev pub written : ℕ → List ℕ → Contents → Contents
written start new c = record c {
  bytes = put start new c.bytes;
  dirty = put_all (start / c.page) (touched c.page start (length new)) true c.dirty;
}

-- The bytes of a range are set to their origin as by a write: touched pages are dirty, and no page call is made or
-- counted.
abbrev pub put_back : ℕ → ℕ → Contents → Contents
put_back start len c = written start (slice_range c.origin start (start + len)) c

-- The dirty marks, one a page, where those of a range of whole pages are all set, or all cleared.
abbrev pub range_marked : Bool → ℕ → ℕ → ℕ → List Bool → List Bool
range_marked mark start len page marks = put_all (start / page) (len / page) mark marks

-- The dirty marks, one a page, where those of the pages that n bytes touch are set.
abbrev pub touched_marked : ℕ → ℕ → ℕ → List Bool → List Bool
touched_marked start n page marks = put_all (start / page) (touched page start n) true marks

-- The bytes of page k.
abbrev pub page_bytes : ℕ → Contents → List ℕ
page_bytes k c = slice_range c.bytes (k * c.page) (k * c.page + c.page)

-- What page k goes back to when it is decommitted: its part of the long column of origins.
abbrev pub page_origin : ℕ → Contents → List ℕ
page_origin k c = slice_range c.origin (k * c.page) (k * c.page + c.page)

-- each column is as long as the region, and a page that isn't dirty holds what it goes back to
pub record IsShaped (page len : ℕ) (c : Contents) : Type 0 where
  pub same_page : c.page ≡ page
  pub whole : len % page ≡ 0
  pub bytes : length c.bytes ≡ len
  pub origin : length c.origin ≡ len
  pub accessible : length c.accessible ≡ len / page
  pub dirty : length c.dirty ≡ len / page
  pub colour : length c.colour ≡ len / page
  pub clean : (k : ℕ) → k < len / page → slice_index_or c.dirty k true ≡ false → page_bytes k c ≡ page_origin k c

-- each page that the bytes touch can be reached
abbrev pub CanReach : ℕ → ℕ → Contents → Type 0
CanReach start n c = (k : ℕ) → start / c.page ≤ k → k * c.page < start + n → slice_index_or c.accessible k false ≡ true

-- what page k is: its access, its bytes, what it goes back to, its dirty mark and its colour
pub record Page : Type 0 where
  pub accessible : Bool
  pub bytes : List ℕ
  pub origin : List ℕ
  pub dirty : Bool
  pub colour : ℕ

-- All that page k is: a page outside the region counts as out of reach and dirty, with colour 0.
abbrev pub page_at : ℕ → Contents → Page
page_at k c = record {
  accessible = slice_index_or c.accessible k false;
  bytes = page_bytes k c;
  origin = page_origin k c;
  dirty = slice_index_or c.dirty k true;
  colour = slice_index_or c.colour k 0;
}

-- a page of the range that page k is in
pub record IsIn (start len page k : ℕ) : Type 0 where
  pub from : start ≤ k * page
  pub below : k * page < start + len

-- no page goes back to another image: outside the range pages go back to zeros, and inside to zeros or to this image
pub record HasNoOtherImage (start : ℕ) (image : List ℕ) (c : Contents) : Type 0 where
  pub outside : (k : ℕ) → k < length c.accessible → (IsIn start (length image) c.page k → ⊥) → page_origin k c ≡ replicate c.page 0
  pub inside : (k : ℕ) → IsIn start (length image) c.page k → (page_origin k c ≡ replicate c.page 0) ⊎ (page_origin k c ≡ slice_range image (k * c.page - start) (k * c.page - start + c.page))

-- Ranges of a region that are set to what they go back to, one after the other, by hand or by a decommit.
use Rattle.std.proofs.Common.{◌≡◌, ℕ, ◌+◌, ◌*◌, ◌≤◌, List, [], ◌∷◌, ◌++◌, length, refl, ap, ◌∙◌, arith, inl, inr, slice_range, Option, Some, None, option_map}
use Rattle.pool_images.proofs.Imports.{Contents, put, put_back, decommitted, Told, restored, decommitting, range_within}
use Rattle.pool_images.specs.declared.ranges.ByteRange.{ByteRange}
use Rattle.pool_images.specs.Resets.{pages_restored}
use Rattle.pool_images.specs.Slots.{Slot, called, decommitted_all}
use Rattle.pool_images.proofs.Backs.{back_here, back_there, length-back}
use Rattle.pool_images.proofs.PageRanges.{Covers, Parts}

-- The bytes once ranges from a base on are what they go back to.
abbrev pub backs : ℕ → List ByteRange → List ℕ → List ℕ → List ℕ
backs base [] origin bytes = bytes
backs base (r ∷ rs) origin bytes = backs base rs origin (put (base + r.start) (slice_range origin (base + r.start) (base + r.start + r.len)) bytes)

-- The ranges end below a length.
abbrev pub Below : ℕ → List ByteRange → ℕ → Type 0
Below base [] n = Unit {0}
Below base (r ∷ rs) n = (base + r.start + r.len ≤ n) × Below base rs n

pub below_parts : (base page end n : ℕ) (rs : List ByteRange) → base + end ≤ n → Parts page end rs → Below base rs n
below_parts base page end n [] fits parts = tt
below_parts base page end n (r ∷ rs) fits parts = (omega (arith, fits, parts.0.inside), below_parts base page end n rs fits parts.1)

pub below_both : (base n : ℕ) (rs ss : List ByteRange) → Below base rs n → Below base ss n → Below base (rs ++ ss) n
below_both base n [] ss first second = second
below_both base n (r ∷ rs) ss first second = (first.0, below_both base n rs ss first.1 second)

pub backs_long : (base : ℕ) (rs : List ByteRange) (origin bytes : List ℕ) → length bytes ≡ length origin → Below base rs (length origin) → length (backs base rs origin bytes) ≡ length origin
backs_long base [] origin bytes same below = same
backs_long base (r ∷ rs) origin bytes same below =
    backs_long base rs origin (put (base + r.start) (slice_range origin (base + r.start) (base + r.start + r.len)) bytes)
    (length-back (base + r.start) r.len bytes origin same below.0) below.1

-- what holds what it goes back to still does
pub backs_keep : (base : ℕ) (rs : List ByteRange) (origin bytes : List ℕ) (a b : ℕ) → length bytes ≡ length origin → Below base rs (length origin) → b ≤ length origin → slice_range bytes a b ≡ slice_range origin a b → slice_range (backs base rs origin bytes) a b ≡ slice_range origin a b
backs_keep base [] origin bytes a b same below within holds = holds
backs_keep base (r ∷ rs) origin bytes a b same below within holds =
    backs_keep base rs origin (put (base + r.start) (slice_range origin (base + r.start) (base + r.start + r.len)) bytes) a b
    (length-back (base + r.start) r.len bytes origin same below.0) below.1 within
    (back_there (base + r.start) r.len a b bytes origin same below.0 within holds)

-- what a range covers does then
pub backs_cover : (base : ℕ) (rs : List ByteRange) (origin bytes : List ℕ) (a b : ℕ) → length bytes ≡ length origin → Below base rs (length origin) → base + b ≤ length origin → Covers rs a b → slice_range (backs base rs origin bytes) (base + a) (base + b) ≡ slice_range origin (base + a) (base + b)
backs_cover base [] origin bytes a b same below within covered = absurd covered
backs_cover base (r ∷ rs) origin bytes a b same below within (inl here) =
    let i : ℕ = base + r.start in
    let long : length (put (base + r.start) (slice_range origin (base + r.start) (base + r.start + r.len)) bytes) ≡ length origin = length-back (base + r.start) r.len bytes origin same below.0 in
    let put_here = back_here (base + r.start) r.len bytes origin (omega (arith, same, below.0)) below.0 in
    backs_keep base rs origin (put (base + r.start) (slice_range origin (base + r.start) (base + r.start + r.len)) bytes) (base + a) (base + b) long below.1 within
    (range_within (put (base + r.start) (slice_range origin (base + r.start) (base + r.start + r.len)) bytes) origin (base + r.start) (base + r.start + r.len) (base + a) (base + b)
    (omega (arith, long, below.0)) below.0 (omega (arith, here.0)) (omega (arith, here.1)) put_here)
backs_cover base (r ∷ rs) origin bytes a b same below within (inr there) =
    backs_cover base rs origin (put (base + r.start) (slice_range origin (base + r.start) (base + r.start + r.len)) bytes) a b
    (length-back (base + r.start) r.len bytes origin same below.0) below.1 within there

backs_append : (base : ℕ) (rs ss : List ByteRange) (origin bytes : List ℕ) → backs base ss origin (backs base rs origin bytes) ≡ backs base (rs ++ ss) origin bytes
backs_append base [] ss origin bytes = refl
backs_append base (r ∷ rs) ss origin bytes = backs_append base rs ss origin (put (base + r.start) (slice_range origin (base + r.start) (base + r.start + r.len)) bytes)

pub covers_left : (rs ss : List ByteRange) (a b : ℕ) → Covers rs a b → Covers (rs ++ ss) a b
covers_left [] ss a b covered = absurd covered
covers_left (r ∷ rs) ss a b (inl here) = inl here
covers_left (r ∷ rs) ss a b (inr there) = inr (covers_left rs ss a b there)

pub covers_right : (rs ss : List ByteRange) (a b : ℕ) → Covers ss a b → Covers (rs ++ ss) a b
covers_right [] ss a b covered = covered
covers_right (r ∷ rs) ss a b covered = inr (covers_right rs ss a b covered)

-- pages as told, of which nothing but bytes and dirty marks changed: ranges are what they go back to
pub record IsBacked (base : ℕ) (rs : List ByteRange) (c d : Contents) : Type 0 where
  pub page : d.page ≡ c.page
  pub origin : d.origin ≡ c.origin
  pub accessible : d.accessible ≡ c.accessible
  pub colour : d.colour ≡ c.colour
  pub bytes : d.bytes ≡ backs base rs c.origin c.bytes

abbrev pub Backed : ℕ → List ByteRange → Option Contents → Option Contents → Type 0
Backed base rs None None = Unit {0}
Backed base rs None (Some d) = ⊥
Backed base rs (Some c) None = ⊥
Backed base rs (Some c) (Some d) = IsBacked base rs c d

backed_none : (base : ℕ) (o : Option Contents) → Backed base [] o o
backed_none base None = tt
backed_none base (Some c) = record { page = refl; origin = refl; accessible = refl; colour = refl; bytes = refl }

pub backed_first : (base : ℕ) (r : ByteRange) (rs : List ByteRange) (o u : Option Contents) → Backed base rs (option_map (put_back (base + r.start) r.len) o) u → Backed base (r ∷ rs) o u
backed_first base r rs None None backed = tt
backed_first base r rs None (Some d) backed = absurd backed
backed_first base r rs (Some c) None backed = absurd backed
backed_first base r rs (Some c) (Some d) backed = record { page = backed.page; origin = backed.origin; accessible = backed.accessible; colour = backed.colour; bytes = backed.bytes }

decommitted_first : (base : ℕ) (r : ByteRange) (rs : List ByteRange) (o u : Option Contents) → Backed base rs (option_map (decommitted (base + r.start) r.len) o) u → Backed base (r ∷ rs) o u
decommitted_first base r rs None None backed = tt
decommitted_first base r rs None (Some d) backed = absurd backed
decommitted_first base r rs (Some c) None backed = absurd backed
decommitted_first base r rs (Some c) (Some d) backed = record { page = backed.page; origin = backed.origin; accessible = backed.accessible; colour = backed.colour; bytes = backed.bytes }

-- first some ranges, and then others
pub backed_both : (base : ℕ) (rs ss : List ByteRange) (o u v : Option Contents) → Backed base rs o u → Backed base ss u v → Backed base (rs ++ ss) o v
backed_both base rs ss None None None first second = tt
backed_both base rs ss None None (Some e) first second = absurd second
backed_both base rs ss None (Some d) v first second = absurd first
backed_both base rs ss (Some c) None v first second = absurd first
backed_both base rs ss (Some c) (Some d) None first second = absurd second
backed_both base rs ss (Some c) (Some d) (Some e) first second = record {
  page = second.page ∙ first.page;
  origin = second.origin ∙ first.origin;
  accessible = second.accessible ∙ first.accessible;
  colour = second.colour ∙ first.colour;
  bytes = second.bytes
      ∙ ap (λ l. backs base ss l d.bytes) first.origin
      ∙ ap (λ l. backs base ss c.origin l) first.bytes
      ∙ backs_append base rs ss c.origin c.bytes;
}

-- a region that tells the same but for pages, marks and counts
pub record TellsBacked (base : ℕ) (rs : List ByteRange) (t u : Told) : Type 0 where
  pub rest : u ≡ record t { contents = u.contents; marks = u.marks; made = u.made; calls = u.calls }
  pub contents : Backed base rs t.contents u.contents

-- Pages as ranges, one for each.
abbrev pub lone_pages : ℕ → List ℕ → List ByteRange
lone_pages page [] = []
lone_pages page (k ∷ ks) = record { start = k * page; len = page } ∷ lone_pages page ks

pub pages_backed : (base : ℕ) (ks : List ℕ) (t : Told) → TellsBacked base (lone_pages t.page ks) t (pages_restored base ks t)
pages_backed base [] t = record { rest = refl; contents = backed_none base t.contents }
pages_backed base (k ∷ ks) t =
    let next = pages_backed base ks (restored (base + k * t.page) t.page t) in
    record {
      rest = next.rest;
      contents = backed_first base (record { start = k * t.page; len = t.page }) (lone_pages t.page ks) t.contents (pages_restored base ks (restored (base + k * t.page) t.page t)).contents next.contents;
    }

pub ranges_backed : (rs : List ByteRange) (s : Slot) → TellsBacked s.base.bytes rs s.region (decommitted_all rs s).region
ranges_backed [] s = record { rest = refl; contents = backed_none s.base.bytes s.region.contents }
ranges_backed (r ∷ rs) s =
    let next = ranges_backed rs (called (decommitting (s.base.bytes + r.start) r.len) s) in
    record {
      rest = next.rest;
      contents = decommitted_first s.base.bytes r rs s.region.contents (decommitted_all rs (called (decommitting (s.base.bytes + r.start) r.len) s)).region.contents next.contents;
    }

-- and nothing else of the slot changes
pub only_region : (rs : List ByteRange) (s : Slot) → decommitted_all rs s ≡ record s { region = (decommitted_all rs s).region }
only_region [] s = refl
only_region (r ∷ rs) s = only_region rs (called (decommitting (s.base.bytes + r.start) r.len) s)

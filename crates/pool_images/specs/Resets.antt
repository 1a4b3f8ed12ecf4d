-- What a reset keeps of a slot, and what it leaves, by the dirty marks of the slot's pages. Where it is given none, each page
-- counts as dirty, and it is the plain reset.
use Rattle.std.specs.Prelude.{◌≡◌, ℕ, ◌+◌, ◌-◌, ◌*◌, ◌/◌, ◌^◌, ◌<◌, ◌≤◌, ◌&&◌, ◌==◌, List, [], ◌∷◌, ◌++◌, length, take, drop, fold, slice_range, slice_index_or, Bool, false, nat_lt, if◌then◌else◌, Option, None, Some}
use Rattle.std.specs.List.{filter, range_with_len}
use Rattle.pool_pages.specs.Told.{Told, restored}
use Rattle.pool_types.specs.declared.decommit_behavior.DecommitBehavior.{DecommitBehavior}
use Rattle.pool_types.specs.declared.decommit_behavior.DecommitBehavior.TheVariants.{Zero, RestoreOriginalMapping}
use Rattle.pool_images.specs.Orders.{set_by_hand}
use Rattle.pool_images.specs.Slots.{Slot, wiped, kept_bytes, left_ranges, reset_slot}
use Rattle.pool_images.specs.declared.image_slot.dirty_pages.PageSpan.{PageSpan}
use Rattle.pool_images.specs.declared.ranges.ByteRange.{ByteRange}

-- the dirty marks of the slot's accessible pages
abbrev pub marks_of : Slot → List Bool
marks_of s = slice_range s.region.marks (s.base.bytes / s.region.page) ((s.base.bytes + s.accessible.bytes) / s.region.page)

-- The marks that a reset is given: none, unless they are offered and more than one page is accessible. They are those
-- that its region always tells. So far no caller offers them.
abbrev pub given_marks : Bool → Slot → Option (List Bool)
given_marks offered s = if offered && nat_lt s.region.page s.accessible.bytes then Some (marks_of s) else None

-- the numbers of the marked pages, counted from the slot's base, in rising order
abbrev pub marked_pages : List Bool → List ℕ
marked_pages marks = filter (λ k. slice_index_or marks k false) (range_with_len 0 (length marks))

-- the numbers of the marked pages from one on
abbrev pub marked_from : ℕ → List Bool → List ℕ
marked_from from marks = filter (λ k. slice_index_or marks k false) (range_with_len from (length marks - from))

-- The first dirty pages, which a reset sets by hand, as far as bytes may stay resident.
abbrev pub pages_by_hand : ℕ → ℕ → List Bool → List ℕ
pages_by_hand page keep marks = take (keep / page) (marked_pages marks)

-- The dirty pages that a reset leaves to be decommitted: all behind those that it may keep resident.
abbrev pub pages_left : ℕ → ℕ → List Bool → List ℕ
pages_left page keep marks = drop (keep / page) (marked_pages marks)

-- a page is put before ranges that lie behind it, into the first of them where that begins at the page's end
abbrev pub with_page : ℕ → ℕ → List ByteRange → List ByteRange
with_page page k [] = record { start = k * page; len = page } ∷ []
with_page page k (r ∷ rs) = if k * page + page == r.start then record { start = k * page; len = page + r.len } ∷ rs else record { start = k * page; len = page } ∷ r ∷ rs

-- pages with rising numbers as ranges, each as long as it can be
abbrev pub runs_of : ℕ → List ℕ → List ByteRange
runs_of page [] = []
runs_of page (k ∷ ks) = with_page page k (runs_of page ks)

-- the first of these ranges, made to reach to an end
abbrev pub reaching : ℕ → List ByteRange → List ByteRange
reaching end [] = []
reaching end (r ∷ rs) = record { start = r.start; len = end - r.start } ∷ []

-- at most eight ranges: where there are more, the eighth reaches to the end
abbrev pub at_most_eight : ℕ → List ByteRange → List ByteRange
at_most_eight end rs = if nat_lt 8 (length rs) then take 7 rs ++ reaching end (drop 7 rs) else rs

-- the region with these pages of a slot set to what they go back to
abbrev pub pages_restored : ℕ → List ℕ → Told → Told
pages_restored base ks t = fold (λ told k. restored (base + k * told.page) told.page told) t ks

-- How many bytes stay resident: what is set by hand.
abbrev pub kept_by : Option (List Bool) → DecommitBehavior → ℕ → Slot → ℕ
kept_by None behaviour keep s = kept_bytes behaviour keep s.accessible.bytes
kept_by (Some marks) RestoreOriginalMapping keep s = length (pages_by_hand s.region.page keep marks) * s.region.page
kept_by (Some marks) Zero keep s = 0

-- the ranges that are left to be decommitted
abbrev pub left_by : Option (List Bool) → DecommitBehavior → ℕ → Slot → List ByteRange
left_by None behaviour keep s = left_ranges behaviour keep s.accessible.bytes
left_by (Some marks) RestoreOriginalMapping keep s = at_most_eight s.accessible.bytes (runs_of s.region.page (pages_left s.region.page keep marks))
left_by (Some marks) Zero keep s = []

-- the slot
abbrev pub reset_by : Option (List Bool) → DecommitBehavior → ℕ → Slot → Slot
reset_by None behaviour keep s = reset_slot behaviour keep s
reset_by (Some marks) RestoreOriginalMapping keep s = record s { region = pages_restored s.base.bytes (pages_by_hand s.region.page keep marks) s.region; dirty = false }
reset_by (Some marks) Zero keep s = wiped s

-- what its region tells before the page calls of the reset
abbrev pub told_by_hand : Option (List Bool) → DecommitBehavior → ℕ → Slot → Told
told_by_hand None behaviour keep s = set_by_hand behaviour keep s
told_by_hand (Some marks) RestoreOriginalMapping keep s = pages_restored s.base.bytes (pages_by_hand s.region.page keep marks) s.region
told_by_hand (Some marks) Zero keep s = s.region

-- a run of a region's pages: the first one's number and place, and how many they are
pub record IsSpan (s : PageSpan) (t : Told) : Type 0 where
  pub page : t.page ≡ s.page
  pub some : 0 < s.page
  pub base : s.base ≡ s.first * s.page
  pub inside : s.first + s.pages ≤ t.len / t.page
  pub bytes : s.base + s.pages * s.page ≤ t.len
  pub bounded : t.len < 2 ^ 64
  pub marks : length t.marks ≡ t.len / t.page

-- the dirty marks of these pages
abbrev pub span_marks : PageSpan → Told → List Bool
span_marks s t = slice_range t.marks s.first (s.first + s.pages)

-- some of the pages as a range
abbrev pub pages_range : ℕ → ℕ → ℕ → ByteRange
pages_range page from end = record { start = from * page; len = (end - from) * page }

-- one range of these: the first, which reaches to the end where there are more
abbrev pub at_most_one : ℕ → List ByteRange → List ByteRange
at_most_one end rs = if nat_lt 1 (length rs) then reaching end rs else rs

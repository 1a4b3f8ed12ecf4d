-- What each call on pages changes, page by page.
use Rattle.std.specs.Prelude.{◌≡◌, ℕ, ◌+◌, ◌-◌, ◌*◌, ◌%◌, ◌<◌, ◌≤◌, List, length, min, replicate, true, false, slice_range}
use Rattle.pool_pages.specs.Contents.{Contents, IsShaped, Page, page_at, IsIn, put, exposed, hidden, image_mapped, image_copied, erased, remapped, recoloured, decommitted, written, put_back, touched_marked}
use Rattle.pool_pages.specs.Told.{PageCall, exposing, hiding, mapping, remapping, erasing, recolouring, decommitting}
use Rattle.pool_types.specs.declared.decommit_behavior.DecommitBehavior.{DecommitBehavior}

-- a range of whole pages of a region that is n bytes long
pub record IsPages (n start len : ℕ) (c : Contents) : Type 0 where
  pub positive : 0 < c.page
  pub shaped : IsShaped c.page n c
  pub whole_start : start % c.page ≡ 0
  pub whole_len : len % c.page ≡ 0
  pub inside : start + len ≤ n

-- each page of the range becomes what f makes of it, and each other page stays
pub record ChangesExactly (start len : ℕ) (f : ℕ → Page → Page) (old new : Contents) : Type 0 where
  pub within : (k : ℕ) → IsIn start len old.page k → page_at k new ≡ f k (page_at k old)
  pub others : (k : ℕ) → k < length old.accessible → (IsIn start len old.page k → ⊥) → page_at k new ≡ page_at k old

-- the part of an image that lies on page k
abbrev pub image_part : ℕ → List ℕ → ℕ → ℕ → List ℕ
image_part start image page k = slice_range image (k * page - start) (k * page - start + page)

-- Exposing a range makes each of its pages reachable and changes nothing else.
abbrev pub ExposeChangesItsPages : Type 0
ExposeChangesItsPages = (n start len : ℕ) (c : Contents) → IsPages n start len c → ChangesExactly start len (λ k p. record p { accessible = true }) c (exposed start len c)

-- Hiding a range makes each of its pages unreachable and changes nothing else.
abbrev pub HideChangesItsPages : Type 0
HideChangesItsPages = (n start len : ℕ) (c : Contents) → IsPages n start len c → ChangesExactly start len (λ k p. record p { accessible = false }) c (hidden start len c)

-- Mapping an image gives each page its part of the image as bytes and as origin: reachable, clean, without colour.
abbrev pub MapChangesItsPages : Type 0
MapChangesItsPages = (n start : ℕ) (image : List ℕ) (c : Contents) → IsPages n start (length image) c → ChangesExactly start (length image) (λ k p. record { accessible = true; bytes = image_part start image c.page k; origin = image_part start image c.page k; dirty = false; colour = 0 }) c (image_mapped start image c)

-- Copying an image gives each page its part of the image as bytes alone: the origin stays, and the page is dirty.
abbrev pub CopyChangesItsPages : Type 0
CopyChangesItsPages = (n start : ℕ) (image : List ℕ) (c : Contents) → IsPages n start (length image) c → ChangesExactly start (length image) (λ k p. record { accessible = true; bytes = image_part start image c.page k; origin = p.origin; dirty = true; colour = 0 }) c (image_copied start image c)

-- Erasing a range leaves zeros as bytes and as origin in each page, clean, without colour and out of reach.
abbrev pub EraseChangesItsPages : Type 0
EraseChangesItsPages = (n start len : ℕ) (c : Contents) → IsPages n start len c → ChangesExactly start len (λ k p. record { accessible = false; bytes = replicate c.page 0; origin = replicate c.page 0; dirty = false; colour = 0 }) c (erased start len c)

-- Remapping a range leaves zeros as bytes and as origin in each page, clean, without colour and reachable.
abbrev pub RemapChangesItsPages : Type 0
RemapChangesItsPages = (n start len : ℕ) (c : Contents) → IsPages n start len c → ChangesExactly start len (λ k p. record { accessible = true; bytes = replicate c.page 0; origin = replicate c.page 0; dirty = false; colour = 0 }) c (remapped start len c)

-- Recolouring a range gives each of its pages the colour and changes nothing else.
abbrev pub RecolourChangesItsPages : Type 0
RecolourChangesItsPages = (n start len colour : ℕ) (c : Contents) → IsPages n start len c → ChangesExactly start len (λ k p. record p { colour = colour }) c (recoloured start len colour c)

-- Decommitting a range sets each of its pages back to its origin, clean, and changes nothing else.
abbrev pub DecommitChangesItsPages : Type 0
DecommitChangesItsPages = (n start len : ℕ) (c : Contents) → IsPages n start len c → ChangesExactly start len (λ k p. record p { bytes = p.origin; dirty = false }) c (decommitted start len c)

-- page k has one of the len bytes from a place on
pub record IsTouched (start len page k : ℕ) : Type 0 where
  pub some : 0 < len
  pub below : k * page < start + len
  pub above : start < k * page + page

-- the page with what falls on it of the bytes that are written
abbrev pub page_written : ℕ → List ℕ → ℕ → ℕ → Page → Page
page_written start new page k p = record p {
  bytes = put (start - k * page) (slice_range new (k * page - start) (min (length new) (k * page + page - start))) p.bytes;
  dirty = true;
}

-- each page that the bytes touch becomes that, and each other page stays
pub record WritesExactly (start : ℕ) (new : List ℕ) (old after : Contents) : Type 0 where
  pub within : (k : ℕ) → IsTouched start (length new) old.page k → page_at k after ≡ page_written start new old.page k (page_at k old)
  pub others : (k : ℕ) → k < length old.accessible → (IsTouched start (length new) old.page k → ⊥) → page_at k after ≡ page_at k old

-- A write inside the region changes only the pages that it touches, which become dirty.
abbrev pub WriteChangesItsPages : Type 0
WriteChangesItsPages = (n start : ℕ) (new : List ℕ) (c : Contents) → 0 < c.page → IsShaped c.page n c → start + length new ≤ n → WritesExactly start new c (written start new c)

-- the page with what of it lies in the range set to what it goes back to
abbrev pub page_put_back : ℕ → ℕ → ℕ → ℕ → Page → Page
page_put_back start len page k p = record p {
  bytes = put (start - k * page) (slice_range p.origin (start - k * page) (min page (start + len - k * page))) p.bytes;
  dirty = true;
}

-- each page that the range touches becomes that, and each other page stays
pub record RestoresExactly (start len : ℕ) (old after : Contents) : Type 0 where
  pub within : (k : ℕ) → IsTouched start len old.page k → page_at k after ≡ page_put_back start len old.page k (page_at k old)
  pub others : (k : ℕ) → k < length old.accessible → (IsTouched start len old.page k → ⊥) → page_at k after ≡ page_at k old

-- Putting bytes back to their origin changes only the pages that it touches, which become dirty.
abbrev pub RestoreChangesItsPages : Type 0
RestoreChangesItsPages = (n start len : ℕ) (c : Contents) → 0 < c.page → IsShaped c.page n c → start + len ≤ n → RestoresExactly start len c (put_back start len c)

-- the call makes of the dirty marks what it makes of the contents' column of them
abbrev pub MarksAlike : PageCall → Type 0
MarksAlike call = (c : Contents) → (call.change c).dirty ≡ call.mark c.page c.dirty

-- Each call on pages, and each write, makes of the dirty marks what it makes of the contents' column of them.
pub record CallsMarkAlike : Type 0 where
  pub expose : (start len : ℕ) → MarksAlike (exposing start len)
  pub hide : (start len : ℕ) → MarksAlike (hiding start len)
  pub map_image : (behaviour : DecommitBehavior) (start : ℕ) (image : List ℕ) → MarksAlike (mapping behaviour start image)
  pub remap_zeros : (start len : ℕ) → MarksAlike (remapping start len)
  pub erase : (start len : ℕ) → MarksAlike (erasing start len)
  pub recolour : (start len colour : ℕ) → MarksAlike (recolouring start len colour)
  pub decommit : (start len : ℕ) → MarksAlike (decommitting start len)
  pub write : (start : ℕ) (new : List ℕ) (c : Contents) → (written start new c).dirty ≡ touched_marked start (length new) c.page c.dirty
  pub restore : (start len : ℕ) (c : Contents) → start + len ≤ length c.origin → (put_back start len c).dirty ≡ touched_marked start len c.page c.dirty

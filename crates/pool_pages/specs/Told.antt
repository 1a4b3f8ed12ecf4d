-- What a region tells of itself, and what a call does to that.
use Rattle.std.specs.Prelude.{◌≡◌, ℕ, zero, suc, ◌+◌, ◌-◌, ◌/◌, ◌%◌, ◌^◌, ◌<◌, ◌≤◌, ◌⊎◌, ◌==◌, ◌||◌, List, [], ◌∷◌, length, Bool, true, false, not, slice_index_or, if◌then◌else◌, Option, Some, None, IsSome, IfSome, option_map}
use Rattle.std.specs.List.{list_any}
use Rattle.pool_types.specs.Count.{Count}
use Rattle.pool_pages.specs.Contents.{Contents, IsShaped, page_at, IsIn, exposed, hidden, image_mapped, image_copied, erased, remapped, recoloured, decommitted, written, put_back, range_marked, touched_marked}
use Rattle.pool_pages.specs.declared.pages.PageCalls.{PageCalls}
use Rattle.pool_pages.specs.declared.pages.RegionName.{RegionName}
use Rattle.pool_types.specs.declared.decommit_behavior.DecommitBehavior.{DecommitBehavior}
use Rattle.pool_types.specs.declared.decommit_behavior.DecommitBehavior.TheVariants.{Zero, RestoreOriginalMapping}
use Rattle.pool_types.specs.Rising.{risen, Rose}

-- Its name, page, length in bytes and behaviour. What it holds, where it tells that. The dirty mark of each page, which
-- it always tells. The numbers of its calls that fail, where it tells them. How many calls it was asked for so far, how
-- many of each kind, and how often one failed.
pub record Told : Type 0 where
  pub name : RegionName
  pub page : ℕ
  pub len : ℕ
  pub behaviour : DecommitBehavior
  pub contents : Option Contents
  pub marks : List Bool
  pub plan : Option (List ℕ)
  pub made : ℕ
  pub calls : PageCalls
  pub faults : ℕ

-- a call on a range of pages: which count it raises, what it changes, and what it makes of the dirty marks, by the
-- length of a page
pub record PageCall : Type 0 where
  pub start : ℕ
  pub len : ℕ
  pub raise : PageCalls → PageCalls
  pub change : Contents → Contents
  pub mark : ℕ → List Bool → List Bool

-- The call that makes pages reachable.
abbrev pub exposing : ℕ → ℕ → PageCall
exposing start len = record {
  start = start;
  len = len;
  raise = λ c. record c { expose = risen c.expose };
  change = exposed start len;
  mark = λ page marks. marks;
}

-- The call that makes pages unreachable.
abbrev pub hiding : ℕ → ℕ → PageCall
hiding start len = record {
  start = start;
  len = len;
  raise = λ c. record c { hide = risen c.hide };
  change = hidden start len;
  mark = λ page marks. marks;
}

-- what mapping an image does, by the region's behaviour
abbrev pub mapped : DecommitBehavior → ℕ → List ℕ → Contents → Contents
mapped RestoreOriginalMapping start image c = image_mapped start image c
mapped Zero start image c = image_copied start image c

-- the dirty mark of a page that an image was mapped to, by the region's behaviour
abbrev pub mapped_mark : DecommitBehavior → Bool
mapped_mark RestoreOriginalMapping = false
mapped_mark Zero = true

-- The call that maps an image, or copies it where regions go back to zeros.
abbrev pub mapping : DecommitBehavior → ℕ → List ℕ → PageCall
mapping behaviour start image = record {
  start = start;
  len = length image;
  raise = λ c. record c { map_image = risen c.map_image };
  change = mapped behaviour start image;
  mark = range_marked (mapped_mark behaviour) start (length image);
}

-- The call that leaves zeros which can't be reached.
abbrev pub erasing : ℕ → ℕ → PageCall
erasing start len = record {
  start = start;
  len = len;
  raise = λ c. record c { erase = risen c.erase };
  change = erased start len;
  mark = range_marked false start len;
}

-- The call that leaves zeros which can be reached.
abbrev pub remapping : ℕ → ℕ → PageCall
remapping start len = record {
  start = start;
  len = len;
  raise = λ c. record c { remap_zeros = risen c.remap_zeros };
  change = remapped start len;
  mark = range_marked false start len;
}

-- The call that gives pages the colour of a protection key.
abbrev pub recolouring : ℕ → ℕ → ℕ → PageCall
recolouring start len colour = record {
  start = start;
  len = len;
  raise = λ c. record c { recolour = risen c.recolour };
  change = recoloured start len colour;
  mark = λ page marks. marks;
}

-- The call that sets pages back to their origin.
abbrev pub decommitting : ℕ → ℕ → PageCall
decommitting start len = record {
  start = start;
  len = len;
  raise = λ c. record c { decommit = risen c.decommit };
  change = decommitted start len;
  mark = range_marked false start len;
}

-- the call is counted, unless its range is empty
abbrev pub counted : PageCall → Told → Told
counted call t = record t {
  made = if call.len == 0 then t.made else risen t.made;
  calls = if call.len == 0 then t.calls else call.raise t.calls;
}

-- the call succeeded: it is counted, its pages are changed, and so are their marks
abbrev pub succeeded : PageCall → Told → Told
succeeded call t = record (counted call t) {
  contents = option_map call.change t.contents;
  marks = call.mark t.page t.marks;
}

-- Of two plans, one behind the other, one can be told where the other is empty. Where both list calls, a call that
-- the first refuses isn't made on what is behind it, so that its numbers are others there.
abbrev pub joined_plan : {X : Type 0} → Option (List X) → List X → Option (List X)
joined_plan behind [] = behind
joined_plan (Some []) (x ∷ xs) = Some (x ∷ xs)
joined_plan (Some (y ∷ ys)) (x ∷ xs) = None
joined_plan None (x ∷ xs) = None

-- under this plan the call succeeds: its range is empty, or its number isn't in the plan
abbrev pub passes : List ℕ → PageCall → Told → Bool
passes plan call t = (call.len == 0) || not (list_any (λ n. n == risen t.made) plan)

-- each page of the range is as before or as a success leaves it, and each other page is as before
pub record IsPartly (call : PageCall) (old new : Contents) : Type 0 where
  pub inside : (k : ℕ) → IsIn call.start call.len old.page k → (page_at k new ≡ page_at k old) ⊎ (page_at k new ≡ page_at k (call.change old))
  pub outside : (k : ℕ) → (IsIn call.start call.len old.page k → ⊥) → page_at k new ≡ page_at k old

-- a region tells after the call what it told before it, up to a part of the call's change
abbrev pub MayChangePartly : PageCall → Option Contents → Option Contents → Type 0
MayChangePartly call None None = Unit {0}
MayChangePartly call None (Some new) = ⊥
MayChangePartly call (Some old) None = ⊥
MayChangePartly call (Some old) (Some new) = IsPartly call old new

-- each mark of the range is as before or as a success leaves it, and each other mark is as before
pub record IsPartlyMarked (call : PageCall) (page : ℕ) (old new : List Bool) : Type 0 where
  pub inside : (k : ℕ) → IsIn call.start call.len page k → (slice_index_or new k false ≡ slice_index_or old k false) ⊎ (slice_index_or new k false ≡ slice_index_or (call.mark page old) k false)
  pub outside : (k : ℕ) → (IsIn call.start call.len page k → ⊥) → slice_index_or new k false ≡ slice_index_or old k false

-- The call failed: it is counted, and the count of faults rose. A region that tells its plan lists calls that fail, and
-- holds what it held, under the marks that it had.
pub record Faulted (call : PageCall) (old new : Told) : Type 0 where
  pub nonempty : 0 < call.len
  pub same : new ≡ record (counted call old) { contents = new.contents; marks = new.marks; faults = new.faults }
  pub rose : Rose old.faults new.faults
  pub partly : MayChangePartly call old.contents new.contents
  pub marked : IsPartlyMarked call old.page old.marks new.marks
  pub listed : IfSome old.plan (λ plan. 0 < length plan)
  pub planned : IsSome old.plan → (new.contents ≡ old.contents) × (new.marks ≡ old.marks) × (new.faults ≡ risen old.faults)

-- the bytes of a told region are written, and the touched pages are marked; its counts stay
abbrev pub overwritten : ℕ → List ℕ → Told → Told
overwritten start new t = record t {
  contents = option_map (written start new) t.contents;
  marks = touched_marked start (length new) t.page t.marks;
}

-- the bytes of a range of a told region are set to what they go back to, as by a write; its counts stay
abbrev pub restored : ℕ → ℕ → Told → Told
restored start len t = record t {
  contents = option_map (put_back start len) t.contents;
  marks = touched_marked start len t.page t.marks;
}

-- the same region under the behaviour that pages go back to zeros
abbrev pub zeroing : Told → Told
zeroing t = record t { behaviour = Zero }

-- what is told of pages has the region's shape
abbrev pub TellsShaped : Told → Type 0
TellsShaped t = IfSome t.contents (IsShaped t.page t.len)

-- the region is whole pages with a mark for each, and what is told of the pages has the same marks
pub record HasMarks (page len : ℕ) (contents : Option Contents) (marks : List Bool) : Type 0 where
  pub whole : len % page ≡ 0
  pub count : length marks ≡ len / page
  pub same : IfSome contents (λ c. c.dirty ≡ marks)

-- the marks are those of the region's pages
abbrev pub TellsMarks : Told → Type 0
TellsMarks t = HasMarks t.page t.len t.contents t.marks

-- how many of the calls made so far a list of failing calls lists
abbrev pub listed_among : List ℕ → ℕ → ℕ
listed_among plan zero = 0
listed_among plan (suc n) = if list_any (λ m. m == suc n) plan then suc (listed_among plan n) else listed_among plan n

-- No more failures than listed calls were made. At the end of its type the count of calls stands still: a list that has
-- that number lists each call from there on.
abbrev pub NoMoreThanListed : List ℕ → ℕ → ℕ → Type 0
NoMoreThanListed plan made faults = (faults ≤ listed_among plan made) ⊎ ((made ≡ 2 ^ 64 - 1) × (list_any (λ m. m == 2 ^ 64 - 1) plan ≡ true))

-- where a region tells its plan, no more of its calls failed than the plan lists among those made
abbrev pub FailsAsListed : Told → Type 0
FailsAsListed t = IfSome t.plan (λ plan. NoMoreThanListed plan t.made t.faults)

-- a range of whole pages inside the region
pub record IsRange (start len : Count) (t : Told) : Type 0 where
  pub start_page : start.page ≡ t.page
  pub len_page : len.page ≡ t.page
  pub inside : start.bytes + len.bytes ≤ t.len

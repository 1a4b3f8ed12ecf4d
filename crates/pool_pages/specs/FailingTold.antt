-- What a region tells before which a list of calls stands that fail.
use Rattle.std.specs.Prelude.{◌≡◌, ℕ, ◌<◌, ◌≤◌, List, [], ◌∷◌, Bool, false, not, ◌==◌, ◌||◌, if◌then◌else◌}
use Rattle.std.specs.List.{list_any}
use Rattle.std.specs.List.Sorted.{IsNonDecreasing}
use Rattle.pool_pages.specs.Told.{Told, joined_plan}
use Rattle.pool_types.specs.Rising.{risen}
use Rattle.pool_pages.specs.CallSums.{both}
use Rattle.pool_pages.specs.MakerTold.{no_calls}
use Rattle.pool_pages.specs.declared.pages.PageCalls.{PageCalls}
use Rattle.pool_pages.specs.declared.call_counts.CallCounts.{CallCounts}
use Rattle.pool_pages.specs.declared.call_counts.CallKind.{CallKind}
use Rattle.pool_pages.specs.declared.call_counts.CallKind.TheVariants.{Expose, Hide, MapImage, RemapZeros, Erase, Recolour, Decommit}

-- What a list of failures has counted before the first call: nothing.
abbrev pub no_counts : CallCounts
no_counts = record { made = 0; calls = no_calls; refused = 0 }

-- one more call of a kind
abbrev pub one_more_call : CallKind → PageCalls → PageCalls
one_more_call Expose c = record c { expose = risen c.expose }
one_more_call Hide c = record c { hide = risen c.hide }
one_more_call MapImage c = record c { map_image = risen c.map_image }
one_more_call RemapZeros c = record c { remap_zeros = risen c.remap_zeros }
one_more_call Erase c = record c { erase = risen c.erase }
one_more_call Recolour c = record c { recolour = risen c.recolour }
one_more_call Decommit c = record c { decommit = risen c.decommit }

-- a call on a range of this length was made, and the list refused it or not
abbrev pub counts_after_call : CallKind → ℕ → Bool → CallCounts → CallCounts
counts_after_call kind len refused c = record {
  made = if len == 0 then c.made else risen c.made;
  calls = if len == 0 then c.calls else one_more_call kind c.calls;
  refused = if refused then risen c.refused else c.refused;
}

-- a list of failing calls, and what was counted under it
pub record Listed : Type 0 where
  pub listed : List ℕ
  pub counts : CallCounts

-- the list lets the next call through: its range is empty, or its number isn't in the list
abbrev pub lets_through : List ℕ → ℕ → ℕ → Bool
lets_through listed made len = (len == 0) || not (list_any (λ n. n == risen made) listed)

-- the list has no number from the one up to the other
abbrev pub HasNone : ℕ → ℕ → List ℕ → Type 0
HasNone from next listed = (n : ℕ) → from ≤ n → n < next → list_any (λ m. m == n) listed ≡ false

-- the numbers of a list in rising order
pub record IsRising (rising listed : List ℕ) : Type 0 where
  pub order : IsNonDecreasing rising
  pub same : (n : ℕ) → list_any (λ m. m == n) rising ≡ list_any (λ m. m == n) listed

-- a list of failing calls as it is kept: sorted, and with none from the one number up to the other
pub record IsCallPlan (from next : ℕ) (rising listed : List ℕ) : Type 0 where
  pub rises : IsRising rising listed
  pub none : HasNone from next rising

-- where a list is empty the one, otherwise the other
abbrev pub if_empty : {X : Type 0} → List ℕ → X → X → X
if_empty [] x y = x
if_empty (n ∷ ns) x y = y

-- It tells what the region behind it tells, but for its plan and its counts: with an empty list these are the
-- region's own. It counts as failed the calls that the list refused, and those that failed on the region behind.
abbrev pub failing_told : Told → List ℕ → CallCounts → Told
failing_told region listed counts = record region {
  plan = joined_plan region.plan listed;
  made = if_empty listed region.made counts.made;
  calls = if_empty listed region.calls counts.calls;
  faults = if_empty listed region.faults (both counts.refused region.faults);
}

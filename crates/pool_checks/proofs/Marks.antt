-- The dirty marks of a region that tells nothing else.
use Rattle.std.proofs.Common.{◌≡◌, ℕ, ◌+◌, ◌≤◌, Bool, List, length, ap, ◌∙◌}
use Rattle.pool_pages.proofs.Shapes.{length-put_all}
use Rattle.pool_pages.specs.Contents.{put_all}
pub use Rattle.pool_pages.proofs.PageNumbers.{pages_order, marks_fit, touched_fit}

pub marks_long : (i n : ℕ) (b : Bool) (marks new : List Bool) → new ≡ put_all i n b marks → i + n ≤ length marks → length new ≡ length marks
marks_long i n b marks new is fits = ap length is ∙ length-put_all i n b marks fits

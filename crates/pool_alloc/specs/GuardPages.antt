-- A region whose first page is hidden: it guards what lies behind it.
use Rattle.std.specs.Prelude.{◌≡◌, ℕ, ◌%◌, ◌≤◌, IfSome}
use Rattle.pool_alloc.specs.Imports.{fresh, Told, PageCall, hiding}

-- the first page is hidden, which is the first call on the region
abbrev pub guarding : ℕ → PageCall
guarding page = hiding 0 page

-- a region that was just made, longer than one page, all of which can be reached
pub record IsOpen (t : Told) : Type 0 where
  pub contents : IfSome t.contents (λ c. c ≡ fresh t.page t.len t.len)
  pub longer : t.page ≤ t.len
  pub whole : t.len % t.page ≡ 0

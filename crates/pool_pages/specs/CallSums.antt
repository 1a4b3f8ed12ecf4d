-- Sums of counts of calls on pages.
use Rattle.std.specs.Prelude.{ℕ, ◌+◌, ◌-◌, ◌^◌, min}
use Rattle.pool_pages.specs.declared.pages.PageCalls.{PageCalls}

-- two counts together
abbrev pub both : ℕ → ℕ → ℕ
both a b = min (a + b) (2 ^ 64 - 1)

-- the calls of both, each count of which stands still at the end of its type
abbrev pub added : PageCalls → PageCalls → PageCalls
added a b = record {
  expose = both a.expose b.expose;
  hide = both a.hide b.hide;
  map_image = both a.map_image b.map_image;
  remap_zeros = both a.remap_zeros b.remap_zeros;
  erase = both a.erase b.erase;
  recolour = both a.recolour b.recolour;
  decommit = both a.decommit b.decommit;
}

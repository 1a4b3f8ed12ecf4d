-- What regions in memory and their maker tell: all of what they hold, and that no call of theirs fails.
use Rattle.std.specs.Prelude.{ℕ, [], length, true, Some}
use Rattle.pool_pages.specs.Contents.{Contents}
use Rattle.pool_pages.specs.Told.{Told}
use Rattle.pool_pages.specs.MakerTold.{MakerTold}
use Rattle.pool_pages.specs.declared.pages.PageCalls.{PageCalls}
use Rattle.pool_pages.specs.declared.pages.RegionName.{RegionName}
use Rattle.pool_types.specs.declared.decommit_behavior.DecommitBehavior.{DecommitBehavior}

-- a region in memory: `made` calls were made on it so far
abbrev pub memory_told : RegionName → DecommitBehavior → Contents → PageCalls → ℕ → Told
memory_told name behaviour contents calls made = record {
  name = name;
  page = contents.page;
  len = length contents.bytes;
  behaviour = behaviour;
  contents = Some contents;
  marks = contents.dirty;
  plan = Some [];
  made = made;
  calls = calls;
  faults = 0;
}

-- a maker of regions in memory
abbrev pub memory_maker : ℕ → ℕ → MakerTold
memory_maker page next = record {
  page = page;
  tells = true;
  plan = Some [];
  layers = [];
  listed = [];
  behind = 0;
  next = next;
  faults = 0;
}

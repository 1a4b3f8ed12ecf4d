use Rattle.std.proofs.Common.{◌≡◌, drop}
use Rattle.pool_images.specs.Images.{first_misplaced}
use Rattle.pool_images.proofs.memory_image.first_misplaced.Given as goal

-- the first one is among those that are left
abbrev pub invariant-loop-decl : goal.invariant-loop-decl
invariant-loop-decl l = first_misplaced l.page (drop l.decl-index l.memories) ≡ first_misplaced l.page l.memories

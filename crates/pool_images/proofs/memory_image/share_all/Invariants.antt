use Rattle.std.proofs.Common.{◌≡◌, map, option_map, take}
use Rattle.std.specs.Arc.{arc_value}
use Rattle.pool_images.proofs.memory_image.share_all.Given as goal

-- the images so far
abbrev pub invariant-loop-image : goal.invariant-loop-image
invariant-loop-image l = map (option_map arc_value) l.list.items ≡ map (option_map arc_value) (take l.image-index l.images)

-- Affinity: a slot that was used for a memory of a module is affine to that memory.
use Rattle.std.specs.Prelude.{Bool, false, ◌==◌, ◌&&◌}
use Rattle.std.specs.Option.{option_map_or}
use Rattle.pool_index.specs.declared.ids.MemoryInModule.{MemoryInModule}
use Rattle.pool_index.specs.declared.warm_slot.WarmSlot.{WarmSlot}

-- the same memory of the same module
abbrev pub same_memory : MemoryInModule → MemoryInModule → Bool
same_memory of had = (had.0.0 == of.0.0) && (had.1.0 == of.1.0)

-- the warm slot was used for this memory last
abbrev pub is_affine : MemoryInModule → WarmSlot → Bool
is_affine of e = option_map_or (same_memory of) e.affinity false

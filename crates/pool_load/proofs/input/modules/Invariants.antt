use Rattle.std.proofs.Common.{◌≡◌, map}
use Rattle.std.specs.List.{range_with_len}
use Rattle.pool_load.specs.Load.{load_module}
use Rattle.pool_load.proofs.input.modules.Given as goal

-- the modules so far
abbrev pub invariant-loop-m : goal.invariant-loop-m
invariant-loop-m l = l.modules.items ≡ map load_module (range_with_len 0 l.m)

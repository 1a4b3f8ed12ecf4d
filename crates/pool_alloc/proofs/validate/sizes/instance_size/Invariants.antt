use Rattle.std.proofs.Common.{◌≡◌, ◌+◌, ◌-◌, ◌^◌, take, min, sum_by}
use Rattle.pool_types.specs.declared.module_types.Part.{Part}
use Rattle.pool_alloc.proofs.validate.sizes.instance_size.Given as goal

-- that of the parts so far
abbrev pub invariant-loop-part : goal.invariant-loop-part
invariant-loop-part l = l.size ≡ min (l.info.state_bytes + sum_by (λ (part : Part). part.bytes) (take l.part-index l.info.parts)) (2 ^ 64 - 1)

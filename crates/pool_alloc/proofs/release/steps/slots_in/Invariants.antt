use Rattle.std.proofs.Common.{◌≡◌, ◌*◌, ◌^◌, ◌≤◌, take}
use Rattle.pool_alloc.specs.Releases.{slots_in}
use Rattle.pool_alloc.proofs.release.steps.slots_in.Given as goal

-- those of the allocators so far
abbrev pub invariant-loop-allocator : goal.invariant-loop-allocator
invariant-loop-allocator l = record {
  slots : l.slots ≡ slots_in (take l.allocator-index l.allocators);
  few : l.slots ≤ l.allocator-index * 2 ^ 32;
}

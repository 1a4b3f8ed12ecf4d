use Rattle.std.proofs.Common.{◌≡◌, ◌<◌, List, length, refl, slice_index_or}
use Rattle.std.proofs.Math.ListN.{length-set}
use Rattle.std.proofs.lemmas.List.{get_or_read}
use Rattle.pool_alloc.specs.Leases.{Lease}
use Rattle.pool_alloc.proofs.leases.memory.ReservedList+MemoryLease+P.fill.Goals as goal

pub returns : goal.returns
returns g c =
    let xs : List Lease = c.self.inside.items.items in
    let l : Lease = c.index_mut-lease.result.now in
    let inside : c.args.place < length xs = rw (← c.self.view_is) at c.requires in
    let read : (d : Lease) → l ≡ slice_index_or xs c.args.place d = λ d. get_or_read xs c.args.place l inside c.index_mut-lease.ensures.value d in
    rw (← c.self.view_is) (record { lease = c.fill.new.self; change = λ d. rw (read d) at c.fill.ensures; is = refl })

pub invariant_of-self : goal.invariant_of-self
invariant_of-self g c = (simp length-set c.self.invariant.0, c.self.invariant.1)

use Rattle.std.proofs.Common.{ℕ, ◌==◌, if◌then◌else◌, nat_lt, ◌≡◌, ◌+◌, suc, subst, arith}
use Rattle.pool_hall.specs.Seat.{view}
use Rattle.pool_index.specs.Allocator.{place_in, bytes_into, FreedInTurn}
use Rattle.pool_index.specs.Part.{bytes_kept}
use Rattle.pool_index.proofs.Imports.{counted, number}
use Rattle.pool_index.proofs.Allocating.{some_shards}
use Rattle.pool_index.proofs.Counted.{rest_both}
use Rattle.pool_index.proofs.FreedLists.{next_units, next_counts, all_counts, still_there}
use Rattle.pool_index.proofs.Growing.{grows_both}
use Rattle.pool_index.proofs.allocator.ModuleAffinityIndexAllocator.free_many.Goals as goal

pub free_there-requires-clause-units : goal.free_there-requires-clause-units
free_there-requires-clause-units g c u there = still_there c.args.self.now (some_shards _ _ _ _ _ _ c.args.self.now.made) c.args.items.now c.loop-place.place (view c.args.seat.now) (view c.loop-place.seat) c.requires.units c.loop-place.invariant.gave u there

pub loop-place-preserved : goal.loop-place-preserved
loop-place-preserved g c =
    let had = c.loop-place.invariant in
    let did = c.free_there.ensures in
    let n : ℕ = c.loop-place.place in
    let next : suc n ≡ n + 1 = omega arith in
    record {
      seat = did.seat;
      gave = λ u. next_units (place_in c.args.self.now u.slot) n _ _ _ _ (did.units u) (had.gave u);
      freed = subst (λ (k : ℕ). FreedInTurn c.args.self.now k c.args.items.now (view c.args.seat.now) (view c.free_there.new.seat)) next (view c.loop-place.seat, had.freed, did.freed);
      counts = λ p i. next_counts (λ (q : ℕ). if i == bytes_kept then bytes_into c.args.self.now q c.args.items.now else 0) p n _ _ _ (did.counts p i) (had.counts p i);
      grows = grows_both (view c.args.seat.now) (view c.loop-place.seat) (view c.free_there.new.seat) had.grows did.grows;
      rest = rest_both (view c.args.seat.now) (view c.loop-place.seat) (view c.free_there.new.seat) had.rest did.rest;
    }

pub returns-clause-counts : goal.returns-clause-counts
returns-clause-counts g c =
    let all : c.loop-place.place ≡ c.args.self.now.shards = omega arith in
    all_counts c.args.self.now (some_shards _ _ _ _ _ _ c.args.self.now.made) c.args.items.now (view c.args.seat.now) (view c.loop-place.seat)
    (subst (λ (k : ℕ). (p i : ℕ) → number (counted p i) (view c.loop-place.seat) ≡ number (counted p i) (view c.args.seat.now) + (if nat_lt p k then (if i == bytes_kept then bytes_into c.args.self.now p c.args.items.now else 0) else 0)) all c.loop-place.invariant.counts)

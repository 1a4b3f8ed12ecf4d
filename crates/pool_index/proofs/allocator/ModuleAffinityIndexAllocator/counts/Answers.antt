use Rattle.std.proofs.Common.{◌≡◌, ℕ, ◌+◌, ◌++◌, ◌∷◌, [], length, ◌∙◌, subst, arith, Some}
use Rattle.pool_hall.specs.Seat.{view}
use Rattle.pool_index.specs.Allocator.{made_of, limits_in}
use Rattle.pool_index.specs.Part.{shard_meaning}
use Rattle.pool_index.specs.Round.{HeldShard}
use Rattle.pool_index.specs.declared.shard_calls.ShardAt.{ShardAt}
use Rattle.pool_index.proofs.Counted.{told_of, rest_both, in_turn_more, so_far_more, so_far_fits}
use Rattle.pool_index.proofs.Growing.{grows_both}
use Rattle.pool_index.proofs.allocator.ModuleAffinityIndexAllocator.counts.Goals as goal

pub added-total-requires-clause-warm : goal.added-total-requires-clause-warm
added-total-requires-clause-warm g c =
    let f = c.count_in-found.ensures.counted in
    let so = c.loop-place.invariant.found in
    let w = view c.count_in-found.new.seat in
    let held = subst (λ (q : ShardAt). HeldShard shard_meaning Some (made_of c.args.self.now) (limits_in c.args.self.now) q.place f.0 f.0 (view c.loop-place.seat) w) c.at-at.ensures.value f.1 in
    (so_far_fits _ _ _ _ _ _ c.args.self.now.made c.loop-place.place (omega arith) (view c.loop-place.seat) f.0 (told_of (made_of c.args.self.now) (limits_in c.args.self.now) c.loop-place.place f.0 f.0 (view c.loop-place.seat) w held) so.0 c.loop-place.sum c.count_in-found.result so.2 f.2).0

pub added-total-requires-clause-bytes : goal.added-total-requires-clause-bytes
added-total-requires-clause-bytes g c =
    let f = c.count_in-found.ensures.counted in
    let so = c.loop-place.invariant.found in
    let w = view c.count_in-found.new.seat in
    let held = subst (λ (q : ShardAt). HeldShard shard_meaning Some (made_of c.args.self.now) (limits_in c.args.self.now) q.place f.0 f.0 (view c.loop-place.seat) w) c.at-at.ensures.value f.1 in
    (so_far_fits _ _ _ _ _ _ c.args.self.now.made c.loop-place.place (omega arith) (view c.loop-place.seat) f.0 (told_of (made_of c.args.self.now) (limits_in c.args.self.now) c.loop-place.place f.0 f.0 (view c.loop-place.seat) w held) so.0 c.loop-place.sum c.count_in-found.result so.2 f.2).1

pub loop-place-preserved : goal.loop-place-preserved
loop-place-preserved g c =
    let f = c.count_in-found.ensures.counted in
    let did = c.count_in-found.ensures in
    let so = c.loop-place.invariant.found in
    let had = c.loop-place.invariant in
    let made = made_of c.args.self.now in
    let limits = limits_in c.args.self.now in
    let first = view c.args.seat.now in
    let v = view c.loop-place.seat in
    let w = view c.count_in-found.new.seat in
    let there : c.loop-place.place ≡ 0 + length so.0 = let a = so.2.all in omega arith in
    let held = subst (λ (q : ShardAt). HeldShard shard_meaning Some made limits q.place f.0 f.0 v w) c.at-at.ensures.value f.1 in
    let sums = c.added-total.ensures in
    record {
      seat = record { own = did.own; free = did.free };
      found = (
        so.0 ++ f.0 ∷ [],
        in_turn_more made limits (λ s. s) 0 so.0 f.0 first v w so.1 (subst (λ (p : ℕ). HeldShard shard_meaning Some made limits p f.0 f.0 v w) there held),
        so_far_more _ _ _ _ _ _ c.args.self.now.made c.loop-place.place (omega arith) v f.0 (told_of made limits c.loop-place.place f.0 f.0 v w held) so.0 c.loop-place.sum c.count_in-found.result so.2 f.2 c.added-total.result sums.warm sums.bytes sums.none,
      );
      units = λ u. did.units u ∙ had.units u;
      counts = λ p i. did.counts p i ∙ had.counts p i;
      grows = grows_both first v w had.grows did.grows;
      rest = rest_both first v w had.rest did.rest;
    }

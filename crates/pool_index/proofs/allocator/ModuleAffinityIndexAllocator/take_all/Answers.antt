use Rattle.std.proofs.Common.{◌≡◌, ◌<◌, ℕ, ◌+◌, ◌++◌, ◌∷◌, [], length, length-append, ap, subst, refl, ◌∙◌, arith, Some}
use Rattle.pool_hall.specs.Seat.{view}
use Rattle.pool_index.specs.Allocator.{made_of, limits_in}
use Rattle.pool_index.specs.Part.{FitsAt, shard_meaning}
use Rattle.pool_index.specs.Round.{HeldShard}
use Rattle.pool_index.specs.Shard.{after_take_warm}
use Rattle.pool_index.specs.Taken.{TakenState}
use Rattle.pool_index.specs.declared.shard_calls.ShardAt.{ShardAt}
use Rattle.pool_index.proofs.Counted.{in_turn_more, rest_both}
use Rattle.pool_index.proofs.HallFrees.{only_state}
use Rattle.pool_index.proofs.WarmUnits.{can_take, more_taken, took_held, took_fits, items_more, small_more, units_more, takes_here}
use Rattle.pool_index.proofs.Growing.{grows_both}
use Rattle.pool_index.proofs.Takings.{beyond_more, counts_more, all_took, none_cold}
use Rattle.pool_index.proofs.allocator.ModuleAffinityIndexAllocator.take_all.Goals as goal

pub take_warm_in-taken-requires-clause-room : goal.take_warm_in-taken-requires-clause-room
take_warm_in-taken-requires-clause-room g c x s fit was =
    let had = c.loop-place.invariant in
    let here : FitsAt (made_of c.args.self.now) c.loop-place.place x = subst (λ (q : ShardAt). FitsAt (made_of c.args.self.now) q.place x) c.at-at.ensures.value fit in
    let its : FitsAt (made_of c.args.self.now) c.loop-place.place s = subst (FitsAt (made_of c.args.self.now) c.loop-place.place) (only_state (Some x) x s refl was) here in
    can_take _ _ _ _ _ _ c.args.self.now.made c.loop-place.place (omega arith) s its c.loop-place.taken had.all had.few

pub loop-place-preserved : goal.loop-place-preserved
loop-place-preserved g c =
    let had = c.loop-place.invariant in
    let so = had.found in
    let did = c.take_warm_in-taken.ensures in
    let t = did.taken in
    let made = made_of c.args.self.now in
    let limits = limits_in c.args.self.now in
    let p : ℕ = c.loop-place.place in
    let inside : p < c.args.self.now.shards = omega arith in
    let first = view c.args.seat.now in
    let v = view c.loop-place.seat in
    let w = view c.take_warm_in-taken.new.seat in
    let there : p ≡ 0 + length so.0 = let a = so.1 in omega arith in
    let fits = took_fits c.args.self.now p inside c.at-at.result c.at-at.ensures.value c.loop-place.taken c.take_warm_in-taken.result v w t in
    record {
      seat = record { own = did.own; free = did.free };
      found = (
        so.0 ++ t.state ∷ [],
        (let a = so.1 in let b = length-append so.0 (t.state ∷ []) in omega arith),
        in_turn_more made limits after_take_warm 0 so.0 t.state first v w so.2 (subst (λ (q : ℕ). HeldShard shard_meaning Some made limits q t.state (after_take_warm t.state) v w) there (took_held c.args.self.now p inside c.at-at.result c.at-at.ensures.value c.loop-place.taken c.take_warm_in-taken.result v w t)),
        items_more c.args.self.now p inside c.at-at.result c.at-at.ensures.value c.loop-place.taken c.take_warm_in-taken.result v w t so.0 so.3,
      );
      all = ap (λ (z : TakenState). z.room) t.taken ∙ had.all;
      few = more_taken _ _ _ _ _ _ c.args.self.now.made p inside t.state fits c.loop-place.taken c.take_warm_in-taken.result t.taken had.few;
      bytes = small_more c.args.self.now p inside c.at-at.result c.at-at.ensures.value c.loop-place.taken c.take_warm_in-taken.result v w t had.bytes;
      units = units_more c.args.self.now p inside c.at-at.result c.at-at.ensures.value c.loop-place.taken c.take_warm_in-taken.result v w t first had.units;
      beyond = beyond_more c.args.self.now p inside t.state fits c.loop-place.taken c.take_warm_in-taken.result t.taken had.beyond;
      counts = counts_more c.args.self.now p inside t.state fits c.loop-place.taken c.take_warm_in-taken.result t.taken v w (takes_here c.args.self.now p inside c.at-at.result c.at-at.ensures.value c.loop-place.taken c.take_warm_in-taken.result v w t) first had.beyond had.counts;
      grows = grows_both first v w had.grows did.grows;
      rest = rest_both first v w had.rest did.rest;
    }

pub returns-clause-takes : goal.returns-clause-takes
returns-clause-takes g c p low high = all_took c.args.self.now c.loop-place.place c.loop-place.taken.items (view c.args.seat.now) (view c.loop-place.seat) c.loop-place.invariant.counts p (omega arith)

pub returns-clause-cold : goal.returns-clause-cold
returns-clause-cold g c = none_cold c.args.self.now c.loop-place.place c.loop-place.taken.items (view c.args.seat.now) (view c.loop-place.seat) c.loop-place.invariant.counts

-- All warm slots of a shard of an allocator are taken: their pick units come out of it.
use Rattle.std.proofs.Common.{◌≡◌, ℕ, ◌+◌, ◌*◌, ◌^◌, ◌<◌, ◌≤◌, List, [], ◌∷◌, ◌++◌, length, min, Some, sym, refl, ap, subst, ◌∙◌, arith, length-append, map, flat_map, All}
use Rattle.pool_index.proofs.Imports.{All-append, All-map, length-map, flat_map-append, Memory, UnitName, View, times, pick_unit}
use Rattle.pool_index.specs.Allocator.{made_of, limits_in, shard_in}
use Rattle.pool_index.specs.Freed.{known_outside, taken_outside, units_of_slots}
use Rattle.pool_index.specs.Holds.{units_at, TakesAt, TookWarm}
use Rattle.pool_index.specs.Layout.{capacity_of}
use Rattle.pool_index.specs.Lists.{with_bytes}
use Rattle.pool_index.specs.MadeShards.{AreMade}
use Rattle.pool_index.specs.Part.{FitsAt, shard_meaning}
use Rattle.pool_index.specs.Round.{HeldShard, Gains}
use Rattle.pool_index.specs.Shard.{ShardState, resident_bytes, taken_slots, after_take_warm}
use Rattle.pool_index.specs.Taken.{TakenState}
use Rattle.pool_index.specs.declared.allocator.ModuleAffinityIndexAllocator.{ModuleAffinityIndexAllocator}
use Rattle.pool_index.specs.declared.ids.SlotId.{SlotId}
use Rattle.pool_index.specs.declared.shard_calls.ShardAt.{ShardAt}
use Rattle.pool_index.proofs.Allocating.{shard_there, first_at, step_at}
use Rattle.pool_index.proofs.Counted.{told_of}
use Rattle.pool_index.proofs.HallFrees.{Slots}

-- the units of the slots that are taken, by their numbers outside
outside_units : (a : ModuleAffinityIndexAllocator) (n : ℕ) (x : ShardState) → x.first ≡ n * a.slots_per_shard → x.step ≡ 1 → (ys : Slots) → units_at (shard_in a n) ys ≡ units_of_slots (map (known_outside x) ys)
outside_units a n x first step [] = refl
outside_units a n x first step (p ∷ ps) = (λ i. pick_unit Memory (sym first i + p.0.0 * sym step i) ∷ outside_units a n x first step ps i)

module _ (made : List ShardState) (limits : List ℕ) (capacity warm slots shards : ℕ) (is : AreMade made limits capacity warm slots shards) (n : ℕ) (h : n < shards) (x : ShardState) (fit : FitsAt made n x) where
  its_capacity : x.capacity ≡ capacity_of capacity slots n
  its_capacity = fit.same.capacity ∙ ap (λ (z : ShardState). z.capacity) (shard_there made limits capacity warm slots shards is n h)

  pub can_take : (taken : TakenState) → taken.room ≡ capacity → length taken.items ≤ min capacity (n * slots) → length taken.items + x.capacity ≤ taken.room
  can_take taken all few = let c = its_capacity in omega arith

  pub more_taken : (old new : TakenState) → new ≡ record old { items = old.items ++ taken_outside x } → length old.items ≤ min capacity (n * slots) → length new.items ≤ min capacity ((n + 1) * slots)
  more_taken old new came few =
      let c = its_capacity in
      let t = fit.sound.total in
      let k = fit.sound.cold_at_most in
      let e : length new.items ≡ length old.items + length (taken_outside x) = ap (λ (z : TakenState). length z.items) came ∙ length-append old.items (taken_outside x) in
      let g : length (taken_outside x) ≡ length x.warm = length-map (map with_bytes x.warm) (known_outside x) ∙ length-map x.warm with_bytes in
      omega arith

slots_append : (a b : List (SlotId × ℕ)) (u : UnitName) → times u (units_of_slots (a ++ b)) ≡ times u (units_of_slots a) + times u (units_of_slots b)
slots_append [] b u = omega arith
slots_append (p ∷ ps) b u = let r = slots_append ps b u in omega arith

nil_append : {X : Type 0} (xs : List X) → xs ++ [] ≡ xs
nil_append [] = refl
nil_append (x ∷ xs) = ap (λ ys. x ∷ ys) (nil_append xs)

-- a take of one shard, after those of the shards before it
module _ (a : ModuleAffinityIndexAllocator) (n : ℕ) (h : n < a.shards) (q : ShardAt) (is : q ≡ shard_in a n) (old new : TakenState) (v w : View ShardState) (took : TookWarm shard_meaning Some (made_of a) (limits_in a) q old new v w) where
  pub took_held : HeldShard shard_meaning Some (made_of a) (limits_in a) n took.state (after_take_warm took.state) v w
  took_held = subst (λ (z : ShardAt). HeldShard shard_meaning Some (made_of a) (limits_in a) z.place took.state (after_take_warm took.state) v w) is took.held

  pub took_fits : FitsAt (made_of a) n took.state
  took_fits = (told_of (made_of a) (limits_in a) n took.state (after_take_warm took.state) v w took_held).stands.fits

  pub items_more : (ss : List ShardState) → old.items ≡ flat_map taken_outside ss → new.items ≡ flat_map taken_outside (ss ++ took.state ∷ [])
  items_more ss e = ap (λ (z : TakenState). z.items) took.taken ∙ ap (λ (l : Slots). l ++ taken_outside took.state) e ∙ ap (λ (l : Slots). flat_map taken_outside ss ++ l) (sym (nil_append (taken_outside took.state))) ∙ sym (flat_map-append taken_outside ss (took.state ∷ []))

  pub small_more : All (λ q. q.1 ≤ 2 ^ 32) old.items → All (λ q. q.1 ≤ 2 ^ 32) new.items
  small_more few =
      let here : All (λ q. q.1 ≤ 2 ^ 32) (taken_outside took.state) = All-map (λ q. q.1 ≤ 2 ^ 32) (known_outside took.state) (taken_slots took.state) (All-map (λ q. q.1 ≤ 2 ^ 32) with_bytes took.state.warm took_fits.sound.bytes) in
      subst (All (λ q. q.1 ≤ 2 ^ 32)) (sym (ap (λ (z : TakenState). z.items) took.taken)) (All-append (λ q. q.1 ≤ 2 ^ 32) old.items (taken_outside took.state) few here)

  pub units_more : (first : View ShardState) → Gains (units_of_slots old.items) first v → Gains (units_of_slots new.items) first w
  units_more first before u =
      let came : times u w.units ≡ times u v.units + times u (units_of_slots (taken_outside took.state)) = (subst (λ (z : ShardAt). Gains (units_at z (taken_slots took.state)) v w) is took.units) u ∙ ap (λ (l : List UnitName). times u v.units + times u l) (outside_units a n took.state (first_at _ _ _ _ _ _ a.made n took.state h took_fits) (step_at _ _ _ _ _ _ a.made n took.state h took_fits) (taken_slots took.state)) in
      let b = before u in
      let c : times u (units_of_slots new.items) ≡ times u (units_of_slots (old.items ++ taken_outside took.state)) = ap (λ (z : TakenState). times u (units_of_slots z.items)) took.taken in
      let d = slots_append old.items (taken_outside took.state) u in
      omega arith

  pub takes_here : TakesAt n (resident_bytes took.state) v w
  takes_here = subst (λ (z : ShardAt). TakesAt z.place (resident_bytes took.state) v w) is took.counts

-- What a round over shards tells the seat.
use Rattle.std.proofs.Common.{◌≡◌, ◌≢◌, ℕ, zero, suc, ◌+◌, ◌-◌, ◌%◌, ◌^◌, ◌<◌, ◌≤◌, Bool, true, false, List, [], ◌∷◌, length, Option, Some, None, option_map, sym, refl, ap, subst, ◌∙◌, ⊎_elim, arith, true≢false, eq-eqb, ◌==◌, nat_lt, if◌then◌else◌, slice_index}
use Rattle.pool_index.proofs.Imports.{cases_eq, cases_lt, ne_eqb, nat_tests, option_or, option_map_or, SlotKind, UnitName, View, one_if, often, times, counted, number, rise, Meaning, put_view}
use Rattle.pool_index.specs.Shard.{ShardState, IsShard, Choice, warm_at, next_cold, cold_choice, warm_choice, choice, after_choice, after_pick, affine_choice, after_affine_pick}
use Rattle.pool_index.specs.Part.{shard_counts, is_topped, cold_picks}
use Rattle.pool_index.specs.ShardPart.{MeansShard}
use Rattle.pool_index.specs.Probe.{is_pick, probe_found, after_probe, miss_count}
use Rattle.pool_index.specs.Round.{round_place, found_units, AreShards, ProbedAt, NoneFound, IsRound, KeepsRest, Gains, KeepsCounts, OnlyGrows, NoColdPick, OneColdPick, AllMissed, AllTopped}
use Rattle.pool_index.specs.declared.probe.Probe.{Probe}
use Rattle.pool_index.specs.declared.probe.Probe.TheVariants.{Pick, Affine}
use Rattle.pool_index.specs.declared.round.ShardPlaces.{ShardPlaces}
use Rattle.pool_index.proofs.Growing.{grows_after, grows_same, grows_both}
use Rattle.pool_index.specs.Affinity.{is_affine}
use Rattle.pool_index.specs.Positions.{last_position}
use Rattle.pool_index.proofs.Picking.{Picks, probe_picks}
use Rattle.pool_index.proofs.Puts.{small_counts, units_after}
use Rattle.pool_index.specs.Moves.{Moves}

-- what a pick takes where no slot is affine
abbrev choice_of_rest : ShardState → Option Choice
choice_of_rest s = if nat_lt (length s.warm) s.budget then option_or (cold_choice s) (warm_choice s) else option_or (warm_choice s) (cold_choice s)

pub no_rise : (n : ℕ) → n < 2 ^ 64 → rise n n ≡ 0
no_rise n h = omega arith

pub rise_once : (n : ℕ) → n < 2 ^ 64 → rise n ((n + 1) % 2 ^ 64) ≡ 1
rise_once n h = omega arith

rise_most : (n k : ℕ) → n ≤ k → k ≤ n + 1 → k < 2 ^ 64 → rise n k ≤ 1
rise_most n k a b h = omega arith

at_most : (b : Bool) (n : ℕ) → (if b then n else 0) ≤ n
at_most true n = omega arith
at_most false n = omega arith

-- what is counted where a place is put
module _ {T : Type 0} (m : Meaning T) (p : ℕ) (x y : T) (s t : ShardState) (before : m.counts x ≡ shard_counts s) (after : m.counts y ≡ shard_counts t) (v w : View T) (put : w ≡ put_view m p x y v) where
  abbrev rose : ℕ → ℕ
  rose i = rise (slice_index (shard_counts s) i) (slice_index (shard_counts t) i)

  pub counted_after : (q i : ℕ) → number (counted q i) w ≡ (if q == p then rose i else 0) + number (counted q i) v
  counted_after q i = ap (λ (z : View T). number (counted q i) z) put ∙ (λ k. (if q == p then rise (slice_index (before k) i) (slice_index (after k) i) else 0) + number (counted q i) v)

  pub counted_here : (i : ℕ) → number (counted p i) w ≡ rose i + number (counted p i) v
  counted_here i = counted_after p i ∙ ap (λ b. (if b then rose i else 0) + number (counted p i) v) (eq-eqb p p refl)

  pub counted_elsewhere : (q i : ℕ) → q ≢ p → number (counted q i) w ≡ number (counted q i) v
  counted_elsewhere q i other = let e : number (counted q i) w ≡ 0 + number (counted q i) v = counted_after q i ∙ ap (λ b. (if b then rose i else 0) + number (counted q i) v) (ne_eqb q p other) in omega arith

  pub counted_more : (q i : ℕ) → number (counted q i) v ≤ number (counted q i) w
  counted_more q i = let e = counted_after q i in omega arith

-- a probe that finds nothing raises its count by one
missed_count : (c : Probe) (s : ShardState) → IsShard s → probe_found c s ≡ None → rise (slice_index (shard_counts s) (miss_count c)) (slice_index (shard_counts (after_probe c s)) (miss_count c)) ≡ 1
missed_count (Pick want) s sound none = go (choice want s) refl
  where
    go : (o : Option _) → choice want s ≡ o → rise s.full_answers (after_pick want s).full_answers ≡ 1
    go None e = rw e (rise_once s.full_answers sound.counts.0)
    go (Some k) e = absurd (cc)
missed_count (Affine of) s sound none = go (affine_choice (Some of) s) refl
  where
    go : (o : Option _) → affine_choice (Some of) s ≡ o → rise s.affine_misses (after_affine_pick of s).affine_misses ≡ 1
    go None e = rw e (rise_once s.affine_misses sound.counts.1)
    go (Some k) e = absurd (cc)

-- a pick that finds nothing found each slot used, so none is cold
rest_cold : (d b k : Bool) → (if d then option_or (if b then Some next_cold else None) (if k then Some (warm_at 0) else None) else option_or (if k then Some (warm_at 0) else None) (if b then Some next_cold else None)) ≡ None → b ≡ false
rest_cold d false k e = refl
rest_cold true true k e = absurd (cc)
rest_cold false true true e = absurd (cc)
rest_cold false true false e = absurd (cc)

no_cold : (s : ShardState) → choice_of_rest s ≡ None → nat_lt s.cold s.capacity ≡ false
no_cold s e = rest_cold (nat_lt (length s.warm) s.budget) (nat_lt s.cold s.capacity) (nat_lt 0 (length s.warm)) e

full_topped : (c : Probe) (s : ShardState) → IsShard s → is_pick c ≡ true → probe_found c s ≡ None → is_topped (after_probe c s) ≡ true
full_topped (Affine of) s sound pick none = absurd (true≢false (sym pick))
full_topped (Pick want) s sound pick none = go (choice want s) refl (affine_choice want s) refl
  where
    go : (o : Option Choice) → choice want s ≡ o → (a : Option Choice) → affine_choice want s ≡ a → is_topped (after_pick want s) ≡ true
    go (Some k) e a f = absurd (cc)
    go None e (Some k) f = absurd (let z : choice want s ≡ Some k = ap (λ (r : Option Choice). option_or r (choice_of_rest s)) f in cc)
    go None e None f =
        let z : choice_of_rest s ≡ None = ap (λ (r : Option Choice). option_or r (choice_of_rest s)) (sym f) ∙ e in
        let n = no_cold s z in
        let h = sound.cold_at_most in
        let t : (s.cold == s.capacity) ≡ true = grind (arith, nat_tests) in
        rw e t

-- a pick by affinity alone takes a slot that was used before
affine_cold : (c : Probe) (s : ShardState) → is_pick c ≡ false → (after_probe c s).cold ≡ s.cold
affine_cold (Pick want) s pick = absurd (true≢false pick)
affine_cold (Affine of) s pick = go (last_position (is_affine of) s.warm)
  where
    go : (o : Option ℕ) → (option_map_or (after_choice None s) (option_map warm_at o) (record s { affine_misses = (s.affine_misses + 1) % 2 ^ 64 })).cold ≡ s.cold
    go None = refl
    go (Some i) = refl

module _ {T : Type 0} (m : Meaning T) (shard : T → Option ShardState) (means : MeansShard m shard) (made : List T) (limits : List ℕ) where
  -- one probe
  module _ (c : Probe) (p : ℕ) (r : Option ℕ) (v w : View T) (at' : ProbedAt m shard made limits c p r v w) where
    sound_here : IsShard at'.state
    sound_here = means.sound made limits p at'.held.before at'.state at'.held.was at'.held.told.stands.fits

    abbrev before_counts : m.counts at'.held.before ≡ shard_counts at'.state
    before_counts = means.counts at'.held.before at'.state at'.held.was

    abbrev after_counts : m.counts at'.held.after ≡ shard_counts (after_probe c at'.state)
    after_counts = means.counts at'.held.after (after_probe c at'.state) at'.held.is

    picks_here : Picks at'.state (after_probe c at'.state) r
    picks_here = subst (Picks at'.state (after_probe c at'.state)) (sym at'.found) (probe_picks c at'.state sound_here)

    pub probe_more : (q i : ℕ) → number (counted q i) v ≤ number (counted q i) w
    probe_more q i = counted_more m p at'.held.before at'.held.after at'.state (after_probe c at'.state) before_counts after_counts v w at'.held.view q i

    cold_small : at'.state.cold < 2 ^ 32
    cold_small = let a = sound_here.cold_at_most in let b = sound_here.small in omega arith

    pub probe_one_cold : OneColdPick v w
    probe_one_cold =
        let k = picks_here in
        let a = k.cold in
        let b = k.one in
        let z = cold_small in
        record {
          place = p;
          here =
              let e = counted_here m p at'.held.before at'.held.after at'.state (after_probe c at'.state) before_counts after_counts v w at'.held.view cold_picks in
              let f = rise_most at'.state.cold (after_probe c at'.state).cold a b (omega arith) in
              omega arith;
          elsewhere = λ q other. counted_elsewhere m p at'.held.before at'.held.after at'.state (after_probe c at'.state) before_counts after_counts v w at'.held.view q cold_picks other;
        }

    pub still_cold : (after_probe c at'.state).cold ≡ at'.state.cold → NoColdPick v w
    still_cold same q =
        let z = cold_small in
        let f : rise at'.state.cold (after_probe c at'.state).cold ≡ 0 = ap (rise at'.state.cold) same ∙ no_rise at'.state.cold (omega arith) in
        ⊎_elim
        (λ (is : q ≡ p). let e = counted_here m p at'.held.before at'.held.after at'.state (after_probe c at'.state) before_counts after_counts v w at'.held.view cold_picks in
        let g : number (counted p cold_picks) w ≡ number (counted p cold_picks) v = omega arith in
        subst (λ (j : ℕ). number (counted j cold_picks) w ≡ number (counted j cold_picks) v) (sym is) g)
        (λ (other : q ≢ p). counted_elsewhere m p at'.held.before at'.held.after at'.state (after_probe c at'.state) before_counts after_counts v w at'.held.view q cold_picks other)
        (cases_eq q p)

    pub probe_rest : KeepsRest v w
    probe_rest = let e = at'.held.view in record { parts = ap (λ z. z.parts) e; limits = ap (λ z. z.limits) e; added = ap (λ z. z.added) e; low = ap (λ z. z.low) e; subtracted = ap (λ z. z.subtracted) e; portions = ap (λ z. z.portions) e }

    pub probe_units : Gains (found_units at'.state.kind r) v w
    probe_units u =
        let k = picks_here in
        let moves : Moves at'.state (after_probe c at'.state) (found_units at'.state.kind r) [] = record { same = at'.held.same; sound = at'.held.sound; cold = k.cold; flow = λ z. let f = k.flow z in omega arith } in
        let e = units_after m shard means made limits p at'.held.before at'.held.after at'.state (after_probe c at'.state) at'.held.was at'.held.is v at'.held.told (found_units at'.state.kind r) [] moves (λ z. omega arith) w at'.held.view u in
        omega arith

    noted : (b : Bool) → m.topped at'.held.after ≡ b → (q : ℕ) → often q v.topped ≤ often q w.topped
    noted true e q = let a : often q w.topped ≡ one_if (q == p) + often q v.topped = ap (λ (z : View T). often q z.topped) at'.held.view ∙ ap (λ b. often q (if b then p ∷ v.topped else v.topped)) e in omega arith
    noted false e q = let a : often q w.topped ≡ often q v.topped = ap (λ (z : View T). often q z.topped) at'.held.view ∙ ap (λ b. often q (if b then p ∷ v.topped else v.topped)) e in omega arith

    pub probe_noted : (q : ℕ) → often q v.topped ≤ often q w.topped
    probe_noted q = noted (m.topped at'.held.after) refl q

  -- one probe that found nothing
  module _ (c : Probe) (p : ℕ) (v w : View T) (at' : ProbedAt m shard made limits c p None v w) where
    pub miss_topped : is_pick c ≡ true → 0 < often p w.topped
    miss_topped pick =
        let e = means.topped at'.held.after (after_probe c at'.state) at'.held.is ∙ full_topped c at'.state (sound_here c p None v w at') pick (sym at'.found) in
        let a : often p w.topped ≡ one_if (p == p) + often p v.topped = ap (λ (z : View T). often p z.topped) at'.held.view ∙ ap (λ b. often p (if b then p ∷ v.topped else v.topped)) e in
        let o : one_if (p == p) ≡ 1 = ap one_if (eq-eqb p p refl) in
        omega arith

    pub miss_no_cold : NoColdPick v w
    miss_no_cold =
        let k : Picks at'.state (after_probe c at'.state) None = picks_here c p None v w at' in
        still_cold c p None v w at' (k.none refl)

    pub miss_counted : number (counted p (miss_count c)) v + 1 ≤ number (counted p (miss_count c)) w
    miss_counted =
        let e = counted_here m p at'.held.before at'.held.after at'.state (after_probe c at'.state) (before_counts c p None v w at') (after_counts c p None v w at') v w at'.held.view (miss_count c) in
        let f = missed_count c at'.state (sound_here c p None v w at') (sym at'.found) in
        omega arith

  -- several that found nothing
  module _ (c : Probe) (place : ℕ → ℕ) where
    pub none_more : (n : ℕ) (v w : View T) → NoneFound m shard made limits c place n v w → (q i : ℕ) → number (counted q i) v ≤ number (counted q i) w
    none_more zero v w e q i = let a : number (counted q i) w ≡ number (counted q i) v = ap (λ (z : View T). number (counted q i) z) e in omega arith
    none_more (suc n) v w (u, before, last) q i = let a = none_more n v u before q i in let b = probe_more c (place n) None u w last q i in omega arith

    pub none_cold : (n : ℕ) (v w : View T) → NoneFound m shard made limits c place n v w → NoColdPick v w
    none_cold zero v w e q = ap (λ (z : View T). number (counted q cold_picks) z) e
    none_cold (suc n) v w (u, before, last) q = miss_no_cold c (place n) u w last q ∙ none_cold n v u before q

    pub none_rest : (n : ℕ) (v w : View T) → NoneFound m shard made limits c place n v w → KeepsRest v w
    none_rest zero v w e = record { parts = ap (λ z. z.parts) e; limits = ap (λ z. z.limits) e; added = ap (λ z. z.added) e; low = ap (λ z. z.low) e; subtracted = ap (λ z. z.subtracted) e; portions = ap (λ z. z.portions) e }
    none_rest (suc n) v w (u, before, last) =
        let a = none_rest n v u before in
        let b = probe_rest c (place n) None u w last in
        record { parts = b.parts ∙ a.parts; limits = b.limits ∙ a.limits; added = b.added ∙ a.added; low = b.low ∙ a.low; subtracted = b.subtracted ∙ a.subtracted; portions = b.portions ∙ a.portions }

    pub none_grows : (n : ℕ) (v w : View T) → NoneFound m shard made limits c place n v w → OnlyGrows v w
    none_grows zero v w e = grows_same v w e
    none_grows (suc n) v w (u, before, last) = grows_both v u w (none_grows n v u before) (grows_after m (place n) last.held.before last.held.after u w last.held.view)

    pub none_missed : (n : ℕ) (v w : View T) → NoneFound m shard made limits c place n v w → (j : ℕ) → j < n → number (counted (place j) (miss_count c)) v + 1 ≤ number (counted (place j) (miss_count c)) w
    none_missed zero v w e j h = absurd (omega arith)
    none_missed (suc n) v w (u, before, last) j h = ⊎_elim
        (λ (less : j < n). let a = none_missed n v u before j less in let b = probe_more c (place n) None u w last (place j) (miss_count c) in omega arith)
        (λ (more : n ≤ j).
        let is : j ≡ n = omega arith in
        let a = none_more n v u before (place n) (miss_count c) in
        let b = miss_counted c (place n) u w last in
        subst (λ (k : ℕ). number (counted (place k) (miss_count c)) v + 1 ≤ number (counted (place k) (miss_count c)) w) (sym is) (omega arith))
        (cases_lt j n)

    pub none_topped : is_pick c ≡ true → (n : ℕ) (v w : View T) → NoneFound m shard made limits c place n v w → (j : ℕ) → j < n → 0 < often (place j) w.topped
    none_topped pick zero v w e j h = absurd (omega arith)
    none_topped pick (suc n) v w (x, before, last) j h = ⊎_elim
        (λ (less : j < n). let a = none_topped pick n v x before j less in let b = probe_noted c (place n) None x w last (place j) in omega arith)
        (λ (more : n ≤ j). let is : j ≡ n = omega arith in subst (λ (k : ℕ). 0 < often (place k) w.topped) (sym is) (miss_topped c (place n) x w last pick))
        (cases_lt j n)

    pub none_units : (n : ℕ) (v w : View T) → NoneFound m shard made limits c place n v w → (u : UnitName) → times u w.units ≡ times u v.units
    none_units zero v w e u = ap (λ (z : View T). times u z.units) e
    none_units (suc n) v w (x, before, last) u = let a = none_units n v x before u in let b = probe_units c (place n) None x w last u in omega arith

  -- a shard that is found at one of these places is of their kind
  kind_there : (places : ShardPlaces) (all : AreShards m shard made limits places) (c : Probe) (p : ℕ) (r : Option ℕ) (v w : View T) (at' : ProbedAt m shard made limits c p r v w) → places.first ≤ p → p < places.first + places.count → at'.state.kind ≡ places.kind
  kind_there places all c p r v w at' low high =
      let o = all p at'.held.before low high at'.held.told.stands.fits in
      let is : at'.state ≡ o.state = same_state (shard at'.held.before) at'.state o.state at'.held.was o.is in
      ap (λ z. z.kind) is ∙ o.kind
    where
      same_state : (q : Option ShardState) (a b : ShardState) → q ≡ Some a → q ≡ Some b → a ≡ b
      same_state q a b e f = let g : Some a ≡ Some b = sym e ∙ f in cc

  module _ (places : ShardPlaces) (home : ℕ) (begins : home < places.count) (c : Probe) where
    reached : (p : ℕ) → places.first ≤ p → p < places.first + places.count → (j : ℕ) × (j < places.count) × (round_place places home j ≡ p)
    reached p low high = ⊎_elim
        (λ (less : p < places.first + home). (p + places.count - (places.first + home), omega arith, grind (arith, nat_tests)))
        (λ (more : places.first + home ≤ p). (p - (places.first + home), omega arith, grind (arith, nat_tests)))
        (cases_lt p (places.first + home))

    within : (j : ℕ) → j < places.count → (places.first ≤ round_place places home j) × (round_place places home j < places.first + places.count)
    within j h = (grind (arith, nat_tests), grind (arith, nat_tests))

    pub round_missed : (v w : View T) → NoneFound m shard made limits c (round_place places home) places.count v w → AllMissed places (miss_count c) v w
    round_missed v w none p low high =
        let r = reached p low high in
        subst (λ (k : ℕ). number (counted k (miss_count c)) v + 1 ≤ number (counted k (miss_count c)) w) r.2 (none_missed c (round_place places home) places.count v w none r.0 r.1)

    pub round_rest : (r : Option ℕ) (v w : View T) → IsRound m shard made limits c (round_place places home) places.count r v w → KeepsRest v w
    round_rest None v w none = none_rest c (round_place places home) places.count v w none
    round_rest (Some n) v w (i, h, u, none, last) =
        let a = none_rest c (round_place places home) i v u none in
        let b = probe_rest c (round_place places home i) (Some n) u w last in
        record { parts = b.parts ∙ a.parts; limits = b.limits ∙ a.limits; added = b.added ∙ a.added; low = b.low ∙ a.low; subtracted = b.subtracted ∙ a.subtracted; portions = b.portions ∙ a.portions }

    pub round_cold : (r : Option ℕ) (v w : View T) → IsRound m shard made limits c (round_place places home) places.count r v w → OneColdPick v w
    round_cold None v w none = let a = none_cold c (round_place places home) places.count v w none in record { place = 0; here = let b = a 0 in omega arith; elsewhere = λ p other. a p }
    round_cold (Some n) v w (i, h, u, none, last) =
        let a = none_cold c (round_place places home) i v u none in
        let b = probe_one_cold c (round_place places home i) (Some n) u w last in
        record { place = b.place; here = let e = a b.place in let f = b.here in omega arith; elsewhere = λ p other. b.elsewhere p other ∙ a p }

    pub round_none_cold : (r : Option ℕ) (v w : View T) → r ≡ None → IsRound m shard made limits c (round_place places home) places.count r v w → NoColdPick v w
    round_none_cold None v w e none = none_cold c (round_place places home) places.count v w none
    round_none_cold (Some n) v w e none = absurd (cc)

    pub round_affine_cold : (r : Option ℕ) (v w : View T) → is_pick c ≡ false → IsRound m shard made limits c (round_place places home) places.count r v w → NoColdPick v w
    round_affine_cold None v w affine none q = none_cold c (round_place places home) places.count v w none q
    round_affine_cold (Some n) v w affine (i, h, u, none, last) q = still_cold c (round_place places home i) (Some n) u w last (affine_cold c last.state affine) q ∙ none_cold c (round_place places home) i v u none q

    pub round_grows : (r : Option ℕ) (v w : View T) → IsRound m shard made limits c (round_place places home) places.count r v w → OnlyGrows v w
    round_grows None v w none = none_grows c (round_place places home) places.count v w none
    round_grows (Some n) v w (i, h, u, none, last) = grows_both v u w (none_grows c (round_place places home) i v u none) (grows_after m (round_place places home i) last.held.before last.held.after u w last.held.view)

    pub round_none_missed : (r : Option ℕ) (v w : View T) → r ≡ None → IsRound m shard made limits c (round_place places home) places.count r v w → AllMissed places (miss_count c) v w
    round_none_missed None v w e none = round_missed v w none
    round_none_missed (Some n) v w e none = absurd (cc)

    pub round_topped : (r : Option ℕ) (v w : View T) → r ≡ None → is_pick c ≡ true → IsRound m shard made limits c (round_place places home) places.count r v w → AllTopped places w
    round_topped (Some n) v w e pick none p low high = absurd (cc)
    round_topped None v w e pick none p low high = let r = reached p low high in subst (λ (k : ℕ). 0 < often k w.topped) r.2 (none_topped c (round_place places home) pick places.count v w none r.0 r.1)

    pub round_units : AreShards m shard made limits places → (r : Option ℕ) (v w : View T) → IsRound m shard made limits c (round_place places home) places.count r v w → Gains (found_units places.kind r) v w
    round_units all None v w none u = let a = none_units c (round_place places home) places.count v w none u in omega arith
    round_units all (Some n) v w (i, h, x, none, last) u =
        let a = none_units c (round_place places home) i v x none u in
        let b = probe_units c (round_place places home i) (Some n) x w last u in
        let o = within i h in
        let k = kind_there places all c (round_place places home i) (Some n) x w last o.0 o.1 in
        let e : times u (found_units last.state.kind (Some n)) ≡ times u (found_units places.kind (Some n)) = ap (λ (z : SlotKind). times u (found_units z (Some n))) k in
        omega arith

-- a call that leaves the counts
pub same_counts : {T : Type 0} (m : Meaning T) (p : ℕ) (x y : T) (s t : ShardState) → m.counts x ≡ shard_counts s → m.counts y ≡ shard_counts t → IsShard s → shard_counts t ≡ shard_counts s → (v w : View T) → w ≡ put_view m p x y v → KeepsCounts v w
same_counts m p x y s t before after sound same v w put q i =
    let e = counted_after m p x y s t before after v w put q i in
    let n = small_counts s sound i in
    let z : rise (slice_index (shard_counts s) i) (slice_index (shard_counts t) i) ≡ 0 = ap (λ (l : List ℕ). rise (slice_index (shard_counts s) i) (slice_index l i)) same ∙ no_rise (slice_index (shard_counts s) i) n in
    let a = at_most (q == p) (rise (slice_index (shard_counts s) i) (slice_index (shard_counts t) i)) in
    omega arith

pub rest_after : {T : Type 0} (m : Meaning T) (p : ℕ) (x y : T) (v w : View T) → w ≡ put_view m p x y v → KeepsRest v w
rest_after m p x y v w e = record { parts = ap (λ z. z.parts) e; limits = ap (λ z. z.limits) e; added = ap (λ z. z.added) e; low = ap (λ z. z.low) e; subtracted = ap (λ z. z.subtracted) e; portions = ap (λ z. z.portions) e }

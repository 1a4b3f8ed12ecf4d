-- A look at a part leaves a seat what it had, and the call that it drives.
use Rattle.std.proofs.Common.{◌≡◌, ℕ, ◌+◌, ◌-◌, ◌^◌, ◌<◌, ◌≤◌, Bool, true, false, zero, suc, List, [], ◌∷◌, ◌++◌, length, min, drop, refl, sym, ap, subst, ◌∙◌, arith, Option, Some, slice_index, if◌then◌else◌, unwrap_or}
use Rattle.std.specs.Prelude.{slice_index_or}
use Rattle.pool_pages.specs.MakerTold.{MakerTold}
use Rattle.pool_hall.specs.Meaning.{Meaning}
use Rattle.pool_hall.specs.Seat.{view}
use Rattle.pool_hall.specs.Step.{Taken, MayPut, moved, put_view}
use Rattle.pool_hall.specs.Sum.{often, total}
use Rattle.pool_hall.specs.Tally.{counted, rise}
use Rattle.pool_hall.specs.Unit.{times, pick_of}
use Rattle.pool_hall.specs.declared.unit_name.SlotKind.{SlotKind}
use Rattle.pool_hall.specs.declared.unit_name.UnitName.{UnitName}
use Rattle.pool_hall.specs.declared.view.View.{View}
use Rattle.pool_hall.proofs.Hands.{times_moved}
use Rattle.pool_hall.proofs.Totals.{total_append}
use Rattle.pool_slots.specs.Plans.{Role, role_at, shard_role, slots_at}
use Rattle.pool_slots.specs.SlotQueues.{same_kind}
use Rattle.pool_slots.specs.declared.part.PoolPart.{PoolPart}
use Rattle.pool_slots.specs.declared.part.PoolPart.TheVariants as part
use Rattle.pool_slots.specs.declared.plan.Allocator.{Allocator}
use Rattle.pool_alloc.specs.BetweenSteps.{IsPartFor}
use Rattle.pool_alloc.specs.PoolTotals.{warm_in}
use Rattle.pool_alloc.specs.declared.pool_core.Settings.{Settings}
use Rattle.pool_alloc.proofs.PlanPlaces.{shard_inside}
use Rattle.pool_alloc.specs.declared.frame.Frame.{Frame}
use Rattle.pool_alloc.specs.declared.frame.Outcome.{Outcome}
use Rattle.pool_driver.specs.Driving.{Given, IsDriven, counter_number, counter_of}
use Rattle.pool_driver.specs.Looking.{AreNumbersAt, AreOfAll, AreOfShards, AreSeenFrom, HasLooked, IsCounted, IsSumOf, slots_among}
use Rattle.pool_driver.specs.Placed.{About, about_made, pool_meaning}
use Rattle.pool_driver.specs.Pools.{IsPool}
use Rattle.pool_driver.specs.declared.looking.WarmSlots.{WarmSlots}
use Rattle.pool_driver.proofs.Holding.{put_holds}
use Rattle.pool_driver.proofs.Multisets.{same_totals}

-- no count rises where it stays
pub rise_none : (n : ℕ) → n < 2 ^ 64 → rise n n ≡ 0
rise_none n small = omega (arith, small)

-- A part that was taken may be put back as it is,
module _ {T : Type 0} (m : Meaning T) (made : List T) (limits : List ℕ) (p : ℕ) (x : T) (v : View T) (told : Taken m made limits p x v) where
  same_units : (u : UnitName) → times u (moved m x x v.units) ≡ times u v.units
  same_units u = omega (arith, times_moved m x x v.units u (omega arith))

  pub may_put_same : MayPut m made limits p x x v.units
  may_put_same = record {
    stands = told.stands;
    paid = λ u. omega arith;
    beside = λ u region some'. omega (arith, same_units u, same_units (pick_of u), told.beside u region (omega (arith, some', same_units u)));
    topped = λ is. is;
    steady = refl;
    rises = λ steady i. omega arith;
  }

  -- and then the seat has looked at it.
  pub looked_here : (w : View T) → w ≡ put_view m p x x v → HasLooked v w
  looked_here w is = record {
    portions = ap (λ (z : View T). z.portions) is;
    limits = ap (λ (z : View T). z.limits) is;
    units = λ t. ap (λ (z : View T). total t z.units) is ∙ same_totals (moved m x x v.units) v.units same_units t;
    added = ap (λ (z : View T). z.added) is;
    low = ap (λ (z : View T). z.low) is;
    subtracted = ap (λ (z : View T). z.subtracted) is;
    rises = λ each none. omega (arith, ap (λ (z : View T). total each z.rises) is, none (record { place = p; before = m.counts x; after = m.counts x }) (λ i. rise_none (slice_index (m.counts x) i) (told.stands.small i)));
    noted = (put_holds m p x x v w is).noted;
  }

-- Nothing is a look, and two looks are one.
pub not_looked : {T : Type 0} (v : View T) → HasLooked v v
not_looked v = record {
  portions = refl;
  limits = refl;
  units = λ t. refl;
  added = refl;
  low = refl;
  subtracted = refl;
  rises = λ each none. refl;
  noted = λ q. omega arith;
}

pub looked_on : {T : Type 0} (u v w : View T) → HasLooked u v → HasLooked v w → HasLooked u w
looked_on u v w a b = record {
  portions = b.portions ∙ a.portions;
  limits = b.limits ∙ a.limits;
  units = λ t. b.units t ∙ a.units t;
  added = b.added ∙ a.added;
  low = b.low ∙ a.low;
  subtracted = b.subtracted ∙ a.subtracted;
  rises = λ each none. b.rises each none ∙ a.rises each none;
  noted = λ q. omega (arith, a.noted q, b.noted q);
}

-- A seat that looks drives on what it drove.
pub driven_looked : {T P H : Type 0} (places : ℕ) (g : Given) (v w : View T) (f : Frame P H) (o : Option (Outcome P H)) → HasLooked v w → IsDriven places g v f o → IsDriven places g w f o
driven_looked places g v w f o looked driven = record {
  frame = driven.frame;
  keeps = driven.keeps;
  answer = driven.answer;
  carries = record { units = λ t. looked.units t ∙ driven.carries.units t; beside = driven.carries.beside };
  counted = λ k. omega (
    arith,
    driven.counted k,
    ap (often (counter_number (counter_of k))) looked.added,
    ap (often (counter_number (counter_of k))) looked.subtracted,
  );
  stands = driven.stands;
}

bounded : (b : Bool) (n most : ℕ) → n ≤ most → (if b then n else 0) ≤ most
bounded true n most within = within
bounded false n most within = omega arith

-- A shard has no more warm slots than slots.
warm_few : {P H : Type 0} (maker : MakerTold) (s : Settings) (a : Allocator) (j : ℕ) (kind : SlotKind) (x : PoolPart P H) → IsPartFor maker s (shard_role a j) x → warm_in kind x ≤ slots_at a j
warm_few maker s a j kind (part.Shard shard) is = bounded (same_kind kind shard.kind) (length shard.warm) (slots_at a j) (omega (arith, is.sound.total, is.sound.cold_at_most, is.capacity))
warm_few maker s a j kind (part.Memory cell) is = absurd is
warm_few maker s a j kind (part.Table cell) is = absurd is
warm_few maker s a j kind (part.Stack cell) is = absurd is
warm_few maker s a j kind (part.Queue queue) is = absurd is
warm_few maker s a j kind (part.Heaps heaps) is = absurd is

-- So what is read at the place of a shard is no more than its slots.
pub few_at : {T P H : Type 0} (about : T → About) (inner : T → PoolPart P H) (made : List T) (limits : List ℕ) (a : About) → about_made about made ≡ Some a → (p : ℕ) (allocator : Allocator) (j : ℕ) (kind : SlotKind) (seen : WarmSlots) → role_at a.plan p ≡ shard_role allocator j → (base : View T) → AreNumbersAt (pool_meaning about inner) inner made limits base kind p seen → seen.slots ≤ slots_at allocator j
few_at about inner made limits a of p allocator j kind seen role base there =
    let same : about there.part ≡ a = ap (λ (o : Option About). unwrap_or o a) (sym there.told.stands.fits.of ∙ of) in
    let stands : IsPartFor a.maker a.settings (role_at a.plan p) (inner there.part) = subst (λ (b : About). IsPartFor b.maker b.settings (role_at b.plan p) (inner there.part)) same there.told.stands.fits.part in
    let here : IsPartFor a.maker a.settings (shard_role allocator j) (inner there.part) = subst (λ (r : Role). IsPartFor a.maker a.settings r (inner there.part)) role stands in
    omega (arith, there.slots, warm_few a.maker a.settings allocator j kind (inner there.part) here)

-- The place of a shard is one of the pool's.
pub shard_there : (a : About) (places : ℕ) (p : ℕ) (allocator : Allocator) (j : ℕ) → IsPool a places → role_at a.plan p ≡ shard_role allocator j → (p < places) × (p < 2 ^ 32)
shard_there a places p allocator j pool role =
    let inside : p < places = shard_inside a.plan places p pool.plan (record { allocator = allocator; index = j; role = role }) in
    (inside, omega (arith, inside, pool.plan.small))

-- Some allocators are the first, and the others.
pub first_of : (all : List Allocator) (i j : ℕ) (a : Allocator) → j ≡ i + 1 → ((d : Allocator) → a ≡ slice_index_or all i d) → i < length all → drop i all ≡ a ∷ drop j all
first_of [] i j a next is inside = absurd (omega (arith, inside))
first_of (b ∷ all) zero zero a next is inside = absurd (omega (arith, next))
first_of (b ∷ all) zero (suc zero) a next is inside = ap (λ (x : Allocator). x ∷ all) (sym (is b))
first_of (b ∷ all) zero (suc (suc j)) a next is inside = absurd (omega (arith, next))
first_of (b ∷ all) (suc i) zero a next is inside = absurd (omega (arith, next))
first_of (b ∷ all) (suc i) (suc j) a next is inside = first_of all i j a (omega (arith, next)) is (omega (arith, inside))

-- Their slots are those of the first, and those of the others.
pub among_from : (all : List Allocator) (i j : ℕ) (a : Allocator) → j ≡ i + 1 → ((d : Allocator) → a ≡ slice_index_or all i d) → i < length all → slots_among (drop i all) ≡ a.capacity + slots_among (drop j all)
among_from all i j a next is inside = ap slots_among (first_of all i j a next is inside)

-- Past the last there is none.
pub none_past : (all : List Allocator) (i : ℕ) → length all ≤ i → drop i all ≡ []
none_past [] zero past = refl
none_past [] (suc i) past = refl
none_past (a ∷ all) zero past = absurd (omega (arith, past))
none_past (a ∷ all) (suc i) past = none_past all i (omega (arith, past))

-- Numbers are added to a sum, one or several.
pub sum_none : IsSumOf [] (record { slots = 0; bytes_resident = 0 })
sum_none = record { slots = omega arith; bytes = omega arith }

pub sum_both : (xs ys : List WarmSlots) (s t r : WarmSlots) → IsSumOf xs s → IsSumOf ys t → r.slots ≡ min (s.slots + t.slots) (2 ^ 32 - 1) → r.bytes_resident ≡ min (s.bytes_resident + t.bytes_resident) (2 ^ 64 - 1) → IsSumOf (xs ++ ys) r
sum_both xs ys s t r first second slots bytes = record {
  slots = omega (arith, slots, first.slots, second.slots, total_append (λ (x : WarmSlots). x.slots) xs ys);
  bytes = omega (arith, bytes, first.bytes, second.bytes, total_append (λ (x : WarmSlots). x.bytes_resident) xs ys);
}

pub sum_last : (xs : List WarmSlots) (x s r : WarmSlots) → IsSumOf xs s → r.slots ≡ min (s.slots + x.slots) (2 ^ 32 - 1) → r.bytes_resident ≡ min (s.bytes_resident + x.bytes_resident) (2 ^ 64 - 1) → IsSumOf (xs ++ x ∷ []) r
sum_last xs x s r first slots bytes = record {
  slots = omega (arith, slots, first.slots, total_append (λ (y : WarmSlots). y.slots) xs (x ∷ []));
  bytes = omega (arith, bytes, first.bytes, total_append (λ (y : WarmSlots). y.bytes_resident) xs (x ∷ []));
}

long_last : (xs : List WarmSlots) (x : WarmSlots) → length (xs ++ x ∷ []) ≡ length xs + 1
long_last [] x = refl
long_last (y ∷ xs) x = omega (arith, long_last xs x)

regrouped : (xs ys zs : List WarmSlots) → (xs ++ ys) ++ zs ≡ xs ++ (ys ++ zs)
regrouped [] ys zs = refl
regrouped (x ∷ xs) ys zs = ap (λ (l : List WarmSlots). x ∷ l) (regrouped xs ys zs)

all_there : (xs : List WarmSlots) → xs ++ [] ≡ xs
all_there [] = refl
all_there (x ∷ xs) = ap (λ (l : List WarmSlots). x ∷ l) (all_there xs)

module _ {T P H : Type 0} (m : Meaning T) (inner : T → PoolPart P H) (made : List T) (limits : List ℕ) (kind : SlotKind) where
  -- What was read since a later view was read since an earlier one.
  rebased : (u v : View T) (p : ℕ) (x : WarmSlots) → HasLooked u v → AreNumbersAt m inner made limits v kind p x → AreNumbersAt m inner made limits u kind p x
  rebased u v p x looked seen = record { moment = seen.moment; looked = looked_on u v seen.moment looked seen.looked; part = seen.part; told = seen.told; slots = seen.slots; bytes = seen.bytes }

  each_rebased : (u v : View T) (p : ℕ) (xs : List WarmSlots) → HasLooked u v → AreSeenFrom m inner made limits v kind p xs → AreSeenFrom m inner made limits u kind p xs
  each_rebased u v p [] looked seen = tt
  each_rebased u v p (x ∷ xs) looked seen = (rebased u v p x looked seen.0, each_rebased u v (p + 1) xs looked seen.1)

  module _ (u v : View T) (looked : HasLooked u v) where
    seen_last : (p q : ℕ) (xs : List WarmSlots) (x : WarmSlots) → q ≡ p + length xs → AreSeenFrom m inner made limits u kind p xs → AreNumbersAt m inner made limits v kind q x → AreSeenFrom m inner made limits u kind p (xs ++ x ∷ [])
    seen_last p q [] x is seen last = (rebased u v p x looked (subst (λ (n : ℕ). AreNumbersAt m inner made limits v kind n x) (omega (arith, is)) last), tt)
    seen_last p q (y ∷ xs) x is seen last = (seen.0, seen_last (p + 1) q xs x (omega (arith, is)) seen.1 last)

  -- Of an allocator's shards the first were read, so many of them,
  abbrev pub SoFar : View T → Allocator → ℕ → WarmSlots → Type 0
  SoFar u a n sum = (seen : List WarmSlots) × ((length seen ≡ n) × (AreSeenFrom m inner made limits u kind a.first_place seen × IsSumOf seen sum))

  -- and one more.
  pub one_more : (u v : View T) (a : Allocator) (n : ℕ) (x s r : WarmSlots) → HasLooked u v → SoFar u a n s → AreNumbersAt m inner made limits v kind (a.first_place + n) x → r.slots ≡ min (s.slots + x.slots) (2 ^ 32 - 1) → r.bytes_resident ≡ min (s.bytes_resident + x.bytes_resident) (2 ^ 64 - 1) → SoFar u a (n + 1) r
  one_more u v a n x s r looked so_far last slots bytes =
      let seen : List WarmSlots = so_far.0 in
      (seen ++ x ∷ [], (omega (arith, long_last seen x, so_far.1.0), (seen_last u v looked a.first_place (a.first_place + n) seen x (omega (arith, so_far.1.0)) so_far.1.1.0 last, sum_last seen x s r so_far.1.1.1 slots bytes)))

  -- Of some allocators the shards of the first were read; once those of the others are, those of all are.
  abbrev pub Others : View T → List Allocator → List Allocator → WarmSlots → Type 0
  Others u all left sum = (seen : List WarmSlots) × (IsSumOf seen sum × ((rest : List WarmSlots) → AreOfAll m inner made limits u kind left rest → AreOfAll m inner made limits u kind all (seen ++ rest)))

  pub next_of : (u v : View T) (all left others : List Allocator) (a : Allocator) (s t r : WarmSlots) → HasLooked u v → left ≡ a ∷ others → Others u all left s → (seen : List WarmSlots) × (AreOfShards m inner made limits v kind a seen × IsSumOf seen t) → r.slots ≡ min (s.slots + t.slots) (2 ^ 32 - 1) → r.bytes_resident ≡ min (s.bytes_resident + t.bytes_resident) (2 ^ 64 - 1) → Others u all others r
  next_of u v all left others a s t r looked is so_far mine slots bytes =
      let seen : List WarmSlots = so_far.0 in
      let own : List WarmSlots = mine.0 in
      let here : AreOfShards m inner made limits u kind a own = record { many = mine.1.0.many; each = each_rebased u v a.first_place own looked mine.1.0.each } in (
        seen ++ own,
        (
          sum_both seen own s t r so_far.1.0 mine.1.1 slots bytes,
          λ rest of'. subst (AreOfAll m inner made limits u kind all) (sym (regrouped seen own rest))
              (so_far.1.1 (own ++ rest) (subst (λ (l : List Allocator). AreOfAll m inner made limits u kind l (own ++ rest)) (sym is) (own, (rest, (refl, (here, of')))))),
        ),
      )

  pub all_of : (u : View T) (all left : List Allocator) (sum : WarmSlots) → left ≡ [] → Others u all left sum → IsCounted m inner made limits u kind all sum
  all_of u all left sum none so_far = record {
    seen = so_far.0;
    all = subst (AreOfAll m inner made limits u kind all) (all_there so_far.0) (so_far.1.1 [] (subst (λ (l : List Allocator). AreOfAll m inner made limits u kind l []) (sym none) refl));
    sum = so_far.1.0;
  }

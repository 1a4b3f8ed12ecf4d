-- Each slot is in one place, since what is given out is counted once.
use Rattle.std.proofs.Common.{◌≡◌, ◌≢◌, ℕ, zero, suc, ◌+◌, ◌<◌, ◌≤◌, Bool, false, List, [], ◌∷◌, Option, Some, refl, sym, ap, ◌∙◌, inl, inr, arith, subst, slice_get, sum_by, IfSome}
use Rattle.pool_run.proofs.Imports.{option_map_or, cases_eq, cases_Bool, true≢false, sum_by-cons, get_or_from_slice_get, slice_get_within, ShardState, is_used, pick_answer, SlotId, MakerTold, part_at, Role, shard_role, cell_role, queue_role, heaps_role, no_role, role_at, home_of, of_kind, SlotName, Allocator, PoolPart, PlainHeap, right_to, queued_count, away_count, shard_in, shard_at, queue_in, IsPartFor, IsPartAt, Settings, right_is_out, out_once, IsShardPlace, name_in, slot_of_shard, sound_shard, picked_inside, used_is_out, picked_was_in, kept_sum, of_units}
use Rattle.pool_slots.specs.declared.part.PoolPart.TheVariants as part
use Rattle.pool_run.specs.Folds.{RunState, HoldsBetween}
use Rattle.pool_run.specs.Placed.{Place, free, in_queue, with_party, times_at, IsIn, IsPicked, SlotsAreInOnePlace, UsedSlotsAreNotPicked}
use Rattle.pool_run.specs.Ties.{held_by_party}
use Rattle.pool_run.specs.declared.running_party.RunningParty.{RunningParty}

-- how much one of a list has
abbrev has_at : {X : Type 0} → (X → ℕ) → List X → ℕ → ℕ
has_at f xs i = option_map_or f (slice_get xs i) 0

-- no one has more than all,
at_most_all : {X : Type 0} (f : X → ℕ) (xs : List X) (i : ℕ) → has_at f xs i ≤ sum_by f xs
at_most_all f [] i = omega arith
at_most_all f (x ∷ xs) zero = omega (arith, sum_by-cons f x xs)
at_most_all f (x ∷ xs) (suc i) = omega (arith, sum_by-cons f x xs, at_most_all f xs i)

-- and neither have two.
two_at_most : {X : Type 0} (f : X → ℕ) (xs : List X) (i j : ℕ) → i ≢ j → has_at f xs i + has_at f xs j ≤ sum_by f xs
two_at_most f [] i j other = omega arith
two_at_most f (x ∷ xs) zero zero other = absurd (other refl)
two_at_most f (x ∷ xs) zero (suc j) other = omega (arith, sum_by-cons f x xs, at_most_all f xs j)
two_at_most f (x ∷ xs) (suc i) zero other = omega (arith, sum_by-cons f x xs, at_most_all f xs i)
two_at_most f (x ∷ xs) (suc i) (suc j) other = omega (arith, sum_by-cons f x xs, two_at_most f xs i j (λ e. other (ap suc e)))

-- Where all have one together, one of them has it.
pub record HasOne {X : Type 0} (f : X → ℕ) (xs : List X) : Type 0 where
  pub at : ℕ
  pub one : has_at f xs at ≡ 1

one_of_all : {X : Type 0} (f : X → ℕ) (xs : List X) → sum_by f xs ≡ 1 → HasOne f xs
one_of_all f [] one = absurd (omega (arith, one))
one_of_all f (x ∷ xs) one =
    elim (cases_eq (f x) 0) [
      | inl none ↦ let rest = one_of_all f xs (omega (arith, one, none, sum_by-cons f x xs)) in record { at = suc rest.at; one = rest.one }
      | inr some ↦ record { at = 0; one = omega (arith, one, some, sum_by-cons f x xs) }
    ]

-- a shard of the pool has the role of one
shard_role_of : (P : Type 0) (maker : MakerTold) (s : Settings) (r : Role) (shard : ShardState) → IsPartFor {P = P} {H = PlainHeap} maker s r (part.Shard shard) → (a : Allocator) × (j : ℕ) × (r ≡ shard_role a j)
shard_role_of P maker s (shard_role a j) shard is = (a, j, refl)
shard_role_of P maker s (cell_role name) shard is = absurd is
shard_role_of P maker s queue_role shard is = absurd is
shard_role_of P maker s (heaps_role n) shard is = absurd is
shard_role_of P maker s no_role shard is = absurd is

module _ {P : Type 0} (maker : MakerTold) (s : RunState P) (k : SlotName) (holds : HoldsBetween maker s) where
  abbrev of_queue : PoolPart P PlainHeap → ℕ
  of_queue x = queued_count (right_to k) (queue_in x).slots

  abbrev of_party : RunningParty P → ℕ
  of_party p = held_by_party p (of_units (right_to k))

  queue_here : (xs : List (PoolPart P PlainHeap)) (p : ℕ) → of_queue (part_at p xs) ≡ has_at of_queue xs p
  queue_here [] p = refl
  queue_here (x ∷ xs) zero = refl
  queue_here (x ∷ xs) (suc p) = queue_here xs p

  all_places : sum_by of_queue s.core.parts + sum_by of_party s.parties ≡ away_count (right_to k) s.core
  all_places = omega (arith, holds.running.whole (of_units (right_to k)), kept_sum (right_to k) s.core)

  once_at_most : sum_by of_queue s.core.parts + sum_by of_party s.parties ≤ 1
  once_at_most = omega (arith, all_places, (out_once maker k s.core holds.running.core).0)

  queue_most : (p : ℕ) → times_at s (in_queue p) k ≤ sum_by of_queue s.core.parts
  queue_most p = omega (arith, queue_here s.core.parts p, at_most_all of_queue s.core.parts p)

  party_most : (i : ℕ) → times_at s (with_party i) k ≤ sum_by of_party s.parties
  party_most i = at_most_all of_party s.parties i

  abbrev used : Bool
  used = is_used (shard_at (home_of s.core.plan k).place s.core) (home_of s.core.plan k).local.0

  -- A slot that is given out is used, and one that is free isn't given out.
  none_out : used ≡ false → away_count (right_to k) s.core ≡ 0
  none_out unused =
      elim (cases_eq (away_count (right_to k) s.core) 0) [
        | inl none ↦ none
        | inr some ↦ absurd (true≢false (sym (right_is_out maker k s.core holds.running.core (omega (arith, some))).used ∙ unused))
      ]

  free_alone : times_at s free k ≡ 1 → away_count (right_to k) s.core ≡ 0
  free_alone one =
      elim (cases_Bool used) [
        | inl is ↦ let none : times_at s free k ≡ 0 = rw is refl in absurd (omega (arith, one, none))
        | inr other ↦ none_out other
      ]

  free_not_out : times_at s free k ≢ 0 → away_count (right_to k) s.core ≡ 0
  free_not_out some =
      elim (cases_Bool used) [
        | inl is ↦ absurd (some (rw is refl))
        | inr other ↦ none_out other
      ]

  -- In two places it can't be, where it is once in one
  apart : (a b : Place) → times_at s a k ≡ 1 → times_at s b k ≢ 0 → b ≡ a
  apart free free one some = refl
  apart free (in_queue p) one some = absurd (some (omega (arith, free_alone one, all_places, queue_most p)))
  apart free (with_party i) one some = absurd (some (omega (arith, free_alone one, all_places, party_most i)))
  apart (in_queue p) free one some = absurd (omega (arith, one, free_not_out some, all_places, queue_most p))
  apart (with_party i) free one some = absurd (omega (arith, one, free_not_out some, all_places, party_most i))
  apart (in_queue p) (in_queue q) one some =
      elim (cases_eq q p) [
        | inl is ↦ ap in_queue is
        | inr other ↦ absurd (some (omega (arith, one, once_at_most, queue_here s.core.parts p, queue_here s.core.parts q, two_at_most of_queue s.core.parts q p other)))
      ]
  apart (with_party j) (with_party i) one some =
      elim (cases_eq i j) [
        | inl is ↦ ap with_party is
        | inr other ↦ absurd (some (omega (arith, one, once_at_most, two_at_most of_party s.parties i j other)))
      ]
  apart (in_queue p) (with_party i) one some = absurd (some (omega (arith, one, once_at_most, queue_most p, party_most i)))
  apart (with_party i) (in_queue p) one some = absurd (some (omega (arith, one, once_at_most, queue_most p, party_most i)))

  is_in : (place : Place) → times_at s place k ≡ 1 → IsIn s k place
  is_in place one = record { once = one; nowhere_else = λ other some. apart place other one some }

  -- and in one it is.
  placed : k.slot < of_kind k.kind s.core.plan.totals → (place : Place) × IsIn s k place
  placed below =
      elim (cases_Bool used) [
        | inl is ↦
            let one : sum_by of_queue s.core.parts + sum_by of_party s.parties ≡ 1 = all_places ∙ used_is_out maker k s.core holds.running.core below is in
            elim (cases_eq (sum_by of_queue s.core.parts) 1) [
              | inl kept ↦ let x = one_of_all of_queue s.core.parts kept in (in_queue x.at, is_in (in_queue x.at) (queue_here s.core.parts x.at ∙ x.one))
              | inr away ↦ let p = one_of_all of_party s.parties (omega (arith, one, away)) in (with_party p.at, is_in (with_party p.at) p.one)
            ]
        | inr other ↦ (free, is_in free (rw other refl))
      ]

  -- What a pick gives is free, in the shard where it is at home.
  not_elsewhere : (x : IsPicked s k) → (x.place ≡ (home_of s.core.plan k).place) × IsIn s k free
  not_elsewhere x =
      let core = holds.running.core in
      let at : part_at x.place s.core.parts ≡ part.Shard x.shard = get_or_from_slice_get s.core.parts x.place (part.Shard x.shard) _ x.there in
      let below = slice_get_within s.core.parts x.place (part.Shard x.shard) x.there in
      let F : PoolPart P PlainHeap → Type 0 = λ y. IsPartAt maker s.core.settings s.core.plan x.place y in
      let role = shard_role_of P maker s.core.settings (role_at s.core.plan x.place) x.shard (subst F at (core.parts x.place below)) in
      let place : IsShardPlace s.core.plan x.place = record { allocator = role.0; index = role.1; role = role.2 } in
      let is : shard_at x.place s.core ≡ x.shard = ap shard_in at in
      let A : ShardState → Type 0 = λ y. pick_answer x.want y ≡ Some x.pick in
      let N : ShardState → Type 0 = λ y. name_in y x.pick.0.0 ≡ k in
      let answer : A (shard_at x.place s.core) = subst A (sym is) x.picked in
      let number : N (shard_at x.place s.core) = subst N (sym is) x.named in
      let sound = sound_shard maker x.place s.core core place in
      let within : x.pick.0.0 < (shard_at x.place s.core).capacity = subst (λ (o : Option (SlotId × ℕ)). IfSome o (λ p. p.0.0 < (shard_at x.place s.core).capacity)) answer (picked_inside x.want (shard_at x.place s.core) sound) in
      let none : away_count (right_to k) s.core ≡ 0 = ap (λ (n : SlotName). away_count (right_to n) s.core) (sym number) ∙ picked_was_in maker x.want x.place x.pick s.core core place answer in
      let slot = slot_of_shard maker x.place x.pick.0.0 s.core core place within in
      let Inside : SlotName → Type 0 = λ n. n.slot < of_kind n.kind s.core.plan.totals in
      let inside : Inside k = subst Inside number slot.inside in (
        slot.home ∙ ap (λ (n : SlotName). (home_of s.core.plan n).place) number,
        elim (cases_Bool used) [
          | inl is' ↦ absurd (omega (arith, none, used_is_out maker k s.core core inside is'))
          | inr other ↦ is_in free (rw other refl)
        ],
      )

-- The laws.
pub slots_in_one_place : (P : Type 0) → SlotsAreInOnePlace P
slots_in_one_place P maker s k holds below = placed maker s k holds below

pub used_not_picked : (P : Type 0) → UsedSlotsAreNotPicked P
used_not_picked P maker s k holds picked = not_elsewhere maker s k holds picked

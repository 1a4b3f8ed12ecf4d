-- A run of several parties: each may turn, and after a turn of one the run goes on.
use Rattle.std.proofs.Common.{ℕ, ◌+◌, ◌<◌, ◌≤◌, List, length, get_or, arith, All, IfSome, remove, sum_by, slice_set, slice_index_or}
use Rattle.pool_run.proofs.Imports.{All-set, All-get_or, sum_by-set, sum_by-remove, sum_by-le-sum_by, get_or-le-sum_by, MakerTold, right_to, region_of, IsGrant, IsSameSize, HasSlots, IsPartitioned, PoolCore, Settings, frame_regions, IsFrame, Plan, SlotName, PlainHeap, of_units}
use Rattle.pool_run.specs.Turns.{Turned}
use Rattle.pool_run.specs.Ties.{held_by_party, IsParty, FitsParty, CanTurn, IsRunning}
use Rattle.pool_run.specs.declared.running_party.RunningParty.{RunningParty}
use Rattle.pool_run.proofs.Parties.{live_regions}
use Rattle.pool_run.proofs.Turned.{HasTurned}
use Rattle.pool_run.proofs.Sounds.{IsSoundTurn, over_size}
use Rattle.pool_run.proofs.Weighed.{held_units}

module _ {P : Type 0} where
  -- A party has no region without its slot.
  party_has_slots : (p : RunningParty P) → HasSlots (held_by_party p)
  party_has_slots p k = omega (arith, frame_regions k p.frame, live_regions k p.live, held_units (region_of k) p, held_units (right_to k) p)

  others_have_slots : (parties : List (RunningParty P)) (i : ℕ) (k : SlotName) (d : RunningParty P) → i < length parties → sum_by (λ p. held_by_party p (of_units (region_of k))) parties + held_by_party (slice_index_or parties i d) (of_units (right_to k)) ≤ sum_by (λ p. held_by_party p (of_units (right_to k))) parties + held_by_party (slice_index_or parties i d) (of_units (region_of k))
  others_have_slots parties i k d below =
      omega (
        arith,
        sum_by-remove (λ p. held_by_party p (of_units (region_of k))) parties i d below,
        sum_by-remove (λ p. held_by_party p (of_units (right_to k))) parties i d below,
        sum_by-le-sum_by (λ p. held_by_party p (of_units (region_of k))) (λ p. held_by_party p (of_units (right_to k))) (remove parties i) (λ p. party_has_slots p k),
      )

  -- What each of the parties has fits what the pool has.
  pub fits_party : (c : PoolCore P PlainHeap) (parties : List (RunningParty P)) (i : ℕ) (d : RunningParty P) → IsPartitioned held_by_party c parties → i < length parties → FitsParty c (slice_index_or parties i d)
  fits_party c parties i d whole below = record {
    once = λ w. omega (arith, whole w, get_or-le-sum_by (λ p. held_by_party p w) parties i d below);
    others = λ k. omega (arith, whole (of_units (right_to k)), whole (of_units (region_of k)), others_have_slots parties i k d below);
  }

  -- Each of them may turn.
  pub can_turn : (maker : MakerTold) (c : PoolCore P PlainHeap) (parties : List (RunningParty P)) (i : ℕ) (d : RunningParty P) → IsRunning maker c parties → i < length parties → CanTurn maker c (slice_index_or parties i d)
  can_turn maker c parties i d running below = record {
    core = running.core;
    party = All-get_or (IsParty maker c) parties i d below running.each;
    fits = fits_party c parties i d running.whole below;
  }

  whole_turned : (c : PoolCore P PlainHeap) (parties : List (RunningParty P)) (i : ℕ) (d : RunningParty P) (t : Turned P) → IsPartitioned held_by_party c parties → i < length parties → HasTurned c (slice_index_or parties i d) t → IsPartitioned held_by_party t.core (slice_set parties i t.party)
  whole_turned c parties i d t whole below turned = λ w. omega (arith, whole w, turned.conserves w, sum_by-set (λ p. held_by_party p w) parties i t.party d below)

  -- A party stays sound over a pool of the same sizes.
  pub party_over : (maker : MakerTold) (c d : PoolCore P PlainHeap) (p : RunningParty P) → IsSameSize c d → IsParty maker c p → IsParty maker d p
  party_over maker c d p size is =
      let Grants : Settings → Plan → Type 0 = λ s plan. All (λ g. IfSome g (IsGrant maker s plan)) p.live in
      let Framed : Settings → Plan → Type 0 = λ s plan. IsFrame maker s plan p.frame in
      record {
        sound = record { frame = over_size Framed c d size is.sound.frame; grants = over_size Grants c d size is.sound.grants };
        to_come = is.to_come;
        place = is.place;
      }

  -- The run goes on after a turn of one of them.
  pub turned_running : (maker : MakerTold) (c : PoolCore P PlainHeap) (parties : List (RunningParty P)) (i : ℕ) (d : RunningParty P) (t : Turned P) → IsRunning maker c parties → i < length parties → HasTurned c (slice_index_or parties i d) t → IsSoundTurn maker t → IsRunning maker t.core (slice_set parties i t.party)
  turned_running maker c parties i d t running below turned sound = record {
    core = sound.core;
    each =
        All-set (IsParty maker t.core) parties i t.party
        (record { sound = sound.party; to_come = turned.to_come; place = turned.place })
        (λ k e inside. party_over maker c t.core (get_or parties k e) turned.size (All-get_or (IsParty maker c) parties k e inside running.each));
    whole = whole_turned c parties i d t running.whole below turned;
  }

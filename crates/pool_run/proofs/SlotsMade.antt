-- Each slot of the pool is counted once at most, and no number past them is.
use Rattle.std.proofs.Common.{◌≡◌, ℕ, ◌<◌, ◌≤◌, ap, inl, inr, arith, nat_lt}
use Rattle.pool_run.proofs.Imports.{cases_lt, lt-ltb, ltb-true, one_at_most, one_true, MakerTold, one_if, right_to, away_count, IsCore, of_kind, SlotName, PlainHeap, PoolCore, none_past, out_once}

-- how many slots of so many have a number
abbrev pub made_slot : ℕ → ℕ → ℕ
made_slot k total = one_if (nat_lt k total)

pub made_once : (k total : ℕ) → made_slot k total ≤ 1
made_once k total = one_at_most (nat_lt k total)

pub made_inside : (k total : ℕ) → 1 ≤ made_slot k total → k < total
made_inside k total some = ltb-true k total (one_true (nat_lt k total) some)

-- what is given out is one of them
pub away_made : {P : Type 0} (maker : MakerTold) (name : SlotName) (c : PoolCore P PlainHeap) → IsCore maker c → away_count (right_to name) c ≤ made_slot name.slot (of_kind name.kind c.plan.totals)
away_made maker name c core =
    elim (cases_lt name.slot (of_kind name.kind c.plan.totals)) [
      | inl below ↦
          let one : made_slot name.slot (of_kind name.kind c.plan.totals) ≡ 1 = ap one_if (lt-ltb name.slot (of_kind name.kind c.plan.totals) below) in
          omega (arith, one, (out_once maker name c core).0)
      | inr past ↦ omega (arith, none_past maker name c core past)
    ]

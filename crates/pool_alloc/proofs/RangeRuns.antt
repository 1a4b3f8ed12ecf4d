-- How many runs of ranges of one slot there are once ranges come and go, and that the ranges of each slot lie together.
use Rattle.std.proofs.Common.{◌≡◌, ℕ, ◌+◌, ◌<◌, ◌≤◌, Bool, true, false, List, [], ◌∷◌, ◌++◌, length, refl, sym, ap, subst, inl, inr, arith, map, if◌then◌else◌}
use Rattle.pool_alloc.proofs.Imports.{cases_Bool, long_by_kind, length-append, ByteRange, QueueKind, QueuedRange, SlotName, behind, Queue, owner, is_of, first_slot, after_append, slot_kind, slot_is, slot_self}
use Rattle.pool_alloc.specs.PageCallAnswers.{Decommits}
use Rattle.pool_alloc.proofs.SlotIdentity.{length_after_run}
use Rattle.pool_alloc.specs.RangeRuns.{runs_after, runs, IsGrouped}

one_or_none : (b : Bool) → (if b then 0 else 1) ≤ 1
one_or_none true = omega arith
one_or_none false = omega arith

-- a range before them begins no run more, or none less than one
runs_after_few : (name : SlotName) (rs : List QueuedRange) → runs_after name rs ≤ runs rs
runs_after_few name [] = omega arith
runs_after_few name (r ∷ rs) = omega (arith, one_or_none (is_of name r))

runs_after_joined : (name : SlotName) (rs more : List QueuedRange) → runs_after name (rs ++ more) ≤ runs_after name rs + runs more
runs_after_joined name [] more = omega (arith, runs_after_few name more)
runs_after_joined name (r ∷ rs) more = omega (arith, runs_after_joined (owner r) rs more)

-- two lists have no more runs together
pub runs_joined : (rs more : List QueuedRange) → runs (rs ++ more) ≤ runs rs + runs more
runs_joined [] more = omega arith
runs_joined (r ∷ rs) more = omega (arith, runs_after_joined (owner r) rs more)

-- without those of a slot at the front, there are no more than where one of that slot stands before them
runs_behind : (name : SlotName) (rs : List QueuedRange) → runs (behind (is_of name) rs) ≤ runs_after name rs
runs_behind name [] = omega arith
runs_behind name (r ∷ rs) =
    elim (cases_Bool (is_of name r)) [
      | inl e ↦
          let rest : runs (behind (is_of name) rs) ≤ runs_after (owner r) rs = subst (λ (n : SlotName). runs (behind (is_of name) rs) ≤ runs_after n rs) (sym (slot_is (owner r) name e)) (runs_behind name rs) in
          rw e (omega (arith, rest))
      | inr e ↦ rw e (omega arith)
    ]

-- One run less is left once the first is decommitted.
pub runs_fewer : (rs : List QueuedRange) → 0 < length rs → runs (behind (is_of (first_slot rs)) rs) + 1 ≤ runs rs
runs_fewer [] some = absurd (omega arith)
runs_fewer (r ∷ rs) some = rw (slot_self (owner r)) (omega (arith, runs_behind (owner r) rs))

-- ranges of one slot are one run
one_run_after : (kind : QueueKind) (slot : ℕ) (ranges : List ByteRange) → runs_after (record { kind = slot_kind kind; slot = slot }) (map (λ r. record { kind = kind; slot = record { 0 = slot }; range = r }) ranges) ≡ 0
one_run_after kind slot [] = refl
one_run_after kind slot (r ∷ rs) =
    let name : SlotName = record { kind = slot_kind kind; slot = slot } in
    rw (slot_self name) (omega (arith, one_run_after kind slot rs))

pub one_run : (kind : QueueKind) (slot : ℕ) (ranges : List ByteRange) → runs (map (λ r. record { kind = kind; slot = record { 0 = slot }; range = r }) ranges) ≤ 1
one_run kind slot [] = omega arith
one_run kind slot (r ∷ rs) = omega (arith, one_run_after kind slot rs)

-- So the ranges of each slot lie together in a queue to which another was appended,
pub grouped_joined : (q more : Queue) → IsGrouped q → IsGrouped more → IsGrouped (after_append q more)
grouped_joined q more first second = omega (arith, runs_joined q.ranges more.ranges, long_by_kind (q.slots ++ more.slots), length-append q.slots more.slots)

-- in one after a run of ranges was decommitted, or that failed,
pub grouped_decommitted : (fault : Bool) (old new : Queue) → Decommits fault old new → IsGrouped old → IsGrouped new
grouped_decommitted true old new faulted grouped =
    let G : List QueuedRange → Type 0 = λ rs. runs rs ≤ length new.slots in
    subst G (sym faulted.ranges) (omega arith)
grouped_decommitted false old new run grouped =
    let G : Queue → Type 0 = λ q. IsGrouped q in
    let name : SlotName = first_slot old.ranges in
    subst G (sym run) (omega (arith, runs_behind name old.ranges, runs_after_few name old.ranges, length_after_run old))

-- no ranges are no runs
pub no_runs : (ranges : List QueuedRange) (n : ℕ) → ranges ≡ [] → runs ranges ≤ n
no_runs ranges n none = omega (arith, ap runs none)

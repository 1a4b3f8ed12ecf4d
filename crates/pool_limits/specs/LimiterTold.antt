-- What a limiter tells of itself, and what a call on it leaves.
use Rattle.std.specs.Prelude.{ℕ, Bool, true, false, Option, Some, None, Result, Ok, Err, ◌⊎◌}
use Rattle.std.specs.Borrow.{MutBor}
use Rattle.std.proofs.Common.{inl, inr}
use Rattle.pool_types.specs.Rising.{risen}
use Rattle.pool_limits.specs.declared.errors.LimiterError.{LimiterError}
use Rattle.pool_limits.specs.Growth.{GrowthRule, always}

-- how often a limiter has answered no, and how often with an error
pub record LimiterCounts : Type 0 where
  pub noes : ℕ
  pub errors : ℕ

-- how many instances, tables and memories a host may make for one store
pub record Quotas : Type 0 where
  pub instances : ℕ
  pub tables : ℕ
  pub memories : ℕ

-- how a limiter decides growth, where it tells that; its quotas and its counts
pub record LimiterTold : Type 0 where
  pub rule : Option GrowthRule
  pub quotas : Quotas
  pub counts : LimiterCounts

-- The counts of a limiter that has refused nothing yet.
abbrev pub no_refusals : LimiterCounts
no_refusals = record { noes = 0; errors = 0 }

-- the quotas where none are set
abbrev pub default_quotas : Quotas
default_quotas = record { instances = 10000; tables = 10000; memories = 10000 }

-- one more error
abbrev pub with_error : LimiterCounts → LimiterCounts
with_error c = record c { errors = risen c.errors }

-- the counts after an answer: a no raises one, an error the other, and a yes neither
abbrev pub counts_after : Result Bool LimiterError → LimiterCounts → LimiterCounts
counts_after (Ok true) c = c
counts_after (Ok false) c = record c { noes = risen c.noes }
counts_after (Err e) c = with_error c

-- the counts after a report: an error raises theirs
abbrev pub counts_after_report : Result (Unit {0}) LimiterError → LimiterCounts → LimiterCounts
counts_after_report (Ok u) c = c
counts_after_report (Err e) c = with_error c

-- a limiter after it gave this answer
abbrev pub after_answer : Result Bool LimiterError → LimiterTold → LimiterTold
after_answer answer t = record t { counts = counts_after answer t.counts }

-- a limiter after it was told of a failure, and gave this answer
abbrev pub after_report : Result (Unit {0}) LimiterError → LimiterTold → LimiterTold
after_report answer t = record t { counts = counts_after_report answer t.counts }

-- what stands for a limiter where there is none
abbrev pub unlimited : LimiterTold
unlimited = record { rule = Some always; quotas = default_quotas; counts = no_refusals }

-- what a limiter tells that keeps all but its answers to growth at the defaults
abbrev pub told_by_default : LimiterCounts → LimiterTold
told_by_default counts = record { rule = None; quotas = default_quotas; counts = counts }

-- what a limiter tells that need not be there
abbrev pub limiter_told : {R : Type 0} → (R → LimiterTold) → Option R → LimiterTold
limiter_told told None = unlimited
limiter_told told (Some limiter) = told limiter

-- what a parameter that is an optional `&mut` leaves behind it when the call is over
abbrev pub option_left : {R : Type 0} → Unit {0} ⊎ ((MutBor R × Unit {0}) ⊎ ⊥) → Option R
option_left (inl none) = None
option_left (inr (inl some)) = Some some.0.now
option_left (inr (inr impossible)) = absurd impossible

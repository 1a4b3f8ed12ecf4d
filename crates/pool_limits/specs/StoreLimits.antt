-- The limits of a store.
use Rattle.std.specs.Prelude.{◌≡◌, false, None, Some}
use Rattle.pool_limits.specs.Growth.{GrowthLimits, limited_by}
use Rattle.pool_limits.specs.LimiterTold.{LimiterCounts, Quotas, LimiterTold, no_refusals, default_quotas}

-- fixed limits on growth, quotas, and how often growth was refused
pub record Limits : Type 0 where
  pub growth : GrowthLimits
  pub quotas : Quotas
  pub counts : LimiterCounts

-- no limit on growth, the default quotas, and nothing refused
abbrev pub default_limits : Limits
default_limits = record {
  growth = record { memory_size = None; table_elements = None; trap_on_grow_failure = false };
  quotas = default_quotas;
  counts = no_refusals;
}

-- These limits limit nothing and have the default quotas.
abbrev pub IsDefault : Limits → Type 0
IsDefault limits = limits ≡ default_limits

-- they tell their rule
abbrev pub told_by_limits : Limits → LimiterTold
told_by_limits l = record { rule = Some (limited_by l.growth); quotas = l.quotas; counts = l.counts }

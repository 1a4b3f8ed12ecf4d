-- The plan that settings lead to.
use Rattle.std.specs.Prelude.{ℕ}
use Rattle.pool_slots.specs.declared.striped_plan.StripedPlanSettings.{StripedPlanSettings}
use Rattle.pool_view_settings.specs.declared.plan.Settings.{Settings}

-- what the plan of a pool of these settings is made of, where its memories lie in so many stripes
abbrev pub plan_settings : Settings → ℕ → StripedPlanSettings
plan_settings s stripes = record {
  totals = record { memory = s.config.now.limits.total_memories; table = s.config.now.limits.total_tables; stack = s.config.now.limits.total_stacks; heap = s.config.now.limits.total_gc_heaps };
  num_stripes = stripes;
  requested_shards = s.shards;
  queues = s.shards;
}

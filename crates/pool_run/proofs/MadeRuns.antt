-- The pool of a run as it is made of an input is sound where no rule of the settings is broken.
use Rattle.std.proofs.Common.{ℕ, sym, subst}
use Rattle.pool_run.proofs.Imports.{IsPageSize, MakerTold, IsWithinRules, within_rules, IsMadeCore, IsCore, PoolCore, made_core, PlainHeap}
use Rattle.pool_run.specs.Agreeing.{IsRunnable}
use Rattle.pool_run.specs.declared.input.Input.{Input}
use Rattle.pool_run.proofs.RulesNamed.{page_sized}

module _ {P : Type 0} where
  pub core_sound : (input : Input) (maker : MakerTold) (c : PoolCore P PlainHeap) → IsRunnable input maker → IsMadeCore maker input.config input.tunables input.offered input.shards c → IsCore maker c
  core_sound input maker c runnable made =
      let page : IsPageSize input.page = page_sized input runnable.rules in
      let rules : IsWithinRules input.config input.tunables input.page input.shards input.offered = within_rules input.config input.tunables input.page input.shards input.offered page runnable.rules in
      let Within : ℕ → Type 0 = λ n. IsWithinRules input.config input.tunables n input.shards input.offered in
      made_core maker input.config input.tunables input.offered input.shards c (subst Within (sym runnable.page) rules) made

-- The first memory or table of which a rule is broken is found from left to right.
use Rattle.std.proofs.Common.{◌≡◌, ℕ, ◌+◌, ◌<◌, ◌≤◌, List, length, drop, get_or, ap, ◌∙◌, sym, Option, Some, None}
use Rattle.pool_alloc.proofs.Imports.{at_drop_more, at_drop_all, Unsupported, option_or}
use Rattle.pool_alloc.specs.Refusals.{first_refused}

module _ {X : Type 0} (rule : X → Option Unsupported) (decls : List X) where
  pub refused_later : (k : ℕ) (d : X) → k < length decls → rule (get_or decls k d) ≡ None → first_refused rule (drop (k + 1) decls) ≡ first_refused rule (drop k decls)
  refused_later k d below none = sym (at_drop_more (first_refused rule) decls k d below ∙ ap (λ o. option_or o (first_refused rule (drop (k + 1) decls))) none)

  pub refused_here : (k : ℕ) (d : X) (u : Unsupported) → k < length decls → rule (get_or decls k d) ≡ Some u → first_refused rule (drop k decls) ≡ Some u
  refused_here k d u below some = at_drop_more (first_refused rule) decls k d below ∙ ap (λ o. option_or o (first_refused rule (drop (k + 1) decls))) some

  pub refused_nowhere : (k : ℕ) → length decls ≤ k → first_refused rule (drop k decls) ≡ None
  refused_nowhere k beyond = at_drop_all (first_refused rule) decls k beyond

-- Neither seat has a unit in the end.
use Rattle.std.proofs.Common.{◌≡◌, ℕ, ◌+◌, List, [], ◌++◌, ap, ◌∙◌, arith}
use Rattle.pool_checks.proofs.Imports.{UnitName, times, view, times_append, none_left}
use Rattle.pool_checks.proofs.allocator_tests.two_threads_take_turns.Goals as goal

none_together : (us ws : List UnitName) → ((u : UnitName) → times u us ≡ 0) → ((u : UnitName) → times u ws ≡ 0) → us ++ ws ≡ []
none_together us ws a b = none_left (us ++ ws) (λ u. let e = times_append u us ws in let x = a u in let y = b u in omega arith)

pub close-shards-requires-clause-units : goal.close-shards-requires-clause-units
close-shards-requires-clause-units g c =
    let ends = c.both-seat in
    let first = ap (λ v. v.units) c.split-other.ensures.left ∙ ap (λ v. v.units) c.in_ok-allocator.ensures.view in
    let second = ap (λ v. v.units) c.split-other.ensures.given in
    ap (λ v. v.units) c.join.ensures.view ∙ none_together _ _ (λ u. ends.ensures.one u ∙ ap (times u) first) (λ u. ends.ensures.other u ∙ ap (times u) second)

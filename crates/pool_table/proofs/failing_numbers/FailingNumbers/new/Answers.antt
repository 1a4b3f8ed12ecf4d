use Rattle.std.proofs.Common.{sym, ap, ◌∙◌, ◌==◌}
use Rattle.pool_table.proofs.Imports.{IsNonDecreasingBy-from_sort, list_any-IsPermutation, list_any}
use Rattle.pool_table.proofs.failing_numbers.FailingNumbers.new.Goals as goal

pub invariant_of-result : goal.invariant_of-result
invariant_of-result c = (
  IsNonDecreasingBy-from_sort (λ x. x) c.sort_unstable.new.self.items c.sort_unstable.ensures.sorted,
  λ n.
      sym (list_any-IsPermutation (λ m. m == n) c.into_vec-sorted.result.items c.sort_unstable.new.self.items c.sort_unstable.ensures.permutation)
      ∙ ap (list_any (λ m. m == n)) (c.into_vec-sorted.ensures ∙ sym c.of-given.ensures),
)

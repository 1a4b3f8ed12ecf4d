use Rattle.std.proofs.Common.{◌≡◌, ◌==◌, ap, sym, ◌∙◌}
use Rattle.std.proofs.lemmas.List.Sorted.{IsNonDecreasingBy-from_sort, list_any-IsPermutation}
use Rattle.std.specs.List.{list_any}
use Rattle.pool_pages.proofs.call_plan.in_rising_order.Goals as goal

pub returns : goal.returns
returns c = record {
  order = IsNonDecreasingBy-from_sort (λ x. x) c.sort_unstable.new.self.items c.sort_unstable.ensures.sorted;
  same = λ n. sym (list_any-IsPermutation (λ m. m == n) c.in_ok-rising.rising.items c.sort_unstable.new.self.items c.sort_unstable.ensures.permutation) ∙ ap (list_any (λ m. m == n)) c.in_ok-rising.ensures.items;
}

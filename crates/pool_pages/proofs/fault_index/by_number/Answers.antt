use Rattle.std.proofs.Common.{◌≡◌, ap, rules, ◌∙◌}
use Rattle.pool_pages.proofs.Imports.{filter, IsNonDecreasingBy-from_sort_by_key, answers_always}
use Rattle.pool_pages.specs.SortedFaults.{has_number}
use Rattle.pool_pages.proofs.SortedFaults.{same_numbers}
use Rattle.pool_pages.proofs.fault_index.by_number.Goals as goal

pub returns : goal.returns
returns c = record {
  order = IsNonDecreasingBy-from_sort_by_key (λ y. y.slot) c.sort_by_key.new.self.items c.in_ok-sort_by_key.ensures.sorted (λ a r q k. search rules);
  same = λ n. same_numbers c.in_ok-sorted.sorted.items c.sort_by_key.new.self.items (c.sort_by_key.ensures.stable (λ y. y.slot) (answers_always _ (λ a r. r ≡ a.0.now.slot) _ (λ f a r q k. search rules))) n ∙ ap (filter (has_number n)) c.in_ok-sorted.ensures.items;
}

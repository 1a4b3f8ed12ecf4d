use Rattle.std.proofs.Common.{ℕ, Bool, List, ap, ◌∙◌, ◌==◌}
use Rattle.pool_table.proofs.Imports.{list_any}
use Rattle.pool_table.proofs.failing_numbers.FailingNumbers.lists.Goals as goal

pub returns-clause-listed : goal.returns-clause-listed
returns-clause-listed c =
    let among : List ℕ → Bool = λ xs. list_any (λ n. n == c.args.number) xs in
    c.is_at.ensures ∙ ap among c.as_slice-2.ensures.value ∙ c.self.invariant.1 c.args.number ∙ ap among c.self.view_is

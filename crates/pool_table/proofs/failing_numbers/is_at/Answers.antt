use Rattle.std.proofs.Common.{◌≡◌, length, false, nat_lt, sym, ◌∙◌, arith}
use Rattle.pool_table.proofs.Imports.{nat_tests}
use Rattle.pool_table.proofs.ListedNumbers.{is_behind, none_behind}
use Rattle.pool_table.proofs.failing_numbers.is_at.Goals as goal

pub returns-then-below-sorted : goal.returns-then-below-sorted
returns-then-below-sorted c = is_behind c.args.sorted.now c.args.below c.args.number c.requires.rising c.requires.below c.if-below-sorted.true

pub returns-else-below-sorted : goal.returns-else-below-sorted
returns-else-below-sorted c =
    let past : nat_lt c.args.below (length c.args.sorted.now) ≡ false = grind (arith, nat_tests, c.if-below-sorted.false) in
    past ∙ sym (none_behind c.args.sorted.now c.args.below c.args.number c.requires.below (omega (arith, c.if-below-sorted.false)))

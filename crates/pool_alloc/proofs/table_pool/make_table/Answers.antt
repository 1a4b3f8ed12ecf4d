use Rattle.std.proofs.Common.{◌∙◌, ap, length, Option, slice_get}
use Rattle.pool_alloc.proofs.Imports.{told_weaker, TableType}
use Rattle.pool_alloc.specs.StepReads.{tables_wanted, under}
use Rattle.pool_alloc.specs.Turns.{stepped}
use Rattle.pool_alloc.proofs.MakeSteps.{table_in_code}
use Rattle.pool_alloc.proofs.ToldElements.{told_there}
use Rattle.pool_alloc.proofs.table_pool.make_table.Goals as goal

pub returns : goal.returns
returns g c =
    let frame = c.args.frame.now in
    let next : Option TableType = slice_get (tables_wanted frame.asked) (length frame.objects.tables.items) in
    let answer = c.make_next_table-making.ensures.0 in
    let makes = c.make_next_table-making.ensures.1 in (
      answer,
      told_weaker _ _ next (λ ty m. m.asks) makes,
      told_weaker _ _ next (λ ty m. m.exchanged) makes,
      λ core.
          c.table_made.ensures (under c.args.settings.now core.plan core) ∙ ap stepped (told_there _ (tables_wanted frame.asked) (length frame.objects.tables.items) c.requires.next.more
          (table_in_code c.args.at c.args.region (under c.args.settings.now core.plan core) frame answer next c.make_next_table-making.result (told_weaker _ _ next (λ ty m. m.is) makes))),
    )

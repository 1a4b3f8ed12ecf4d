use Rattle.std.proofs.Common.{replicate}
use Rattle.pool_table.proofs.Imports.{concat, TellsShaped}
use Rattle.pool_table.specs.Tables.{Rewrites}
use Rattle.pool_table.proofs.static_elements.write_words.Given as goal

abbrev pub invariant-loop-i : goal.invariant-loop-i
invariant-loop-i g l =
    Rewrites l.at (concat (replicate l.i l.word)) (g.P.Pages.told l.initial.region) (g.P.Pages.told l.region) × TellsShaped (g.P.Pages.told l.region)

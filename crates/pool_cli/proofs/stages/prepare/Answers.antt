use Rattle.std.proofs.Common.{sym, ◌∙◌, subst}
use Rattle.pool_cli.specs.Stages.{Prepares}
use Rattle.pool_cli.specs.declared.words.Task.{Task}
use Rattle.pool_cli.proofs.stages.prepare.Goals as goal

pub returns-in-Load : goal.returns-in-Load
returns-in-Load g c =
    let source = g.S.Source.told c.args.source.now in
    let P : Task → Type 0 = λ t. Prepares g.M.Region.Pages.told t source source (g.M.PageMaker.told c.args.pages.now) (g.M.PageMaker.told c.load.new.pages) c.load.result in
    subst P (sym (sym c.task_of.ensures ∙ c.in-Load.is)) (c.load.ensures source)

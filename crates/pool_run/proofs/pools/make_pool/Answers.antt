use Rattle.std.proofs.Common.{false, ◌∙◌}
use Rattle.pool_run.proofs.Makings.{regions_unmade, regions_told, regions_fault}
use Rattle.pool_run.proofs.RulesNamed.{ok_no_fault, rule_no_fault, memory_no_fault}
use Rattle.pool_run.proofs.pools.make_pool.Goals as goal
use Rattle.pool_run.proofs.pools.make_pool.Goals.{in-Ok, in-Err-BadConfig, in-Err-PageFault, in-Err-Memory}

pub returns-clause-own : goal.returns-clause-own
returns-clause-own g c =
    elim c.match-new.branch [
      | in-Ok w ↦ rw w.result-is (regions_unmade c.args.input.now (g.M.PageMaker.told c.args.pages.now).listed false w.in-Ok.ensures.listed)
      | in-Err-BadConfig w ↦ rw w.result-is tt
      | in-Err-PageFault w ↦ rw w.result-is tt
      | in-Err-Memory w ↦ rw w.result-is tt
    ]

pub returns-clause-unlisted : goal.returns-clause-unlisted
returns-clause-unlisted g c =
    elim c.match-new.branch [
      | in-Ok w ↦ rw w.result-is (regions_told c.args.input.now _ (g.M.PageMaker.told c.args.pages.now).plan false (record { same = c.page-page.ensures ∙ c.requires.page; rules = w.in-Ok.ensures.rules }) w.in-Ok.ensures.planned)
      | in-Err-BadConfig w ↦ rw w.result-is tt
      | in-Err-PageFault w ↦ rw w.result-is tt
      | in-Err-Memory w ↦ rw w.result-is tt
    ]

pub returns-clause-fault : goal.returns-clause-fault
returns-clause-fault g c is =
    elim c.match-new.branch [
      | in-Ok w ↦ absurd (ok_no_fault c.match-new.result _ w.result-is is)
      | in-Err-BadConfig w ↦ absurd (rule_no_fault c.match-new.result _ w.result-is is)
      | in-Err-PageFault w ↦
          regions_fault c.args.input.now g.P.Pages.told _ (g.M.PageMaker.told c.args.pages.now) (g.M.PageMaker.told c.new.new.maker)
          (record { same = c.page-page.ensures ∙ c.requires.page; rules = rw w.in-Err-PageFault.field-0-is at w.in-Err-PageFault.ensures.refused }) c.requires.page
          (rw w.in-Err-PageFault.field-0-is at w.in-Err-PageFault.ensures.faults)
          (rw w.in-Err-PageFault.field-0-is at w.in-Err-PageFault.ensures.behind)
          (rw w.in-Err-PageFault.field-0-is at w.in-Err-PageFault.ensures.planned)
      | in-Err-Memory w ↦ absurd (memory_no_fault c.match-new.result w.result-is is)
    ]

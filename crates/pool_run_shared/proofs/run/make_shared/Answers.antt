use Rattle.std.proofs.Common.{◌≡◌, ap, ◌∙◌, subst, sym}
use Rattle.pool_run_shared.proofs.Imports.{LinearMemory, Tunables, Shared, RunFault}
use Rattle.pool_run_shared.specs.Runs.{shared_tunables}
use Rattle.pool_run_shared.specs.Steps.{IsNotMade}
use Rattle.pool_run_shared.proofs.Made.{asked_for, made_as, refused_as}
use Rattle.pool_run_shared.proofs.run.make_shared.Goals as goal

pub making_fault-requires : goal.making_fault-requires
making_fault-requires g c =
    let settings : c.new-tunables.result ≡ shared_tunables = c.new-tunables.ensures ∙ ap (λ (t : Tunables). record { tunables = t; kind = LinearMemory }) c.default.ensures in
    (refused_as Shared c.args.input.now _ _ c.in-Err.error c.shared_type.result c.new-tunables.result c.requires.page c.requires.sized c.requires.valid c.shared_type.ensures settings
    (asked_for c.args.input.now c.shared_type.result _ _ _ _ _ c.requires.valid c.shared_type.ensures c.in-Err.ensures.maker)).0

pub returns-in-Err-clause-err : goal.returns-in-Err-clause-err
returns-in-Err-clause-err g c =
    let settings : c.new-tunables.result ≡ shared_tunables = c.new-tunables.ensures ∙ ap (λ (t : Tunables). record { tunables = t; kind = LinearMemory }) c.default.ensures in
    let N : RunFault → Type 0 = λ f. IsNotMade c.args.input.now (g.M.PageMaker.told c.args.maker.now) (g.M.PageMaker.told c.new.new.maker) f in
    subst N (sym c.making_fault.ensures)
    (refused_as Shared c.args.input.now _ _ c.in-Err.error c.shared_type.result c.new-tunables.result c.requires.page c.requires.sized c.requires.valid c.shared_type.ensures settings
    (asked_for c.args.input.now c.shared_type.result _ _ _ _ _ c.requires.valid c.shared_type.ensures c.in-Err.ensures.maker)).1

pub returns-in-Ok-clause-ok : goal.returns-in-Ok-clause-ok
returns-in-Ok-clause-ok g c =
    let settings : c.new-tunables.result ≡ shared_tunables = c.new-tunables.ensures ∙ ap (λ (t : Tunables). record { tunables = t; kind = LinearMemory }) c.default.ensures in
    made_as c.args.input.now _ _ c.in-Ok.state c.shared_type.result c.new-tunables.result c.requires.page c.requires.valid c.shared_type.ensures settings c.in-Ok.ensures.ok c.in-Ok.ensures.zeros
    (asked_for c.args.input.now c.shared_type.result _ _ _ _ _ c.requires.valid c.shared_type.ensures c.in-Ok.ensures.maker)

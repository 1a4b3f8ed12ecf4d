use Rattle.std.proofs.Common.{◌≡◌, List, true, sym, subst}
use Rattle.pool_run_on_demand.proofs.Imports.{list_all, ModuleInfo, is_built_module, is_valid_module, built_modules, valid_modules}
use Rattle.pool_run_on_demand.proofs.run.run_in_seat.Goals as goal

pub make_calls-requires-clause-valid : goal.make_calls-requires-clause-valid
make_calls-requires-clause-valid g c =
    let Valid : List ModuleInfo → Type 0 = λ modules. list_all is_valid_module modules ≡ true in
    subst Valid (sym c.as_slice-modules.ensures) (valid_modules c.args.input.now c.requires.1.1.1.1.1.1)

pub make_calls-requires-clause-built : goal.make_calls-requires-clause-built
make_calls-requires-clause-built g c =
    let Built : List ModuleInfo → Type 0 = λ modules. list_all is_built_module modules ≡ true in
    subst Built (sym c.as_slice-modules.ensures) (built_modules c.args.input.now c.requires.1.1.1.1.1.0)

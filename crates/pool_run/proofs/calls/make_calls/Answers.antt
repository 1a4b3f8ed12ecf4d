use Rattle.std.proofs.Common.{◌≡◌, ℕ, Err, Some, length, ap, refl, ◌∙◌, subst, arith, false, IfSome, slice_get}
use Rattle.pool_run.proofs.Imports.{length-take-le, take_all, slice_get_read, MakerTold}
use Rattle.pool_run.specs.Made.{call_made, calls_made}
use Rattle.pool_run.specs.Runs.{ModuleFaults, module_listed}
use Rattle.pool_run.specs.declared.output.RunFault.TheVariants.{PageFault}
use Rattle.pool_run.proofs.Makings.{module_of_all, one_unlisted, none_listed}
use Rattle.pool_run.proofs.CallsMade.{one_more}
use Rattle.pool_run.proofs.calls.make_calls.Goals as goal

pub returns-in-Err-clause-fault : goal.returns-in-Err-clause-fault
returns-in-Err-clause-fault g c is =
    let fault : c.in-Err.fault ≡ PageFault = cc in
    let number : c.len.result ≡ c.loop-info.info-index = omega (arith, c.len.ensures, c.loop-info.invariant.count) in
    let told : MakerTold = g.M.PageMaker.told c.args.maker.now in
    let new : MakerTold = g.M.PageMaker.told c.make_call.new.maker in
    let M : MakerTold → Type 0 = λ m. ModuleFaults c.args.tunables.now m.page c.len.result c.info-item.result m new in
    let N : ℕ → Type 0 = λ k. ModuleFaults c.args.tunables.now told.page k c.info-item.result told new in
    module_of_all c.args.tunables.now told.page c.args.modules.now c.loop-info.info-index c.info-item.result told new c.loop-info-test.true c.info-item.is (subst N number (subst M c.loop-info.invariant.maker (c.in-Err.ensures.fault (ap (λ e. Err e) fault))))

pub returns-clause-own : goal.returns-clause-own
returns-clause-own g c =
    let told : MakerTold = g.M.PageMaker.told c.args.maker.now in
    none_listed c.args.tunables.now told.page c.args.modules.now c.loop-info.info-index (Some told.listed) (omega (arith, c.loop-info-test.false)) c.loop-info.invariant.own

pub returns-clause-unlisted : goal.returns-clause-unlisted
returns-clause-unlisted g c =
    let told : MakerTold = g.M.PageMaker.told c.args.maker.now in
    none_listed c.args.tunables.now told.page c.args.modules.now c.loop-info.info-index told.plan (omega (arith, c.loop-info-test.false)) c.loop-info.invariant.unlisted

pub loop-info-preserved : goal.loop-info-preserved
loop-info-preserved g c =
    let number : c.len.result ≡ c.loop-info.info-index = omega (arith, c.len.ensures, c.loop-info.invariant.count) in
    let M : MakerTold → Type 0 = λ m. c.in-Ok-make_call.call ≡ call_made c.args.tunables.now m.page c.len.result c.info-item.result in
    let N : ℕ → Type 0 = λ k. c.in-Ok-make_call.call ≡ call_made c.args.tunables.now (g.M.PageMaker.told c.args.maker.now).page k c.info-item.result in
    let told : MakerTold = g.M.PageMaker.told c.args.maker.now in
    let U : ℕ → Type 0 = λ k. IfSome told.plan (λ p. module_listed c.args.tunables.now told.page k p c.info-item.result ≡ false) in
    let V : MakerTold → Type 0 = λ m. IfSome m.plan (λ p. module_listed c.args.tunables.now m.page c.len.result p c.info-item.result ≡ false) in
    let O : ℕ → Type 0 = λ k. module_listed c.args.tunables.now told.page k told.listed c.info-item.result ≡ false in
    let W : MakerTold → Type 0 = λ m. module_listed c.args.tunables.now m.page c.len.result m.listed c.info-item.result ≡ false in
    let there : slice_get c.args.modules.now c.loop-info.info-index ≡ Some c.info-item.result = slice_get_read c.args.modules.now (length c.args.modules.now) c.loop-info.info-index c.info-item.result refl c.loop-info-test.true c.info-item.is in
    let this = subst N number (subst M c.loop-info.invariant.maker c.in-Ok-make_call.ensures.call) in
    record {
      count = omega (arith, c.in-Ok-push.ensures.len, c.loop-info.invariant.count);
      made = one_more c.args.tunables.now (g.M.PageMaker.told c.args.maker.now).page c.args.modules.now c.loop-info.info-index c.info-item.result c.loop-info.calls.items c.push.new.self.items c.in-Ok-make_call.call c.loop-info-test.true (length-take-le c.loop-info.info-index c.args.modules.now (omega (arith, c.loop-info-test.true))) c.info-item.is c.loop-info.invariant.made this c.in-Ok-push.ensures.items;
      own = one_unlisted c.args.tunables.now told.page c.args.modules.now c.loop-info.info-index c.info-item.result (Some told.listed) there c.loop-info.invariant.own (subst O number (subst W c.loop-info.invariant.maker c.in-Ok-make_call.ensures.own));
      unlisted = one_unlisted c.args.tunables.now told.page c.args.modules.now c.loop-info.info-index c.info-item.result told.plan there c.loop-info.invariant.unlisted (subst U number (subst V c.loop-info.invariant.maker c.in-Ok-make_call.ensures.unlisted));
      maker = c.in-Ok-make_call.ensures.same ∙ c.loop-info.invariant.maker;
      borrows = c.in-Ok-make_call.ensures.borrows ∙ c.loop-info.invariant.borrows;
    }

pub returns-clause-calls : goal.returns-clause-calls
returns-clause-calls g c =
    c.loop-info.invariant.made ∙ ap (calls_made c.args.tunables.now (g.M.PageMaker.told c.args.maker.now).page 0) (take_all c.loop-info.info-index c.args.modules.now (omega (arith, c.loop-info-test.false)))

use Rattle.std.proofs.Common.{ℕ, Ok, Some, sym, subst}
use Rattle.pool_memory.specs.Growing.{IsAllowedGrowth, past_room}
use Rattle.pool_memory.proofs.Growths.{allowed_ok, allowed_err}
use Rattle.pool_memory.proofs.local_memory.LocalMemory.grow_allowed.Goals as goal

pub returns-in-Ok-clause-growth : goal.returns-in-Ok-clause-growth
returns-in-Ok-clause-growth g c =
    let old = c.args.self.now in
    let l = c.args.limiter.now in
    let told = g.R.ResourceLimiter.told in
    let leads = g.R.ResourceLimiter.leads in
    let P : ℕ → Type 0 = λ n. IsAllowedGrowth told leads (past_room c.args.size old) c.args.size (old.linear.size, c.args.size) old.linear c.grow_pages.new.self.linear (g.L.RuntimeLinearMemory.maker_told c.args.maker.now) (g.L.RuntimeLinearMemory.maker_told c.grow_pages.new.maker) l l (Ok (Some (n, c.args.size))) in
    subst P (sym c.byte_size-old.ensures.value) (allowed_ok told leads c.args.size (old.linear.size, c.args.size) old.linear c.grow_pages.new.self.linear (g.L.RuntimeLinearMemory.maker_told c.args.maker.now) (g.L.RuntimeLinearMemory.maker_told c.grow_pages.new.maker) (past_room c.args.size old) l c.grow_pages.result c.in-Ok.field-0 c.in-Ok.is c.grow_pages.ensures.asked)

pub returns-in-Err-clause-growth : goal.returns-in-Err-clause-growth
returns-in-Err-clause-growth g c =
    let old = c.args.self.now in
    allowed_err g.R.ResourceLimiter.told g.R.ResourceLimiter.leads c.args.size (old.linear.size, c.args.size) old.linear c.grow_pages.new.self.linear (g.L.RuntimeLinearMemory.maker_told c.args.maker.now) (g.L.RuntimeLinearMemory.maker_told c.grow_pages.new.maker) (past_room c.args.size old) c.args.limiter.now c.report_failure.new.limiter c.grow_pages.result c.in-Err.error c.report_failure.result
    c.in-Err.is c.grow_pages.ensures.asked c.report_failure.ensures

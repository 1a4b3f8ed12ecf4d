use Rattle.std.proofs.Common.{refl, subst}
use Rattle.pool_alloc.specs.StepTable.{flush_step}
use Rattle.pool_alloc.specs.Turns.{resting}
use Rattle.pool_alloc.specs.declared.frame.Frame.{Frame}
use Rattle.pool_alloc.specs.declared.frame.Phase.TheVariants.{Idle, Flush}
use Rattle.pool_alloc.proofs.FlushCalls.{FlushesTo}
use Rattle.pool_alloc.proofs.StepsAsRows.{alone}
use Rattle.pool_alloc.proofs.pool_core.closing.flush_resting.Goals as goal

pub returns : goal.returns
returns g c told core =
    let F : Frame g.row.P.Denot g.row.H.Denot → Type 0 = λ f. FlushesTo (flush_step f.local f.freed.items) f c.flush_alone.new.frame c.flush_alone.new.outcome in
    let flushes : F (resting c.args.frame.now) = subst F c.rest.ensures c.flush_alone.ensures in
    alone told flushes.0 Flush core c.args.frame.now _ Idle c.requires.flush refl flushes.1 flushes.2 refl refl (flushes.3 core)

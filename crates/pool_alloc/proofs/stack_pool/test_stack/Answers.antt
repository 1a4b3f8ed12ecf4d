use Rattle.std.proofs.Common.{refl, ap, ◌∙◌, ne_eqb}
use Rattle.pool_alloc.specs.StepReads.{under}
use Rattle.pool_alloc.specs.Turns.{Left}
use Rattle.pool_alloc.proofs.stack_pool.test_stack.Goals as goal

pub returns : goal.returns
returns g c core = rw c.requires.unanswered (ap (λ (l : Left _ _). record { core = under c.args.settings.now core.plan core; frame = l.frame; outcome = l.outcome }) c.go.ensures ∙ rw (c.none.ensures, ne_eqb c.args.settings.now.stack_size 0 c.if-settings-eq0.false) refl)

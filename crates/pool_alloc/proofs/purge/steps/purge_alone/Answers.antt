use Rattle.std.proofs.Common.{Bool, ap, sym, ◌∙◌}
use Rattle.pool_alloc.specs.Purges.{pick_affine_row}
use Rattle.pool_alloc.specs.Turns.{Left, finished, stepped}
use Rattle.pool_alloc.proofs.StepsAsRows.{nothing_told}
use Rattle.pool_alloc.proofs.purge.steps.purge_alone.Goals as goal

pub returns-in-Pick : goal.returns-in-Pick
returns-in-Pick g c = rw c.in-Pick.is (
  nothing_told,
  tt,
  tt,
  λ core none.
      ap (λ (l : Left _ _). finished core l) c.end.ensures
      ∙ ap (λ (b : Bool). stepped (pick_affine_row b c.args.cursor c.in-Pick._tried core c.args.frame.now)) (sym none),
)

pub returns-in-Forget : goal.returns-in-Forget
returns-in-Forget g c = rw (c.in-Forget.is, c.requires.unanswered) (record nothing_told { fault = c.forget.ensures.0; slot = c.forget.ensures.1 }, c.forget.ensures.2, c.forget.ensures.3, λ core none. ap (λ (l : Left _ _). finished core l) c.forget.ensures.4)

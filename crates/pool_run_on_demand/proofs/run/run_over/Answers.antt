use Rattle.std.proofs.Common.{rules, ◌<◌, List, sym, subst, ◌∙◌, arith, refl}
use Rattle.pool_run_on_demand.proofs.Imports.{not_both, MakerTold, world_of, turns_of, ScheduleEntry, entries_below}
use Rattle.pool_run_on_demand.specs.Runs.{AreToldOnDemand, ArePartiesOnDemand, HaveStepped, steps_given, steps_in}
use Rattle.pool_run_on_demand.proofs.Folding.{IsAtEnd, told_at_end}
use Rattle.pool_run_on_demand.proofs.Started.{allocator_made, background_made}
use Rattle.pool_run_on_demand.proofs.run.run_over.Goals.{then-input, else-input}
use Rattle.pool_run_on_demand.proofs.run.run_over.Goals as goal

pub follow-requires : goal.follow-requires
follow-requires g c κs within =
    let input = c.args.input.now in
    let background = background_made input g.maker c.requires.1.1.1.1.1.0 c.requires.1.1.1.1.1.1 c.args.calls.now c.requires.1.1.1.1.0 in
    let paged : 0 < g.maker.page = subst (λ (m : MakerTold). 0 < m.page) c.requires.1.1.0 (omega (arith, c.get-page.ensures.valid.at_least, c.page.ensures)) in
    let maker = allocator_made input g.maker c.new-allocator.result paged c.new-allocator.ensures.stack_size c.new-allocator.ensures.stack_zeroing in
    let are = subst (λ (m : MakerTold). ArePartiesOnDemand (world_of input g.maker) input m c.in_ok-made.made.items) (sym c.requires.1.1.0) c.in_ok-made.ensures.parties in
    (search rules, (search rules, (background, (maker, (are, entries_below input input.parties c.as_slice.result.now refl c.as_slice.ensures c.requires.1.1.1.1.1.1)))))

pub finish-requires : goal.finish-requires
finish-requires g c κs within =
    let input = c.args.input.now in
    let background = background_made input g.maker c.requires.1.1.1.1.1.0 c.requires.1.1.1.1.1.1 c.args.calls.now c.requires.1.1.1.1.0 in
    let paged : 0 < g.maker.page = subst (λ (m : MakerTold). 0 < m.page) c.requires.1.1.0 (omega (arith, c.get-page.ensures.valid.at_least, c.page.ensures)) in
    let maker = allocator_made input g.maker c.new-allocator.result paged c.new-allocator.ensures.stack_size c.new-allocator.ensures.stack_zeroing in
    (search rules, (search rules, (background, (maker, c.follow.ensures.parties))))

pub returns-clause-told : goal.returns-clause-told
returns-clause-told g c =
    let input = c.args.input.now in
    let stepped : HaveStepped input (steps_given input) c.in_ok-made.made.items c.follow.new.parties.items = subst (λ (es : List ScheduleEntry). HaveStepped input (steps_in (turns_of es)) c.in_ok-made.made.items c.follow.new.parties.items) c.as_slice.ensures c.follow.ensures.stepped in
    let end : IsAtEnd (world_of input g.maker) input c.in_ok-made.made.items c.if-input.made.items = elim c.if-input.branch [
      | then-input b ↦ rw b.made-is (record { now = g.M.PageMaker.told b.finish.new.seat.maker; are = b.finish.ensures.parties; all = λ yes. b.finish.ensures.all; stepped = λ no. not_both input.finish b.if-input.true no })
      | else-input b ↦ rw b.made-is (record { now = g.M.PageMaker.told c.follow.new.seat.maker; are = c.follow.ensures.parties; all = λ yes. not_both input.finish yes b.if-input.false; stepped = λ no. stepped })
    ] in
    subst (AreToldOnDemand input g.maker) (sym (c.without_numbers.ensures.replies ∙ c.replies_of.ensures)) (told_at_end input g.maker c.requires.1.1.1.0 c.in_ok-made.made.items c.if-input.made.items c.in_ok-made.ensures.none end)

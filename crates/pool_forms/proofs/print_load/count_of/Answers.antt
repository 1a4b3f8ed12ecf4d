use Rattle.pool_forms.specs.LoadOutput.{is_of}
use Rattle.std.proofs.Common.{ap, ◌∙◌, arith}
use Rattle.std.specs.List.{count_by}
use Rattle.pool_forms.proofs.Counts.{count_fits}
use Rattle.pool_forms.proofs.print_load.count_of.Goals as goal

pub overflow_add-count : goal.overflow_add-count
overflow_add-count c =
    let few = count_fits (is_of c.args.kind) c.args.parties.now c.loop-replies.replies-index c.loop-replies.count c.count_in.result c.replies-item.result
    c.loop-replies.invariant c.loop-replies-test.true c.replies-item.is (c.count_in.ensures ∙ ap (count_by (is_of c.args.kind)) c.as_slice.ensures) c.requires.few in
    omega (arith, few)

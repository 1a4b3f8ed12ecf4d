use Rattle.std.proofs.Common.{sym, ◌∙◌}
use Rattle.pool_forms.proofs.Members.{all_among_step}
use Rattle.pool_forms.proofs.fields.all_among.Goals as goal

pub returns-then-not-is_among : goal.returns-then-not-is_among
returns-then-not-is_among c =
    let step = all_among_step c.args.names.now c.loop-name.name-iterator (c.in-Some.name.now, c.in-Some.field-0-1.now) c.next.new.self c.is_among.result (rw (← c.as_str.ensures.value) c.is_among.ensures) c.in-Some.ensures.steps in
    sym (c.loop-name.invariant ∙ (rw c.if-not-is_among.true at step))

pub loop-name-preserved : goal.loop-name-preserved
loop-name-preserved c =
    let step = all_among_step c.args.names.now c.loop-name.name-iterator (c.in-Some.name.now, c.in-Some.field-0-1.now) c.next.new.self c.is_among.result (rw (← c.as_str.ensures.value) c.is_among.ensures) c.in-Some.ensures.steps in
    c.loop-name.invariant ∙ (rw c.if-not-is_among.false at step)

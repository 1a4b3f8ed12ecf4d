use Rattle.std.proofs.lemmas.Bool.{ltb-true, ltb-false}
use Rattle.pool_forms.proofs.Pairs.{too_short, too_long}
use Rattle.pool_forms.proofs.fields.pair_of.Goals as goal
use Rattle.pool_forms.proofs.fields.pair_of.Goals.{in_default-via-then-items-lt2, in_default-via-else-items-lt2+else-items-lt3}

pub returns-in_default : goal.returns-in_default
returns-in_default c = elim c.in_default.branch [ in_default-via-then-items-lt2 w ↦ too_short c.args.items.now (ltb-true _ _ w.if-items-lt2-1.true) | in_default-via-else-items-lt2+else-items-lt3 w ↦ too_long c.args.items.now (ltb-false _ _ w.if-items-lt3-1.false) ]

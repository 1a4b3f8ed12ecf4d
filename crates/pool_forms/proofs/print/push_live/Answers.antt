use Rattle.std.proofs.Common.{append_assoc}
use Rattle.pool_forms.proofs.print.push_live.Goals as goal

pub returns : goal.returns
returns c =
    rw (c.in_ok-push_named-6.ensures, c.in_ok-push_named-5.ensures, c.in_ok-push_named-4.ensures, c.in_ok-push_named-3.ensures, c.in_ok-push_named-2.ensures, c.in_ok-push_named.ensures)
    (simp append_assoc)

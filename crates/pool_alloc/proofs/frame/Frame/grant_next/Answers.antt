use Rattle.std.proofs.Common.{◌≤◌, ◌∙◌, refl, le-ltb}
use Rattle.pool_alloc.specs.Objects.{objects_in, objects_wanted}
use Rattle.pool_alloc.proofs.frame.Frame.grant_next.Goals as goal

pub returns : goal.returns
returns g c =
    let some : objects_wanted c.args.self.now.asked ≤ objects_in c.args.self.now.objects = rw (← c.objects_wanted.ensures, ← c.len.ensures.value, ← c.len-2.ensures.value) c.if-granted-objects_wanted.false in
    c.end.ensures ∙ rw (c.replace-lease.ensures.value, c.replace-lease.ensures.after, c.none.ensures, le-ltb _ _ some) refl

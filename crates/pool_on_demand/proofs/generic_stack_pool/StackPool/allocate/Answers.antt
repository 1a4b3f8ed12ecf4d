use Rattle.std.proofs.Common.{◌≡◌, ◌≢◌, Option, None, Ok, refl, subst, sym}
use Rattle.std.proofs.lemmas.Bool.{ne_eqb}
use Rattle.pool_on_demand.specs.Answers.{Allocates}
use Rattle.pool_on_demand.specs.CountedStacks.{CountedStacks, IsCountedStack, counted_refused}
use Rattle.pool_slots.specs.declared.errors.AllocError.{AllocError}
use Rattle.pool_on_demand.proofs.generic_stack_pool.StackPool.allocate.Goals as goal

none_refused : (s : CountedStacks) → s.stack_size ≢ 0 → s.live ≢ s.limit → counted_refused s ≡ None
none_refused s some room = rw (ne_eqb s.stack_size 0 some) (rw (ne_eqb s.live s.limit room) refl)

pub returns-in-Ok-clause-answer : goal.returns-in-Ok-clause-answer
returns-in-Ok-clause-answer g c =
    let s : CountedStacks = record { page = c.self.inside.page; stack_size = c.self.inside.stack_size; zeroing = c.self.inside.zeroing; limit = c.self.inside.limit; live = c.self.inside.live } in
    let made = c.in-Ok.ensures.answer in
    let old = g.M.PageMaker.told c.args.maker.now in
    let new = g.M.PageMaker.told c.make_guarded.new.maker in
    subst (λ (t : CountedStacks). Allocates (counted_refused t) (IsCountedStack t old) (Ok c.in-Ok.made.stack) old new) c.self.view_is
    (subst (λ (o : Option AllocError). Allocates o (IsCountedStack s old) (Ok c.in-Ok.made.stack) old new) (sym (none_refused s c.if-self-eq0.false c.if-self.false))
    (record { made = made.0.stack; zeros = made.0.zeros }, made.1))

use Rattle.std.proofs.Common.{◌≡◌, ℕ, ◌-◌, ◌<◌, ◌≤◌, ◌++◌, ◌∷◌, [], length, get_or, sym, arith, set, is_ok}
use Rattle.pool_slots.proofs.Imports.{Follows, HoldsAt, on_ok_weaker, on_err_weaker, IsPart, IsSlot, size_of}
use Rattle.pool_hall.specs.declared.unit_name.SlotKind.TheVariants as of_slot
use Rattle.pool_slots.specs.SlotQueues.{decommitted_at, Queued, QueuedList, IsLeftItem}
use Rattle.pool_slots.specs.SlotOrders.{decommits}
use Rattle.pool_slots.proofs.KindPlaces.{front_at, table_at, at_table, stack_at, at_stack, memory_set, table_set, stack_set, changed_at, like_before}
use Rattle.pool_slots.proofs.KindChanges.{long_three, still_listed, no_more, like_no_more}
use Rattle.pool_slots.proofs.slot_items.SlotItems.decommit.Goals as goal

pub decommit-requires-then-at-memories-2-clause-part : goal.decommit-requires-then-at-memories-2-clause-part
decommit-requires-then-at-memories-2-clause-part g c =
    let m : QueuedList = c.self.inside.memories in
    let t : QueuedList = c.self.inside.tables in
    let s : QueuedList = c.self.inside.stacks in
    let n : ℕ = c.len-memories.result in
    let long : length m.items ≡ n = sym c.len-memories.ensures.value in
    let over : n ≤ c.args.at = omega (arith, c.if-at-memories.false) in
    let inside : c.args.at - n < length t.items = omega (arith, c.if-at-memories-2.true, c.len-tables.ensures.value) in
    let Q : Queued → Type 0 = λ y. IsPart y.slot.region.page (size_of y.slot) c.args.range × IsSlot y.slot in
    let part : HoldsAt Q (m.items ++ (t.items ++ s.items)) c.args.at = rw (← c.self.view_is) at c.requires.part in
    at_table Q m.items t.items s.items n c.args.at long over inside part

pub decommit-requires-else-at-memories-2-clause-part : goal.decommit-requires-else-at-memories-2-clause-part
decommit-requires-else-at-memories-2-clause-part g c =
    let m : QueuedList = c.self.inside.memories in
    let t : QueuedList = c.self.inside.tables in
    let s : QueuedList = c.self.inside.stacks in
    let n : ℕ = c.len-memories.result in
    let k : ℕ = c.len-tables.result in
    let long : length m.items ≡ n = sym c.len-memories.ensures.value in
    let wide : length t.items ≡ k = sym c.len-tables.ensures.value in
    let over : n ≤ c.args.at = omega (arith, c.if-at-memories.false) in
    let past : k ≤ c.args.at - n = omega (arith, c.if-at-memories-2.false) in
    let Q : Queued → Type 0 = λ y. IsPart y.slot.region.page (size_of y.slot) c.args.range × IsSlot y.slot in
    let part : HoldsAt Q (m.items ++ (t.items ++ s.items)) c.args.at = rw (← c.self.view_is) at c.requires.part in
    at_stack Q m.items t.items s.items n k c.args.at long over wide past part

pub invariant_of-self : goal.invariant_of-self
invariant_of-self g c =
    let m : QueuedList = c.self.inside.memories in
    let t : QueuedList = c.self.inside.tables in
    let s : QueuedList = c.self.inside.stacks in
    let inside : c.args.at < length m.items = omega (arith, c.if-at-memories.true, c.len-memories.ensures.value) in
    let at = changed_at c.decommit.result c.args.range c.args.at m c.decommit.new.self inside c.decommit.ensures.ok c.decommit.ensures.err in
    still_listed m t s c.decommit.new.self t s c.self.invariant (like_no_more of_slot.Memory m c.decommit.new.self (like_before of_slot.Memory c.args.at m c.decommit.new.self at)) (no_more of_slot.Table t) (no_more of_slot.Stack s)

pub invariant_of-self-then-at-memories-2 : goal.invariant_of-self-then-at-memories-2
invariant_of-self-then-at-memories-2 g c =
    let m : QueuedList = c.self.inside.memories in
    let t : QueuedList = c.self.inside.tables in
    let s : QueuedList = c.self.inside.stacks in
    let n : ℕ = c.len-memories.result in
    let long : length m.items ≡ n = sym c.len-memories.ensures.value in
    let over : n ≤ c.args.at = omega (arith, c.if-at-memories.false) in
    let inside : c.args.at - n < length t.items = omega (arith, c.if-at-memories-2.true, c.len-tables.ensures.value) in
    let at = changed_at c.decommit-then-at-memories-2.result c.args.range (c.args.at - n) t c.decommit-then-at-memories-2.new.self inside c.decommit-then-at-memories-2.ensures.ok c.decommit-then-at-memories-2.ensures.err in
    still_listed m t s m c.decommit-then-at-memories-2.new.self s c.self.invariant (no_more of_slot.Memory m) (like_no_more of_slot.Table t c.decommit-then-at-memories-2.new.self (like_before of_slot.Table (c.args.at - n) t c.decommit-then-at-memories-2.new.self at)) (no_more of_slot.Stack s)

pub invariant_of-self-else-at-memories-2 : goal.invariant_of-self-else-at-memories-2
invariant_of-self-else-at-memories-2 g c =
    let m : QueuedList = c.self.inside.memories in
    let t : QueuedList = c.self.inside.tables in
    let s : QueuedList = c.self.inside.stacks in
    let n : ℕ = c.len-memories.result in
    let k : ℕ = c.len-tables.result in
    let long : length m.items ≡ n = sym c.len-memories.ensures.value in
    let wide : length t.items ≡ k = sym c.len-tables.ensures.value in
    let over : n ≤ c.args.at = omega (arith, c.if-at-memories.false) in
    let past : k ≤ c.args.at - n = omega (arith, c.if-at-memories-2.false) in
    let all : c.args.at < length (m.items ++ (t.items ++ s.items)) = rw (← c.self.view_is) at c.requires.inside in
    let inside : c.args.at - n - k < length s.items = omega (arith, all, long_three m.items t.items s.items, long, wide, over, past) in
    let at = changed_at c.decommit-else-at-memories-2.result c.args.range (c.args.at - n - k) s c.decommit-else-at-memories-2.new.self inside c.decommit-else-at-memories-2.ensures.ok c.decommit-else-at-memories-2.ensures.err in
    still_listed m t s m t c.decommit-else-at-memories-2.new.self c.self.invariant (no_more of_slot.Memory m) (no_more of_slot.Table t) (like_no_more of_slot.Stack s c.decommit-else-at-memories-2.new.self (like_before of_slot.Stack (c.args.at - n - k) s c.decommit-else-at-memories-2.new.self at))

pub returns-then-at-memories-clause-ok : goal.returns-then-at-memories-clause-ok
returns-then-at-memories-clause-ok g c =
    let m : QueuedList = c.self.inside.memories in
    let t : QueuedList = c.self.inside.tables in
    let s : QueuedList = c.self.inside.stacks in
    let inside : c.args.at < length m.items = omega (arith, c.if-at-memories.true, c.len-memories.ensures.value) in
    let P : Queued → Type 0 = λ y. c.decommit.new.self ≡ record m { items = set m.items c.args.at (record y { slot = decommitted_at c.args.range y.slot }) } in
    rw (← c.self.view_is) (on_ok_weaker c.decommit.result
    (λ h d. let y : Queued = get_or (m.items ++ (t.items ++ s.items)) c.args.at d in memory_set m c.decommit.new.self (t.items ++ s.items) c.args.at (record y { slot = decommitted_at c.args.range y.slot }) inside (front_at P m.items (t.items ++ s.items) c.args.at inside h d))
    c.decommit.ensures.ok)

pub returns-then-at-memories-clause-err : goal.returns-then-at-memories-clause-err
returns-then-at-memories-clause-err g c =
    let m : QueuedList = c.self.inside.memories in
    let t : QueuedList = c.self.inside.tables in
    let s : QueuedList = c.self.inside.stacks in
    let inside : c.args.at < length m.items = omega (arith, c.if-at-memories.true, c.len-memories.ensures.value) in
    let P : Queued → Type 0 = λ y. (z : Queued) × IsLeftItem c.args.range y z × (c.decommit.new.self ≡ record m { items = set m.items c.args.at z }) in
    rw (← c.self.view_is) (on_err_weaker c.decommit.result
    (λ h d. let w = front_at P m.items (t.items ++ s.items) c.args.at inside h d in (w.0, w.1, memory_set m c.decommit.new.self (t.items ++ s.items) c.args.at w.0 inside w.2))
    c.decommit.ensures.err)

pub returns-then-at-memories-clause-order : goal.returns-then-at-memories-clause-order
returns-then-at-memories-clause-order g c =
    let m : QueuedList = c.self.inside.memories in
    let t : QueuedList = c.self.inside.tables in
    let s : QueuedList = c.self.inside.stacks in
    let inside : c.args.at < length m.items = omega (arith, c.if-at-memories.true, c.len-memories.ensures.value) in
    let at = changed_at c.decommit.result c.args.range c.args.at m c.decommit.new.self inside c.decommit.ensures.ok c.decommit.ensures.err in
    let there : c.args.at < length c.decommit.new.self.items = omega (arith, inside, (like_before of_slot.Memory c.args.at m c.decommit.new.self at).long) in
    let F : Queued → Queued → Type 0 = λ y z. Follows (decommits y.slot.base.bytes (c.args.range ∷ [])) (is_ok c.decommit.result) y.slot.region z.slot.region in
    let P : Queued → Type 0 = λ y. HoldsAt (F y) c.decommit.new.self.items c.args.at in
    rw (← c.self.view_is) (λ d. let y : Queued = get_or (m.items ++ (t.items ++ s.items)) c.args.at d in (front_at (F y) c.decommit.new.self.items (t.items ++ s.items) c.args.at there (front_at P m.items (t.items ++ s.items) c.args.at inside c.decommit.ensures.order d)))

pub returns-then-at-memories-2-clause-ok : goal.returns-then-at-memories-2-clause-ok
returns-then-at-memories-2-clause-ok g c =
    let m : QueuedList = c.self.inside.memories in
    let t : QueuedList = c.self.inside.tables in
    let s : QueuedList = c.self.inside.stacks in
    let n : ℕ = c.len-memories.result in
    let long : length m.items ≡ n = sym c.len-memories.ensures.value in
    let over : n ≤ c.args.at = omega (arith, c.if-at-memories.false) in
    let inside : c.args.at - n < length t.items = omega (arith, c.if-at-memories-2.true, c.len-tables.ensures.value) in
    let P : Queued → Type 0 = λ y. c.decommit-then-at-memories-2.new.self ≡ record t { items = set t.items (c.args.at - n) (record y { slot = decommitted_at c.args.range y.slot }) } in
    rw (← c.self.view_is) (on_ok_weaker c.decommit-then-at-memories-2.result
    (λ h d. let y : Queued = get_or (m.items ++ (t.items ++ s.items)) c.args.at d in table_set m.items t c.decommit-then-at-memories-2.new.self s.items m.room n c.args.at (record y { slot = decommitted_at c.args.range y.slot }) long over inside (table_at P m.items t.items s.items n c.args.at long over inside h d))
    c.decommit-then-at-memories-2.ensures.ok)

pub returns-then-at-memories-2-clause-err : goal.returns-then-at-memories-2-clause-err
returns-then-at-memories-2-clause-err g c =
    let m : QueuedList = c.self.inside.memories in
    let t : QueuedList = c.self.inside.tables in
    let s : QueuedList = c.self.inside.stacks in
    let n : ℕ = c.len-memories.result in
    let long : length m.items ≡ n = sym c.len-memories.ensures.value in
    let over : n ≤ c.args.at = omega (arith, c.if-at-memories.false) in
    let inside : c.args.at - n < length t.items = omega (arith, c.if-at-memories-2.true, c.len-tables.ensures.value) in
    let P : Queued → Type 0 = λ y. (z : Queued) × IsLeftItem c.args.range y z × (c.decommit-then-at-memories-2.new.self ≡ record t { items = set t.items (c.args.at - n) z }) in
    rw (← c.self.view_is) (on_err_weaker c.decommit-then-at-memories-2.result
    (λ h d. let w = table_at P m.items t.items s.items n c.args.at long over inside h d in (w.0, w.1, table_set m.items t c.decommit-then-at-memories-2.new.self s.items m.room n c.args.at w.0 long over inside w.2))
    c.decommit-then-at-memories-2.ensures.err)

pub returns-then-at-memories-2-clause-order : goal.returns-then-at-memories-2-clause-order
returns-then-at-memories-2-clause-order g c =
    let m : QueuedList = c.self.inside.memories in
    let t : QueuedList = c.self.inside.tables in
    let s : QueuedList = c.self.inside.stacks in
    let n : ℕ = c.len-memories.result in
    let long : length m.items ≡ n = sym c.len-memories.ensures.value in
    let over : n ≤ c.args.at = omega (arith, c.if-at-memories.false) in
    let inside : c.args.at - n < length t.items = omega (arith, c.if-at-memories-2.true, c.len-tables.ensures.value) in
    let at = changed_at c.decommit-then-at-memories-2.result c.args.range (c.args.at - n) t c.decommit-then-at-memories-2.new.self inside c.decommit-then-at-memories-2.ensures.ok c.decommit-then-at-memories-2.ensures.err in
    let there : c.args.at - n < length c.decommit-then-at-memories-2.new.self.items = omega (arith, inside, (like_before of_slot.Table (c.args.at - n) t c.decommit-then-at-memories-2.new.self at).long) in
    let F : Queued → Queued → Type 0 = λ y z. Follows (decommits y.slot.base.bytes (c.args.range ∷ [])) (is_ok c.decommit-then-at-memories-2.result) y.slot.region z.slot.region in
    let P : Queued → Type 0 = λ y. HoldsAt (F y) c.decommit-then-at-memories-2.new.self.items (c.args.at - n) in
    rw (← c.self.view_is) (λ d. let y : Queued = get_or (m.items ++ (t.items ++ s.items)) c.args.at d in (table_at (F y) m.items c.decommit-then-at-memories-2.new.self.items s.items n c.args.at long over there (table_at P m.items t.items s.items n c.args.at long over inside c.decommit-then-at-memories-2.ensures.order d)))

pub returns-else-at-memories-2-clause-ok : goal.returns-else-at-memories-2-clause-ok
returns-else-at-memories-2-clause-ok g c =
    let m : QueuedList = c.self.inside.memories in
    let t : QueuedList = c.self.inside.tables in
    let s : QueuedList = c.self.inside.stacks in
    let n : ℕ = c.len-memories.result in
    let k : ℕ = c.len-tables.result in
    let long : length m.items ≡ n = sym c.len-memories.ensures.value in
    let wide : length t.items ≡ k = sym c.len-tables.ensures.value in
    let over : n ≤ c.args.at = omega (arith, c.if-at-memories.false) in
    let past : k ≤ c.args.at - n = omega (arith, c.if-at-memories-2.false) in
    let P : Queued → Type 0 = λ y. c.decommit-else-at-memories-2.new.self ≡ record s { items = set s.items (c.args.at - n - k) (record y { slot = decommitted_at c.args.range y.slot }) } in
    rw (← c.self.view_is) (on_ok_weaker c.decommit-else-at-memories-2.result
    (λ h d. let y : Queued = get_or (m.items ++ (t.items ++ s.items)) c.args.at d in stack_set m.items t.items s c.decommit-else-at-memories-2.new.self m.room n k c.args.at (record y { slot = decommitted_at c.args.range y.slot }) long over wide past (stack_at P m.items t.items s.items n k c.args.at long over wide past h d))
    c.decommit-else-at-memories-2.ensures.ok)

pub returns-else-at-memories-2-clause-err : goal.returns-else-at-memories-2-clause-err
returns-else-at-memories-2-clause-err g c =
    let m : QueuedList = c.self.inside.memories in
    let t : QueuedList = c.self.inside.tables in
    let s : QueuedList = c.self.inside.stacks in
    let n : ℕ = c.len-memories.result in
    let k : ℕ = c.len-tables.result in
    let long : length m.items ≡ n = sym c.len-memories.ensures.value in
    let wide : length t.items ≡ k = sym c.len-tables.ensures.value in
    let over : n ≤ c.args.at = omega (arith, c.if-at-memories.false) in
    let past : k ≤ c.args.at - n = omega (arith, c.if-at-memories-2.false) in
    let P : Queued → Type 0 = λ y. (z : Queued) × IsLeftItem c.args.range y z × (c.decommit-else-at-memories-2.new.self ≡ record s { items = set s.items (c.args.at - n - k) z }) in
    rw (← c.self.view_is) (on_err_weaker c.decommit-else-at-memories-2.result
    (λ h d. let w = stack_at P m.items t.items s.items n k c.args.at long over wide past h d in (w.0, w.1, stack_set m.items t.items s c.decommit-else-at-memories-2.new.self m.room n k c.args.at w.0 long over wide past w.2))
    c.decommit-else-at-memories-2.ensures.err)

pub returns-else-at-memories-2-clause-order : goal.returns-else-at-memories-2-clause-order
returns-else-at-memories-2-clause-order g c =
    let m : QueuedList = c.self.inside.memories in
    let t : QueuedList = c.self.inside.tables in
    let s : QueuedList = c.self.inside.stacks in
    let n : ℕ = c.len-memories.result in
    let k : ℕ = c.len-tables.result in
    let long : length m.items ≡ n = sym c.len-memories.ensures.value in
    let wide : length t.items ≡ k = sym c.len-tables.ensures.value in
    let over : n ≤ c.args.at = omega (arith, c.if-at-memories.false) in
    let past : k ≤ c.args.at - n = omega (arith, c.if-at-memories-2.false) in
    let F : Queued → Queued → Type 0 = λ y z. Follows (decommits y.slot.base.bytes (c.args.range ∷ [])) (is_ok c.decommit-else-at-memories-2.result) y.slot.region z.slot.region in
    let P : Queued → Type 0 = λ y. HoldsAt (F y) c.decommit-else-at-memories-2.new.self.items (c.args.at - n - k) in
    rw (← c.self.view_is) (λ d. let y : Queued = get_or (m.items ++ (t.items ++ s.items)) c.args.at d in (stack_at (F y) m.items t.items c.decommit-else-at-memories-2.new.self.items n k c.args.at long over wide past (stack_at P m.items t.items s.items n k c.args.at long over wide past c.decommit-else-at-memories-2.ensures.order d)))

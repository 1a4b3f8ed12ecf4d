use Rattle.std.proofs.Common.{◌≡◌, true, sym, ap, ◌∙◌, subst}
use Rattle.pool_run_on_demand.proofs.Imports.{MakerTold, type_refused}
use Rattle.pool_run_on_demand.specs.Seen.{AnswersHeapMemory}
use Rattle.pool_run_on_demand.specs.Left.{Laying, HeapSpends, LeaseSpends, laid_for_heap, laying_of}
use Rattle.pool_run_on_demand.proofs.Heaps.{heap_answered, none_barred, without_memory}
use Rattle.pool_run_on_demand.proofs.Paid.{barred_spends, heap_spends}
use Rattle.pool_run_on_demand.proofs.request.make_heap.Goals as goal

pub returns-in-Ok-clause-answer : goal.returns-in-Ok-clause-answer
returns-in-Ok-clause-answer g c =
    let t = g.terms in
    let ty = c.args.ty.now in
    let tunables = c.args.tunables.now in
    let settings = c.requires.1.1.1.0 in
    let on : tunables.collector ≡ true = c.if-not-tunables.false in
    let free = none_barred t ty tunables settings on (sym c.in_default.is ∙ c.validate_memory.ensures.answer) in
    let of = subst (AnswersHeapMemory t ty) c.in-Ok.is c.heap_memory.ensures.answer in
    heap_answered t ty tunables settings c.args.heaps.now c.with_heap.new.heaps c.in-Ok.memory free of c.with_heap.result c.with_heap.ensures.made c.with_heap.ensures.unmade

pub returns-in-Err-heap_memory-clause-answer : goal.returns-in-Err-heap_memory-clause-answer
returns-in-Err-heap_memory-clause-answer g c =
    let t = g.terms in
    let ty = c.args.ty.now in
    let tunables = c.args.tunables.now in
    let settings = c.requires.1.1.1.0 in
    let on : tunables.collector ≡ true = c.if-not-tunables.false in
    let free = none_barred t ty tunables settings on (sym c.in_default.is ∙ c.validate_memory.ensures.answer) in
    without_memory t ty tunables settings c.args.heaps.now.failing c.args.heaps.now.made c.in-Err-heap_memory.error free (subst (AnswersHeapMemory t ty) c.in-Err-heap_memory.is c.heap_memory.ensures.answer)

pub returns-in-Ok-clause-spends : goal.returns-in-Ok-clause-spends
returns-in-Ok-clause-spends g c =
    let told = g.M.PageMaker.told in
    let before : MakerTold = told c.args.seat.now.maker in
    let after : MakerTold = told c.heap_memory.new.seat.maker in
    let y : Laying = laying_of g.terms before in
    let kept : told c.validate_memory.new._seat.maker ≡ before = ap (λ seat. told seat.maker) c.validate_memory.ensures.seat in
    let From : MakerTold → Type 0 = λ m. LeaseSpends (laid_for_heap (laying_of g.terms m)) m after c.heap_memory.result in
    let made = subst From kept c.heap_memory.ensures.spends in
    let To : MakerTold → Type 0 = λ m. HeapSpends y before m c.with_heap.result in
    subst To (sym (ap (λ seat. told seat.maker) c.with_heap.ensures.seat)) (heap_spends y before after c.in-Ok.memory (subst (LeaseSpends (laid_for_heap y) before after) c.in-Ok.is made) _ _ _ c.with_heap.result c.with_heap.ensures.made c.with_heap.ensures.unmade)

pub returns-in-Err-clause-spends : goal.returns-in-Err-clause-spends
returns-in-Err-clause-spends g c =
    let told = g.M.PageMaker.told in
    barred_spends (type_refused c.args.ty.now) c.in-Err.error (told c.args.seat.now.maker) (told c.validate_memory.new._seat.maker) (ap (λ seat. told seat.maker) c.validate_memory.ensures.seat) (sym c.in-Err.is ∙ c.validate_memory.ensures.answer)

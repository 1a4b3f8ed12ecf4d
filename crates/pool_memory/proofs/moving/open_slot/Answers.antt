use Rattle.std.proofs.Common.{◌≡◌, ◌%◌, ℕ, ap, ◌∙◌, subst}
use Rattle.pool_types.specs.Count.{Count, count, IsPageSize}
use Rattle.pool_memory.specs.Moving.{slot_of_region}
use Rattle.pool_memory.proofs.Fresh.{opened, open_room, made_slot}
use Rattle.pool_memory.proofs.moving.open_slot.Goals as goal

pub set_heap_limit-requires : goal.set_heap_limit-requires
set_heap_limit-requires g c =
    let l = c.args.layout.now in
    let region = g.P.Pages.told c.args.region in
    let bytes : Count → ℕ = λ k. k.bytes in
    let page : Count → ℕ = λ k. k.page in
    let Whole : Count → Type 0 = λ k. k.bytes % k.page ≡ 0 in
    let Sized : Count → Type 0 = λ k. IsPageSize k.page in
    let accessible : c.zero-none.result ≡ count l.page 0 = c.zero-none.ensures ∙ ap (λ (n : ℕ). count n 0) (c.page.ensures ∙ ap page c.capacity-2.ensures) in
    let is : c.create-slot.result ≡ slot_of_region region l = opened l region c.create-slot.result c.before-3.result c.zero-none.result c.byte_count-capacity.result c.create-slot.ensures.value c.before-3.ensures accessible (c.byte_count-capacity.ensures.value ∙ ap bytes c.capacity.ensures) in
    open_room l region c.create-slot.result c.args.size is c.requires.made (subst Sized c.before-2.ensures c.byte_count-size.ensures.page) (subst Whole c.capacity.ensures c.byte_count-capacity.ensures.aligned) c.requires.room

pub returns-clause-made : goal.returns-clause-made
returns-clause-made g c =
    let l = c.args.layout.now in
    let region = g.P.Pages.told c.args.region in
    let bytes : Count → ℕ = λ k. k.bytes in
    let page : Count → ℕ = λ k. k.page in
    let Whole : Count → Type 0 = λ k. k.bytes % k.page ≡ 0 in
    let Sized : Count → Type 0 = λ k. IsPageSize k.page in
    let accessible : c.zero-none.result ≡ count l.page 0 = c.zero-none.ensures ∙ ap (λ (n : ℕ). count n 0) (c.page.ensures ∙ ap page c.capacity-2.ensures) in
    let is : c.create-slot.result ≡ slot_of_region region l = opened l region c.create-slot.result c.before-3.result c.zero-none.result c.byte_count-capacity.result c.create-slot.ensures.value c.before-3.ensures accessible (c.byte_count-capacity.ensures.value ∙ ap bytes c.capacity.ensures) in
    made_slot l region c.args.size c.create-slot.result c.set_heap_limit.new.self is c.requires.made (subst Sized c.before-2.ensures c.byte_count-size.ensures.page) (subst Whole c.capacity.ensures c.byte_count-capacity.ensures.aligned) c.create-slot.ensures.clean c.set_heap_limit.ensures.kept c.set_heap_limit.ensures.fits c.requires.room c.in_ok-set_heap_limit.ensures.reached

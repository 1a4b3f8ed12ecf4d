use Rattle.std.proofs.Common.{◌≡◌, Bool, sym, ◌∙◌, subst, Some, Err, ◌↔◌, if◌then◌else◌}
use Rattle.pool_types.specs.declared.unsupported.Unsupported.{Unsupported}
use Rattle.pool_memory.specs.Malloc.{malloc_refusal}
use Rattle.pool_memory.specs.Mapped.{mapped_refusal}
use Rattle.pool_memory.specs.declared.memory_error.MemoryError.TheVariants as refused
use Rattle.pool_memory.proofs.creators.DefaultMemoryCreatorRuntimeMemoryCreator.new_memory.Goals as goal

pub returns-then-in_regions-clause-unsupported : goal.returns-then-in_regions-clause-unsupported
returns-then-in_regions-clause-unsupported g c =
    let t = c.args.tunables.now in
    let page = (g.M.PageMaker.told c.args.maker.now).page in
    let P : Bool → Type 0 = λ b. (u : Unsupported) → (c.new_mapped.result ≡ Err (refused.Unsupported u)) ↔ ((if b then mapped_refusal page t c.args.minimum else malloc_refusal t c.args.minimum) ≡ Some u) in
    subst P (sym (sym c.in_regions.ensures ∙ c.if-in_regions.true)) c.new_mapped.ensures.unsupported

pub returns-else-in_regions-clause-unsupported : goal.returns-else-in_regions-clause-unsupported
returns-else-in_regions-clause-unsupported g c =
    let t = c.args.tunables.now in
    let page = (g.M.PageMaker.told c.args.maker.now).page in
    let P : Bool → Type 0 = λ b. (u : Unsupported) → (c.new_malloc.result ≡ Err (refused.Unsupported u)) ↔ ((if b then mapped_refusal page t c.args.minimum else malloc_refusal t c.args.minimum) ≡ Some u) in
    subst P (sym (sym c.in_regions.ensures ∙ c.if-in_regions.false)) c.new_malloc.ensures.unsupported

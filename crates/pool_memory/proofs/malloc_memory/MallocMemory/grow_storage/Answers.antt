use Rattle.std.proofs.Common.{◌≡◌, ◌≤◌, ◌+◌, ◌-◌, ◌*◌, ◌/◌, ℕ, List, max, subst, sym, ap, ◌∙◌, arith}
use Rattle.pool_pages.specs.Dense.{with_zeros}
use Rattle.pool_memory.specs.Growing.{GrowsTo}
use Rattle.pool_memory.specs.Malloc.{Malloc, IsMalloc, malloc_linear}
use Rattle.pool_memory.proofs.Mallocs.{past16, grown_is_malloc, malloc_grows}
use Rattle.pool_memory.proofs.malloc_memory.MallocMemory.grow_storage.Goals as goal

pub returns-in_default-clause-full : goal.returns-in_default-clause-full
returns-in_default-clause-full c =
    let P : Malloc → Type 0 = λ m. IsMalloc m in
    past16 c.args.self.now c.args.size (subst P c.self.view_is c.self.invariant.0) c.in_default.ensures

pub invariant_of-self-2 : goal.invariant_of-self-2
invariant_of-self-2 c =
    let i = c.self.inside in
    let m : Malloc = record { size = i.size; bytes = i.storage.items; capacity = i.capacity } in
    let M : Malloc → Type 0 = λ s. s.size ≤ c.args.size in
    let end : c.in-Some.end ≡ c.args.size + 16 - 1 = omega (arith, c.in-Some.ensures.1) in
    let I : ℕ → Type 0 = λ n. IsMalloc (record { size = c.args.size; bytes = with_zeros (n / 16 * 16) i.storage.items; capacity = max i.capacity (n / 16 * 16) }) in
    let J : List ℕ → ℕ → Type 0 = λ b n. IsMalloc (record { size = c.args.size; bytes = b; capacity = n }) in
    let grown : I c.in-Some.end = subst I (sym end) (grown_is_malloc m c.args.size c.self.invariant.0 (subst M (sym c.self.view_is) c.requires.more) (omega (arith, c.in-Some.ensures.0))) in (
      subst (λ (b : List ℕ). J b c.max-self-inside.result) (sym c.in_ok-store.ensures.items) (subst (λ (n : ℕ). J (with_zeros (c.in-Some.end / 16 * 16) i.storage.items) n) (sym c.max-self-inside.ensures) grown),
      omega (arith, c.max-self-inside.ensures, c.self.invariant.1, c.store.ensures.capacity, c.in_ok-store.ensures.room),
    )

pub returns-clause-grows : goal.returns-clause-grows
returns-clause-grows c =
    let i = c.self.inside in
    let m : Malloc = record { size = i.size; bytes = i.storage.items; capacity = i.capacity } in
    let M : Malloc → Type 0 = λ s. s.size ≤ c.args.size in
    let end : c.in-Some.end ≡ c.args.size + 16 - 1 = omega (arith, c.in-Some.ensures.1) in
    let G : Malloc → Malloc → Type 0 = λ s t. GrowsTo c.args.size (malloc_linear s) (malloc_linear t) in
    let N : List ℕ → ℕ → Malloc = λ b n. record { size = c.args.size; bytes = b; capacity = n } in
    let E : ℕ → Type 0 = λ n. G m (N (with_zeros (n / 16 * 16) i.storage.items) (max i.capacity (n / 16 * 16))) in
    let grows : E c.in-Some.end = subst E (sym end) (malloc_grows m c.args.size c.self.invariant.0 (subst M (sym c.self.view_is) c.requires.more)) in
    let same : N (with_zeros (c.in-Some.end / 16 * 16) i.storage.items) (max i.capacity (c.in-Some.end / 16 * 16)) ≡ N c.store.new.storage.items c.max-self-inside.result =
    ap (λ (b : List ℕ). N b (max i.capacity (c.in-Some.end / 16 * 16))) (sym c.in_ok-store.ensures.items) ∙ ap (N c.store.new.storage.items) (sym c.max-self-inside.ensures) in
    subst (λ (s : Malloc). G s (N c.store.new.storage.items c.max-self-inside.result)) c.self.view_is (subst (G m) same grows)

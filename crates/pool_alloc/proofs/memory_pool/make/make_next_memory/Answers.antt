use Rattle.std.proofs.Common.{◌≡◌, ℕ, List, [], ◌∷◌, length, get_or, sym, ap, ◌∙◌}
use Rattle.pool_alloc.proofs.Imports.{MemoryDecl, MemoryType, ModuleInfo}
use Rattle.pool_alloc.specs.PlainModules.{ModuleAsked, MemoryAsked}
use Rattle.pool_alloc.specs.StepReads.{memories_wanted, plain_decl}
use Rattle.pool_alloc.proofs.Allocated.{told_at, told_by}
use Rattle.pool_alloc.proofs.memory_pool.make.make_next_memory.Goals as goal

pub returns-in-Module-clause-asked : goal.returns-in-Module-clause-asked
returns-in-Module-clause-asked g c =
    let frame = c.args.frame.now in
    let n : ℕ = length frame.objects.memories.items in
    let d : MemoryDecl = c.index-as_slice-memory.result in
    let items : c.as_slice.result.now ≡ memories_wanted frame.asked = c.as_slice.ensures ∙ ap (λ (m : ModuleInfo). m.memories) (c.deref.ensures ∙ ap (λ (k : ModuleAsked). k.info) c.call.view_is) ∙ ap memories_wanted (sym c.in-Module.is) in
    let same : d ≡ get_or (memories_wanted frame.asked) n d = c.index-as_slice-memory.is ∙ ap (λ (xs : List MemoryDecl). get_or xs c.len-memory.result d) items ∙ ap (λ (k : ℕ). get_or (memories_wanted frame.asked) k d) c.len-memory.ensures.value in
    told_at _ (memories_wanted frame.asked) n d same (record { answer = c.make_memory_of.ensures.answer; left = c.make_memory_of.ensures.limiter })

pub returns-in-Module-clause-exchanged : goal.returns-in-Module-clause-exchanged
returns-in-Module-clause-exchanged g c =
    let frame = c.args.frame.now in
    let n : ℕ = length frame.objects.memories.items in
    let d : MemoryDecl = c.index-as_slice-memory.result in
    let items : c.as_slice.result.now ≡ memories_wanted frame.asked = c.as_slice.ensures ∙ ap (λ (m : ModuleInfo). m.memories) (c.deref.ensures ∙ ap (λ (k : ModuleAsked). k.info) c.call.view_is) ∙ ap memories_wanted (sym c.in-Module.is) in
    let same : d ≡ get_or (memories_wanted frame.asked) n d = c.index-as_slice-memory.is ∙ ap (λ (xs : List MemoryDecl). get_or xs c.len-memory.result d) items ∙ ap (λ (k : ℕ). get_or (memories_wanted frame.asked) k d) c.len-memory.ensures.value in
    told_at _ (memories_wanted frame.asked) n d same c.make_memory_of.ensures.exchanged

pub returns-in-Module-clause-value : goal.returns-in-Module-clause-value
returns-in-Module-clause-value g c =
    let frame = c.args.frame.now in
    let n : ℕ = length frame.objects.memories.items in
    let d : MemoryDecl = c.index-as_slice-memory.result in
    let items : c.as_slice.result.now ≡ memories_wanted frame.asked = c.as_slice.ensures ∙ ap (λ (m : ModuleInfo). m.memories) (c.deref.ensures ∙ ap (λ (k : ModuleAsked). k.info) c.call.view_is) ∙ ap memories_wanted (sym c.in-Module.is) in
    let same : d ≡ get_or (memories_wanted frame.asked) n d = c.index-as_slice-memory.is ∙ ap (λ (xs : List MemoryDecl). get_or xs c.len-memory.result d) items ∙ ap (λ (k : ℕ). get_or (memories_wanted frame.asked) k d) c.len-memory.ensures.value in
    told_at _ (memories_wanted frame.asked) n d same c.make_memory_of.ensures.value

pub returns-in-Memory-clause-asked : goal.returns-in-Memory-clause-asked
returns-in-Memory-clause-asked g c =
    let frame = c.args.frame.now in
    let n : ℕ = length frame.objects.memories.items in
    let ty : MemoryType = c.call-in-Memory.inside.ty in
    let named : ty ≡ c.in-Memory.call.ty = ap (λ (k : MemoryAsked). k.ty) c.call-in-Memory.view_is in
    let alone : memories_wanted frame.asked ≡ plain_decl ty ∷ [] = ap memories_wanted c.in-Memory.is ∙ ap (λ (t : MemoryType). plain_decl t ∷ []) (sym named) in
    told_by _ (memories_wanted frame.asked) (plain_decl ty) n alone (record { answer = c.make_memory_of-in-Memory.ensures.answer; left = c.make_memory_of-in-Memory.ensures.limiter })

pub returns-in-Memory-clause-exchanged : goal.returns-in-Memory-clause-exchanged
returns-in-Memory-clause-exchanged g c =
    let frame = c.args.frame.now in
    let n : ℕ = length frame.objects.memories.items in
    let ty : MemoryType = c.call-in-Memory.inside.ty in
    let named : ty ≡ c.in-Memory.call.ty = ap (λ (k : MemoryAsked). k.ty) c.call-in-Memory.view_is in
    let alone : memories_wanted frame.asked ≡ plain_decl ty ∷ [] = ap memories_wanted c.in-Memory.is ∙ ap (λ (t : MemoryType). plain_decl t ∷ []) (sym named) in
    told_by _ (memories_wanted frame.asked) (plain_decl ty) n alone c.make_memory_of-in-Memory.ensures.exchanged

pub returns-in-Memory-clause-value : goal.returns-in-Memory-clause-value
returns-in-Memory-clause-value g c =
    let frame = c.args.frame.now in
    let n : ℕ = length frame.objects.memories.items in
    let ty : MemoryType = c.call-in-Memory.inside.ty in
    let named : ty ≡ c.in-Memory.call.ty = ap (λ (k : MemoryAsked). k.ty) c.call-in-Memory.view_is in
    let alone : memories_wanted frame.asked ≡ plain_decl ty ∷ [] = ap memories_wanted c.in-Memory.is ∙ ap (λ (t : MemoryType). plain_decl t ∷ []) (sym named) in
    told_by _ (memories_wanted frame.asked) (plain_decl ty) n alone c.make_memory_of-in-Memory.ensures.value

pub returns-in-Heap-clause-asked : goal.returns-in-Heap-clause-asked
returns-in-Heap-clause-asked g c =
    let frame = c.args.frame.now in
    let n : ℕ = length frame.objects.memories.items in
    let ty : MemoryType = c.in-Heap.ty in
    let alone : memories_wanted frame.asked ≡ plain_decl ty ∷ [] = ap memories_wanted c.in-Heap.is in
    told_by _ (memories_wanted frame.asked) (plain_decl ty) n alone (record { answer = c.make_memory_of-in-Heap.ensures.answer; left = c.make_memory_of-in-Heap.ensures.limiter })

pub returns-in-Heap-clause-exchanged : goal.returns-in-Heap-clause-exchanged
returns-in-Heap-clause-exchanged g c =
    let frame = c.args.frame.now in
    let n : ℕ = length frame.objects.memories.items in
    let ty : MemoryType = c.in-Heap.ty in
    let alone : memories_wanted frame.asked ≡ plain_decl ty ∷ [] = ap memories_wanted c.in-Heap.is in
    told_by _ (memories_wanted frame.asked) (plain_decl ty) n alone c.make_memory_of-in-Heap.ensures.exchanged

pub returns-in-Heap-clause-value : goal.returns-in-Heap-clause-value
returns-in-Heap-clause-value g c =
    let frame = c.args.frame.now in
    let n : ℕ = length frame.objects.memories.items in
    let ty : MemoryType = c.in-Heap.ty in
    let alone : memories_wanted frame.asked ≡ plain_decl ty ∷ [] = ap memories_wanted c.in-Heap.is in
    told_by _ (memories_wanted frame.asked) (plain_decl ty) n alone c.make_memory_of-in-Heap.ensures.value

use Rattle.std.proofs.Common.{◌≡◌, ℕ, List, [], ◌∷◌, length, get_or, slice_index_or, sym, ap, subst, ◌∙◌, Option, None, IfSome, option_map}
use Rattle.pool_alloc.proofs.Imports.{MemoryDecl, MemoryType, ModuleInfo, Image, arc_value, minimum_byte_size, FitsInto}
use Rattle.pool_alloc.specs.CanStep.{CanBegin}
use Rattle.pool_alloc.specs.PageCallAnswers.{InstantiatesFor, FollowsPlanFor}
use Rattle.pool_alloc.specs.PlainModules.{ModuleAsked, MemoryAsked}
use Rattle.pool_alloc.specs.StepReads.{memories_wanted, images_wanted, image_wanted, plain_decl}
use Rattle.pool_alloc.specs.declared.frame.Asked.{Asked}
use Rattle.pool_alloc.proofs.Allocated.{told_at, there_at, told_by, there_by, told_beside, there_beside, map_copied, of_mapped}
use Rattle.pool_alloc.proofs.memory_pool.instantiate.begin.Goals as goal

pub returns-in-Module-clause-begun : goal.returns-in-Module-clause-begun
returns-in-Module-clause-begun g c =
    let frame = c.args.frame.now in
    let n : ℕ = length frame.objects.memories.items in
    let d : MemoryDecl = c.index-as_slice-memory.result in
    let items : c.as_slice.result.now ≡ memories_wanted frame.asked = c.as_slice.ensures ∙ ap (λ (m : ModuleInfo). m.memories) (c.deref.ensures ∙ ap (λ (k : ModuleAsked). k.info) c.call.view_is) ∙ ap memories_wanted (sym c.in-Module.is) in
    let same : d ≡ get_or (memories_wanted frame.asked) n d = c.index-as_slice-memory.is ∙ ap (λ (xs : List MemoryDecl). get_or xs c.len-memory.result d) items ∙ ap (λ (k : ℕ). get_or (memories_wanted frame.asked) k d) c.len-memory.ensures.value in
    let image : option_map (λ i. arc_value i.now) c.image-image.result ≡ slice_index_or (images_wanted frame.asked) n None = c.image-image.ensures ∙ ap (λ (a : Asked). slice_index_or (images_wanted a) c.len-memory.result None) (sym c.in-Module.is) ∙ ap (λ (k : ℕ). slice_index_or (images_wanted frame.asked) k None) c.len-memory.ensures.value in
    let I : Option Image → Type 0 = λ o. InstantiatesFor c.args.settings.now d c.begin_memory.result o c.args.held.now c.begin_memory.new.held in
    told_at _ (memories_wanted frame.asked) n d same (subst I image c.begin_memory.ensures.begun)

pub returns-in-Memory-clause-begun : goal.returns-in-Memory-clause-begun
returns-in-Memory-clause-begun g c =
    let frame = c.args.frame.now in
    let n : ℕ = length frame.objects.memories.items in
    let ty : MemoryType = c.call-in-Memory.inside.ty in
    let named : ty ≡ c.in-Memory.call.ty = ap (λ (k : MemoryAsked). k.ty) c.call-in-Memory.view_is in
    let alone : memories_wanted frame.asked ≡ plain_decl ty ∷ [] = ap memories_wanted c.in-Memory.is ∙ ap (λ (t : MemoryType). plain_decl t ∷ []) (sym named) in
    let beside : images_wanted frame.asked ≡ option_map (λ i. arc_value i.now) c.as_ref.result ∷ [] = ap images_wanted c.in-Memory.is ∙ ap (λ (o : Option Image). o ∷ []) (sym (map_copied arc_value c.as_ref.result ∙ ap (option_map arc_value) c.as_ref.ensures.value ∙ ap (λ (k : MemoryAsked). k.image) c.call-in-Memory.view_is)) in
    told_beside (λ decl o. InstantiatesFor c.args.settings.now decl c.begin_memory-in-Memory.result o c.args.held.now c.begin_memory-in-Memory.new.held) (memories_wanted frame.asked) (images_wanted frame.asked) (plain_decl ty) (option_map (λ i. arc_value i.now) c.as_ref.result) None n alone beside c.begin_memory-in-Memory.ensures.begun

pub returns-in-Heap-clause-begun : goal.returns-in-Heap-clause-begun
returns-in-Heap-clause-begun g c =
    let frame = c.args.frame.now in
    let n : ℕ = length frame.objects.memories.items in
    let ty : MemoryType = c.in-Heap.ty in
    let alone : memories_wanted frame.asked ≡ plain_decl ty ∷ [] = ap memories_wanted c.in-Heap.is in
    let none : slice_index_or (images_wanted frame.asked) n None ≡ None = ap (λ (a : Asked). slice_index_or (images_wanted a) n None) c.in-Heap.is in
    let I : Option Image → Type 0 = λ o. InstantiatesFor c.args.settings.now (plain_decl ty) c.begin_memory-in-Heap.result o c.args.held.now c.begin_memory-in-Heap.new.held in
    told_by _ (memories_wanted frame.asked) (plain_decl ty) n alone (subst I (sym none) c.begin_memory-in-Heap.ensures.begun)

pub returns-in-Module-clause-planned : goal.returns-in-Module-clause-planned
returns-in-Module-clause-planned g c =
    let frame = c.args.frame.now in
    let n : ℕ = length frame.objects.memories.items in
    let d : MemoryDecl = c.index-as_slice-memory.result in
    let items : c.as_slice.result.now ≡ memories_wanted frame.asked = c.as_slice.ensures ∙ ap (λ (m : ModuleInfo). m.memories) (c.deref.ensures ∙ ap (λ (k : ModuleAsked). k.info) c.call.view_is) ∙ ap memories_wanted (sym c.in-Module.is) in
    let same : d ≡ get_or (memories_wanted frame.asked) n d = c.index-as_slice-memory.is ∙ ap (λ (xs : List MemoryDecl). get_or xs c.len-memory.result d) items ∙ ap (λ (k : ℕ). get_or (memories_wanted frame.asked) k d) c.len-memory.ensures.value in
    let image : option_map (λ i. arc_value i.now) c.image-image.result ≡ slice_index_or (images_wanted frame.asked) n None = c.image-image.ensures ∙ ap (λ (a : Asked). slice_index_or (images_wanted a) c.len-memory.result None) (sym c.in-Module.is) ∙ ap (λ (k : ℕ). slice_index_or (images_wanted frame.asked) k None) c.len-memory.ensures.value in
    let I : Option Image → Type 0 = λ o. FollowsPlanFor c.args.settings.now d c.begin_memory.result o c.args.held.now c.begin_memory.new.held in
    told_at _ (memories_wanted frame.asked) n d same (subst I image c.begin_memory.ensures.planned)

pub returns-in-Memory-clause-planned : goal.returns-in-Memory-clause-planned
returns-in-Memory-clause-planned g c =
    let frame = c.args.frame.now in
    let n : ℕ = length frame.objects.memories.items in
    let ty : MemoryType = c.call-in-Memory.inside.ty in
    let named : ty ≡ c.in-Memory.call.ty = ap (λ (k : MemoryAsked). k.ty) c.call-in-Memory.view_is in
    let alone : memories_wanted frame.asked ≡ plain_decl ty ∷ [] = ap memories_wanted c.in-Memory.is ∙ ap (λ (t : MemoryType). plain_decl t ∷ []) (sym named) in
    let beside : images_wanted frame.asked ≡ option_map (λ i. arc_value i.now) c.as_ref.result ∷ [] = ap images_wanted c.in-Memory.is ∙ ap (λ (o : Option Image). o ∷ []) (sym (map_copied arc_value c.as_ref.result ∙ ap (option_map arc_value) c.as_ref.ensures.value ∙ ap (λ (k : MemoryAsked). k.image) c.call-in-Memory.view_is)) in
    told_beside (λ decl o. FollowsPlanFor c.args.settings.now decl c.begin_memory-in-Memory.result o c.args.held.now c.begin_memory-in-Memory.new.held) (memories_wanted frame.asked) (images_wanted frame.asked) (plain_decl ty) (option_map (λ i. arc_value i.now) c.as_ref.result) None n alone beside c.begin_memory-in-Memory.ensures.planned

pub returns-in-Heap-clause-planned : goal.returns-in-Heap-clause-planned
returns-in-Heap-clause-planned g c =
    let frame = c.args.frame.now in
    let n : ℕ = length frame.objects.memories.items in
    let ty : MemoryType = c.in-Heap.ty in
    let alone : memories_wanted frame.asked ≡ plain_decl ty ∷ [] = ap memories_wanted c.in-Heap.is in
    let none : slice_index_or (images_wanted frame.asked) n None ≡ None = ap (λ (a : Asked). slice_index_or (images_wanted a) n None) c.in-Heap.is in
    let I : Option Image → Type 0 = λ o. FollowsPlanFor c.args.settings.now (plain_decl ty) c.begin_memory-in-Heap.result o c.args.held.now c.begin_memory-in-Heap.new.held in
    told_by _ (memories_wanted frame.asked) (plain_decl ty) n alone (subst I (sym none) c.begin_memory-in-Heap.ensures.planned)

pub begin_memory-requires : goal.begin_memory-requires
begin_memory-requires g c =
    let frame = c.args.frame.now in
    let n : ℕ = length frame.objects.memories.items in
    let d : MemoryDecl = c.index-as_slice-memory.result in
    let items : c.as_slice.result.now ≡ memories_wanted frame.asked = c.as_slice.ensures ∙ ap (λ (m : ModuleInfo). m.memories) (c.deref.ensures ∙ ap (λ (k : ModuleAsked). k.info) c.call.view_is) ∙ ap memories_wanted (sym c.in-Module.is) in
    let same : d ≡ get_or (memories_wanted frame.asked) n d = c.index-as_slice-memory.is ∙ ap (λ (xs : List MemoryDecl). get_or xs c.len-memory.result d) items ∙ ap (λ (k : ℕ). get_or (memories_wanted frame.asked) k d) c.len-memory.ensures.value in
    let image : option_map (λ i. arc_value i.now) c.image-image.result ≡ slice_index_or (images_wanted frame.asked) n None = c.image-image.ensures ∙ ap (λ (a : Asked). slice_index_or (images_wanted a) c.len-memory.result None) (sym c.in-Module.is) ∙ ap (λ (k : ℕ). slice_index_or (images_wanted frame.asked) k None) c.len-memory.ensures.value in
    let can : CanBegin c.args.held.now (image_wanted frame) d = there_at (CanBegin c.args.held.now (image_wanted frame)) (memories_wanted frame.asked) n d c.requires.next.more same c.requires.can in
    let F : Option Image → Type 0 = λ o. IfSome o (FitsInto c.args.held.now.region.page (minimum_byte_size d.ty)) in
    record { clean = c.requires.clean; page_log2 = can.page_log2; minimum = can.minimum; bounded = can.bounded; image_fits = of_mapped (λ i. arc_value i.now) (FitsInto c.args.held.now.region.page (minimum_byte_size d.ty)) c.image-image.result (subst F (sym image) can.image_fits) }

pub begin_memory-requires-in-Memory : goal.begin_memory-requires-in-Memory
begin_memory-requires-in-Memory g c =
    let frame = c.args.frame.now in
    let n : ℕ = length frame.objects.memories.items in
    let ty : MemoryType = c.call-in-Memory.inside.ty in
    let named : ty ≡ c.in-Memory.call.ty = ap (λ (k : MemoryAsked). k.ty) c.call-in-Memory.view_is in
    let alone : memories_wanted frame.asked ≡ plain_decl ty ∷ [] = ap memories_wanted c.in-Memory.is ∙ ap (λ (t : MemoryType). plain_decl t ∷ []) (sym named) in
    let beside : images_wanted frame.asked ≡ option_map (λ i. arc_value i.now) c.as_ref.result ∷ [] = ap images_wanted c.in-Memory.is ∙ ap (λ (o : Option Image). o ∷ []) (sym (map_copied arc_value c.as_ref.result ∙ ap (option_map arc_value) c.as_ref.ensures.value ∙ ap (λ (k : MemoryAsked). k.image) c.call-in-Memory.view_is)) in
    let can : CanBegin c.args.held.now (option_map (λ i. arc_value i.now) c.as_ref.result) (plain_decl ty) = there_beside (λ decl o. CanBegin c.args.held.now o decl) (memories_wanted frame.asked) (images_wanted frame.asked) (plain_decl ty) (option_map (λ i. arc_value i.now) c.as_ref.result) None n alone beside c.requires.next.more c.requires.can in
    record { clean = c.requires.clean; page_log2 = can.page_log2; minimum = can.minimum; bounded = can.bounded; image_fits = of_mapped (λ i. arc_value i.now) (FitsInto c.args.held.now.region.page (minimum_byte_size ty)) c.as_ref.result can.image_fits }

pub begin_memory-requires-in-Heap : goal.begin_memory-requires-in-Heap
begin_memory-requires-in-Heap g c =
    let frame = c.args.frame.now in
    let n : ℕ = length frame.objects.memories.items in
    let ty : MemoryType = c.in-Heap.ty in
    let alone : memories_wanted frame.asked ≡ plain_decl ty ∷ [] = ap memories_wanted c.in-Heap.is in
    let can : CanBegin c.args.held.now (image_wanted frame) (plain_decl ty) = there_by (CanBegin c.args.held.now (image_wanted frame)) (memories_wanted frame.asked) (plain_decl ty) n alone c.requires.next.more c.requires.can in
    record { clean = c.requires.clean; page_log2 = can.page_log2; minimum = can.minimum; bounded = can.bounded; image_fits = tt }

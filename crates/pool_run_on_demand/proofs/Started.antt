-- What a run on demand begins with: the calls are for the input's modules, and the commands name them; and what it ends with.
use Rattle.std.proofs.Common.{◌≡◌, ℕ, ◌+◌, ◌<◌, List, [], ◌∷◌, length, refl, sym, ap, ◌∙◌, subst, arith, Option, Some, None, true, IfSome, option_map, slice_get, slice_index_or}
use Rattle.pool_run_on_demand.proofs.Imports.{get_or-map, get_or_from_slice_get, slice_get-get_or, rounded_up, MakerTold, ModuleInfo, ModuleAsked, IsModule, OnDemandInstanceAllocator, no_module, is_built, is_built_memory, is_built_module, call_made, calls_made, Terms, world_of, is_valid, is_valid_module, NameModules, Command, Input, Party, built_modules, built_memories, small_pages, parties_name, of_all, valid_modules, few_memories, calls_at}
use Rattle.pool_run_on_demand.specs.Runs.{IsBackground}
use Rattle.pool_run_on_demand.specs.Seen.{number_of, IsAllocatorFor, IsCallOnDemand, AreCallsOnDemand}

-- a module that can be run can be used
is_module : (m : ModuleInfo) → is_built_module m ≡ true → is_valid_module m ≡ true → IsModule m
is_module m built valid = record {
  types = λ k d below.
      let here : slice_get m.memories k ≡ Some (slice_index_or m.memories k d) = slice_get-get_or m.memories k d below in
      omega (arith, small_pages (slice_index_or m.memories k d) (of_all is_built_memory m.memories k (slice_index_or m.memories k d) (built_memories m built) here));
  count = few_memories m valid;
}

module _ (input : Input) (maker : MakerTold) (built : is_built input ≡ true) (valid : is_valid input ≡ true) where
  abbrev terms : Terms
  terms = (world_of input maker).terms

  call_on_demand : (number : ℕ) (m : ModuleInfo) → slice_get input.modules number ≡ Some m → IsCallOnDemand terms input.tunables (call_made input.tunables maker.page number m)
  call_on_demand number m there = record {
    settings = refl;
    info = get_or_from_slice_get input.modules number m no_module there;
    images = refl;
    usable = is_module m (of_all is_built_module input.modules number m (built_modules input built) there) (of_all is_valid_module input.modules number m (valid_modules input valid) there);
  }

  abbrev For : ℕ → Option ModuleAsked → Type 0
  For number o = IfSome o (λ call. (number_of call ≡ number) × IsCallOnDemand terms input.tunables call)

  call_there : (number : ℕ) (o : Option ModuleInfo) → slice_get input.modules number ≡ o → For number (option_map (call_made input.tunables maker.page number) o)
  call_there number None there = tt
  call_there number (Some m) there = (refl, call_on_demand number m there)

  each_on_demand : (calls : List ModuleAsked) → calls ≡ calls_made input.tunables maker.page 0 input.modules → (number : ℕ) → For number (slice_get calls number)
  each_on_demand calls made number =
      let at_number : slice_get calls number ≡ option_map (call_made input.tunables maker.page number) (slice_get input.modules number) =
      ap (λ (cs : List ModuleAsked). slice_get cs number) made ∙ calls_at input.tunables maker.page 0 input.modules number ∙ ap (λ (k : ℕ). option_map (call_made input.tunables maker.page k) (slice_get input.modules number)) {x = 0 + number} {y = number} (omega arith) in
      subst (For number) (sym at_number) (call_there number (slice_get input.modules number) refl)

  calls_on_demand : (calls : List ModuleAsked) → calls ≡ calls_made input.tunables maker.page 0 input.modules → AreCallsOnDemand terms input.tunables calls
  calls_on_demand calls made = record { settings = refl; each = each_on_demand calls made }

  calls_long : (n : ℕ) (ms : List ModuleInfo) → length (calls_made input.tunables maker.page n ms) ≡ length ms
  calls_long n [] = refl
  calls_long n (m ∷ ms) = omega (arith, calls_long (n + 1) ms)

  pub background_made : (calls : List ModuleAsked) → calls ≡ calls_made input.tunables maker.page 0 input.modules → IsBackground (world_of input maker) input calls
  background_made calls made = record {
    asked = calls_on_demand calls made;
    named = λ i below.
        let none : Party = party_there input.parties i below in
        let count : length calls ≡ length input.modules = ap (λ (cs : List ModuleAsked). length cs) made ∙ calls_long 0 input.modules in
        let Names : List Command → Type 0 = λ cs. NameModules (length calls) cs in
        subst Names (sym (get_or-map (λ (p : Party). p.commands) input.parties i none [] below)) (parties_name input input.parties (length calls) refl count valid i none below);
  }
    where
      party_there : (ps : List Party) (i : ℕ) → i < length ps → Party
      party_there [] i below = absurd (omega (arith, below))
      party_there (p ∷ ps) i below = p

-- The allocator of a run is as the input's settings say.
pub allocator_made : {M C : Type 0} (input : Input) (maker : MakerTold) (a : OnDemandInstanceAllocator M C) → 0 < maker.page → a.stack_size ≡ input.config.stack_size → a.stack_zeroing ≡ input.config.async_stack_zeroing → IsAllocatorFor (world_of input maker).terms a maker
allocator_made input maker a paged size zeroing = record {
  pages = record { tells = refl; page = refl; paged = paged };
  size = ap (rounded_up maker.page) (sym size);
  zeroing = sym zeroing;
}

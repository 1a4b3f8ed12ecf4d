-- A shared memory as it is made for an input.
use Rattle.std.proofs.Common.{◌≡◌, ℕ, ◌+◌, ◌-◌, ◌*◌, ◌/◌, ◌^◌, ◌<◌, ◌≤◌, Bool, true, false, List, [], length, replicate, min, Option, Some, None, Result, Ok, Err, is_some, refl, sym, ap, ◌∙◌, subst, arith, ◌==◌, ◌||◌, nat_le, nat_lt, if◌then◌else◌, IfSome}
use Rattle.pool_run_shared.proofs.Imports.{div-mul-le_self, leb-true, or_left, nat_tests, length-replicate, told_if, mapped_some, first_true, second_true, MakerTold, above, allow_growth_to, minimum_byte_size, refused_limits, IsPageSize, Unsupported, MinimumExceedsMaximum, MemoryError, MemoryTunables, MemoryType, Slot, raising, raised, Layout, layout_len, first_layout, bytes_of, IsMadeFor, MakingLeaves, region_for, slot_of_region, slot_for, Shared, MakingBy, first_shared, layout_for, minimum_refusal, or_refused, refusal_in, type_refusal}
use Rattle.pool_memory.specs.declared.memory_error.MemoryError.TheVariants as refused
use Rattle.pool_run_shared.specs.Events.{SharedView}
use Rattle.pool_run_shared.specs.Runs.{first_size, shared_layout, shared_tunables, shared_type}
use Rattle.pool_run_shared.specs.Steps.{IsMadeShared, IsMakingFault, IsNotMade, fault_of}
use Rattle.pool_run_shared.specs.Validity.{is_shareable, is_valid_shared, most_minimum, reaches}
use Rattle.pool_run_shared.specs.declared.input.SharedInput.{SharedInput}

-- what a slot is once so many bytes of it can be reached
record IsReached (s t : Slot) : Type 0 where
  room : t.static_size ≡ s.static_size
  tells : is_some t.region.contents ≡ is_some s.region.contents
  plan : t.region.plan ≡ s.region.plan
  calls : t.region.made ≤ s.region.made + 1

calls_by : (b : Bool) (made : ℕ) → (if b then made else min (made + 1) (2 ^ 64 - 1)) ≤ made + 1
calls_by true made = omega arith
calls_by false made = omega arith

reached_by : (size : ℕ) (s : Slot) (b : Bool) → IsReached s (if b then raised size s else s)
reached_by size s true = record { room = refl; tells = mapped_some _ s.region.contents; plan = refl; calls = calls_by ((raising size s).len == 0) s.region.made }
reached_by size s false = record { room = refl; tells = refl; plan = refl; calls = omega arith }

-- bytes that are zeros where they are told
zeros_if : (n : ℕ) (o : Option (List ℕ)) (tells : Bool) → is_some o ≡ tells → IfSome o (λ b. b ≡ replicate n 0) → o ≡ (if tells then Some (replicate n 0) else None)
zeros_if n None true told zeros = absurd (cc told)
zeros_if n None false told zeros = refl
zeros_if n (Some b) true told zeros = ap Some zeros
zeros_if n (Some b) false told zeros = absurd (cc told)

zeros_long : (n : ℕ) (o : Option (List ℕ)) → IfSome o (λ b. b ≡ replicate n 0) → IfSome o (λ b. length b ≡ n)
zeros_long n None zeros = tt
zeros_long n (Some b) zeros = ap length zeros ∙ length-replicate n 0

-- the memory's own pages are small
page_by : (k : ℕ) (b : Bool) → (k == 0) ≡ b → (b || (k == 16)) ≡ true → 2 ^ k ≤ 65536
page_by k true none is =
    let zero : k ≡ 0 = grind (arith, nat_tests, none) in
    let P : ℕ → Type 0 = λ j. 2 ^ j ≤ 65536 in
    subst P (sym zero) (omega arith)
page_by k false some is =
    let sixteen : k ≡ 16 = grind (arith, nat_tests, is) in
    let P : ℕ → Type 0 = λ j. 2 ^ j ≤ 65536 in
    subst P (sym sixteen) (omega arith)

module _ (input : SharedInput) (valid : is_valid_shared input ≡ true) where
  shareable : is_shareable input.memory.ty ≡ true
  shareable = first_true _ _ (first_true _ _ valid)

  least : minimum_byte_size input.memory.ty ≤ 2 ^ 32
  least = leb-true (minimum_byte_size input.memory.ty) most_minimum (second_true _ _ (second_true _ _ shareable))

  page : 2 ^ input.memory.ty.page_size_log2 ≤ 65536
  page = page_by input.memory.ty.page_size_log2 (input.memory.ty.page_size_log2 == 0) refl (first_true _ _ shareable)

-- The memory as it is made.
first_made : (input : SharedInput) (maker left : MakerTold) → maker.page ≡ input.page → is_valid_shared input ≡ true → IfSome (bytes_of (first_shared maker (shared_type input) shared_tunables).memory) (λ b. b ≡ replicate (first_size input) 0) → IsMadeFor (layout_for maker.page (shared_type input) shared_tunables) (first_size input) maker left → IsMadeShared input maker left (first_shared maker (shared_type input) shared_tunables)
first_made input maker left same valid zeros made =
    let s : Shared = first_shared maker (shared_type input) shared_tunables in
    let l : Layout = layout_for maker.page (shared_type input) shared_tunables in
    let start : Slot = slot_of_region (region_for maker l) l in
    let reached = reached_by _ start (nat_lt 0 _) in
    let tells : is_some (bytes_of s.memory) ≡ maker.tells = mapped_some _ (slot_for maker l (first_size input)).region.contents ∙ reached.tells ∙ told_if maker.tells _ in
    let L : ℕ → Type 0 = λ p. IsMadeFor (layout_for p (shared_type input) shared_tunables) (first_size input) maker left in
    let Parts : ℕ → Option (List ℕ) → SharedView = λ capacity bytes. record { memory = record { slot = 0; ty = shared_type input; size = first_size input; capacity = capacity; bytes = bytes }; spot = [] } in
    let roomy : s.memory.linear.capacity ≡ (shared_layout input).capacity = reached.room ∙ ap (λ (p : ℕ). (layout_for p (shared_type input) shared_tunables).capacity) same in
    record {
      made = subst L same made;
      view = ap (λ (n : ℕ). Parts n (bytes_of s.memory)) roomy ∙ ap (Parts (shared_layout input).capacity) (zeros_if (first_size input) (bytes_of s.memory) maker.tells tells zeros);
      kept = record { in_slot = tt; fixed = refl; room = omega (arith, least input valid, page input valid); bytes = zeros_long (first_size input) (bytes_of s.memory) zeros };
      plan = reached.plan;
      calls = reached.calls;
    }

pub made_as : (input : SharedInput) (maker left : MakerTold) (s : Shared) (ty : MemoryType) (t : MemoryTunables) → maker.page ≡ input.page → is_valid_shared input ≡ true → ty ≡ shared_type input → t ≡ shared_tunables → s ≡ first_shared maker ty t → IfSome (bytes_of s.memory) (λ b. b ≡ replicate (minimum_byte_size ty) 0) → IsMadeFor (layout_for maker.page ty t) (minimum_byte_size ty) maker left → IsMadeShared input maker left s
made_as input maker left s ty t same valid of_type of_settings is zeros made =
    let From : MemoryType → MemoryTunables → Type 0 = λ x u. IfSome (bytes_of (first_shared maker x u).memory) (λ b. b ≡ replicate (minimum_byte_size x) 0) → IsMadeFor (layout_for maker.page x u) (minimum_byte_size x) maker left → IsMadeShared input maker left (first_shared maker x u) in
    let Zeros : Shared → Type 0 = λ x. IfSome (bytes_of x.memory) (λ b. b ≡ replicate (minimum_byte_size ty) 0) in
    let from : From ty t = subst (λ (x : MemoryType). From x t) (sym of_type) (subst (From (shared_type input)) (sym of_settings) (first_made input maker left same valid)) in
    subst (IsMadeShared input maker left) (sym is) (from (subst Zeros is zeros) made)

-- addresses reach the end of its region
rounded_most : (page n : ℕ) → page ≤ 65536 → (n + page - 1) / page * page ≤ n + 65536
rounded_most page n small = let at = div-mul-le_self (n + page - 1) page in omega (arith, at, small)

room_by : (n : ℕ) (b : Bool) → n ≤ 2 ^ 32 → (if b then 1048576 else n + 0) ≤ 2 ^ 32
room_by n true small = omega arith
room_by n false small = omega (arith, small)

reaches_end : (page n : ℕ) → page ≤ 65536 → n ≤ 2 ^ 32 → layout_len (first_layout page shared_tunables n) < 2 ^ 64
reaches_end page n sized small =
    let room = room_by n (nat_le n 1048576) small in
    let capacity = rounded_most page (if nat_le n 1048576 then 1048576 else n + 0) sized in
    let guard = rounded_most page 65536 sized in
    omega (arith, room, capacity, guard)

-- The type is supported.
above_none : (least : ℕ) (most : Option ℕ) → reaches least most ≡ true → above least most ≡ None
above_none least None is = absurd (cc is)
above_none least (Some n) is =
    let U : Bool → Type 0 = λ b. ◌≡◌ {A = Option Unsupported} (if b then Some (MinimumExceedsMaximum least n) else None) None in
    let below : nat_lt n least ≡ false = grind (arith, nat_tests, is) in
    subst U (sym below) refl

granted_by : (a b : Bool) (x : ℕ × Option ℕ) (u v : MemoryError) → a ≡ true → b ≡ true → refusal_in (if◌then◌else◌ {A = Result (ℕ × Option ℕ) MemoryError} a (if◌then◌else◌ {A = Result (ℕ × Option ℕ) MemoryError} b (Ok x) (Err u)) (Err v)) ≡ None
granted_by true true x u v p q = refl
granted_by true false x u v p q = absurd (cc q)
granted_by false b x u v p q = absurd (cc p)

supported : (input : SharedInput) → is_valid_shared input ≡ true → type_refusal true (shared_type input) ≡ None
supported input valid =
    let ty : MemoryType = shared_type input in
    let small : nat_le (minimum_byte_size ty) (2 ^ 32) ≡ true = second_true _ _ (second_true _ _ (shareable input valid)) in
    let fits : nat_lt (minimum_byte_size ty) (2 ^ 64) ≡ true = grind (arith, nat_tests, least input valid) in
    let limits : refused_limits ty.limits ≡ None = above_none ty.limits.min ty.limits.max (first_true _ _ (second_true _ _ (shareable input valid))) in
    let minimum : minimum_refusal ty ≡ None = granted_by (nat_lt (minimum_byte_size ty) (2 ^ 64)) (allow_growth_to ty (minimum_byte_size ty)) _ _ _ fits (or_left (nat_le (minimum_byte_size ty) (2 ^ 32)) _ small) in
    ap (λ (o : Option Unsupported). or_refused o (minimum_refusal ty)) limits ∙ minimum

-- So the maker is asked for its region.
pub asked_for : {X : Type 0} (input : SharedInput) (ty : MemoryType) (l : Layout) (n : ℕ) (r : Result X MemoryError) (maker left : MakerTold) → is_valid_shared input ≡ true → ty ≡ shared_type input → MakingBy (type_refusal true ty) l n r maker left → MakingLeaves l n r maker left
asked_for input ty l n r maker left valid of_type making =
    let none : type_refusal true ty ≡ None = ap (type_refusal true) of_type ∙ supported input valid in
    subst (λ (o : Option Unsupported). MakingBy o l n r maker left) none making

making_fault : (X : Type 0) (l : Layout) (n : ℕ) (e : MemoryError) (maker left : MakerTold) → layout_len l < 2 ^ 64 → MakingLeaves {X = X} l n (Err e) maker left → IsMakingFault e
making_fault X l n refused.Memory maker left fits leaves = tt
making_fault X l n (refused.Unsupported u) maker left fits leaves = absurd (omega (arith, fits, leaves.1.0))
making_fault X l n (refused.LimiterDenied min) maker left fits leaves = absurd leaves
making_fault X l n (refused.LimiterFault e) maker left fits leaves = absurd leaves
making_fault X l n refused.PageFault maker left fits leaves = tt

not_made : (X : Type 0) (input : SharedInput) (e : MemoryError) (maker left : MakerTold) → MakingLeaves {X = X} (shared_layout input) (first_size input) (Err e) maker left → IsMakingFault e → IsNotMade input maker left (fault_of e)
not_made X input refused.Memory maker left leaves is = tt
not_made X input (refused.Unsupported u) maker left leaves is = absurd is
not_made X input (refused.LimiterDenied min) maker left leaves is = absurd is
not_made X input (refused.LimiterFault e) maker left leaves is = absurd is
not_made X input refused.PageFault maker left leaves is = leaves

pub refused_as : (X : Type 0) (input : SharedInput) (maker left : MakerTold) (e : MemoryError) (ty : MemoryType) (t : MemoryTunables) → maker.page ≡ input.page → IsPageSize input.page → is_valid_shared input ≡ true → ty ≡ shared_type input → t ≡ shared_tunables → MakingLeaves {X = X} (layout_for maker.page ty t) (minimum_byte_size ty) (Err e) maker left → IsMakingFault e × IsNotMade input maker left (fault_of e)
refused_as X input maker left e ty t same sized valid of_type of_settings making =
    let L : ℕ → MemoryType → MemoryTunables → Type 0 = λ p x u. MakingLeaves {X = X} (layout_for p x u) (minimum_byte_size x) (Err e) maker left in
    let leaves : L input.page (shared_type input) shared_tunables =
    subst (L input.page (shared_type input)) of_settings (subst (λ (x : MemoryType). L input.page x t) of_type (subst (λ (p : ℕ). L p ty t) same making)) in
    let fault : IsMakingFault e = making_fault X (shared_layout input) (first_size input) e maker left (reaches_end input.page (first_size input) sized.at_most (least input valid)) leaves in
    (fault, not_made X input e maker left leaves fault)

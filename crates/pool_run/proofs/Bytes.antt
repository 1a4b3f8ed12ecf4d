-- The bytes of a memory as the party sees them: as it begins, and once they are written.
use Rattle.std.proofs.Common.{◌≡◌, ℕ, ◌+◌, ◌≤◌, List, length, take, replicate, Option, Some, None, Bool, refl, sym, ap, ◌∙◌, subst, arith, if◌then◌else◌, is_some, IfSome, option_map, slice_range}
use Rattle.pool_run.proofs.Imports.{same_lists, places, take-replicate, Contents, written, minimum_byte_size, MemoryDecl, memory_region, OnDemand, MemoryType, Image, start, SlotIdentity, FitsInto, IsBegun, Storage, in_slot, stored, slot_in, first_bytes, storage_written, maximum_asked, image_slot_of, state_written, static_capacity, Lease, IsNew, IsPoolSlot, Settings, MakerTold}
use Rattle.pool_pages.specs.Contents.{put}
use Rattle.pool_alloc.proofs.HeldSlots.{held_name, held_tells}
use Rattle.pool_run.specs.Private.{Terms, PrivateMemory, begun_memory, private_written}
use Rattle.pool_run.specs.Turns.{seen_as, private_memory}

-- what is written into the first n elements is written into a list's first n
pub take_put : (i n : ℕ) (new xs : List ℕ) → i + length new ≤ n → take n (put i new xs) ≡ put i new (take n xs)
take_put i n new xs within = same_lists _ _ (grind (arith, places)) (λ k d h. grind (arith, places))

-- a write to the first bytes of a region
written_in : (i size base : ℕ) (new : List ℕ) (o : Option Contents) → base ≡ 0 → i + length new ≤ size → option_map (λ c. slice_range c.bytes base (base + size)) (option_map (written (base + i) new) o) ≡ option_map (put i new) (option_map (λ c. slice_range c.bytes base (base + size)) o)
written_in i size base new None is within = refl
written_in i size base new (Some c) is within =
    let P : ℕ → Type 0 = λ b. Some (slice_range (put (b + i) new c.bytes) b (b + size)) ≡ Some (put i new (slice_range c.bytes b (b + size))) in
    let from_start : (xs : List ℕ) → slice_range xs 0 (0 + size) ≡ take size xs = λ xs. ap (λ (n : ℕ). take n xs) (omega arith) in
    let Q : ℕ → Type 0 = λ j. slice_range (put j new c.bytes) 0 (0 + size) ≡ put i new (slice_range c.bytes 0 (0 + size)) in
    let here : i ≡ 0 + i = omega arith in
    subst P (sym is) (ap Some (subst Q here (from_start (put i new c.bytes) ∙ take_put i size new c.bytes within ∙ ap (put i new) (sym (from_start c.bytes)))))

-- a write to the first bytes of what a memory lies in
storage_seen : (i size : ℕ) (new : List ℕ) (s : Storage) → (slot_in s).base.bytes ≡ 0 → i + length new ≤ size → first_bytes size (storage_written i new s) ≡ option_map (put i new) (first_bytes size s)
storage_seen i size new (in_slot s) base within = written_in i size s.base.bytes new s.region.contents base within
storage_seen i size new (stored len None) base within = refl
storage_seen i size new (stored len (Some bytes)) base within = ap Some (take_put i size new bytes within)

-- a memory that is written is to the party what its private bytes are once they are written
pub written_seen : (i : ℕ) (new : List ℕ) (l : Lease) → (image_slot_of l.memory).base.bytes ≡ 0 → i + length new ≤ l.memory.linear.size → seen_as l.index (state_written i new l.memory) ≡ private_written i new (private_memory l)
written_seen i new l base within =
    ap (λ (b : Option (List ℕ)). record (private_memory l) { bytes = b }) (storage_seen i l.memory.linear.size new l.memory.linear.storage base within)

-- the first bytes of a list that begins as a memory does
start_shorter : (image : Option Image) (m n : ℕ) → m ≤ n → IfSome image (λ i. i.offset + length i.bytes ≤ m) → take m (start image n) ≡ start image m
start_shorter None m n le fits = take-replicate m n 0 le
start_shorter (Some i) m n le fits = take_put i.offset m i.bytes (replicate n 0) fits ∙ ap (put i.offset i.bytes) (take-replicate m n 0 le)

range_shorter : (xs : List ℕ) (m n : ℕ) → m ≤ n → slice_range xs 0 (0 + m) ≡ take m (slice_range xs 0 (0 + n))
range_shorter xs m n le = same_lists _ _ (grind (arith, places)) (λ k d h. grind (arith, places))

-- the bytes of a memory that began
begun_bytes : (o : Option Contents) (image : Option Image) (m n base : ℕ) (tells : Bool) → is_some o ≡ tells → base ≡ 0 → m ≤ n → IfSome image (λ i. i.offset + length i.bytes ≤ m) → IfSome o (λ c. slice_range c.bytes base (base + n) ≡ start image n) → option_map (λ c. slice_range c.bytes base (base + m)) o ≡ (if tells then Some (start image m) else None)
begun_bytes None image m n base tells told at_start le fits reads =
    let P : Bool → Type 0 = λ b. None ≡ (if b then Some (start image m) else None) in
    subst P told refl
begun_bytes (Some c) image m n base tells told at_start le fits reads =
    let P : Bool → Type 0 = λ b. Some (slice_range c.bytes base (base + m)) ≡ (if b then Some (start image m) else None) in
    let Q : ℕ → Type 0 = λ b. slice_range c.bytes b (b + n) ≡ start image n in
    let whole : slice_range c.bytes 0 (0 + n) ≡ start image n = subst Q at_start reads in
    let R : ℕ → Type 0 = λ b. Some (slice_range c.bytes b (b + m)) ≡ Some (start image m) in
    let first : slice_range c.bytes 0 (0 + m) ≡ start image m = range_shorter c.bytes m n le ∙ ap (take m) whole ∙ start_shorter image m n le fits in
    subst P told (subst R (sym at_start) (ap Some first))

fits_of : (page m : ℕ) (image : Option Image) → IfSome image (FitsInto page m) → IfSome image (λ i. i.offset + length i.bytes ≤ m)
fits_of page m None fits = fits
fits_of page m (Some i) fits = fits.inside

-- the bytes of one that began in a slot of the pool
storage_begun : (maker : MakerTold) (settings : Settings) (i least : ℕ) (image : Option Image) (s : Storage) → IsPoolSlot maker settings i (slot_in s) → IsBegun image (slot_in s) → least ≤ settings.max_memory_size → IfSome image (λ m. m.offset + length m.bytes ≤ least) → first_bytes least s ≡ (if maker.tells then Some (start image least) else None)
storage_begun maker settings i least image (stored len bytes) of begun le fits = let wrong : OnDemand 0 ≡ memory_region i = held_name maker settings i (slot_in (stored len bytes)) of in absurd cc
storage_begun maker settings i least image (in_slot s) of begun le fits =
    begun_bytes s.region.contents image least s.static_size s.base.bytes maker.tells (held_tells maker settings i s of) (ap (λ (z : SlotIdentity). z.base.bytes) of.same) (omega (arith, le, ap (λ (z : SlotIdentity). z.static_size) of.same)) fits begun.reads

-- a memory that is new is to the party as private ones begin
pub begun_seen : (t : Terms) (maker : MakerTold) (s : Settings) (image : Option Image) (decl : MemoryDecl) (l : Lease) → t.tells ≡ maker.tells → t.settings ≡ s → IsPoolSlot maker s l.index (image_slot_of l.memory) → IsNew s.max_memory_size image l.memory decl → IfSome image (FitsInto s.page (minimum_byte_size decl.ty)) → private_memory l ≡ begun_memory t l.index (record { decl = decl; image = image })
begun_seen t maker s image decl l tells same of new fits =
    let least : ℕ = minimum_byte_size decl.ty in
    let Tells : Bool → Type 0 = λ b. first_bytes least l.memory.linear.storage ≡ (if b then Some (start image least) else None) in
    let bytes : Tells t.tells = subst Tells (sym tells) (storage_begun maker s l.index least image l.memory.linear.storage of new.slot.begun (omega (arith, new.slot.holds.inside, ap (λ (z : SlotIdentity). z.static_size) of.same)) (fits_of s.page least image fits)) in
    let started : Option (List ℕ) = if t.tells then Some (start image least) else None in
    let roomy : ℕ = static_capacity t.settings.max_memory_size (maximum_asked decl.ty) in
    let Parts : MemoryType → ℕ → Option (List ℕ) → PrivateMemory = λ ty n b. record { slot = l.index; ty = ty; size = least; capacity = n; bytes = b } in
    let room : l.memory.linear.capacity ≡ roomy = new.made.capacity ∙ ap (λ (x : Settings). static_capacity x.max_memory_size (maximum_asked decl.ty)) (sym same) in
    let Q : ℕ → Type 0 = λ n. ◌≡◌ {A = PrivateMemory} (record { slot = l.index; ty = l.memory.ty; size = n; capacity = l.memory.linear.capacity; bytes = first_bytes n l.memory.linear.storage }) (begun_memory t l.index (record { decl = decl; image = image })) in
    subst Q (sym new.made.size) (ap (Parts l.memory.ty l.memory.linear.capacity) bytes ∙ ap (λ (n : ℕ). Parts l.memory.ty n started) room ∙ ap (λ (ty : MemoryType). Parts ty roomy started) new.made.ty)

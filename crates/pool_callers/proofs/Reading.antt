-- What a caller finds in a memory, and in a table, as they come.
use Rattle.std.proofs.Common.{◌≡◌, ℕ, zero, suc, ◌+◌, ◌-◌, ◌≤◌, Bool, true, false, List, length, replicate, slice_get, slice_range, refl, sym, ap, ◌∙◌, subst, arith, Option, Some, None, is_some, IfSome, option_map, nat_le, if◌then◌else◌, Result, Ok, Err, OnOk, IfOk}
use Rattle.std.proofs.lemmas.Bool.{leb-true}
use Rattle.pool_pages.proofs.Puts.{range_range}
use Rattle.pool_pages.proofs.Small.{told_if}
use Rattle.pool_pages.specs.Contents.{Contents}
use Rattle.pool_pages.specs.Told.{Told}
use Rattle.pool_images.proofs.Marks.{range-zeros}
use Rattle.pool_images.specs.Images.{Image, start}
use Rattle.pool_images.specs.Slots.{Reads, SlotIdentity}
use Rattle.pool_limits.specs.declared.errors.Trap.{Trap}
use Rattle.pool_limits.specs.declared.errors.Trap.TheVariants.{MemoryOutOfBounds}
use Rattle.pool_memory.specs.Linear.{Storage, first_bytes, in_slot, slot_in, stored}
use Rattle.pool_memory.specs.Memories.{access_answer, bytes_of, slot_of}
use Rattle.pool_table.specs.Elements.{Element, ElementKind, empty}
use Rattle.pool_table.specs.Making.{kind_of}
use Rattle.pool_table.specs.Views.{TableView}
use Rattle.pool_types.specs.declared.table_type.TableType.{TableType}
use Rattle.pool_alloc.specs.Calls.{IsMemoryOf, IsTableOf}
use Rattle.pool_alloc.specs.Leases.{Lease}
use Rattle.pool_alloc.specs.PlainModules.{MemoryAsked}
use Rattle.pool_alloc.specs.TableLeases.{IsElementAt, LeasedTable, element_of}
use Rattle.pool_alloc.specs.declared.frame.Asked.TheVariants as asked
use Rattle.pool_alloc.specs.declared.leases.element.Element.{Element as Seen}
use Rattle.pool_alloc.proofs.HeldSlots.{held_tells}
use Rattle.pool_driver.specs.Placed.{About}

-- an access that was answered lies in bounds
in_bounds : (end size : ℕ) (b : Bool) (r : Result (Unit {0}) Trap) → nat_le end size ≡ b → r ≡ (if b then Ok tt else Err MemoryOutOfBounds) → OnOk r (end ≤ size)
in_bounds end size true r le is = subst (λ (x : Result (Unit {0}) Trap). OnOk x (end ≤ size)) (sym is) (leb-true end size le)
in_bounds end size false r le is = subst (λ (x : Result (Unit {0}) Trap). OnOk x (end ≤ size)) (sym is) tt

-- a part of zeros
zeros_at : (o : Option Contents) (base size at n room : ℕ) (out : List ℕ) → is_some o ≡ true → IfSome o (λ c. slice_range c.bytes base (base + room) ≡ replicate room 0) → size ≤ room → at + n ≤ size → IfSome (option_map (λ c. slice_range c.bytes base (base + size)) o) (λ bytes. out ≡ slice_range bytes at (at + n)) → out ≡ replicate n 0
zeros_at None base size at n room out told zeros within inside reads = absurd cc
zeros_at (Some c) base size at n room out told zeros within inside reads =
    reads
    ∙ range_range c.bytes base (base + size) at (at + n) (omega (arith, inside))
    ∙ sym (range_range c.bytes base (base + room) at (at + n) (omega (arith, inside, within)))
    ∙ ap (λ (xs : List ℕ). slice_range xs at (at + n)) zeros
    ∙ range-zeros room at (at + n) (omega (arith, inside, within))
    ∙ ap (λ (k : ℕ). replicate {A = ℕ} k 0) {x = at + n - at} {y = n} (omega arith)

zeros_in : (st : Storage) (size at n room : ℕ) (out : List ℕ) → is_some (slot_in st).region.contents ≡ true → Reads (slot_in st) room (replicate room 0) → size ≤ room → at + n ≤ size → IfSome (first_bytes size st) (λ bytes. out ≡ slice_range bytes at (at + n)) → out ≡ replicate n 0
zeros_in (stored len bytes) size at n room out told zeros within inside reads = absurd cc
zeros_in (in_slot s) size at n room out told zeros within inside reads = zeros_at s.region.contents s.base.bytes size at n room out told zeros within inside reads

module _ (a : About) (tells : a.maker.tells ≡ true) where
  zeros_of : (m : MemoryAsked) (l : Lease) (at n : ℕ) (out : List ℕ) → IsMemoryOf a.maker a.settings a.plan (asked.Memory m) l → m.image ≡ None → at + n ≤ l.memory.linear.size → IfSome (bytes_of l.memory) (λ bytes. out ≡ slice_range bytes at (at + n)) → out ≡ replicate n 0
  zeros_of m l at n out of plain inside reads =
      let same : m ≡ of.call = let is : asked.Memory m ≡ asked.Memory of.call = of.asked_for in cc in
      let none : of.call.image ≡ None = ap (λ (x : MemoryAsked). x.image) (sym same) ∙ plain in
      let room : ℕ = (slot_of l.memory).static_size in
      let zeros : Reads (slot_of l.memory) room (replicate room 0) = subst (λ (i : Option Image). Reads (slot_of l.memory) room (start i room)) none of.begins.slot.begun.reads in
      zeros_in l.memory.linear.storage l.memory.linear.size at n room out (held_tells a.maker a.settings l.index (slot_of l.memory) of.memory_is.slot ∙ tells) zeros
      (omega (arith, of.begins.made.size, of.begins.slot.holds.inside)) inside reads

  -- A memory that was asked for without an image reads as zeros, wherever it is read.
  pub memory_reads_zeros : (m : MemoryAsked) (l : Lease) (at : ℕ) (old new : List ℕ) (r : Result (Unit {0}) Trap) → IsMemoryOf a.maker a.settings a.plan (asked.Memory m) l → m.image ≡ None → r ≡ access_answer (at + length old) l.memory.linear.size → OnOk r (IfSome (bytes_of l.memory) (λ bytes. new ≡ slice_range bytes at (at + length old))) → OnOk r (new ≡ replicate (length old) 0)
  memory_reads_zeros m l at old new (Ok done) of plain answer reads = zeros_of m l at (length old) new of plain (in_bounds (at + length old) l.memory.linear.size (nat_le (at + length old) l.memory.linear.size) (Ok done) refl answer) reads
  memory_reads_zeros m l at old new (Err trap) of plain answer reads = tt

-- what is found among equal elements
one_of : (n at : ℕ) (x y : Element) → slice_get (replicate n x) at ≡ Some y → y ≡ x
one_of zero at x y is = absurd cc
one_of (suc n) zero x y is = cc
one_of (suc n) (suc at) x y is = one_of n at x y is

empty_at : (o : Option Contents) (es : Option (List Element)) (n at : ℕ) (x y : Element) → is_some o ≡ true → es ≡ option_map (λ c. replicate n x) o → IfSome es (λ xs. slice_get xs at ≡ Some y) → y ≡ x
empty_at None es n at x y told are found = absurd cc
empty_at (Some c) es n at x y told are found = one_of n at x y (subst (λ (o : Option (List Element)). IfSome o (λ xs. slice_get xs at ≡ Some y)) are found)

module _ (a : About) (tells : a.maker.tells ≡ true) where
  -- An element of a table that was asked for is empty, whichever it is.
  pub table_is_empty : (ty : TableType) (l : LeasedTable) (at : ℕ) (r : Result Seen Trap) → IsTableOf a.maker a.settings a.plan (asked.Table ty) l → IsElementAt l.table at r → IfOk r (λ e. element_of e ≡ empty (kind_of ty.element a.settings.tunables.tunables.table_lazy_init))
  table_is_empty ty l at (Ok e) of found =
      let same : ty ≡ of.ty = let is : asked.Table ty ≡ asked.Table of.ty = of.asked_for in cc in
      let there : l.table.region ≡ Some of.begins.region = ap (λ (v : TableView). v.region) of.begins.table in
      let same_region : of.table_is.region ≡ of.begins.region = let both : Some of.table_is.region ≡ Some of.begins.region = sym of.table_is.lies.is ∙ there in cc in
      let told : is_some of.begins.region.contents ≡ true = ap (λ (r : Told). is_some r.contents) (sym same_region) ∙ ap (λ (z : SlotIdentity). z.tells) of.table_is.slot.same ∙ told_if a.maker.tells _ ∙ tells in
      let Kind : TableType → ElementKind = λ t. kind_of t.element a.settings.tunables.tunables.table_lazy_init in
      empty_at of.begins.region.contents l.table.elements of.ty.limits.min at (empty (Kind of.ty)) (element_of e) told of.begins.elements found.1 ∙ ap (λ (t : TableType). empty (Kind t)) (sym same)
  table_is_empty ty l at (Err trap) of found = tt

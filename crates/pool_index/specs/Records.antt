-- The records of slots, and how their links change.
use Rattle.std.specs.Prelude.{ℕ, ◌+◌, ◌<◌, IfSome, List, slice_index_or, slice_set, replicate, Option, None, Some}
use Rattle.pool_index.specs.declared.ids.MemoryInModule.{MemoryInModule}
use Rattle.pool_index.specs.declared.slot_row.Chain.{Chain}
use Rattle.pool_index.specs.declared.slot_row.Chain.TheVariants.{Freed, Affine}
use Rattle.pool_index.specs.declared.slot_row.Links.{Links}
use Rattle.pool_index.specs.declared.slot_row.WarmRecord.{WarmRecord}
use Rattle.pool_index.specs.declared.slot_row.SlotRecord.{SlotRecord}
use Rattle.pool_index.specs.declared.slot_row.SlotRecord.TheVariants.{Cold, Used, Warm}

-- the record of slot k
abbrev pub record_of : List SlotRecord → ℕ → SlotRecord
record_of rs k = slice_index_or rs k Cold

-- so many slots, all cold
abbrev pub cold_records : ℕ → List SlotRecord
cold_records n = replicate n Cold

-- The links of a record that stands in no list.
abbrev pub no_links : Links
no_links = record { before = None; after = None }

-- the neighbours in a list
abbrev pub links_of : Chain → SlotRecord → Links
links_of Freed (Warm w) = w.freed
links_of Affine (Warm w) = w.affine
links_of Freed Cold = no_links
links_of Affine Cold = no_links
links_of Freed (Used a) = no_links
links_of Affine (Used a) = no_links

-- a warm slot with other neighbours in a list
abbrev pub with_links : Chain → Links → SlotRecord → SlotRecord
with_links Freed l (Warm w) = Warm (record w { freed = l })
with_links Affine l (Warm w) = Warm (record w { affine = l })
with_links Freed l Cold = Cold
with_links Affine l Cold = Cold
with_links Freed l (Used a) = Used a
with_links Affine l (Used a) = Used a

-- a slot, if there is one, has another slot after it in a list
abbrev pub with_after : Chain → Option ℕ → Option ℕ → List SlotRecord → List SlotRecord
with_after c None after rs = rs
with_after c (Some k) after rs = slice_set rs k (with_links c (record { before = (links_of c (record_of rs k)).before; after = after }) (record_of rs k))

-- a slot, if there is one, has another slot before it in a list
abbrev pub with_before : Chain → Option ℕ → Option ℕ → List SlotRecord → List SlotRecord
with_before c None before rs = rs
with_before c (Some k) before rs = slice_set rs k (with_links c (record { before = before; after = (links_of c (record_of rs k)).after }) (record_of rs k))

-- the neighbours of a slot are linked with each other
abbrev pub unlinked : Chain → Links → List SlotRecord → List SlotRecord
unlinked c l rs = with_before c l.after l.before (with_after c l.before l.after rs)

-- the last slot of a list is linked with one behind it
abbrev pub appended : Chain → Option ℕ → ℕ → List SlotRecord → List SlotRecord
appended c last k rs = with_after c last (Some k) rs

-- how often the record of a slot is accessed where a link of it is set: once, and never where there is no slot
abbrev pub link_accesses : Option ℕ → ℕ
link_accesses None = 0
link_accesses (Some k) = 1

-- the slots that a record is linked with are among so many
pub record LinksWithin (n : ℕ) (r : SlotRecord) : Type 0 where
  pub freed_before : IfSome (links_of Freed r).before (λ k. k < n)
  pub freed_after : IfSome (links_of Freed r).after (λ k. k < n)
  pub affine_before : IfSome (links_of Affine r).before (λ k. k < n)
  pub affine_after : IfSome (links_of Affine r).after (λ k. k < n)

-- The records once a warm slot is used for what was wanted: its neighbours are linked with each other in both lists
abbrev pub taken_rows : Option MemoryInModule → WarmRecord → ℕ → List SlotRecord → List SlotRecord
taken_rows want w x rs = unlinked Affine w.affine (unlinked Freed w.freed (slice_set rs x (Used want)))

-- how many records such a take accesses: that of the slot and those of its neighbours
abbrev pub taken_accesses : WarmRecord → ℕ
taken_accesses w = 1 + link_accesses w.freed.before + link_accesses w.freed.after + link_accesses w.affine.before + link_accesses w.affine.after

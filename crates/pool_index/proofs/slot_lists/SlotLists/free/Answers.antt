use Rattle.std.proofs.Common.{◌≡◌, ◌∙◌, ◌≤◌, ◌<◌, ◌+◌, ◌++◌, ◌∷◌, [], ℕ, sym, ap, subst, arith, length, Some, Option, None, slice_set, if◌then◌else◌}
use Rattle.pool_index.specs.Links.{ends_last, ends_with}
use Rattle.pool_index.specs.Records.{record_of, appended}
use Rattle.pool_index.specs.Table.{ends_at, ends_len, table_total, same_affinity}
use Rattle.pool_index.specs.declared.ids.MemoryInModule.{MemoryInModule}
use Rattle.pool_index.specs.declared.affinity_table.Ends.{Ends}
use Rattle.pool_index.specs.declared.slot_row.Chain.TheVariants.{Freed, Affine}
use Rattle.pool_index.specs.declared.slot_row.SlotRecord.TheVariants.{Used, Warm}
use Rattle.pool_index.proofs.Records.{Within, used_within}
use Rattle.pool_index.proofs.Freeing.{freed_record, freed_rows, freed_within_now, affine_within_now, freed_length, affine_few}
use Rattle.pool_index.proofs.Views.{free_woven, free_shown, shown_length, shown_used, shown_bytes, shown_len}
use Rattle.pool_index.specs.Records.{link_accesses}
use Rattle.pool_index.proofs.Ticks.{freed_ticks, affine_ticks}
use Rattle.pool_index.proofs.slot_lists.SlotLists.free.Goals as goal

pub append-requires : goal.append-requires
append-requires g c =
    let here : record_of c.self.inside.rows c.args.slot.0 ≡ Used c.in-Used.affinity = sym c.read.ensures.value ∙ c.in-Used.is in
    let inside : c.args.slot.0 < length c.self.inside.rows = used_within c.self.inside.rows c.args.slot.0 c.in-Used.affinity here in
    let replaced : c.replace.new.self ≡ slice_set c.self.inside.rows c.args.slot.0 (Warm (freed_record c.in-Used.affinity c.args.bytes c.self.inside.freed (ends_at c.self.inside.table c.in-Used.affinity))) =
    c.replace.ensures.after ∙ (λ k. slice_set c.self.inside.rows c.args.slot.0 (Warm (record { affinity = c.in-Used.affinity; bytes = c.args.bytes; freed = c.behind.ensures k; affine = (c.behind-2.ensures ∙ (λ m. record { before = ends_last (c.look-spot.ensures.list m); after = None })) k }))) in
    subst (λ (o : Option ℕ). Within o c.replace.new.self) (sym c.last_of.ensures) (subst (Within (ends_last c.self.inside.freed)) (sym replaced) (freed_within_now c.self.inside.rows c.self.inside.table c.self.inside.freed c.self.inside.bytes c.self.invariant.slots c.self.invariant.woven c.args.slot.0 c.in-Used.affinity c.args.bytes here inside))

pub append-requires-2 : goal.append-requires-2
append-requires-2 g c =
    let here : record_of c.self.inside.rows c.args.slot.0 ≡ Used c.in-Used.affinity = sym c.read.ensures.value ∙ c.in-Used.is in
    let inside : c.args.slot.0 < length c.self.inside.rows = used_within c.self.inside.rows c.args.slot.0 c.in-Used.affinity here in
    let replaced : c.replace.new.self ≡ slice_set c.self.inside.rows c.args.slot.0 (Warm (freed_record c.in-Used.affinity c.args.bytes c.self.inside.freed (ends_at c.self.inside.table c.in-Used.affinity))) =
    c.replace.ensures.after ∙ (λ k. slice_set c.self.inside.rows c.args.slot.0 (Warm (record { affinity = c.in-Used.affinity; bytes = c.args.bytes; freed = c.behind.ensures k; affine = (c.behind-2.ensures ∙ (λ m. record { before = ends_last (c.look-spot.ensures.list m); after = None })) k }))) in
    let last : c.last_of-2.result ≡ ends_last (ends_at c.self.inside.table c.in-Used.affinity) = c.last_of-2.ensures ∙ ap ends_last c.look-spot.ensures.list in
    let behind_all : c.append.new.self ≡ appended Freed (ends_last c.self.inside.freed) c.args.slot.0 (slice_set c.self.inside.rows c.args.slot.0 (Warm (freed_record c.in-Used.affinity c.args.bytes c.self.inside.freed (ends_at c.self.inside.table c.in-Used.affinity)))) =
    c.append.ensures.after ∙ (λ m. appended Freed (c.last_of.ensures m) c.args.slot.0 (replaced m)) in
    subst (λ (o : Option ℕ). Within o c.append.new.self) (sym last) (subst (Within (ends_last (ends_at c.self.inside.table c.in-Used.affinity))) (sym behind_all) (affine_within_now c.self.inside.rows c.self.inside.table c.self.inside.freed c.self.inside.bytes c.self.invariant.slots c.self.invariant.woven c.args.slot.0 c.in-Used.affinity c.args.bytes here inside))

pub with-requires : goal.with-requires
with-requires g c =
    let few : ends_len (ends_at c.self.inside.table c.in-Used.affinity) ≤ length c.self.invariant.slots = affine_few c.self.inside.rows c.self.inside.table c.self.inside.freed c.self.inside.bytes c.self.invariant.slots c.self.invariant.woven c.in-Used.affinity in
    let same : ends_len c.look-spot.result.ends ≡ ends_len (ends_at c.self.inside.table c.in-Used.affinity) = ap ends_len c.look-spot.ensures.list in
    let all : length c.args.self.now.warm ≡ length c.self.invariant.slots = shown_length c.self.inside.rows c.self.inside.table c.self.inside.freed c.self.inside.bytes c.self.invariant.slots c.self.invariant.woven c.args.self.now c.self.view_is in
    let room = c.requires.room in
    let bound = c.requires.few in
    omega arith

pub put_at-requires-clause-room : goal.put_at-requires-clause-room
put_at-requires-clause-room g c none' =
    let total : table_total c.self.inside.table ≡ length c.self.invariant.slots = c.self.invariant.woven.total in
    let all : length c.args.self.now.warm ≡ length c.self.invariant.slots = shown_length c.self.inside.rows c.self.inside.table c.self.inside.freed c.self.inside.bytes c.self.invariant.slots c.self.invariant.woven c.args.self.now c.self.view_is in
    let used : length c.args.self.now.used ≡ length c.self.inside.rows = shown_used c.self.inside.rows c.self.inside.table c.self.inside.freed c.self.inside.bytes c.self.invariant.slots c.self.invariant.woven c.args.self.now c.self.view_is in
    let had = c.self.invariant.room in
    let room = c.requires.room in
    omega arith

pub with-requires-2 : goal.with-requires-2
with-requires-2 g c =
    let all : ends_len c.self.inside.freed ≡ length c.args.self.now.warm = shown_len c.self.inside.rows c.self.inside.table c.self.inside.freed c.self.inside.bytes c.self.invariant.slots c.self.invariant.woven c.args.self.now c.self.view_is in
    let room = c.requires.room in
    let bound = c.requires.few in
    omega arith

pub overflow_add-self : goal.overflow_add-self
overflow_add-self g c =
    let all = shown_bytes c.self.inside.rows c.self.inside.table c.self.inside.freed c.self.inside.bytes c.self.invariant.slots c.self.invariant.woven c.args.self.now c.self.view_is in
    let bound = c.requires.bytes in
    record { fits = omega arith }

pub invariant_of-self : goal.invariant_of-self
invariant_of-self g c =
    let here : record_of c.self.inside.rows c.args.slot.0 ≡ Used c.in-Used.affinity = sym c.read.ensures.value ∙ c.in-Used.is in
    let inside : c.args.slot.0 < length c.self.inside.rows = used_within c.self.inside.rows c.args.slot.0 c.in-Used.affinity here in
    let replaced : c.replace.new.self ≡ slice_set c.self.inside.rows c.args.slot.0 (Warm (freed_record c.in-Used.affinity c.args.bytes c.self.inside.freed (ends_at c.self.inside.table c.in-Used.affinity))) =
    c.replace.ensures.after ∙ (λ k. slice_set c.self.inside.rows c.args.slot.0 (Warm (record { affinity = c.in-Used.affinity; bytes = c.args.bytes; freed = c.behind.ensures k; affine = (c.behind-2.ensures ∙ (λ m. record { before = ends_last (c.look-spot.ensures.list m); after = None })) k }))) in
    let last : c.last_of-2.result ≡ ends_last (ends_at c.self.inside.table c.in-Used.affinity) = c.last_of-2.ensures ∙ ap ends_last c.look-spot.ensures.list in
    let behind_all : c.append.new.self ≡ appended Freed (ends_last c.self.inside.freed) c.args.slot.0 (slice_set c.self.inside.rows c.args.slot.0 (Warm (freed_record c.in-Used.affinity c.args.bytes c.self.inside.freed (ends_at c.self.inside.table c.in-Used.affinity)))) =
    c.append.ensures.after ∙ (λ m. appended Freed (c.last_of.ensures m) c.args.slot.0 (replaced m)) in
    let rows : c.append-2.new.self ≡ freed_rows (freed_record c.in-Used.affinity c.args.bytes c.self.inside.freed (ends_at c.self.inside.table c.in-Used.affinity)) c.args.slot.0 c.self.inside.rows =
    c.append-2.ensures.after ∙ (λ k. appended Affine (last k) c.args.slot.0 (behind_all k)) in
    let more : Some c.with.result ≡ ends_with (ends_at c.self.inside.table c.in-Used.affinity) c.args.slot.0 = c.with.ensures ∙ ap (λ (o : Option Ends). ends_with o c.args.slot.0) c.look-spot.ensures.list in
    let total : table_total c.put_at.new.self + ends_len (ends_at c.self.inside.table c.in-Used.affinity) ≡ table_total c.self.inside.table + ends_len (ends_with (ends_at c.self.inside.table c.in-Used.affinity) c.args.slot.0) =
    c.put_at.ensures.total ∙ (λ k. table_total c.self.inside.table + ends_len (more k)) in
    let ends : (a : Option MemoryInModule) → ends_at c.put_at.new.self a ≡ (if same_affinity a c.in-Used.affinity then ends_with (ends_at c.self.inside.table c.in-Used.affinity) c.args.slot.0 else ends_at c.self.inside.table a) =
    λ a. c.put_at.ensures.ends a ∙ (λ k. if same_affinity a c.in-Used.affinity then more k else ends_at c.self.inside.table a) in
    record {
      slots = c.self.invariant.slots ++ c.args.slot.0 ∷ [];
      woven = free_woven c.self.inside.rows c.self.inside.table c.self.inside.freed c.self.inside.bytes c.self.invariant.slots c.self.invariant.woven c.args.self.now c.self.view_is c.args.slot.0 c.in-Used.affinity c.args.bytes here inside c.append-2.new.self c.put_at.new.self (Some c.with-2.result) rows c.with-2.ensures ends total;
      room =
          let r : length c.append-2.new.self ≡ length c.self.inside.rows = ap length rows ∙ freed_length c.self.inside.rows c.self.inside.table c.self.inside.freed c.self.inside.bytes c.self.invariant.slots c.self.invariant.woven c.args.slot.0 c.in-Used.affinity c.args.bytes here inside in
          let t : length c.put_at.new.self ≡ length c.self.inside.table = c.put_at.ensures.len in
          let had = c.self.invariant.room in
          omega arith;
    }

pub returns-clause-after : goal.returns-clause-after
returns-clause-after g c =
    let here : record_of c.self.inside.rows c.args.slot.0 ≡ Used c.in-Used.affinity = sym c.read.ensures.value ∙ c.in-Used.is in
    let inside : c.args.slot.0 < length c.self.inside.rows = used_within c.self.inside.rows c.args.slot.0 c.in-Used.affinity here in
    let replaced : c.replace.new.self ≡ slice_set c.self.inside.rows c.args.slot.0 (Warm (freed_record c.in-Used.affinity c.args.bytes c.self.inside.freed (ends_at c.self.inside.table c.in-Used.affinity))) =
    c.replace.ensures.after ∙ (λ k. slice_set c.self.inside.rows c.args.slot.0 (Warm (record { affinity = c.in-Used.affinity; bytes = c.args.bytes; freed = c.behind.ensures k; affine = (c.behind-2.ensures ∙ (λ m. record { before = ends_last (c.look-spot.ensures.list m); after = None })) k }))) in
    let last : c.last_of-2.result ≡ ends_last (ends_at c.self.inside.table c.in-Used.affinity) = c.last_of-2.ensures ∙ ap ends_last c.look-spot.ensures.list in
    let behind_all : c.append.new.self ≡ appended Freed (ends_last c.self.inside.freed) c.args.slot.0 (slice_set c.self.inside.rows c.args.slot.0 (Warm (freed_record c.in-Used.affinity c.args.bytes c.self.inside.freed (ends_at c.self.inside.table c.in-Used.affinity)))) =
    c.append.ensures.after ∙ (λ m. appended Freed (c.last_of.ensures m) c.args.slot.0 (replaced m)) in
    let rows : c.append-2.new.self ≡ freed_rows (freed_record c.in-Used.affinity c.args.bytes c.self.inside.freed (ends_at c.self.inside.table c.in-Used.affinity)) c.args.slot.0 c.self.inside.rows =
    c.append-2.ensures.after ∙ (λ k. appended Affine (last k) c.args.slot.0 (behind_all k)) in
    let more : Some c.with.result ≡ ends_with (ends_at c.self.inside.table c.in-Used.affinity) c.args.slot.0 = c.with.ensures ∙ ap (λ (o : Option Ends). ends_with o c.args.slot.0) c.look-spot.ensures.list in
    let total : table_total c.put_at.new.self + ends_len (ends_at c.self.inside.table c.in-Used.affinity) ≡ table_total c.self.inside.table + ends_len (ends_with (ends_at c.self.inside.table c.in-Used.affinity) c.args.slot.0) =
    c.put_at.ensures.total ∙ (λ k. table_total c.self.inside.table + ends_len (more k)) in
    let ends : (a : Option MemoryInModule) → ends_at c.put_at.new.self a ≡ (if same_affinity a c.in-Used.affinity then ends_with (ends_at c.self.inside.table c.in-Used.affinity) c.args.slot.0 else ends_at c.self.inside.table a) =
    λ a. c.put_at.ensures.ends a ∙ (λ k. if same_affinity a c.in-Used.affinity then more k else ends_at c.self.inside.table a) in
    free_shown c.self.inside.rows c.self.inside.table c.self.inside.freed c.self.inside.bytes c.self.invariant.slots c.self.invariant.woven c.args.self.now c.self.view_is c.args.slot.0 c.in-Used.affinity c.args.bytes here inside c.append-2.new.self c.put_at.new.self (Some c.with-2.result) rows c.with-2.ensures ends total

pub returns-clause-steps : goal.returns-clause-steps
returns-clause-steps g c =
    let here : record_of c.self.inside.rows c.args.slot.0 ≡ Used c.in-Used.affinity = sym c.read.ensures.value ∙ c.in-Used.is in
    let first = ap link_accesses c.last_of.ensures ∙ freed_ticks c.self.inside.rows c.self.inside.table c.self.inside.freed c.self.inside.bytes c.self.invariant.slots c.self.invariant.woven c.args.self.now c.self.view_is in
    let second = ap link_accesses (c.last_of-2.ensures ∙ ap ends_last c.look-spot.ensures.list) ∙ affine_ticks c.self.inside.rows c.self.inside.table c.self.inside.freed c.self.inside.bytes c.self.invariant.slots c.self.invariant.woven c.args.self.now c.self.view_is c.args.slot.0 c.in-Used.affinity here in
    let read = c.read.ensures.steps in
    let replaced = c.replace.ensures.steps in
    let freed = c.append.ensures.steps in
    let affine = c.append-2.ensures.steps in
    omega arith

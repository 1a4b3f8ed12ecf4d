use Rattle.std.proofs.Common.{◌≡◌, ℕ, ◌*◌, ◌-◌, ◌≤◌, Bool, true, List, Some, sym, ap, ◌∙◌, subst, Option, unwrap_or, IfSome}
use Rattle.pool_slots.specs.declared.queued_range.QueueKind.TheVariants as queued
use Rattle.pool_alloc.proofs.Imports.{Slot, ByteRange, Count, rounded_up, TellsMarks, Told, IsUnusedFrom, IsReset, plain_slot, element_size, width, table_view, Queue, with_slot, with_ranges, used_kept, used_left, used_marks, used_reset, used_size}
use Rattle.pool_alloc.specs.TableLeases.{LeasedTable, table_slot}
use Rattle.pool_alloc.specs.TableSteps.{IsInRegion, bytes_used, table_marks, table_reset}
use Rattle.pool_alloc.proofs.TableResets.{table_is_reset}
use Rattle.pool_alloc.proofs.table_pool.reset_table.Goals as goal

pub push_reset-requires-clause-reset : goal.push_reset-requires-clause-reset
push_reset-requires-clause-reset g c =
    let page : ℕ = c.args.page in
    let keep : ℕ = c.args.keep_resident.bytes in
    let offered : Bool = c.args.dirty_pages in
    let l : LeasedTable = record { index = c.lease.inside.index.0; table = table_view c.lease.inside.table; numbers = c.lease.inside.numbers } in
    let there : (region : Told) × IsInRegion page l region = rw (← c.lease.view_is) at c.requires.region in
    let region : Told = there.0 in
    let s : Slot = c.reset_pages-kept.new.self in
    let elements : c.element_size.result ≡ width l.table.kind = c.element_size.ensures ∙ ap element_size (c.element_type.ensures ∙ c.lease.invariant.element_type) in
    let bytes : c.size.result * c.element_size.result ≡ l.table.size * width l.table.kind = ap (λ (n : ℕ). n * c.element_size.result) c.size.ensures.value ∙ ap (λ (n : ℕ). l.table.size * n) elements in
    let used : c.rounded_up_unchecked-used.result.bytes ≡ bytes_used page l = ap (λ (n : Count). n.bytes) c.rounded_up_unchecked-used.ensures ∙ ap (rounded_up page) bytes in
    let whole = ap (λ (o : Option Told). unwrap_or o region) (sym c.into_region.ensures.value ∙ there.1.is) in
    let plain : c.new-plain.result ≡ plain_slot 0 region = c.new-plain.ensures ∙ ap (λ (n : ℕ). plain_slot n (g.P.Pages.told c.into_region.result)) (ap (λ (n : Count). n.bytes) c.zero.ensures) ∙ ap (plain_slot 0) whole in
    let is : s ≡ used_reset (table_marks offered page l region) keep (bytes_used page l) (plain_slot 0 region) =
    c.reset_pages-kept.ensures.value
    ∙ ap (λ (n : ℕ). used_reset (used_marks offered n c.new-plain.result) keep n c.new-plain.result) used
    ∙ ap (λ (x : Slot). used_reset (used_marks offered (bytes_used page l) x) keep (bytes_used page l) x) plain in
    let size : s.static_size ≡ region.len - 0 = ap (λ (x : Slot). x.static_size) is ∙ used_size (table_marks offered page l region) keep (bytes_used page l) (plain_slot 0 region) in
    let most : c.reset_pages-kept.result ≤ bytes_used page l = subst (λ (n : ℕ). c.reset_pages-kept.result ≤ n) used c.reset_pages-kept.ensures.most in
    let unused : IsUnusedFrom (bytes_used page l) s = subst (λ (n : ℕ). IsUnusedFrom n s) used c.reset_pages-kept.ensures.unused in
    let Reset : List ByteRange → Slot → ℕ → Type 0 = λ ranges slot n. IsReset ranges (record { name = table_slot l.index; slot = slot; known = true; bytes = c.reset_pages-kept.result; by_hand = Some n; numbers = l.numbers }) in
    subst (λ (ranges : List ByteRange). Reset ranges (plain_slot c.into_parts-region.result.1.bytes c.into_parts-region.result.0) c.byte_count.result) (sym c.as_slice.ensures)
    (subst (λ (slot : Slot). Reset c.reset_pages-kept.new.ranges slot c.byte_count.result) (sym c.into_parts-region.ensures)
    (subst (Reset c.reset_pages-kept.new.ranges s) (sym (c.byte_count.ensures.value ∙ used))
    (table_is_reset page l region c.reset_pages-kept.new.ranges s c.reset_pages-kept.result l.numbers there.1 c.len-size.ensures.plain size most unused c.reset_pages-kept.ensures.parts c.reset_pages-kept.ensures.clean_after)))

pub returns-clause-marks : goal.returns-clause-marks
returns-clause-marks g c =
    let page : ℕ = c.args.page in
    let l : LeasedTable = record { index = c.lease.inside.index.0; table = table_view c.lease.inside.table; numbers = c.lease.inside.numbers } in
    let there : (region : Told) × IsInRegion page l region = rw (← c.lease.view_is) at c.requires.region in
    let region : Told = there.0 in
    let whole = ap (λ (o : Option Told). unwrap_or o region) (sym c.into_region.ensures.value ∙ there.1.is) in
    let plain : c.new-plain.result ≡ plain_slot 0 region = c.new-plain.ensures ∙ ap (λ (n : ℕ). plain_slot n (g.P.Pages.told c.into_region.result)) (ap (λ (n : Count). n.bytes) c.zero.ensures) ∙ ap (plain_slot 0) whole in
    let marked : TellsMarks region = subst (λ (x : Slot). TellsMarks x.region) plain c.reset_pages-kept.ensures.marks in
    subst (λ (v : LeasedTable). IfSome v.table.region TellsMarks) c.lease.view_is (subst (λ (o : Option Told). IfSome o TellsMarks) (sym there.1.is) marked)

pub returns-clause-reset : goal.returns-clause-reset
returns-clause-reset g c =
    let page : ℕ = c.args.page in
    let keep : ℕ = c.args.keep_resident.bytes in
    let offered : Bool = c.args.dirty_pages in
    let l : LeasedTable = record { index = c.lease.inside.index.0; table = table_view c.lease.inside.table; numbers = c.lease.inside.numbers } in
    let there : (region : Told) × IsInRegion page l region = rw (← c.lease.view_is) at c.requires.region in
    let region : Told = there.0 in
    let s : Slot = c.reset_pages-kept.new.self in
    let elements : c.element_size.result ≡ width l.table.kind = c.element_size.ensures ∙ ap element_size (c.element_type.ensures ∙ c.lease.invariant.element_type) in
    let bytes : c.size.result * c.element_size.result ≡ l.table.size * width l.table.kind = ap (λ (n : ℕ). n * c.element_size.result) c.size.ensures.value ∙ ap (λ (n : ℕ). l.table.size * n) elements in
    let used : c.rounded_up_unchecked-used.result.bytes ≡ bytes_used page l = ap (λ (n : Count). n.bytes) c.rounded_up_unchecked-used.ensures ∙ ap (rounded_up page) bytes in
    let whole = ap (λ (o : Option Told). unwrap_or o region) (sym c.into_region.ensures.value ∙ there.1.is) in
    let plain : c.new-plain.result ≡ plain_slot 0 region = c.new-plain.ensures ∙ ap (λ (n : ℕ). plain_slot n (g.P.Pages.told c.into_region.result)) (ap (λ (n : Count). n.bytes) c.zero.ensures) ∙ ap (plain_slot 0) whole in
    let is : s ≡ used_reset (table_marks offered page l region) keep (bytes_used page l) (plain_slot 0 region) =
    c.reset_pages-kept.ensures.value
    ∙ ap (λ (n : ℕ). used_reset (used_marks offered n c.new-plain.result) keep n c.new-plain.result) used
    ∙ ap (λ (x : Slot). used_reset (used_marks offered (bytes_used page l) x) keep (bytes_used page l) x) plain in
    let marks : Option (List Bool) = table_marks offered page l region in
    let keeps : c.reset_pages-kept.result ≡ used_kept marks keep (bytes_used page l) (plain_slot 0 region) =
    c.reset_pages-kept.ensures.resident
    ∙ ap (λ (n : ℕ). used_kept (used_marks offered n c.new-plain.result) keep n c.new-plain.result) used
    ∙ ap (λ (x : Slot). used_kept (used_marks offered (bytes_used page l) x) keep (bytes_used page l) x) plain in
    let ranges : c.as_slice.result.now ≡ used_left marks keep (bytes_used page l) (plain_slot 0 region) =
    c.as_slice.ensures ∙ c.reset_pages-kept.ensures.ranges
    ∙ ap (λ (n : ℕ). used_left (used_marks offered n c.new-plain.result) keep n c.new-plain.result) used
    ∙ ap (λ (x : Slot). used_left (used_marks offered (bytes_used page l) x) keep (bytes_used page l) x) plain in
    let slot : plain_slot c.into_parts-region.result.1.bytes c.into_parts-region.result.0 ≡ used_reset marks keep (bytes_used page l) (plain_slot 0 region) = c.into_parts-region.ensures ∙ is in
    let Pushed : List ByteRange → Slot → ℕ → ℕ → Queue = λ rs x kept n. with_slot (record { name = table_slot l.index; slot = x; known = true; bytes = kept; by_hand = Some n; numbers = l.numbers }) (with_ranges queued.Table l.index rs c.args.local.now) in
    let pushed : c.push_reset.new.self ≡ table_reset offered page keep l region c.args.local.now =
    c.push_reset.ensures.pushed
    ∙ ap (λ (rs : List ByteRange). Pushed rs (plain_slot c.into_parts-region.result.1.bytes c.into_parts-region.result.0) c.reset_pages-kept.result c.byte_count.result) ranges
    ∙ ap (λ (x : Slot). Pushed (used_left marks keep (bytes_used page l) (plain_slot 0 region)) x c.reset_pages-kept.result c.byte_count.result) slot
    ∙ ap (λ (n : ℕ). Pushed (used_left marks keep (bytes_used page l) (plain_slot 0 region)) (used_reset marks keep (bytes_used page l) (plain_slot 0 region)) n c.byte_count.result) keeps
    ∙ ap (λ (n : ℕ). Pushed (used_left marks keep (bytes_used page l) (plain_slot 0 region)) (used_reset marks keep (bytes_used page l) (plain_slot 0 region)) (used_kept marks keep (bytes_used page l) (plain_slot 0 region)) n) (c.byte_count.ensures.value ∙ used)
    in
    subst (λ (v : LeasedTable). (x : Told) × IsInRegion page v x × (c.push_reset.new.self ≡ table_reset offered page keep v x c.args.local.now)) c.lease.view_is (region, there.1, pushed)

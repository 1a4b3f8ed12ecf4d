use Rattle.std.proofs.Common.{◌≡◌, ◌*◌, arith, max, ap, ◌∙◌, length, None}
use Rattle.std.proofs.lemmas.List.{length-replicate}
use Rattle.pool_index.specs.declared.slot_row.SlotRecord.TheVariants.{Cold}
use Rattle.pool_index.proofs.Views.{fresh_woven, fresh_shown}
use Rattle.pool_index.proofs.slot_lists.SlotLists.new.Goals as goal

pub invariant_of-result : goal.invariant_of-result
invariant_of-result c = record {
  slots = _;
  woven = fresh_woven c.in_ok-new.field-0 c.in_ok-new-2.field-0 c.args.len (max 1 (2 * c.args.len)) c.in_ok-new.ensures c.in_ok-new-2.ensures;
  room =
      let r : length c.in_ok-new.field-0 ≡ c.args.len = ap length c.in_ok-new.ensures ∙ length-replicate c.args.len Cold in
      let t : length c.in_ok-new-2.field-0 ≡ max 1 (2 * c.args.len) = ap length c.in_ok-new-2.ensures ∙ length-replicate (max 1 (2 * c.args.len)) None in
      omega arith;
}

pub returns : goal.returns
returns c = fresh_shown c.in_ok-new.field-0 c.args.len c.in_ok-new.ensures

use Rattle.std.proofs.Common.{◌≡◌, ◌∙◌, sym, ap, subst, arith, length, length-set}
use Rattle.pool_index.specs.Links.{IsWoven, lists_of}
use Rattle.pool_index.specs.declared.slot_row.SlotRecord.TheVariants.{Used}
use Rattle.pool_index.proofs.Records.{Rows}
use Rattle.pool_index.proofs.Views.{cold_woven, cold_shown}
use Rattle.pool_index.proofs.slot_lists.SlotLists.take_cold.Goals as goal

pub invariant_of-self : goal.invariant_of-self
invariant_of-self g c = record {
  slots = c.self.invariant.slots;
  woven = subst (λ (r : Rows). IsWoven r c.self.inside.table c.self.inside.freed c.self.inside.bytes c.self.invariant.slots) (sym c.replace.ensures.after) (cold_woven c.self.inside.rows c.self.inside.table c.self.inside.freed c.self.inside.bytes c.self.invariant.slots c.self.invariant.woven c.args.self.now c.self.view_is c.args.slot.0 c.args.want c.requires.cold);
  room =
      let e : length c.replace.new.self ≡ length c.self.inside.rows = ap length c.replace.ensures.after ∙ length-set c.self.inside.rows c.args.slot.0 (Used c.args.want) in
      let r = c.self.invariant.room in
      omega arith;
}

pub returns-clause-after : goal.returns-clause-after
returns-clause-after g c = ap (λ (r : Rows). lists_of r c.self.inside.freed) c.replace.ensures.after ∙ cold_shown c.self.inside.rows c.self.inside.table c.self.inside.freed c.self.inside.bytes c.self.invariant.slots c.self.invariant.woven c.args.self.now c.self.view_is c.args.slot.0 c.args.want c.requires.cold

use Rattle.std.proofs.Common.{◌≡◌, ◌∙◌, ◌+◌, ◌++◌, ℕ, refl, sym, ap, arith, length, take, drop}
use Rattle.pool_index.proofs.WarmTakes.{slot_warm, slot_linked, took_bytes, took_answer, took_steps, took_length, took_some, took_left, took_woven, took_shown}
use Rattle.pool_index.proofs.slot_lists.SlotLists.take_first.Goals as goal

pub take-taken-requires-clause-warm : goal.take-taken-requires-clause-warm
take-taken-requires-clause-warm g c = slot_warm c.self.inside.rows c.self.inside.table c.self.inside.freed c.self.inside.bytes c.self.invariant.slots c.self.invariant.woven c.args.self.now c.self.view_is 0 c.first-slot.result c.requires (sym c.first-slot.ensures)

pub take-taken-requires-clause-linked : goal.take-taken-requires-clause-linked
take-taken-requires-clause-linked g c = slot_linked c.self.inside.rows c.self.inside.table c.self.inside.freed c.self.inside.bytes c.self.invariant.slots c.self.invariant.woven c.args.self.now c.self.view_is 0 c.first-slot.result c.requires (sym c.first-slot.ensures) c.args.want

pub put_at-requires-clause-room : goal.put_at-requires-clause-room
put_at-requires-clause-room g c none' = absurd (took_some c.self.inside.rows c.self.inside.table c.self.inside.freed c.self.inside.bytes c.self.invariant.slots c.self.invariant.woven c.args.self.now c.self.view_is 0 c.first-slot.result c.requires (sym c.first-slot.ensures) c.take-taken.result c.take-taken.ensures.value c.args.want c.take-taken.result.affinity refl c.look-spot.result.ends c.without.result c.look-spot.ensures.list c.without.ensures none')

pub put_at-requires-clause-some : goal.put_at-requires-clause-some
put_at-requires-clause-some g c = took_left c.self.inside.rows c.self.inside.table c.self.inside.freed c.self.inside.bytes c.self.invariant.slots c.self.invariant.woven c.args.self.now c.self.view_is 0 c.first-slot.result c.requires (sym c.first-slot.ensures) c.take-taken.result c.take-taken.ensures.value c.args.want c.take-taken.result.affinity refl c.look-spot.result.ends c.without.result c.look-spot.ensures.list c.without.ensures

pub overflow_sub-self : goal.overflow_sub-self
overflow_sub-self g c = took_bytes c.self.inside.rows c.self.inside.table c.self.inside.freed c.self.inside.bytes c.self.invariant.slots c.self.invariant.woven c.args.self.now c.self.view_is 0 c.first-slot.result c.requires (sym c.first-slot.ensures) c.take-taken.result c.take-taken.ensures.value c.args.want

pub invariant_of-self : goal.invariant_of-self
invariant_of-self g c = record {
  slots = take 0 c.self.invariant.slots ++ drop 1 c.self.invariant.slots;
  woven = took_woven c.self.inside.rows c.self.inside.table c.self.inside.freed c.self.inside.bytes c.self.invariant.slots c.self.invariant.woven c.args.self.now c.self.view_is 0 c.first-slot.result c.requires (sym c.first-slot.ensures) c.take-taken.result c.take-taken.ensures.value c.args.want c.take-taken.result.affinity refl c.look-spot.result.ends c.without.result c.look-spot.ensures.list c.without.ensures c.take-taken.new.self c.put_at.new.self c.without-self-inside.result c.take-taken.ensures.after c.without-self-inside.ensures c.put_at.ensures.ends c.put_at.ensures.total;
  room =
      let r : length c.take-taken.new.self ≡ length c.self.inside.rows = ap length c.take-taken.ensures.after ∙ took_length c.self.inside.rows c.self.inside.table c.self.inside.freed c.self.inside.bytes c.self.invariant.slots c.self.invariant.woven c.args.self.now c.self.view_is 0 c.first-slot.result c.requires (sym c.first-slot.ensures) c.take-taken.result c.take-taken.ensures.value c.args.want in
      let t : length c.put_at.new.self ≡ length c.self.inside.table = c.put_at.ensures.len in
      let had = c.self.invariant.room in
      omega arith;
}

pub returns-clause-answer : goal.returns-clause-answer
returns-clause-answer g c = took_answer c.self.inside.rows c.self.inside.table c.self.inside.freed c.self.inside.bytes c.self.invariant.slots c.self.invariant.woven c.args.self.now c.self.view_is 0 c.first-slot.result c.requires (sym c.first-slot.ensures) c.take-taken.result c.take-taken.ensures.value c.args.want

pub returns-clause-after : goal.returns-clause-after
returns-clause-after g c = took_shown c.self.inside.rows c.self.inside.table c.self.inside.freed c.self.inside.bytes c.self.invariant.slots c.self.invariant.woven c.args.self.now c.self.view_is 0 c.first-slot.result c.requires (sym c.first-slot.ensures) c.take-taken.result c.take-taken.ensures.value c.args.want c.take-taken.result.affinity refl c.look-spot.result.ends c.without.result c.look-spot.ensures.list c.without.ensures c.take-taken.new.self c.put_at.new.self c.without-self-inside.result c.take-taken.ensures.after c.without-self-inside.ensures c.put_at.ensures.ends c.put_at.ensures.total

pub returns-clause-steps : goal.returns-clause-steps
returns-clause-steps g c = c.take-taken.ensures.steps ∙ ap (λ (n : ℕ). c.args.steps.now + n) (took_steps c.self.inside.rows c.self.inside.table c.self.inside.freed c.self.inside.bytes c.self.invariant.slots c.self.invariant.woven c.args.self.now c.self.view_is 0 c.first-slot.result c.requires (sym c.first-slot.ensures) c.take-taken.result c.take-taken.ensures.value c.args.want)

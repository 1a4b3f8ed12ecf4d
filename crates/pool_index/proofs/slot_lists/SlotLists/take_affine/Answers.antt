use Rattle.std.proofs.Common.{◌≡◌, ◌∙◌, ◌+◌, ◌++◌, ℕ, suc, sym, ap, arith, length, take, drop, Some, Option, option_map}
use Rattle.std.specs.Option.{option_map_or}
use Rattle.pool_index.specs.Affinity.{is_affine}
use Rattle.pool_index.specs.Links.{ends_last}
use Rattle.pool_index.specs.Lists.{warm_slot, with_bytes, use_warm, take_accesses}
use Rattle.pool_index.specs.Positions.{last_position}
use Rattle.pool_index.proofs.Views.{IsLastAffine, last_affine_at, no_last_affine, last_affine_shown}
use Rattle.pool_index.proofs.WarmTakes.{slot_warm, slot_linked, took_bytes, took_answer, took_affinity, took_steps, took_length, took_some, took_left, took_woven, took_shown}
use Rattle.pool_index.proofs.slot_lists.SlotLists.take_affine.Goals as goal

pub take-taken-requires-clause-warm : goal.take-taken-requires-clause-warm
take-taken-requires-clause-warm g c =
    let p : IsLastAffine c.args.self.now c.args.of c.in_ok-slot.slot = last_affine_at c.args.self.now c.args.of c.in_ok-slot.slot (c.in_ok-slot.ensures ∙ ap ends_last c.look-spot.ensures.list ∙ last_affine_shown c.self.inside.rows c.self.inside.table c.self.inside.freed c.self.inside.bytes c.self.invariant.slots c.self.invariant.woven c.args.self.now c.self.view_is c.args.of) in
    slot_warm c.self.inside.rows c.self.inside.table c.self.inside.freed c.self.inside.bytes c.self.invariant.slots c.self.invariant.woven c.args.self.now c.self.view_is p.place c.in_ok-slot.slot p.inside p.slot

pub take-taken-requires-clause-linked : goal.take-taken-requires-clause-linked
take-taken-requires-clause-linked g c =
    let p : IsLastAffine c.args.self.now c.args.of c.in_ok-slot.slot = last_affine_at c.args.self.now c.args.of c.in_ok-slot.slot (c.in_ok-slot.ensures ∙ ap ends_last c.look-spot.ensures.list ∙ last_affine_shown c.self.inside.rows c.self.inside.table c.self.inside.freed c.self.inside.bytes c.self.invariant.slots c.self.invariant.woven c.args.self.now c.self.view_is c.args.of) in
    slot_linked c.self.inside.rows c.self.inside.table c.self.inside.freed c.self.inside.bytes c.self.invariant.slots c.self.invariant.woven c.args.self.now c.self.view_is p.place c.in_ok-slot.slot p.inside p.slot c.args.want

pub put_at-requires-clause-room : goal.put_at-requires-clause-room
put_at-requires-clause-room g c none' =
    let p : IsLastAffine c.args.self.now c.args.of c.in_ok-slot.slot = last_affine_at c.args.self.now c.args.of c.in_ok-slot.slot (c.in_ok-slot.ensures ∙ ap ends_last c.look-spot.ensures.list ∙ last_affine_shown c.self.inside.rows c.self.inside.table c.self.inside.freed c.self.inside.bytes c.self.invariant.slots c.self.invariant.woven c.args.self.now c.self.view_is c.args.of) in
    absurd (took_some c.self.inside.rows c.self.inside.table c.self.inside.freed c.self.inside.bytes c.self.invariant.slots c.self.invariant.woven c.args.self.now c.self.view_is p.place c.in_ok-slot.slot p.inside p.slot c.take-taken.result c.take-taken.ensures.value c.args.want (Some c.args.of) (sym (took_affinity c.self.inside.rows c.self.inside.table c.self.inside.freed c.self.inside.bytes c.self.invariant.slots c.self.invariant.woven c.args.self.now c.self.view_is p.place c.in_ok-slot.slot p.inside p.slot c.take-taken.result c.take-taken.ensures.value c.args.want) ∙ p.its) c.look-spot.result.ends c.without.result c.look-spot.ensures.list c.without.ensures none')

pub put_at-requires-clause-some : goal.put_at-requires-clause-some
put_at-requires-clause-some g c =
    let p : IsLastAffine c.args.self.now c.args.of c.in_ok-slot.slot = last_affine_at c.args.self.now c.args.of c.in_ok-slot.slot (c.in_ok-slot.ensures ∙ ap ends_last c.look-spot.ensures.list ∙ last_affine_shown c.self.inside.rows c.self.inside.table c.self.inside.freed c.self.inside.bytes c.self.invariant.slots c.self.invariant.woven c.args.self.now c.self.view_is c.args.of) in
    took_left c.self.inside.rows c.self.inside.table c.self.inside.freed c.self.inside.bytes c.self.invariant.slots c.self.invariant.woven c.args.self.now c.self.view_is p.place c.in_ok-slot.slot p.inside p.slot c.take-taken.result c.take-taken.ensures.value c.args.want (Some c.args.of) (sym (took_affinity c.self.inside.rows c.self.inside.table c.self.inside.freed c.self.inside.bytes c.self.invariant.slots c.self.invariant.woven c.args.self.now c.self.view_is p.place c.in_ok-slot.slot p.inside p.slot c.take-taken.result c.take-taken.ensures.value c.args.want) ∙ p.its) c.look-spot.result.ends c.without.result c.look-spot.ensures.list c.without.ensures

pub overflow_sub-self : goal.overflow_sub-self
overflow_sub-self g c =
    let p : IsLastAffine c.args.self.now c.args.of c.in_ok-slot.slot = last_affine_at c.args.self.now c.args.of c.in_ok-slot.slot (c.in_ok-slot.ensures ∙ ap ends_last c.look-spot.ensures.list ∙ last_affine_shown c.self.inside.rows c.self.inside.table c.self.inside.freed c.self.inside.bytes c.self.invariant.slots c.self.invariant.woven c.args.self.now c.self.view_is c.args.of) in
    took_bytes c.self.inside.rows c.self.inside.table c.self.inside.freed c.self.inside.bytes c.self.invariant.slots c.self.invariant.woven c.args.self.now c.self.view_is p.place c.in_ok-slot.slot p.inside p.slot c.take-taken.result c.take-taken.ensures.value c.args.want

pub invariant_of-self : goal.invariant_of-self
invariant_of-self g c =
    let p : IsLastAffine c.args.self.now c.args.of c.in_ok-slot.slot = last_affine_at c.args.self.now c.args.of c.in_ok-slot.slot (c.in_ok-slot.ensures ∙ ap ends_last c.look-spot.ensures.list ∙ last_affine_shown c.self.inside.rows c.self.inside.table c.self.inside.freed c.self.inside.bytes c.self.invariant.slots c.self.invariant.woven c.args.self.now c.self.view_is c.args.of) in
    record {
      slots = take p.place c.self.invariant.slots ++ drop (suc p.place) c.self.invariant.slots;
      woven = took_woven c.self.inside.rows c.self.inside.table c.self.inside.freed c.self.inside.bytes c.self.invariant.slots c.self.invariant.woven c.args.self.now c.self.view_is p.place c.in_ok-slot.slot p.inside p.slot c.take-taken.result c.take-taken.ensures.value c.args.want (Some c.args.of) (sym (took_affinity c.self.inside.rows c.self.inside.table c.self.inside.freed c.self.inside.bytes c.self.invariant.slots c.self.invariant.woven c.args.self.now c.self.view_is p.place c.in_ok-slot.slot p.inside p.slot c.take-taken.result c.take-taken.ensures.value c.args.want) ∙ p.its) c.look-spot.result.ends c.without.result c.look-spot.ensures.list c.without.ensures c.take-taken.new.self c.put_at.new.self c.without-self-inside.result c.take-taken.ensures.after c.without-self-inside.ensures c.put_at.ensures.ends c.put_at.ensures.total;
      room =
          let r : length c.take-taken.new.self ≡ length c.self.inside.rows = ap length c.take-taken.ensures.after ∙ took_length c.self.inside.rows c.self.inside.table c.self.inside.freed c.self.inside.bytes c.self.invariant.slots c.self.invariant.woven c.args.self.now c.self.view_is p.place c.in_ok-slot.slot p.inside p.slot c.take-taken.result c.take-taken.ensures.value c.args.want in
          let t : length c.put_at.new.self ≡ length c.self.inside.table = c.put_at.ensures.len in
          let had = c.self.invariant.room in
          omega arith;
    }

pub returns-clause-answer : goal.returns-clause-answer
returns-clause-answer g c =
    let p : IsLastAffine c.args.self.now c.args.of c.in_ok-slot.slot = last_affine_at c.args.self.now c.args.of c.in_ok-slot.slot (c.in_ok-slot.ensures ∙ ap ends_last c.look-spot.ensures.list ∙ last_affine_shown c.self.inside.rows c.self.inside.table c.self.inside.freed c.self.inside.bytes c.self.invariant.slots c.self.invariant.woven c.args.self.now c.self.view_is c.args.of) in
    ap Some (took_answer c.self.inside.rows c.self.inside.table c.self.inside.freed c.self.inside.bytes c.self.invariant.slots c.self.invariant.woven c.args.self.now c.self.view_is p.place c.in_ok-slot.slot p.inside p.slot c.take-taken.result c.take-taken.ensures.value c.args.want) ∙ sym (ap (option_map (λ (i : ℕ). with_bytes (warm_slot c.args.self.now i))) p.at_place)

pub returns-clause-after : goal.returns-clause-after
returns-clause-after g c =
    let p : IsLastAffine c.args.self.now c.args.of c.in_ok-slot.slot = last_affine_at c.args.self.now c.args.of c.in_ok-slot.slot (c.in_ok-slot.ensures ∙ ap ends_last c.look-spot.ensures.list ∙ last_affine_shown c.self.inside.rows c.self.inside.table c.self.inside.freed c.self.inside.bytes c.self.invariant.slots c.self.invariant.woven c.args.self.now c.self.view_is c.args.of) in
    took_shown c.self.inside.rows c.self.inside.table c.self.inside.freed c.self.inside.bytes c.self.invariant.slots c.self.invariant.woven c.args.self.now c.self.view_is p.place c.in_ok-slot.slot p.inside p.slot c.take-taken.result c.take-taken.ensures.value c.args.want (Some c.args.of) (sym (took_affinity c.self.inside.rows c.self.inside.table c.self.inside.freed c.self.inside.bytes c.self.invariant.slots c.self.invariant.woven c.args.self.now c.self.view_is p.place c.in_ok-slot.slot p.inside p.slot c.take-taken.result c.take-taken.ensures.value c.args.want) ∙ p.its) c.look-spot.result.ends c.without.result c.look-spot.ensures.list c.without.ensures c.take-taken.new.self c.put_at.new.self c.without-self-inside.result c.take-taken.ensures.after c.without-self-inside.ensures c.put_at.ensures.ends c.put_at.ensures.total ∙ sym (ap (λ (o : Option ℕ). option_map_or (use_warm c.args.want c.args.self.now) o c.args.self.now) p.at_place)

pub returns-clause-steps : goal.returns-clause-steps
returns-clause-steps g c =
    let p : IsLastAffine c.args.self.now c.args.of c.in_ok-slot.slot = last_affine_at c.args.self.now c.args.of c.in_ok-slot.slot (c.in_ok-slot.ensures ∙ ap ends_last c.look-spot.ensures.list ∙ last_affine_shown c.self.inside.rows c.self.inside.table c.self.inside.freed c.self.inside.bytes c.self.invariant.slots c.self.invariant.woven c.args.self.now c.self.view_is c.args.of) in
    c.take-taken.ensures.steps ∙ ap (λ (n : ℕ). c.args.steps.now + n) (took_steps c.self.inside.rows c.self.inside.table c.self.inside.freed c.self.inside.bytes c.self.invariant.slots c.self.invariant.woven c.args.self.now c.self.view_is p.place c.in_ok-slot.slot p.inside p.slot c.take-taken.result c.take-taken.ensures.value c.args.want) ∙ sym (ap (λ (o : Option ℕ). c.args.steps.now + option_map_or (take_accesses c.args.self.now) o 0) p.at_place)

pub returns-in_err-slot-clause-answer : goal.returns-in_err-slot-clause-answer
returns-in_err-slot-clause-answer g c =
    let none' = no_last_affine c.args.self.now c.args.of (c.in_err-slot.ensures ∙ ap ends_last c.look-spot.ensures.list ∙ last_affine_shown c.self.inside.rows c.self.inside.table c.self.inside.freed c.self.inside.bytes c.self.invariant.slots c.self.invariant.woven c.args.self.now c.self.view_is c.args.of) in
    c.from_residual.ensures ∙ sym (ap (option_map (λ (i : ℕ). with_bytes (warm_slot c.args.self.now i))) none')

pub returns-in_err-slot-clause-after : goal.returns-in_err-slot-clause-after
returns-in_err-slot-clause-after g c =
    let none' = no_last_affine c.args.self.now c.args.of (c.in_err-slot.ensures ∙ ap ends_last c.look-spot.ensures.list ∙ last_affine_shown c.self.inside.rows c.self.inside.table c.self.inside.freed c.self.inside.bytes c.self.invariant.slots c.self.invariant.woven c.args.self.now c.self.view_is c.args.of) in
    sym (ap (λ (o : Option ℕ). option_map_or (use_warm c.args.want c.args.self.now) o c.args.self.now) none')

pub returns-in_err-slot-clause-steps : goal.returns-in_err-slot-clause-steps
returns-in_err-slot-clause-steps g c =
    let none' = no_last_affine c.args.self.now c.args.of (c.in_err-slot.ensures ∙ ap ends_last c.look-spot.ensures.list ∙ last_affine_shown c.self.inside.rows c.self.inside.table c.self.inside.freed c.self.inside.bytes c.self.invariant.slots c.self.invariant.woven c.args.self.now c.self.view_is c.args.of) in
    let zero' : option_map_or (take_accesses c.args.self.now) (last_position (is_affine c.args.of) c.args.self.now.warm) 0 ≡ 0 = ap (λ (o : Option ℕ). option_map_or (take_accesses c.args.self.now) o 0) none' in
    omega arith

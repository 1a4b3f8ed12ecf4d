use Rattle.std.proofs.Common.{◌≡◌, ◌+◌, ◌*◌, ◌<◌, ◌^◌, ◌++◌, ◌∙◌, map, rules, arith, length, ap, sym, subst, length-append, All}
use Rattle.std.proofs.lemmas.List.{length-map}
use Rattle.pool_index.specs.Lists.{SlotLists, with_bytes, numbered}
use Rattle.pool_index.proofs.WarmTakes.{rest_fits, one_more}
use Rattle.pool_index.proofs.slot_lists.SlotLists.take_all.Goals as goal

pub push-requires : goal.push-requires
push-requires g c =
    let e = simp (length-append, length-map) at (ap length c.loop-self.invariant.items) in
    let left : 0 < length c.loop-self.self.warm = omega arith in
    let room = c.requires.room in
    let same : c.loop-self.out.room ≡ c.args.out.now.room = c.loop-self.invariant.room in
    omega arith

pub loop-self-preserved : goal.loop-self-preserved
loop-self-preserved g c = record {
  items =
      (λ k. (c.push.ensures k).items ++ map (numbered c.args.first c.args.step) (map with_bytes (c.take_first-bytes.ensures.after k).warm))
      ∙ one_more c.args.first c.args.step c.loop-self.self.warm _ c.take_first-bytes.result c.loop-self.out.items (omega arith) c.take_first-bytes.ensures.answer
      ∙ c.loop-self.invariant.items;
  used = search rules;
  fit = subst (All (λ e. c.args.first + e.slot.0 * c.args.step < 2 ^ 32)) (sym (ap (λ (l : SlotLists). l.warm) c.take_first-bytes.ensures.after)) (rest_fits c.args.first c.args.step c.loop-self.self.warm c.loop-self.invariant.fit);
  room = search rules;
}

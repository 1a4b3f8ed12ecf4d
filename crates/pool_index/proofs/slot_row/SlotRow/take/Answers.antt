use Rattle.std.proofs.Common.{◌≡◌, ◌∙◌, ◌<◌, ap, sym, subst, length, length-set, IfSome}
use Rattle.pool_index.specs.Records.{LinksWithin}
use Rattle.pool_index.specs.declared.slot_row.Chain.TheVariants.{Freed}
use Rattle.pool_index.specs.declared.slot_row.SlotRecord.TheVariants.{Used, Warm}
use Rattle.pool_index.proofs.Records.{warm_record, warm_within, length_unlinked}
use Rattle.pool_index.proofs.slot_row.SlotRow.take.Goals as goal

pub replace-requires : goal.replace-requires
replace-requires g c = warm_within c.args.self.now c.args.slot c.requires.warm

pub unreachable-requires : goal.unreachable-requires
unreachable-requires g c = let w = warm_record _ c.requires.warm in c.in_default.not-Warm w.warm (c.replace.ensures.value ∙ w.is)

pub unlink-requires-clause-before : goal.unlink-requires-clause-before
unlink-requires-clause-before g c =
    let linked : LinksWithin (length c.args.self.now) (Warm c.in-Warm.taken) = subst (LinksWithin (length c.args.self.now)) (sym c.replace.ensures.value ∙ c.in-Warm.is) c.requires.linked in
    let same : length c.replace.new.self ≡ length c.args.self.now = ap length c.replace.ensures.after ∙ length-set c.args.self.now c.args.slot (Used c.args.want) in
    subst (λ n. IfSome c.in-Warm.taken.freed.before (λ k. k < n)) (sym same) linked.freed_before

pub unlink-requires-clause-after : goal.unlink-requires-clause-after
unlink-requires-clause-after g c =
    let linked : LinksWithin (length c.args.self.now) (Warm c.in-Warm.taken) = subst (LinksWithin (length c.args.self.now)) (sym c.replace.ensures.value ∙ c.in-Warm.is) c.requires.linked in
    let same : length c.replace.new.self ≡ length c.args.self.now = ap length c.replace.ensures.after ∙ length-set c.args.self.now c.args.slot (Used c.args.want) in
    subst (λ n. IfSome c.in-Warm.taken.freed.after (λ k. k < n)) (sym same) linked.freed_after

pub unlink-requires-2-clause-before : goal.unlink-requires-2-clause-before
unlink-requires-2-clause-before g c =
    let linked : LinksWithin (length c.args.self.now) (Warm c.in-Warm.taken) = subst (LinksWithin (length c.args.self.now)) (sym c.replace.ensures.value ∙ c.in-Warm.is) c.requires.linked in
    let same : length c.unlink.new.self ≡ length c.args.self.now = ap length c.unlink.ensures.after ∙ length_unlinked Freed c.in-Warm.taken.freed _ ∙ ap length c.replace.ensures.after ∙ length-set c.args.self.now c.args.slot (Used c.args.want) in
    subst (λ n. IfSome c.in-Warm.taken.affine.before (λ k. k < n)) (sym same) linked.affine_before

pub unlink-requires-2-clause-after : goal.unlink-requires-2-clause-after
unlink-requires-2-clause-after g c =
    let linked : LinksWithin (length c.args.self.now) (Warm c.in-Warm.taken) = subst (LinksWithin (length c.args.self.now)) (sym c.replace.ensures.value ∙ c.in-Warm.is) c.requires.linked in
    let same : length c.unlink.new.self ≡ length c.args.self.now = ap length c.unlink.ensures.after ∙ length_unlinked Freed c.in-Warm.taken.freed _ ∙ ap length c.replace.ensures.after ∙ length-set c.args.self.now c.args.slot (Used c.args.want) in
    subst (λ n. IfSome c.in-Warm.taken.affine.after (λ k. k < n)) (sym same) linked.affine_after

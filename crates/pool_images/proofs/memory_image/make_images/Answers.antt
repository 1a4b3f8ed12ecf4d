use Rattle.std.proofs.Common.{◌≡◌, None, Some, Err, IfSome, true, ap, sym, ◌∙◌, subst, arith, is_some, refl, false, ◌&&◌}
use Rattle.pool_images.proofs.Imports.{MemoryDecl, fails_images}
use Rattle.pool_images.specs.Images.{misplaced, makes_listed_images}
use Rattle.pool_images.specs.ImageErrors.{RaisesImageFaults, RaisesImageBehind, IsListedImageFault}
use Rattle.pool_images.specs.declared.memory_image.ImageError.{ImageError}
use Rattle.pool_images.specs.declared.memory_image.ImageError.TheVariants.{PageFault}
use Rattle.pool_images.proofs.Images.{images_from_more, none_misplaced, planned_more, raises_one, handed_on, listed_told, still_supported}
use Rattle.pool_images.proofs.memory_image.make_images.Goals as goal

pub push_image-requires-clause-placed : goal.push_image-requires-clause-placed
push_image-requires-clause-placed g c =
    let P : MemoryDecl → Type 0 = λ d. misplaced c.args.page d ≡ None in
    subst P (sym c.decl-item.is) (none_misplaced c.args.page c.args.memories.now c.loop-decl.decl-index c.decl-item.result c.loop-decl-test.true c.requires.placed)

pub loop-decl-preserved : goal.loop-decl-preserved
loop-decl-preserved g c =
    let pushed = c.in_ok-push_image.ensures in
    let before = c.loop-decl.invariant in
    let more = images_from_more c.args.id c.args.page c.args.memories.now c.loop-decl.decl-index c.decl-item.result c.loop-decl-test.true in
    let same = rw (pushed.faults, pushed.behind) at pushed.maker in
    let own = (g.M.PageMaker.told c.args.maker.now).listed in
    let Q : MemoryDecl → Type 0 = λ d. (is_some d.image && fails_images c.args.id.0 own) ≡ false in
    let P : MemoryDecl → Type 0 = λ d. IfSome (g.M.PageMaker.told c.args.maker.now).plan (λ plan. (is_some d.image && fails_images c.args.id.0 plan) ≡ false) in
    record {
      count = omega (arith, pushed.len, before.count);
      images = pushed.ok ∙ rw (before.images, before.count) (sym (rw (← c.decl-item.is) at more));
      maker = same ∙ before.maker;
      borrows = pushed.borrows ∙ before.borrows;
      planned = planned_more (g.M.PageMaker.told c.args.maker.now).plan c.args.id c.args.memories.now c.loop-decl.decl-index c.decl-item.result c.loop-decl-test.true before.planned
          (subst P c.decl-item.is (rw before.maker at pushed.planned));
      listed = planned_more (Some own) c.args.id c.args.memories.now c.loop-decl.decl-index c.decl-item.result c.loop-decl-test.true before.listed
          (subst Q c.decl-item.is (rw before.maker at pushed.listed));
    }

pub returns-in_err-push_image-clause-behind : goal.returns-in_err-push_image-clause-behind
returns-in_err-push_image-clause-behind g c =
    let pushed = c.in_err-push_image.ensures in
    let before = c.loop-decl.invariant in
    let old = g.M.PageMaker.told c.args.maker.now in
    let new = g.M.PageMaker.told c.push_image.new.maker in
    let e : ImageError = c.in_err-push_image.field-0.0 in
    let P : MemoryDecl → Type 0 = λ d. e ≡ PageFault → is_some d.image ≡ true in
    handed_on (λ _. new.behind ≡ old.behind) (RaisesImageBehind (makes_listed_images c.args.id old.listed c.args.memories.now) old.behind new.behind) c.from_residual-in_err-push_image.result e c.from_residual-in_err-push_image.ensures.1
    (raises_one c.args.id old.listed c.args.memories.now c.loop-decl.decl-index c.decl-item.result old.behind new.behind e c.loop-decl-test.true (subst P c.decl-item.is (λ h. pushed.image (ap Err h))) (rw before.maker at pushed.behind))

pub returns-in_err-push_image-clause-supported : goal.returns-in_err-push_image-clause-supported
returns-in_err-push_image-clause-supported g c =
    still_supported c.from_residual-in_err-push_image.result _ c.in_err-push_image.field-0.0 c.from_residual-in_err-push_image.ensures.1 refl c.in_err-push_image.ensures.supported

pub returns-in_err-push_image-clause-maker : goal.returns-in_err-push_image-clause-maker
returns-in_err-push_image-clause-maker g c = rw c.loop-decl.invariant.maker at c.in_err-push_image.ensures.maker

pub returns-in_err-push_image-clause-borrows : goal.returns-in_err-push_image-clause-borrows
returns-in_err-push_image-clause-borrows g c = c.in_err-push_image.ensures.borrows ∙ c.loop-decl.invariant.borrows

pub returns-in_err-push_image-clause-faults : goal.returns-in_err-push_image-clause-faults
returns-in_err-push_image-clause-faults g c =
    let old = g.M.PageMaker.told c.args.maker.now in
    let new = g.M.PageMaker.told c.push_image.new.maker in
    handed_on (λ _. new.faults ≡ old.faults) (RaisesImageFaults old.faults new.faults) c.from_residual-in_err-push_image.result c.in_err-push_image.field-0.0 c.from_residual-in_err-push_image.ensures.1
    (rw c.loop-decl.invariant.maker at c.in_err-push_image.ensures.faults)

pub returns-in_err-push_image-clause-planned : goal.returns-in_err-push_image-clause-planned
returns-in_err-push_image-clause-planned g c =
    let old = g.M.PageMaker.told c.args.maker.now in
    let e : ImageError = c.in_err-push_image.field-0.0 in
    let P : MemoryDecl → Type 0 = λ d. IfSome old.plan (λ plan. IsListedImageFault (is_some d.image && fails_images c.args.id.0 plan) e) in
    listed_told old.plan c.args.id c.args.memories.now c.loop-decl.decl-index c.decl-item.result (λ plan _. makes_listed_images c.args.id plan c.args.memories.now ≡ false) c.from_residual-in_err-push_image.result e c.loop-decl-test.true c.from_residual-in_err-push_image.ensures.1
    (subst P c.decl-item.is (rw c.loop-decl.invariant.maker at c.in_err-push_image.ensures.planned))

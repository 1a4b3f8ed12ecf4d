use Rattle.std.proofs.Common.{◌≡◌, ℕ, Some, None, Option, List, false, subst, IfSome}
use Rattle.pool_pages.specs.MakerTold.{Planned}
use Rattle.pool_run.specs.Private.{images_of}
use Rattle.pool_run.specs.Runs.{module_listed}
use Rattle.pool_run.proofs.Makings.{made_images, images_unlisted, misplaced_none, no_images, none_unlisted}
use Rattle.pool_run.proofs.Valid.{few_memories}
use Rattle.pool_run.proofs.images.make_images.Goals as goal
use Rattle.pool_run.proofs.images.make_images.Goals.{in-Ok, in-Err-Memory, in-Err-PageFault, in-Err-Unsupported}

pub new-requires-clause-count : goal.new-requires-clause-count
new-requires-clause-count g c = few_memories c.args.info.now c.requires.valid

pub returns-clause-ok : goal.returns-clause-ok
returns-clause-ok g c =
    elim c.match-new.branch [
      | in-Ok w ↦
          let Made : ℕ → Type 0 = λ page. w.in-Ok.images ≡ images_of c.args.tunables.now page c.args.number c.args.info.now.memories in
          let made : Made c.page-page.result = made_images c.args.tunables.now c.page-page.result c.args.number c.args.info.now w.in-Ok.images c.if-not-tunables.false w.in-Ok.ensures.begins w.in-Ok.ensures.ends w.in-Ok.ensures.images in
          rw w.result-is (subst Made c.page-page.ensures made)
      | in-Err-Memory w ↦ rw w.result-is tt
      | in-Err-PageFault w ↦ rw w.result-is tt
      | in-Err-Unsupported w ↦
          let None_of : ℕ → Type 0 = λ page. None ≡ images_of c.args.tunables.now page c.args.number c.args.info.now.memories in
          let none : None_of c.page-page.result = no_images c.args.tunables.now c.page-page.result c.args.number c.args.info.now (misplaced_none c.args.tunables.now c.page-page.result c.args.info.now c.new.result _ _ w.in-Err-Unsupported.is w.in-Err-Unsupported.field-0-is c.new.ensures.offsets c.new.ensures.unsupported) in
          rw w.result-is (subst None_of c.page-page.ensures none)
    ]

pub returns-clause-own : goal.returns-clause-own
returns-clause-own g c =
    let listed : List Planned = (g.M.PageMaker.told c.args.maker.now).listed in
    let Own : ℕ → Type 0 = λ page. module_listed c.args.tunables.now page c.args.number listed c.args.info.now ≡ false in
    elim c.match-new.branch [
      | in-Ok w ↦
          let own : Own c.page-page.result = images_unlisted c.args.tunables.now c.page-page.result c.args.number c.args.info.now (Some listed) w.in-Ok.images (made_images c.args.tunables.now c.page-page.result c.args.number c.args.info.now w.in-Ok.images c.if-not-tunables.false w.in-Ok.ensures.begins w.in-Ok.ensures.ends w.in-Ok.ensures.images) w.in-Ok.ensures.listed in
          rw w.result-is (subst Own c.page-page.ensures own)
      | in-Err-Memory w ↦ rw w.result-is tt
      | in-Err-PageFault w ↦ rw w.result-is tt
      | in-Err-Unsupported w ↦
          let own : Own c.page-page.result = none_unlisted c.args.tunables.now c.page-page.result c.args.number c.args.info.now (Some listed) (misplaced_none c.args.tunables.now c.page-page.result c.args.info.now c.new.result _ _ w.in-Err-Unsupported.is w.in-Err-Unsupported.field-0-is c.new.ensures.offsets c.new.ensures.unsupported) in
          rw w.result-is (subst Own c.page-page.ensures own)
    ]

pub returns-clause-unlisted : goal.returns-clause-unlisted
returns-clause-unlisted g c =
    let plan : Option (List Planned) = (g.M.PageMaker.told c.args.maker.now).plan in
    let Unlisted : ℕ → Type 0 = λ page. IfSome plan (λ p. module_listed c.args.tunables.now page c.args.number p c.args.info.now ≡ false) in
    elim c.match-new.branch [
      | in-Ok w ↦
          let unlisted : Unlisted c.page-page.result = images_unlisted c.args.tunables.now c.page-page.result c.args.number c.args.info.now plan w.in-Ok.images (made_images c.args.tunables.now c.page-page.result c.args.number c.args.info.now w.in-Ok.images c.if-not-tunables.false w.in-Ok.ensures.begins w.in-Ok.ensures.ends w.in-Ok.ensures.images) w.in-Ok.ensures.planned in
          rw w.result-is (subst Unlisted c.page-page.ensures unlisted)
      | in-Err-Memory w ↦ rw w.result-is tt
      | in-Err-PageFault w ↦ rw w.result-is tt
      | in-Err-Unsupported w ↦
          let unlisted : Unlisted c.page-page.result = none_unlisted c.args.tunables.now c.page-page.result c.args.number c.args.info.now plan (misplaced_none c.args.tunables.now c.page-page.result c.args.info.now c.new.result _ _ w.in-Err-Unsupported.is w.in-Err-Unsupported.field-0-is c.new.ensures.offsets c.new.ensures.unsupported) in
          rw w.result-is (subst Unlisted c.page-page.ensures unlisted)
    ]

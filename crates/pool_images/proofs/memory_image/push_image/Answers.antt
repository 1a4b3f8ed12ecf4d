use Rattle.std.proofs.Common.{◌≡◌, Err, ap, refl, is_some, false, ◌&&◌}
use Rattle.pool_images.proofs.Imports.{fails_images}
use Rattle.pool_images.specs.ImageErrors.{RaisesImageFaults, RaisesImageBehind, IsListedImageFault}
use Rattle.pool_images.specs.declared.memory_image.ImageError.TheVariants.{PageFault}
use Rattle.pool_images.proofs.Images.{handed_on, handed_told, none_ok, same_error, still_supported}
use Rattle.pool_images.proofs.memory_image.push_image.Goals as goal

pub returns-in_err-image-clause-ok : goal.returns-in_err-image-clause-ok
returns-in_err-image-clause-ok g c =
    none_ok c.from_residual.result _ c.from_residual.ensures.0

pub returns-in_err-image-clause-len : goal.returns-in_err-image-clause-len
returns-in_err-image-clause-len g c =
    none_ok c.from_residual.result _ c.from_residual.ensures.0

pub returns-in_err-image-clause-supported : goal.returns-in_err-image-clause-supported
returns-in_err-image-clause-supported g c =
    still_supported c.from_residual.result _ c.in_err-image.field-0.0 c.from_residual.ensures.1 refl c.in_err-image.ensures.supported

pub returns-in_err-image-clause-maker : goal.returns-in_err-image-clause-maker
returns-in_err-image-clause-maker g c = c.in_err-image.ensures.maker

pub returns-in_err-image-clause-borrows : goal.returns-in_err-image-clause-borrows
returns-in_err-image-clause-borrows g c = c.in_err-image.ensures.borrows

pub returns-in_err-image-clause-faults : goal.returns-in_err-image-clause-faults
returns-in_err-image-clause-faults g c =
    let old = g.M.PageMaker.told c.args.maker.now in
    let new = g.M.PageMaker.told c.make_one.new.maker in
    handed_on (λ _. new.faults ≡ old.faults) (RaisesImageFaults old.faults new.faults) c.from_residual.result c.in_err-image.field-0.0 c.from_residual.ensures.1 c.in_err-image.ensures.faults

pub returns-in_err-image-clause-planned : goal.returns-in_err-image-clause-planned
returns-in_err-image-clause-planned g c =
    let old = g.M.PageMaker.told c.args.maker.now in
    handed_told old.plan (λ plan _. (is_some c.args.decl.now.image && fails_images c.args.id.0 plan) ≡ false) (λ plan. IsListedImageFault (is_some c.args.decl.now.image && fails_images c.args.id.0 plan)) c.from_residual.result c.in_err-image.field-0.0 c.from_residual.ensures.1 c.in_err-image.ensures.planned

pub returns-in_err-image-clause-listed : goal.returns-in_err-image-clause-listed
returns-in_err-image-clause-listed g c =
    none_ok c.from_residual.result _ c.from_residual.ensures.0

pub returns-in_err-image-clause-behind : goal.returns-in_err-image-clause-behind
returns-in_err-image-clause-behind g c =
    let old = g.M.PageMaker.told c.args.maker.now in
    let new = g.M.PageMaker.told c.make_one.new.maker in
    handed_on (λ _. new.behind ≡ old.behind) (RaisesImageBehind (fails_images c.args.id.0 old.listed) old.behind new.behind) c.from_residual.result c.in_err-image.field-0.0 c.from_residual.ensures.1 c.in_err-image.ensures.behind

pub returns-in_err-image-clause-image : goal.returns-in_err-image-clause-image
returns-in_err-image-clause-image g c =
    λ is. c.in_err-image.ensures.image (ap Err (same_error c.from_residual.result c.in_err-image.field-0.0 PageFault c.from_residual.ensures.1 is))

use Rattle.std.proofs.Common.{◌≡◌, refl, false}
use Rattle.pool_images.proofs.Imports.{fails_images}
use Rattle.pool_images.specs.ImageErrors.{RaisesImageFaults, RaisesImageBehind, IsListedImageFault}
use Rattle.pool_images.proofs.Images.{handed_on, handed_told, none_ok, still_supported}
use Rattle.pool_images.proofs.memory_image.make_declared.Goals as goal

pub returns-in_err-image-clause-ok : goal.returns-in_err-image-clause-ok
returns-in_err-image-clause-ok g c =
    none_ok c.from_residual-in_err-image.result _ c.from_residual-in_err-image.ensures.0

pub returns-in_err-image-clause-supported : goal.returns-in_err-image-clause-supported
returns-in_err-image-clause-supported g c =
    still_supported c.from_residual-in_err-image.result _ c.in_err-image.field-0.0 c.from_residual-in_err-image.ensures.1 refl c.in_err-image.ensures.supported

pub returns-in_err-image-clause-maker : goal.returns-in_err-image-clause-maker
returns-in_err-image-clause-maker g c = c.in_err-image.ensures.maker

pub returns-in_err-image-clause-borrows : goal.returns-in_err-image-clause-borrows
returns-in_err-image-clause-borrows g c = c.in_err-image.ensures.borrows

pub returns-in_err-image-clause-faults : goal.returns-in_err-image-clause-faults
returns-in_err-image-clause-faults g c =
    let old = g.M.PageMaker.told c.args.maker.now in
    let new = g.M.PageMaker.told c.make_image.new.maker in
    handed_on (λ _. new.faults ≡ old.faults) (RaisesImageFaults old.faults new.faults) c.from_residual-in_err-image.result c.in_err-image.field-0.0 c.from_residual-in_err-image.ensures.1 c.in_err-image.ensures.faults

pub returns-in_err-image-clause-planned : goal.returns-in_err-image-clause-planned
returns-in_err-image-clause-planned g c =
    let old = g.M.PageMaker.told c.args.maker.now in
    handed_told old.plan (λ plan _. (fails_images c.args.id.0 plan) ≡ false) (λ plan. IsListedImageFault (fails_images c.args.id.0 plan)) c.from_residual-in_err-image.result c.in_err-image.field-0.0 c.from_residual-in_err-image.ensures.1 c.in_err-image.ensures.planned

pub returns-in_err-image-clause-listed : goal.returns-in_err-image-clause-listed
returns-in_err-image-clause-listed g c =
    none_ok c.from_residual-in_err-image.result _ c.from_residual-in_err-image.ensures.0

pub returns-in_err-image-clause-behind : goal.returns-in_err-image-clause-behind
returns-in_err-image-clause-behind g c =
    let old = g.M.PageMaker.told c.args.maker.now in
    let new = g.M.PageMaker.told c.make_image.new.maker in
    handed_on (λ _. new.behind ≡ old.behind) (RaisesImageBehind (fails_images c.args.id.0 old.listed) old.behind new.behind) c.from_residual-in_err-image.result c.in_err-image.field-0.0 c.from_residual-in_err-image.ensures.1 c.in_err-image.ensures.behind

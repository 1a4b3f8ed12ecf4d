use Rattle.std.proofs.Common.{◌≡◌}
use Rattle.pool_images.specs.ImageErrors.{RaisesImageFaults}
use Rattle.pool_images.proofs.Images.{handed_on, none_ok}
use Rattle.pool_images.proofs.memory_image.ModuleMemoryImages.new.Goals as goal

pub returns-in_err-images-clause-begins : goal.returns-in_err-images-clause-begins
returns-in_err-images-clause-begins g c =
    none_ok c.from_residual.result _ c.from_residual.ensures.0

pub returns-in_err-images-clause-ends : goal.returns-in_err-images-clause-ends
returns-in_err-images-clause-ends g c =
    none_ok c.from_residual.result _ c.from_residual.ensures.0

pub returns-in_err-images-clause-images : goal.returns-in_err-images-clause-images
returns-in_err-images-clause-images g c =
    none_ok c.from_residual.result _ c.from_residual.ensures.0

pub returns-in_err-images-clause-listed : goal.returns-in_err-images-clause-listed
returns-in_err-images-clause-listed g c =
    none_ok c.from_residual.result _ c.from_residual.ensures.0

pub returns-in_err-images-clause-maker : goal.returns-in_err-images-clause-maker
returns-in_err-images-clause-maker g c = c.in_err-images.ensures.maker

pub returns-in_err-images-clause-borrows : goal.returns-in_err-images-clause-borrows
returns-in_err-images-clause-borrows g c = c.in_err-images.ensures.borrows

pub returns-in_err-images-clause-faults : goal.returns-in_err-images-clause-faults
returns-in_err-images-clause-faults g c =
    let old = g.M.PageMaker.told c.args.maker.now in
    let new = g.M.PageMaker.told c.make_images.new.maker in
    handed_on (λ _. new.faults ≡ old.faults) (RaisesImageFaults old.faults new.faults) c.from_residual.result c.in_err-images.field-0.0 c.from_residual.ensures.1 c.in_err-images.ensures.faults

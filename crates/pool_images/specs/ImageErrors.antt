-- What a refused making of an image does to the maker's count of faults.
use Rattle.std.specs.Prelude.{◌≡◌, ℕ, Bool, true}
use Rattle.pool_types.specs.Rising.{Rose}
use Rattle.pool_pages.specs.MakeFaults.{RaisesBehind}
use Rattle.pool_pages.specs.declared.maker.MakeFault.TheVariants as making
use Rattle.pool_images.specs.declared.memory_image.ImageError.{ImageError}
use Rattle.pool_images.specs.declared.memory_image.ImageError.TheVariants.{Memory, Unsupported, PageFault}

-- a page fault raises the count, and each other refusal leaves it
abbrev pub RaisesImageFaults : ℕ → ℕ → ImageError → Type 0
RaisesImageFaults old new Memory = new ≡ old
RaisesImageFaults old new (Unsupported u) = new ≡ old
RaisesImageFaults old new PageFault = Rose old new

-- what a refused making does to the count of the maker behind: a listed making isn't made there, and leaves it
abbrev pub RaisesImageBehind : Bool → ℕ → ℕ → ImageError → Type 0
RaisesImageBehind listed old new Memory = new ≡ old
RaisesImageBehind listed old new (Unsupported u) = new ≡ old
RaisesImageBehind listed old new PageFault = RaisesBehind listed old new making.PageFault

-- a page fault comes only where the making is listed as one that fails
abbrev pub IsListedImageFault : Bool → ImageError → Type 0
IsListedImageFault listed Memory = Unit {0}
IsListedImageFault listed (Unsupported u) = Unit {0}
IsListedImageFault listed PageFault = listed ≡ true

-- What an instance that is too large is made of, as its text lists it.
use Rattle.std.specs.Prelude.{ℕ, ◌*◌, ◌/◌, ◌%◌, List, [], ◌∷◌, ◌++◌, codes, nat_lt, if◌then◌else◌}
use Rattle.std.specs.Fmt.{decimal}
use Rattle.pool_types.specs.declared.module_types.ModuleInfo.{ModuleInfo}
use Rattle.pool_types.specs.declared.module_types.Part.{Part}

-- a share of a whole, in hundredths of a percent, rounded down
abbrev pub hundredths : ℕ → ℕ → ℕ
hundredths bytes size = bytes * 10000 / size

-- hundredths as a number with two places
abbrev pub places_text : ℕ → List ℕ
places_text h = decimal (h / 100) ++ (codes "." ++ (decimal (h / 10 % 10) ++ decimal (h % 10)))

-- the line of one part
abbrev pub part_line : ℕ → List ℕ → ℕ → List ℕ
part_line size name bytes = codes " * " ++ (places_text (hundredths bytes size) ++ (codes "% - " ++ (decimal bytes ++ (codes " bytes - " ++ (name ++ codes "\n")))))

-- a part has its line where it is more than a twentieth of the whole, rounded down
abbrev pub listed : ℕ → List ℕ → ℕ → List ℕ
listed size name bytes = if nat_lt (size / 20) bytes then part_line size name bytes else []

-- the lines of parts, in their order
abbrev pub listed_parts : ℕ → List Part → List ℕ
listed_parts size [] = []
listed_parts size (part ∷ parts) = listed size part.name part.bytes ++ listed_parts size parts

-- the lines of an instance of this whole size: what the runtime keeps of it, and then the module's parts
abbrev pub breakdown : ℕ → ModuleInfo → List ℕ
breakdown size info = listed size (codes "instance state management") info.state_bytes ++ listed_parts size info.parts

-- The calls for an input's modules.
use Rattle.std.specs.Prelude.{ℕ, ◌+◌, List, [], ◌∷◌, Some}
use Rattle.pool_run.specs.Imports.{ModuleInfo, Tunables, ModuleAsked}
use Rattle.pool_run.specs.Private.{images_of}

-- the call for the module of this number, with its images
abbrev pub call_made : Tunables → ℕ → ℕ → ModuleInfo → ModuleAsked
call_made tunables page number m = record { info = m; images = images_of tunables page number m.memories; id = Some (record { 0 = number }) }

-- The calls for the modules of an input, of which the first has this number.
abbrev pub calls_made : Tunables → ℕ → ℕ → List ModuleInfo → List ModuleAsked
calls_made tunables page number [] = []
calls_made tunables page number (m ∷ ms) = call_made tunables page number m ∷ calls_made tunables page (number + 1) ms

-- What an input that can be run has: modules of memories whose sizes can be computed.
use Rattle.std.proofs.Common.{◌≡◌, ◌≤◌, true}
use Rattle.pool_run.proofs.Imports.{list_all, leb-true, MemoryDecl, ModuleInfo}
use Rattle.pool_run.specs.Built.{is_built, is_built_memory, is_built_module}
use Rattle.pool_run.specs.declared.input.Input.{Input}

pub built_modules : (input : Input) → is_built input ≡ true → list_all is_built_module input.modules ≡ true
built_modules input built = built

pub built_memories : (m : ModuleInfo) → is_built_module m ≡ true → list_all is_built_memory m.memories ≡ true
built_memories m built = built

pub small_pages : (d : MemoryDecl) → is_built_memory d ≡ true → d.ty.page_size_log2 ≤ 16
small_pages d built = leb-true d.ty.page_size_log2 16 built

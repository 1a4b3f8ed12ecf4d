-- The inputs that can be run, and the rule that their settings break.
use Rattle.std.specs.Prelude.{nat_le, Bool, Option}
use Rattle.pool_run.specs.Imports.{list_all, first_broken_rule, BadConfig, MemoryDecl, ModuleInfo}
use Rattle.pool_run.specs.declared.input.Input.{Input}

-- a memory whose own pages are of 64 KiB at most
abbrev pub is_built_memory : MemoryDecl → Bool
is_built_memory decl = nat_le decl.ty.page_size_log2 16

-- a module of such memories
abbrev pub is_built_module : ModuleInfo → Bool
is_built_module m = list_all is_built_memory m.memories

-- its modules are such
abbrev pub is_built : Input → Bool
is_built input = list_all is_built_module input.modules

-- the first of the rules of its settings that is broken
abbrev pub broken_rule : Input → Option BadConfig
broken_rule input = first_broken_rule input.config input.tunables input.page input.shards input.offered

-- The commands of an input: which one has a number, of what kind it is, and the word for its kind.
use Rattle.std.specs.Prelude.{ℕ, List, slice_get, codes, Option, Some, None}
use Rattle.pool_forms.specs.Fields.{◌>>=◌}
use Rattle.pool_run.specs.declared.command.Command.{Command}
use Rattle.pool_run.specs.declared.command.Command.TheVariants as command
use Rattle.pool_run.specs.declared.input.Input.{Input}
use Rattle.pool_view_steps.specs.declared.command_kind.CommandKind.{CommandKind}
use Rattle.pool_view_steps.specs.declared.command_kind.CommandKind.TheVariants as kind

-- The command of this number of a party.
abbrev pub command_of : Input → ℕ → ℕ → Option Command
command_of input i n = slice_get input.parties i >>= (λ p. slice_get p.commands n)

-- The kind of a command.
abbrev pub kind_of : Command → CommandKind
kind_of (command.Instantiate module_number) = kind.Instantiate
kind_of (command.Component core_instances memories tables core_bytes own_bytes) = kind.Component
kind_of command.Stack = kind.Stack
kind_of (command.Heap least most) = kind.Heap
kind_of (command.Read of memory start len) = kind.Read
kind_of (command.Write of memory start bytes) = kind.Write
kind_of (command.Fill of memory start len byte) = kind.Fill
kind_of (command.Grow of memory pages) = kind.Grow
kind_of (command.Size of memory) = kind.Size
kind_of (command.Get of table start) = kind.Get
kind_of (command.Set of table start value) = kind.Set
kind_of (command.TableFill of table start value len) = kind.TableFill
kind_of (command.TableGrow of table more) = kind.TableGrow
kind_of (command.TableSize of table) = kind.TableSize
kind_of (command.Drop of) = kind.Drop
kind_of (command.Purge module_number) = kind.Purge
kind_of command.Release = kind.Release

-- The word for a kind in an input.
abbrev pub word_of : CommandKind → List ℕ
word_of kind.Instantiate = codes "instantiate"
word_of kind.Component = codes "component"
word_of kind.Stack = codes "stack"
word_of kind.Heap = codes "heap"
word_of kind.Read = codes "read"
word_of kind.Write = codes "write"
word_of kind.Fill = codes "fill"
word_of kind.Grow = codes "grow"
word_of kind.Size = codes "size"
word_of kind.Get = codes "get"
word_of kind.Set = codes "set"
word_of kind.TableFill = codes "table_fill"
word_of kind.TableGrow = codes "table_grow"
word_of kind.TableSize = codes "table_size"
word_of kind.Drop = codes "drop"
word_of kind.Purge = codes "purge"
word_of kind.Release = codes "release"

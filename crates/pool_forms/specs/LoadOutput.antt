-- The text of the output of a load: how many replies of each kind there are, and the pool's numbers.
use Rattle.std.specs.Prelude.{ℕ, List, ◌++◌, codes, sum_by, Bool, true, false}
use Rattle.std.specs.List.{count_by}
use Rattle.pool_forms.specs.Imports.{decimal, RunOutput, Reply, Instance, Returned, Refused, Trapped}
use Rattle.pool_run.specs.declared.reply.Reply.TheVariants.{Component, Stack, Heap, Bytes, Done, Grown}
use Rattle.pool_forms.specs.Output.{line_feed, named, metrics_line, pages_line}
use Rattle.pool_forms.specs.declared.print_load.ReplyKind.{ReplyKind}
use Rattle.pool_forms.specs.declared.print_load.ReplyKind.TheVariants as kind

-- a reply is of this kind: each grant is one kind, whatever is granted, and each growth one, also where there was none
abbrev pub is_of : ReplyKind → Reply → Bool
is_of kind.Granted (Instance memories tables) = true
is_of kind.Granted Component = true
is_of kind.Granted (Stack slot) = true
is_of kind.Granted (Heap heap memory) = true
is_of kind.Done Done = true
is_of kind.Grown (Grown old) = true
is_of kind.Bytes (Bytes bytes) = true
is_of kind.Returned Returned = true
is_of kind.Refused (Refused refusal) = true
is_of kind.Trapped (Trapped trap) = true
is_of _ _ = false

-- how many replies of this kind all parties have
abbrev pub count_of : ReplyKind → List (List Reply) → ℕ
count_of kind parties = sum_by (count_by (is_of kind)) parties

-- the number of replies of each kind
unfoldable pub counts_text : List (List Reply) → List ℕ
counts_text parties =
    named (codes " granted=") (count_of kind.Granted parties)
    ++ named (codes " done=") (count_of kind.Done parties)
    ++ named (codes " grown=") (count_of kind.Grown parties)
    ++ named (codes " bytes=") (count_of kind.Bytes parties)
    ++ named (codes " returned=") (count_of kind.Returned parties)
    ++ named (codes " refused=") (count_of kind.Refused parties)
    ++ named (codes " trapped=") (count_of kind.Trapped parties)

-- how the line of a load begins: its seed, its 8 parties, and the 250 commands that each of them has
unfoldable pub load_head : ℕ → List ℕ
load_head seed = codes "load " ++ decimal seed ++ codes ": parties=8 commands=2000"

-- the line of the load of this seed
abbrev pub load_line : ℕ → List (List Reply) → List ℕ
load_line seed parties = load_head seed ++ counts_text parties ++ line_feed

-- of the load of this seed: that line, then the pool's numbers, then the calls on its regions
abbrev pub load_text : ℕ → RunOutput → List ℕ
load_text seed output = load_line seed output.replies ++ metrics_line output.metrics ++ pages_line output.calls

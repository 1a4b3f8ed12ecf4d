-- What the program is asked for by its words.
use Rattle.std.specs.Prelude.{ℕ, ◌+◌, ◌-◌, ◌*◌, ◌^◌, List, [], ◌∷◌, length, codes, ◌&&◌, nat_lt, if◌then◌else◌, Bool, Option, Some, None, String, string_bytes}
use Rattle.std.specs.declared.alloc.Global.{Global}
use Rattle.std.specs.Char.{is_ascii_digit}
use Rattle.std.specs.List.{list_all}
use Rattle.std.specs.Str.{bytes_eq}
use Rattle.pool_cli.specs.declared.words.Task.{Task}
use Rattle.pool_cli.specs.declared.words.Task.TheVariants.{Run, RunOnDemand, Threads, Shared, Load, Unknown}

-- the number that decimal digits write after those of n
abbrev pub number_after : ℕ → List ℕ → ℕ
number_after n [] = n
number_after n (digit ∷ digits) = number_after (10 * n + (digit - 48)) digits

-- one or more decimal digits of a number that 64 bits hold
abbrev pub is_number : List ℕ → Bool
is_number text = nat_lt 0 (length text) && list_all is_ascii_digit text && nat_lt (number_after 0 text) (2 ^ 64)

-- What one word asks for: `run`, `threads` or `shared`; any other is unknown.
abbrev pub one_word : List ℕ → Task
one_word word =
    if bytes_eq word (codes "run") then Run
    else if bytes_eq word (codes "threads") then Threads
    else if bytes_eq word (codes "shared") then Shared
    else Unknown

-- The number that a text of digits alone writes.
abbrev pub number_in : List ℕ → Option ℕ
number_in text = if is_number text then Some (number_after 0 text) else None

-- a load of this seed, where there is one
abbrev pub load_of : Option ℕ → Task
load_of (Some seed) = Load seed
load_of None = Unknown

-- What two words ask for: `run on-demand`, or `load` with a number; any others are unknown.
abbrev pub two_words : List ℕ → List ℕ → Task
two_words first second =
    if bytes_eq first (codes "run") && bytes_eq second (codes "on-demand") then RunOnDemand
    else if bytes_eq first (codes "load") then load_of (number_in second)
    else Unknown

-- What all words together ask for: `run`, `run on-demand`, `threads`, `shared` and `load` with a number; there is nothing else.
abbrev pub task_of : List (String Global) → Task
task_of [] = Unknown
task_of (word ∷ []) = one_word (string_bytes word)
task_of (first ∷ second ∷ []) = two_words (string_bytes first) (string_bytes second)
task_of (first ∷ second ∷ third ∷ more) = Unknown

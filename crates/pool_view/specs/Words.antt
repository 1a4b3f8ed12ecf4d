-- What the program is asked by its words.
use Rattle.std.specs.Prelude.{ℕ, List, [], ◌∷◌, codes, if◌then◌else◌, Option, Some, None, String, string_bytes}
use Rattle.std.specs.declared.alloc.Global.{Global}
use Rattle.std.specs.Str.{bytes_eq}
use Rattle.pool_view.specs.declared.words.Question.{Question}
use Rattle.pool_view.specs.declared.words.Question.TheVariants.{Check, CheckShared, Explain, Trace, Summary, Chart}

-- What one word asks.
abbrev pub one_word : List ℕ → Option Question
one_word word =
    if bytes_eq word (codes "check") then Some Check
    else if bytes_eq word (codes "explain") then Some Explain
    else if bytes_eq word (codes "trace") then Some Trace
    else if bytes_eq word (codes "summary") then Some Summary
    else if bytes_eq word (codes "chart") then Some Chart
    else None

-- What a word behind `check` asks: an input of a run on demand has the form and the rules of one of a run.
abbrev pub checked_word : List ℕ → Option Question
checked_word word =
    if bytes_eq word (codes "on-demand") then Some Check
    else if bytes_eq word (codes "shared") then Some CheckShared
    else None

-- What two words ask: the first is `check`.
abbrev pub two_words : List ℕ → List ℕ → Option Question
two_words first second = if bytes_eq first (codes "check") then checked_word second else None

-- What the words ask, if they are words that the program has.
abbrev pub question_of : List (String Global) → Option Question
question_of [] = None
question_of (word ∷ []) = one_word (string_bytes word)
question_of (first ∷ second ∷ []) = two_words (string_bytes first) (string_bytes second)
question_of (first ∷ second ∷ third ∷ more) = None

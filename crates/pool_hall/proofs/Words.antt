-- The words of places and counters: all that proofs know of where they lie.
use Rattle.std.proofs.Common.{◌≢◌, ℕ, ◌<◌, arith}
use Rattle.pool_hall.specs.Rule.{word_of}

-- each word lies behind those before it
pub word_rises : (packed n k : ℕ) → n < k → word_of packed n < word_of packed k
word_rises packed n k less = omega arith

pub words_apart : (packed n k : ℕ) → n ≢ k → word_of packed n ≢ word_of packed k
words_apart packed n k apart = λ e. apart (omega arith)

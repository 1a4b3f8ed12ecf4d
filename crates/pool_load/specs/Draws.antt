-- Numbers drawn one after another from a seed.
use Rattle.std.specs.Prelude.{ℕ, ◌+◌, ◌*◌, ◌/◌, ◌%◌, ◌^◌}
use Rattle.std.specs.Fn.{iterate}

-- what a draw makes of the state
unfoldable pub next_state : ℕ → ℕ
next_state x = (x * 6364136223846793005 + 1442695040888963407) % 2 ^ 64

-- the number below n that a state stands for
unfoldable pub number_of : ℕ → ℕ → ℕ
number_of n x = x / 2 ^ 33 % n

-- the state after so many draws from x on
unfoldable pub state_after : ℕ → ℕ → ℕ
state_after draws x = iterate next_state draws x

-- the number below n that the draw of this number gives from x on, where the first draw is number 1
abbrev pub drawn : ℕ → ℕ → ℕ → ℕ
drawn n draw x = number_of n (state_after draw x)

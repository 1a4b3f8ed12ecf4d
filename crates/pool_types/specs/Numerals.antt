-- How texts write numbers.
use Rattle.std.specs.Prelude.{ℕ, false, List, ◌++◌, codes}
use Rattle.std.specs.Fmt.{digits}

-- a number in lower-case hexadecimal digits after `0x`
abbrev pub hexadecimal : ℕ → List ℕ
hexadecimal n = codes "0x" ++ digits 16 false n

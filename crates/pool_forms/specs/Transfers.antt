-- How a read and a write of everything end.
use Rattle.std.specs.Prelude.{ℕ, List, Result, Ok, Err}
use Rattle.pool_types.specs.Rising.{Rose}
use Rattle.pool_forms.specs.Streams.{SourceTold, ReadWhole, ReadTooMuch}
use Rattle.pool_forms.specs.declared.transfers.ReadFault.{ReadFault}
use Rattle.pool_forms.specs.declared.transfers.ReadFault.TheVariants.{Failed, TooLong, Memory}

-- all was read, or a read failed, or there was too much
abbrev pub ReadsAll : SourceTold → SourceTold → Result (List ℕ) ReadFault → Type 0
ReadsAll old new (Ok bytes) = ReadWhole bytes old new
ReadsAll old new (Err Failed) = Rose old.faults new.faults
ReadsAll old new (Err TooLong) = ReadTooMuch old new
ReadsAll old new (Err Memory) = Unit {0}

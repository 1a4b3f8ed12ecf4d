-- What the program writes where it has no output.
use Rattle.std.specs.Prelude.{ℕ, List, [], ◌++◌, codes, string_bytes}
use Rattle.pool_types.specs.ConfigTexts.{bad_config_text}
use Rattle.pool_types.specs.declared.bad_config.BadConfig.{BadConfig}
use Rattle.pool_forms.specs.Output.{line_feed}
use Rattle.pool_cli.specs.declared.failure.Failure.{Failure}
use Rattle.pool_cli.specs.declared.failure.Failure.TheVariants as failure
use Rattle.pool_cli.specs.declared.status.Status.{Status}
use Rattle.pool_cli.specs.declared.status.Status.TheVariants.{BadUsage, BadInput, BadConfig as BadSettings, PageFault, ReadFault, NoMemory, TooLong}

-- the line of settings that are refused
abbrev pub config_line : BadConfig → List ℕ
config_line error = codes "error BadConfig: " ++ bad_config_text error ++ line_feed

-- the line of a failure, with a line feed, or nothing
abbrev pub line_of : Failure → List ℕ
line_of failure.BadUsage = codes "error BadUsage: run, run on-demand, threads, shared or load N" ++ line_feed
line_of failure.BadInput = codes "error BadInput" ++ line_feed
line_of (failure.BadConfig line) = string_bytes line
line_of failure.PageFault = codes "error PageFault" ++ line_feed
line_of failure.ReadFault = []
line_of failure.NoMemory = []
line_of failure.TooLong = codes "error TooLong" ++ line_feed

-- the status that a failure ends with
abbrev pub status_of_failure : Failure → Status
status_of_failure failure.BadUsage = BadUsage
status_of_failure failure.BadInput = BadInput
status_of_failure (failure.BadConfig line) = BadSettings
status_of_failure failure.PageFault = PageFault
status_of_failure failure.ReadFault = ReadFault
status_of_failure failure.NoMemory = NoMemory
status_of_failure failure.TooLong = TooLong

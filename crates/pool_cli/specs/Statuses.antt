-- Why the program ends with a status, and what it wrote.
use Rattle.std.specs.Prelude.{◌≡◌, ℕ, ◌≤◌, ◌<◌, List, length, ◌⊎◌, Bool, true, false, ◌||◌, Option, Some, None, string_bytes}
use Rattle.pool_types.specs.declared.bad_config.BadConfig.{BadConfig}
use Rattle.pool_pages.specs.declared.failing.Failing.{Failing}
use Rattle.pool_pages.specs.FailingRegions.{with_failing}
use Rattle.pool_pages.specs.MakerTold.{MakerTold}
use Rattle.pool_pages.specs.Told.{Told}
use Rattle.pool_types.specs.Rising.{Rose}
use Rattle.pool_run.specs.Agreeing.{IsOnlyRun}
use Rattle.pool_run.specs.Built.{broken_rule}
use Rattle.pool_run_on_demand.specs.Runs.{IsOnDemand, HasFaultedImages}
use Rattle.pool_run.specs.Runs.{IsRun, HoldsFromStart, HasFaultedMaking, with_faults}
use Rattle.pool_run.specs.Validity.{is_valid}
use Rattle.pool_run_shared.specs.Runs.{IsSharedRun, HasNoShared, with_page, broken_page}
use Rattle.pool_run.specs.declared.input.Input.{Input}
use Rattle.pool_run.specs.declared.output.RunOutput.{RunOutput}
use Rattle.pool_run.specs.declared.reply.Reply.{Reply}
use Rattle.pool_run_shared.specs.declared.input.SharedInput.{SharedInput}
use Rattle.pool_run_shared.specs.declared.reply.SharedReply.{SharedReply}
use Rattle.pool_workers.specs.Listed.{FewFaulted, coming}
use Rattle.pool_workers.specs.Threads.{HaveRunBeside, IsUnlisted}
use Rattle.pool_load.specs.Load.{load_input}
use Rattle.pool_cli.specs.Lines.{config_line, line_of}
use Rattle.pool_forms.specs.LoadOutput.{load_text}
use Rattle.pool_forms.specs.Output.{output_text, replies_text, threads_text}
use Rattle.pool_forms.specs.Reading.{Reading, invalid, accepted, reading, shared_reading}
use Rattle.pool_forms.specs.SharedOutput.{shared_text}
use Rattle.pool_forms.specs.Streams.{SourceTold, SinkTold, ReadWhole, ReadTooMuch, Wrote, WrotePart, most_input}
use Rattle.pool_cli.specs.declared.failure.Failure.{Failure}
use Rattle.pool_cli.specs.declared.failure.Failure.TheVariants as failure
use Rattle.pool_cli.specs.declared.status.Status.{Status}
use Rattle.pool_cli.specs.declared.status.Status.TheVariants.{Ok as Success, BadInput, BadConfig as BadSettings, PageFault, ReadFault, WriteFault, NoMemory, TooLong}
use Rattle.pool_cli.specs.declared.words.Task.{Task}
use Rattle.pool_cli.specs.declared.words.Task.TheVariants.{Run, RunOnDemand, Threads, Shared, Load, Unknown}

-- how the bytes for a task are read, and which rule of its settings an input breaks
pub record Format (X : Type 0) : Type 0 where
  pub reading : List ℕ → Reading X
  pub broken : X → Option BadConfig

-- How the bytes of a run are read, and which rule of the settings an input breaks first.
abbrev pub run_format : Format Input
run_format = record { reading = reading; broken = broken_rule }

-- How the bytes of events are read; of settings they have the page size alone.
abbrev pub shared_format : Format SharedInput
shared_format = record { reading = shared_reading; broken = broken_page }

-- The source was read to its end, and this is what the bytes read are.
pub record HasRead {X : Type 0} (f : Format X) (is : Reading X) (source_old source_new : SourceTold) : Type 0 where
  pub bytes : List ℕ
  pub whole : ReadWhole bytes source_old source_new
  pub reads : f.reading bytes ≡ is

-- The source was read to its end, the bytes read are an input that can be run, no rule of its settings is broken, and
-- the text is that of the output of a run of it, over regions of type P, which is the only one in which the same commands
-- find no memory, and sound between any two turns. No making of the maker's failed.
pub record HasRun (P : Type 0) (text : List ℕ) (source_old source_new : SourceTold) (maker_old maker_new : MakerTold) : Type 0 where
  pub input : Input
  pub output : RunOutput
  pub read : HasRead run_format (accepted input) source_old source_new
  pub limits : broken_rule input ≡ None
  pub run : IsRun (Failing P) input (with_faults input maker_old) output
  pub only : IsOnlyRun (Failing P) input (with_faults input maker_old) output
  pub throughout : HoldsFromStart (Failing P) input (with_faults input maker_old)
  pub makings : maker_new.faults ≡ maker_old.faults
  pub text_is : text ≡ output_text input output

-- The same of a run on demand, which makes each memory and each table for the request that asks for it: the text is that of
-- the replies alone.
pub record HasRunOnDemand (text : List ℕ) (source_old source_new : SourceTold) (maker_old : MakerTold) : Type 0 where
  pub input : Input
  pub output : RunOutput
  pub read : HasRead run_format (accepted input) source_old source_new
  pub limits : broken_rule input ≡ None
  pub run : IsOnDemand input (with_faults input maker_old) output
  pub text_is : text ≡ replies_text input output.replies

-- The same of a run with a thread for each party, of those of the input's faults that can come. What each party was told is a private
-- run of all its commands, and where it was refused for want of something, all parties together ask for at least as much as there is.
-- Where the maker lists none of its own, no more requests are refused for a failed page call than calls are listed on memories, and no
-- more growths of a memory met a fault than its region's plan lists. No making of the maker's failed, and none that is listed was
-- needed. The text is that of the replies, and then the line that the pool was closed.
pub record HasRunThreads (text : List ℕ) (source_old source_new : SourceTold) (maker_old maker_new : MakerTold) : Type 0 where
  pub input : Input
  pub replies : List (List Reply)
  pub read : HasRead run_format (accepted input) source_old source_new
  pub limits : broken_rule input ≡ None
  pub run : HaveRunBeside input (with_faults (coming input) maker_old) replies
  pub few : FewFaulted input maker_old replies
  pub unlisted : IsUnlisted input (with_faults (coming input) maker_old)
  pub makings : maker_new.faults ≡ maker_old.faults
  pub text_is : text ≡ threads_text input replies

-- The same of a run of events on a shared memory: the text is that of the replies to them.
pub record HasRunShared (text : List ℕ) (source_old source_new : SourceTold) (maker_old : MakerTold) : Type 0 where
  pub input : SharedInput
  pub replies : List SharedReply
  pub read : HasRead shared_format (accepted input) source_old source_new
  pub page : broken_page input ≡ None
  pub run : IsSharedRun input (with_page input maker_old) replies
  pub text_is : text ≡ shared_text replies

-- nothing was read
abbrev pub Unread : SourceTold → SourceTold → Type 0
Unread source_old source_new = source_new ≡ source_old

-- The same of a run of the load of this seed, for which nothing is read: its input is made. That is valid, and no rule of its
-- settings is broken. The text counts the replies.
pub record HasRunLoad (P : Type 0) (seed : ℕ) (text : List ℕ) (source_old source_new : SourceTold) (maker_old maker_new : MakerTold) : Type 0 where
  pub output : RunOutput
  pub unread : Unread source_old source_new
  pub valid : is_valid (load_input seed) ≡ true
  pub limits : broken_rule (load_input seed) ≡ None
  pub run : IsRun (Failing P) (load_input seed) (with_faults (load_input seed) maker_old) output
  pub only : IsOnlyRun (Failing P) (load_input seed) (with_faults (load_input seed) maker_old) output
  pub throughout : HoldsFromStart (Failing P) (load_input seed) (with_faults (load_input seed) maker_old)
  pub makings : maker_new.faults ≡ maker_old.faults
  pub text_is : text ≡ load_text seed output

-- what the words ask for was run, and this is the text of its output
abbrev pub HasDone : Type 0 → Task → List ℕ → SourceTold → SourceTold → MakerTold → MakerTold → Type 0
HasDone P Run text source_old source_new maker_old maker_new = HasRun P text source_old source_new maker_old maker_new
HasDone P RunOnDemand text source_old source_new maker_old maker_new = HasRunOnDemand text source_old source_new maker_old
HasDone P Threads text source_old source_new maker_old maker_new = HasRunThreads text source_old source_new maker_old maker_new
HasDone P Shared text source_old source_new maker_old maker_new = HasRunShared text source_old source_new maker_old
HasDone P (Load seed) text source_old source_new maker_old maker_new = HasRunLoad P seed text source_old source_new maker_old maker_new
HasDone P _ text source_old source_new maker_old maker_new = ⊥

-- the words ask for a run, of which the input is read
abbrev pub reads_input : Task → Bool
reads_input Run = true
reads_input RunOnDemand = true
reads_input Threads = true
reads_input Shared = true
reads_input _ = false

-- The words ask for a load.
abbrev pub is_load : Task → Bool
is_load (Load seed) = true
is_load _ = false

-- the words ask for a run, of an input that is read or made, and a run takes memory
abbrev pub runs : Task → Bool
runs task = reads_input task || is_load task

-- the bytes read are no JSON, or an input that breaks a limit or names what isn't there
abbrev pub HasReadInvalid : Task → SourceTold → SourceTold → Type 0
HasReadInvalid Run source_old source_new = HasRead run_format invalid source_old source_new
HasReadInvalid RunOnDemand source_old source_new = HasRead run_format invalid source_old source_new
HasReadInvalid Threads source_old source_new = HasRead run_format invalid source_old source_new
HasReadInvalid Shared source_old source_new = HasRead shared_format invalid source_old source_new
HasReadInvalid _ source_old source_new = ⊥

-- The source was read to its end, and the bytes read are an input that can be run but for its settings: this is the
-- first of their rules that is broken.
pub record BreaksRule {X : Type 0} (f : Format X) (error : BadConfig) (source_old source_new : SourceTold) : Type 0 where
  pub input : X
  pub read : HasRead f (accepted input) source_old source_new
  pub broken : f.broken input ≡ Some error

-- The input that was read breaks a rule of its settings, by the task's format.
abbrev pub HasBadConfig : Task → BadConfig → SourceTold → SourceTold → Type 0
HasBadConfig Run error source_old source_new = BreaksRule run_format error source_old source_new
HasBadConfig RunOnDemand error source_old source_new = BreaksRule run_format error source_old source_new
HasBadConfig Threads error source_old source_new = BreaksRule run_format error source_old source_new
HasBadConfig Shared error source_old source_new = BreaksRule shared_format error source_old source_new
HasBadConfig _ error source_old source_new = ⊥

-- The source was read to its end, the bytes read are an input that can be run, no rule of its settings is broken, and
-- a making, or the first call on a region, failed as its pool was made: the input lists one, or the maker's own count of
-- faults rose.
pub record HasNoPool {P : Type 0} (told : P → Told) (source_old source_new : SourceTold) (maker_old maker_new : MakerTold) : Type 0 where
  pub input : Input
  pub read : HasRead run_format (accepted input) source_old source_new
  pub limits : broken_rule input ≡ None
  pub making : HasFaultedMaking (with_failing told) input maker_old maker_new

-- The same of a run with a thread for each party, of those of the input's faults that can come.
pub record HasNoPoolBeside {P : Type 0} (told : P → Told) (source_old source_new : SourceTold) (maker_old maker_new : MakerTold) : Type 0 where
  pub input : Input
  pub read : HasRead run_format (accepted input) source_old source_new
  pub limits : broken_rule input ≡ None
  pub making : HasFaultedMaking (with_failing told) (coming input) maker_old maker_new

-- the same of the images of modules, which are all that a run on demand makes before its first step
pub record HasNoImages (source_old source_new : SourceTold) (maker_old maker_new : MakerTold) : Type 0 where
  pub input : Input
  pub read : HasRead run_format (accepted input) source_old source_new
  pub limits : broken_rule input ≡ None
  pub making : HasFaultedImages input maker_old maker_new

-- The region of a shared memory could not be made.
pub record HasNoRegion (source_old source_new : SourceTold) (maker_old maker_new : MakerTold) : Type 0 where
  pub input : SharedInput
  pub read : HasRead shared_format (accepted input) source_old source_new
  pub page : broken_page input ≡ None
  pub making : HasNoShared input (with_page input maker_old) maker_new

-- Nothing was read, and a making, or the first call on a region, failed as the pool of the load of this seed was made.
pub record HasNoLoadPool {P : Type 0} (told : P → Told) (seed : ℕ) (source_old source_new : SourceTold) (maker_old maker_new : MakerTold) : Type 0 where
  pub unread : Unread source_old source_new
  pub making : HasFaultedMaking (with_failing told) (load_input seed) maker_old maker_new

-- a making failed before anything was run
abbrev pub HasFaulted : {P : Type 0} → (P → Told) → Task → SourceTold → SourceTold → MakerTold → MakerTold → Type 0
HasFaulted told Run source_old source_new maker_old maker_new = HasNoPool told source_old source_new maker_old maker_new
HasFaulted told RunOnDemand source_old source_new maker_old maker_new = HasNoImages source_old source_new maker_old maker_new
HasFaulted told Threads source_old source_new maker_old maker_new = HasNoPoolBeside told source_old source_new maker_old maker_new
HasFaulted told Shared source_old source_new maker_old maker_new = HasNoRegion source_old source_new maker_old maker_new
HasFaulted told (Load seed) source_old source_new maker_old maker_new = HasNoLoadPool told seed source_old source_new maker_old maker_new
HasFaulted told _ source_old source_new maker_old maker_new = ⊥

-- Why there is no output, by the failure. What has to hold of a failed making is for whoever names this to say.
abbrev pub Fails : Type 0 → Task → Failure → SourceTold → SourceTold → Type 0
Fails faulted task failure.BadUsage source_old source_new = (task ≡ Unknown) × Unread source_old source_new
Fails faulted task failure.BadInput source_old source_new = HasReadInvalid task source_old source_new
Fails faulted task (failure.BadConfig line) source_old source_new = (error : BadConfig) × HasBadConfig task error source_old source_new × (string_bytes line ≡ config_line error)
Fails faulted task failure.PageFault source_old source_new = faulted
Fails faulted task failure.ReadFault source_old source_new = (reads_input task ≡ true) × Rose source_old.faults source_new.faults
Fails faulted task failure.NoMemory source_old source_new = runs task ≡ true
Fails faulted task failure.TooLong source_old source_new = (reads_input task ≡ true) × ReadTooMuch source_old source_new

-- what is to be written, and why: the text of an output, or the line of a failure
abbrev pub IsToWrite : {P : Type 0} → (P → Told) → Task → List ℕ → SourceTold → SourceTold → MakerTold → MakerTold → Type 0
IsToWrite {P = P} told task text source_old source_new maker_old maker_new =
    HasDone P task text source_old source_new maker_old maker_new
    ⊎ ((cause : Failure) × Fails (HasFaulted told task source_old source_new maker_old maker_new) task cause source_old source_new × (text ≡ line_of cause))

-- the output of a run was written, all of it
pub record WroteOutput (P : Type 0) (task : Task) (source_old source_new : SourceTold) (sink_old sink_new : SinkTold) (maker_old maker_new : MakerTold) : Type 0 where
  pub text : List ℕ
  pub run : HasDone P task text source_old source_new maker_old maker_new
  pub wrote : Wrote text sink_old sink_new

-- the settings are refused, and the line that says why was written, all of it
pub record WroteBadConfig (task : Task) (source_old source_new : SourceTold) (sink_old sink_new : SinkTold) : Type 0 where
  pub error : BadConfig
  pub refused : HasBadConfig task error source_old source_new
  pub wrote : Wrote (config_line error) sink_old sink_new

-- a write failed, after a part of what was to be written
pub record WroteLess {P : Type 0} (told : P → Told) (task : Task) (source_old source_new : SourceTold) (sink_old sink_new : SinkTold) (maker_old maker_new : MakerTold) : Type 0 where
  pub text : List ℕ
  pub intended : IsToWrite told task text source_old source_new maker_old maker_new
  pub wrote : WrotePart text sink_old sink_new

-- a fault of the source, of the sink or of a making, or want of memory, stands in the way
abbrev pub IsHindrance : Status → Type 0
IsHindrance status = (status ≡ ReadFault) ⊎ (status ≡ WriteFault) ⊎ (status ≡ PageFault) ⊎ (status ≡ NoMemory)

-- What a load ends with: success, unless a write or a making fails, or memory runs out.
abbrev pub IsLoadStatus : Status → Type 0
IsLoadStatus status = (status ≡ Success) ⊎ (status ≡ WriteFault) ⊎ (status ≡ PageFault) ⊎ (status ≡ NoMemory)

-- the status of an input whose settings are so, where nothing stands in the way
abbrev pub status_of_limits : Option BadConfig → Status
status_of_limits None = Success
status_of_limits (Some error) = BadSettings

-- the status of an input that is read so, where nothing stands in the way
abbrev pub status_of : {X : Type 0} → (X → Option BadConfig) → Reading X → Status
status_of broken invalid = BadInput
status_of broken (accepted input) = status_of_limits (broken input)

-- the status is the one that the bytes lead to, or a hindrance
pub record FollowsBytes {X : Type 0} (f : Format X) (status : Status) (bytes : List ℕ) : Type 0 where
  pub short : length bytes ≤ most_input → (status ≡ status_of f.broken (f.reading bytes)) ⊎ IsHindrance status
  pub long : most_input < length bytes → (status ≡ TooLong) ⊎ IsHindrance status

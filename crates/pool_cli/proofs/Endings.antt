-- How the program ends, and what of that the bytes decide.
use Rattle.std.proofs.Common.{◌≡◌, ℕ, ◌<◌, ◌≤◌, Bool, true, false, List, length, Option, Some, None, Result, Err, cond, refl, sym, ap, ◌∙◌, subst, inl, inr, arith, ◌⊎◌, ◌↔◌, IfSome}
use Rattle.pool_pages.specs.MakerTold.{MakerTold}
use Rattle.pool_pages.specs.Told.{Told}
use Rattle.pool_types.specs.declared.bad_config.BadConfig.{BadConfig}
use Rattle.pool_run.specs.declared.output.RunFault.{RunFault}
use Rattle.pool_run.specs.declared.output.RunFault.TheVariants as fault
use Rattle.pool_forms.specs.Reading.{Reading, invalid, accepted}
use Rattle.pool_cli.specs.Lines.{line_of, status_of_failure}
use Rattle.pool_cli.specs.Stages.{Ends, IsRunFailure, Refuses, WritesText}
use Rattle.pool_cli.specs.Statuses.{Format, run_format, shared_format, HasRead, HasDone, HasReadInvalid, HasBadConfig, HasFaulted, BreaksRule, Fails, FollowsBytes, IsHindrance, IsLoadStatus, runs, status_of, status_of_limits}
use Rattle.pool_forms.specs.Streams.{SourceTold, SinkTold, Wrote, most_input}
use Rattle.pool_cli.specs.declared.failure.Failure.{Failure}
use Rattle.pool_cli.specs.declared.failure.Failure.TheVariants as failure
use Rattle.pool_cli.specs.declared.status.Status.{Status}
use Rattle.pool_cli.specs.declared.status.Status.TheVariants.{Ok as Success, BadUsage, BadInput, BadConfig as BadSettings, PageFault, ReadFault, WriteFault, NoMemory, TooLong}
use Rattle.pool_cli.specs.declared.words.Task.{Task}
use Rattle.pool_cli.specs.declared.words.Task.TheVariants.{Run, RunOnDemand, Threads, Shared, Load, Unknown}

-- settings that are refused are the cause of a failure of a task that runs an input
refused_fails : (faulted : Type 0) (task : Task) (error : BadConfig) (cause : Failure) (so sn : SourceTold) → runs task ≡ true → HasBadConfig task error so sn → Refuses error cause → Fails faulted task cause so sn
refused_fails faulted task error failure.BadUsage so sn reads broken is = absurd is
refused_fails faulted task error failure.BadInput so sn reads broken is = absurd is
refused_fails faulted task error (failure.BadConfig line) so sn reads broken is = (error, broken, is)
refused_fails faulted task error failure.PageFault so sn reads broken is = absurd is
refused_fails faulted task error failure.ReadFault so sn reads broken is = absurd is
refused_fails faulted task error failure.NoMemory so sn reads broken is = reads
refused_fails faulted task error failure.TooLong so sn reads broken is = absurd is

-- an input is valid or isn't
is_either : (b : Bool) → (b ≡ true) ⊎ (b ≡ false)
is_either true = inl refl
is_either false = inr refl

-- it is valid where that isn't what was answered
pub is_valid_unless : {A : Type 0} (valid : Bool) (r : Result A RunFault) → (r ≡ Err fault.BadInput) ↔ (valid ≡ false) → (r ≡ Err fault.BadInput → ⊥) → valid ≡ true
is_valid_unless valid r exact none = elim (is_either valid) [
  | inl is ↦ is
  | inr not_valid ↦ absurd (none (exact.1 not_valid))
]

-- an input was read that fits, and it was run or refused for something else: it can be run
pub can_run : {X A : Type 0} (f : Format X) (input : X) (valid : Bool) (r : Result A RunFault) (so sn : SourceTold) → HasRead f (cond valid (accepted input) invalid) so sn → (r ≡ Err fault.BadInput) ↔ (valid ≡ false) → (r ≡ Err fault.BadInput → ⊥) → HasRead f (accepted input) so sn
can_run f input valid r so sn read exact none = record {
  bytes = read.bytes;
  whole = read.whole;
  reads = read.reads ∙ ap (λ b. cond b (accepted input) invalid) (is_valid_unless valid r exact none);
}

-- it was refused for not being valid
pub cannot_run : {X : Type 0} (f : Format X) (input : X) (valid : Bool) (so sn : SourceTold) → HasRead f (cond valid (accepted input) invalid) so sn → valid ≡ false → HasRead f invalid so sn
cannot_run f input valid so sn read not_valid = record {
  bytes = read.bytes;
  whole = read.whole;
  reads = read.reads ∙ ap (λ b. cond b (accepted input) invalid) not_valid;
}

-- no rule is broken where the input is valid and no rule is what was answered
pub no_limit : {A : Type 0} (o : Option BadConfig) (valid : Bool) (r : Result A RunFault) → valid ≡ true → ((e : BadConfig) → (r ≡ Err (fault.BadConfig e)) ↔ ((valid ≡ true) × (o ≡ Some e))) → ((e : BadConfig) → r ≡ Err (fault.BadConfig e) → ⊥) → o ≡ None
no_limit None valid r is exact none = refl
no_limit (Some e) valid r is exact none = absurd (none e ((exact e).1 (is, refl)))

-- a run that isn't made is the cause of a failure
run_fails : (faulted : Type 0) (task : Task) (why : RunFault) (cause : Failure) (so sn : SourceTold) → runs task ≡ true → (why ≡ fault.BadInput → HasReadInvalid task so sn) → ((e : BadConfig) → why ≡ fault.BadConfig e → HasBadConfig task e so sn) → (why ≡ fault.PageFault → faulted) → IsRunFailure why cause → Fails faulted task cause so sn
run_fails faulted task fault.BadInput cause so sn reads bad broken making is = subst (λ (f : Failure). Fails faulted task f so sn) (sym is) (bad refl)
run_fails faulted task (fault.BadConfig e) cause so sn reads bad broken making is = refused_fails faulted task e cause so sn reads (broken e refl) is
run_fails faulted task fault.PageFault cause so sn reads bad broken making is = subst (λ (f : Failure). Fails faulted task f so sn) (sym is) (making refl)
run_fails faulted task fault.Memory cause so sn reads bad broken making is = subst (λ (f : Failure). Fails faulted task f so sn) (sym is) reads

-- nothing was run, for this reason
abbrev none_for : (A : Type 0) → RunFault → Result A RunFault
none_for A why = Err why

-- an input was read and nothing was run, which is the cause of a failure
pub not_run : {X : Type 0} (A : Type 0) (f : Format X) (faulted : Type 0) (task : Task) (input : X) (valid : Bool) (why : RunFault) (cause : Failure) (so sn : SourceTold) → runs task ≡ true → (HasRead f invalid so sn → HasReadInvalid task so sn) → ((e : BadConfig) → BreaksRule f e so sn → HasBadConfig task e so sn) → (HasRead f (accepted input) so sn → f.broken input ≡ None → why ≡ fault.PageFault → faulted) → HasRead f (cond valid (accepted input) invalid) so sn → (none_for A why ≡ none_for A fault.BadInput) ↔ (valid ≡ false) → ((e : BadConfig) → (none_for A why ≡ none_for A (fault.BadConfig e)) ↔ ((valid ≡ true) × (f.broken input ≡ Some e))) → IsRunFailure why cause → Fails faulted task cause so sn
not_run A f faulted task input valid why cause so sn reads invalid_is broken_is making read bad_input bad_config is =
    run_fails faulted task why cause so sn reads
    (λ bad. invalid_is (cannot_run f input valid so sn read (bad_input.0 (ap (none_for A) bad))))
    (λ e bad. broken_is e (record {
      input = input;
      read = can_run f input valid (none_for A why) so sn read bad_input (λ x. cc);
      broken = ((bad_config e).0 (ap (none_for A) bad)).1;
    }))
    (λ bad. making
    (can_run f input valid (none_for A why) so sn read bad_input (λ x. cc))
    (no_limit (f.broken input) valid (none_for A why) (is_valid_unless valid (none_for A why) bad_input (λ x. cc)) bad_config (λ e x. cc))
    bad)
    is

some_of : {A : Type 0} (o : Option A) (P : A → Type 0) → ((x : A) → o ≡ Some x → P x) → IfSome o P
some_of None P each = tt
some_of (Some x) P each = each x refl

at_some : {A : Type 0} (o : Option A) (x : A) (P : A → Type 0) → o ≡ Some x → IfSome o P → P x
at_some {A = A} o x P is h = let Q : Option A → Type 0 = λ q. IfSome q P in subst Q is h

-- an input was read that leads to this status
read_follows : {X : Type 0} (f : Format X) (is : Reading X) (status : Status) (so sn : SourceTold) (rest : List ℕ) → so.rest ≡ Some rest → HasRead f is so sn → status ≡ status_of f.broken is → FollowsBytes f status rest
read_follows f is status so sn rest told read leads =
    let same : read.bytes ≡ rest = at_some so.rest rest (λ r. read.bytes ≡ r) told read.whole.whole in
    let short : length rest ≤ most_input = subst (λ (b : List ℕ). length b ≤ most_input) same read.whole.fits in
    record {
      short = λ h. inl (leads ∙ ap (status_of f.broken) (sym read.reads) ∙ ap (λ (b : List ℕ). status_of f.broken (f.reading b)) same);
      long = λ more. absurd (omega (arith, short, more));
    }

hindered : {X : Type 0} (f : Format X) (status : Status) (rest : List ℕ) → IsHindrance status → FollowsBytes f status rest
hindered f status rest is = record { short = λ h. inr is; long = λ h. inr is }

limits_of : {X : Type 0} (f : Format X) (input : X) (o : Option BadConfig) (status : Status) → f.broken input ≡ o → status ≡ status_of_limits o → status ≡ status_of f.broken (accepted input)
limits_of f input o status limits is = is ∙ ap status_of_limits (sym limits)

too_long : {X : Type 0} (f : Format X) (so : SourceTold) (rest : List ℕ) → so.rest ≡ Some rest → IfSome so.rest (λ r. most_input < length r) → FollowsBytes f TooLong rest
too_long f so rest told is =
    let more : most_input < length rest = at_some so.rest rest (λ r. most_input < length r) told is in
    record { short = λ h. absurd (omega (arith, h, more)); long = λ h. inl refl }

-- what was done is of an input that can be run, and breaks no rule
record HasDoneOne {X : Type 0} (f : Format X) (so sn : SourceTold) : Type 0 where
  input : X
  read : HasRead f (accepted input) so sn
  limits : f.broken input ≡ None

-- the bytes lead to the status, or something stands in the way
task_follows : {X : Type 0} (f : Format X) {P : Type 0} (told : P → Told) (task : Task) (status : Status) (so sn : SourceTold) (ko kn : SinkTold) (mo mn : MakerTold) (rest : List ℕ) → (task ≡ Unknown → ⊥) → ((text : List ℕ) → HasDone P task text so sn mo mn → HasDoneOne f so sn) → (HasReadInvalid task so sn → HasRead f invalid so sn) → ((e : BadConfig) → HasBadConfig task e so sn → BreaksRule f e so sn) → so.rest ≡ Some rest → Ends told task status so sn ko kn mo mn → FollowsBytes f status rest
task_follows f told task Success so sn ko kn mo mn rest known done bad broken is ends =
    let one = done ends.text ends.run in
    read_follows f (accepted one.input) Success so sn rest is one.read (limits_of f one.input None Success one.limits refl)
task_follows f told task BadUsage so sn ko kn mo mn rest known done bad broken is ends = absurd (known ends.0.0)
task_follows f told task BadInput so sn ko kn mo mn rest known done bad broken is ends = read_follows f invalid BadInput so sn rest is (bad ends.0) refl
task_follows f told task BadSettings so sn ko kn mo mn rest known done bad broken is ends =
    let rule = broken ends.error ends.refused in
    read_follows f (accepted rule.input) BadSettings so sn rest is rule.read (limits_of f rule.input (Some ends.error) BadSettings rule.broken refl)
task_follows f told task PageFault so sn ko kn mo mn rest known done bad broken is ends = hindered f PageFault rest (inr (inr (inl refl)))
task_follows f told task ReadFault so sn ko kn mo mn rest known done bad broken is ends = hindered f ReadFault rest (inl refl)
task_follows f told task WriteFault so sn ko kn mo mn rest known done bad broken is ends = hindered f WriteFault rest (inr (inl refl))
task_follows f told task NoMemory so sn ko kn mo mn rest known done bad broken is ends = hindered f NoMemory rest (inr (inr (inr refl)))
task_follows f told task TooLong so sn ko kn mo mn rest known done bad broken is ends = too_long f so rest is ends.0.1.more

-- the same of what the words ask for, once they are known
asked_follows : {X : Type 0} (f : Format X) {P : Type 0} (told : P → Told) (asked task : Task) (status : Status) (so sn : SourceTold) (ko kn : SinkTold) (mo mn : MakerTold) → (asked ≡ Unknown → ⊥) → ((text : List ℕ) → HasDone P asked text so sn mo mn → HasDoneOne f so sn) → (HasReadInvalid asked so sn → HasRead f invalid so sn) → ((e : BadConfig) → HasBadConfig asked e so sn → BreaksRule f e so sn) → Ends told task status so sn ko kn mo mn → task ≡ asked → IfSome so.rest (FollowsBytes f status)
asked_follows f told asked task status so sn ko kn mo mn known done bad broken ends is =
    let E : Task → Type 0 = λ t. Ends told t status so sn ko kn mo mn in
    some_of so.rest (FollowsBytes f status) (λ rest left. task_follows f told asked status so sn ko kn mo mn rest known done bad broken left (subst E is ends))

pub follows_run : {P : Type 0} (told : P → Told) (task : Task) (status : Status) (so sn : SourceTold) (ko kn : SinkTold) (mo mn : MakerTold) → Ends told task status so sn ko kn mo mn → task ≡ Run → IfSome so.rest (FollowsBytes run_format status)
follows_run told task status so sn ko kn mo mn ends is =
    asked_follows run_format told Run task status so sn ko kn mo mn (λ x. cc) (λ text done. record { input = done.input; read = done.read; limits = done.limits }) (λ h. h) (λ e h. h) ends is

pub follows_on_demand : {P : Type 0} (told : P → Told) (task : Task) (status : Status) (so sn : SourceTold) (ko kn : SinkTold) (mo mn : MakerTold) → Ends told task status so sn ko kn mo mn → task ≡ RunOnDemand → IfSome so.rest (FollowsBytes run_format status)
follows_on_demand told task status so sn ko kn mo mn ends is =
    asked_follows run_format told RunOnDemand task status so sn ko kn mo mn (λ x. cc) (λ text done. record { input = done.input; read = done.read; limits = done.limits }) (λ h. h) (λ e h. h) ends is

pub follows_threads : {P : Type 0} (told : P → Told) (task : Task) (status : Status) (so sn : SourceTold) (ko kn : SinkTold) (mo mn : MakerTold) → Ends told task status so sn ko kn mo mn → task ≡ Threads → IfSome so.rest (FollowsBytes run_format status)
follows_threads told task status so sn ko kn mo mn ends is =
    asked_follows run_format told Threads task status so sn ko kn mo mn (λ x. cc) (λ text done. record { input = done.input; read = done.read; limits = done.limits }) (λ h. h) (λ e h. h) ends is

pub follows_shared : {P : Type 0} (told : P → Told) (task : Task) (status : Status) (so sn : SourceTold) (ko kn : SinkTold) (mo mn : MakerTold) → Ends told task status so sn ko kn mo mn → task ≡ Shared → IfSome so.rest (FollowsBytes shared_format status)
follows_shared told task status so sn ko kn mo mn ends is =
    asked_follows shared_format told Shared task status so sn ko kn mo mn (λ x. cc) (λ text done. record { input = done.input; read = done.read; limits = done.page }) (λ h. h) (λ e h. h) ends is

-- a load ends well, unless a write or a making fails, or memory runs out
load_status : {P : Type 0} (told : P → Told) (seed : ℕ) (status : Status) (so sn : SourceTold) (ko kn : SinkTold) (mo mn : MakerTold) → Ends told (Load seed) status so sn ko kn mo mn → IsLoadStatus status
load_status told seed Success so sn ko kn mo mn ends = inl refl
load_status told seed BadUsage so sn ko kn mo mn ends = absurd (let is : Load seed ≡ Unknown = ends.0.0 in cc)
load_status told seed BadInput so sn ko kn mo mn ends = absurd ends.0
load_status told seed BadSettings so sn ko kn mo mn ends = absurd ends.refused
load_status told seed PageFault so sn ko kn mo mn ends = inr (inr (inl refl))
load_status told seed ReadFault so sn ko kn mo mn ends = absurd (let is : false ≡ true = ends.0.0 in cc)
load_status told seed WriteFault so sn ko kn mo mn ends = inr (inl refl)
load_status told seed NoMemory so sn ko kn mo mn ends = inr (inr (inr refl))
load_status told seed TooLong so sn ko kn mo mn ends = absurd (let is : false ≡ true = ends.0.0 in cc)

pub ends_load : {P : Type 0} (told : P → Told) (task : Task) (status : Status) (so sn : SourceTold) (ko kn : SinkTold) (mo mn : MakerTold) (seed : ℕ) → Ends told task status so sn ko kn mo mn → task ≡ Load seed → IsLoadStatus status
ends_load told task status so sn ko kn mo mn seed ends is =
    let E : Task → Type 0 = λ t. Ends told t status so sn ko kn mo mn in
    load_status told seed status so sn ko kn mo mn (subst E is ends)

-- no run of an input that is valid and breaks no rule is refused for the input
load_fails : (faulted : Type 0) (seed : ℕ) (why : RunFault) (cause : Failure) (source : SourceTold) → (why ≡ fault.BadInput → ⊥) → ((e : BadConfig) → why ≡ fault.BadConfig e → ⊥) → (why ≡ fault.PageFault → faulted) → IsRunFailure why cause → Fails faulted (Load seed) cause source source
load_fails faulted seed why cause source good held making is =
    run_fails faulted (Load seed) why cause source source refl (λ bad. absurd (good bad)) (λ e bad. absurd (held e bad)) making is

pub load_not_run : (A : Type 0) (faulted : Type 0) (seed : ℕ) (valid : Bool) (o : Option BadConfig) (why : RunFault) (cause : Failure) (source : SourceTold) → valid ≡ true → o ≡ None → (none_for A why ≡ none_for A fault.BadInput) ↔ (valid ≡ false) → ((e : BadConfig) → (none_for A why ≡ none_for A (fault.BadConfig e)) ↔ ((valid ≡ true) × (o ≡ Some e))) → (why ≡ fault.PageFault → faulted) → IsRunFailure why cause → Fails faulted (Load seed) cause source source
load_not_run A faulted seed valid o why cause source is_valid no_rule bad_input bad_config making is =
    load_fails faulted seed why cause source
    (λ bad. let not : valid ≡ false = bad_input.0 (ap (none_for A) bad) in absurd cc)
    (λ e bad. let broken : o ≡ Some e = ((bad_config e).0 (ap (none_for A) bad)).1 in absurd cc)
    making is

-- a run's text was to be written: all of it was, or a part
pub ends_with_text : {P : Type 0} (told : P → Told) (task : Task) (text : List ℕ) (status : Status) (so sn : SourceTold) (ko kn : SinkTold) (mo mn : MakerTold) → HasDone P task text so sn mo mn → WritesText Success text ko kn status → Ends told task status so sn ko kn mo mn
ends_with_text told task text status so sn ko kn mo mn run written =
    let E : Status → Type 0 = λ s. Ends told task s so sn ko kn mo mn in
    elim written [
      | inl all ↦ subst E (sym all.0) (record { text = text; run = run; wrote = all.1 })
      | inr less ↦ subst E (sym less.0) (record { text = text; intended = inl run; wrote = less.1 })
    ]

-- the line of a failure was written, all of it
ends_by : {P : Type 0} (told : P → Told) (task : Task) (cause : Failure) (so sn : SourceTold) (ko kn : SinkTold) (mo mn : MakerTold) → Fails (HasFaulted told task so sn mo mn) task cause so sn → Wrote (line_of cause) ko kn → Ends told task (status_of_failure cause) so sn ko kn mo mn
ends_by told task failure.BadUsage so sn ko kn mo mn fails wrote = (fails, wrote)
ends_by told task failure.BadInput so sn ko kn mo mn fails wrote = (fails, wrote)
ends_by told task (failure.BadConfig line) so sn ko kn mo mn fails wrote =
    let W : List ℕ → Type 0 = λ text. Wrote text ko kn in
    record { error = fails.0; refused = fails.1; wrote = subst W fails.2 wrote }
ends_by told task failure.PageFault so sn ko kn mo mn fails wrote = (fails, wrote)
ends_by told task failure.ReadFault so sn ko kn mo mn fails wrote = (fails, wrote)
ends_by told task failure.NoMemory so sn ko kn mo mn fails wrote = (fails, wrote)
ends_by told task failure.TooLong so sn ko kn mo mn fails wrote = (fails, wrote)

-- it was to be written: all of it was, or a part
pub ends_with_line : {P : Type 0} (told : P → Told) (task : Task) (cause : Failure) (status : Status) (so sn : SourceTold) (ko kn : SinkTold) (mo mn : MakerTold) → Fails (HasFaulted told task so sn mo mn) task cause so sn → WritesText (status_of_failure cause) (line_of cause) ko kn status → Ends told task status so sn ko kn mo mn
ends_with_line told task cause status so sn ko kn mo mn fails written =
    let E : Status → Type 0 = λ s. Ends told task s so sn ko kn mo mn in
    elim written [
      | inl all ↦ subst E (sym all.0) (ends_by told task cause so sn ko kn mo mn fails all.1)
      | inr less ↦ subst E (sym less.0) (record { text = line_of cause; intended = inr (cause, fails, refl); wrote = less.1 })
    ]

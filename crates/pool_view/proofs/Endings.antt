-- How the program ends, and what of that the bytes decide.
use Rattle.std.proofs.Common.{◌≡◌, ℕ, ◌<◌, ◌≤◌, List, length, Bool, true, Option, Some, None, refl, sym, ap, ◌∙◌, subst, inl, inr, arith, ◌⊎◌, IfSome}
use Rattle.pool_forms.specs.Streams.{SourceTold, SinkTold, ReadWhole, ReadTooMuch, most_input}
use Rattle.pool_view.specs.Answers.{Ends, FollowsBytes, HasAnswered, IsAnswer, IsHindrance, IsPicture, IsSummaryOf, IsTraceOf, ShowsRun, WritesAnswer, WritesText, finding_for, is_of_input, runs, too_long_line, usage_line}
use Rattle.pool_view.specs.Findings.{Finding, can_run, no_input, breaks_rule, finding, status_of}
use Rattle.pool_view.specs.declared.status.Status.{Status}
use Rattle.pool_view.specs.declared.status.Status.TheVariants.{Ok as Success, BadUsage, BadInput, BadConfig as BadSettings, PageFault, ReadFault, WriteFault, NoMemory, TooLong}
use Rattle.pool_view.specs.declared.words.Question.{Question}
use Rattle.pool_view.specs.declared.words.Question.TheVariants.{Check, CheckShared, Explain, Trace, Summary, Chart}

-- The status of what the bytes are found to be; or, where the input is run, that of a making that failed.
abbrev FollowsFinding : Question → Finding → Status → Type 0
FollowsFinding question f status = (status ≡ status_of f) ⊎ ((status ≡ PageFault) × (runs question ≡ true))

shown_status : (Shows : List ℕ → Type 0) (bytes text : List ℕ) (status : Status) → ShowsRun Shows bytes text status → (status ≡ status_of (finding bytes)) ⊎ (status ≡ PageFault)
shown_status Shows bytes text Success is = inl (sym (ap status_of is.0))
shown_status Shows bytes text PageFault is = inr refl
shown_status Shows bytes text BadUsage is = inl is
shown_status Shows bytes text BadInput is = inl is
shown_status Shows bytes text BadSettings is = inl is
shown_status Shows bytes text ReadFault is = inl is
shown_status Shows bytes text WriteFault is = inl is
shown_status Shows bytes text NoMemory is = inl is
shown_status Shows bytes text TooLong is = inl is

while_run : (question : Question) (f : Finding) (status : Status) → runs question ≡ true → (status ≡ status_of f) ⊎ (status ≡ PageFault) → FollowsFinding question f status
while_run question f status run is = elim is [ inl same ↦ inl same | inr unmade ↦ inr (unmade, run) ]

answer_status : (question : Question) (bytes text : List ℕ) (status : Status) → IsAnswer question bytes text status → FollowsFinding question (finding_for question bytes) status
answer_status Check bytes text status is = inl is.status
answer_status CheckShared bytes text status is = inl is.status
answer_status Explain bytes text status is = inl is
answer_status Trace bytes text status is = while_run Trace (finding bytes) status refl (shown_status (IsTraceOf bytes) bytes text status is)
answer_status Summary bytes text status is = while_run Summary (finding bytes) status refl (shown_status (IsSummaryOf bytes) bytes text status is)
answer_status Chart bytes text status is = while_run Chart (finding bytes) status refl (shown_status IsPicture bytes text status is)

-- a status that bytes lead to is one of an input
of_finding : (f : Finding) → is_of_input (status_of f) ≡ true
of_finding can_run = refl
of_finding no_input = refl
of_finding breaks_rule = refl

follows_is_of_input : (question : Question) (f : Finding) (status : Status) → FollowsFinding question f status → is_of_input status ≡ true
follows_is_of_input question f status follows = elim follows [ inl same ↦ ap is_of_input same ∙ of_finding f | inr unmade ↦ ap is_of_input unmade.0 ]

-- with such a status the program has answered
ends_of_input : (asked : Option Question) (status : Status) (so sn : SourceTold) (ko kn : SinkTold) → is_of_input status ≡ true → HasAnswered asked status so sn ko kn → Ends asked status so sn ko kn
ends_of_input asked Success so sn ko kn is has = has
ends_of_input asked BadInput so sn ko kn is has = has
ends_of_input asked BadSettings so sn ko kn is has = has
ends_of_input asked PageFault so sn ko kn is has = has
ends_of_input asked BadUsage so sn ko kn is has = cc
ends_of_input asked ReadFault so sn ko kn is has = cc
ends_of_input asked WriteFault so sn ko kn is has = cc
ends_of_input asked NoMemory so sn ko kn is has = cc
ends_of_input asked TooLong so sn ko kn is has = cc

-- an answer about the bytes that were read was written, or a part of it, or none was made
pub ends_with_answer : (question : Question) (bytes : List ℕ) (status : Status) (so sn : SourceTold) (ko kn : SinkTold) → ReadWhole bytes so sn → WritesAnswer question bytes ko kn status → Ends (Some question) status so sn ko kn
ends_with_answer question bytes status so sn ko kn whole written =
    let E : Status → Type 0 = λ s. Ends (Some question) s so sn ko kn in
    elim written [
      | inl all ↦ ends_of_input (Some question) status so sn ko kn (follows_is_of_input question (finding_for question bytes) status (answer_status question bytes all.0 status all.1))
          (record { question = question; asks = refl; bytes = bytes; whole = whole; text = all.0; is = all.1; wrote = all.2 })
      | inr less ↦ elim less [
        | inl failed ↦ subst E (sym failed.0) failed.1
        | inr none ↦ subst E (sym none.0) (question, refl, none.1)
      ]
    ]

-- the line of an input that is too long was written, or a part of it
pub ends_too_long : (question : Question) (status : Status) (so sn : SourceTold) (ko kn : SinkTold) → ReadTooMuch so sn → WritesText TooLong too_long_line ko kn status → Ends (Some question) status so sn ko kn
ends_too_long question status so sn ko kn more written =
    let E : Status → Type 0 = λ s. Ends (Some question) s so sn ko kn in
    elim written [
      | inl all ↦ subst E (sym all.0) (question, refl, more, all.1)
      | inr less ↦ subst E (sym less.0) less.1.faults
    ]

-- the line of words that the program doesn't have was written, or a part of it
pub ends_bad_usage : (status : Status) (so : SourceTold) (ko kn : SinkTold) → WritesText BadUsage usage_line ko kn status → Ends None status so so ko kn
ends_bad_usage status so ko kn written =
    let E : Status → Type 0 = λ s. Ends None s so so ko kn in
    elim written [
      | inl all ↦ subst E (sym all.0) (refl, refl, all.1)
      | inr less ↦ subst E (sym less.0) less.1.faults
    ]

-- nothing is asked, or something
apart : (asked : Option Question) (question : Question) → asked ≡ None → asked ≡ Some question → ⊥
apart None question x y = cc
apart (Some other) question x y = cc

-- where nothing is asked the words are unknown
pub ends_unknown : (asked : Option Question) (status : Status) (so sn : SourceTold) (ko kn : SinkTold) → Ends asked status so sn ko kn → asked ≡ None → (status ≡ BadUsage) ⊎ (status ≡ WriteFault)
ends_unknown asked Success so sn ko kn ends none = absurd (apart asked ends.question none ends.asks)
ends_unknown asked BadInput so sn ko kn ends none = absurd (apart asked ends.question none ends.asks)
ends_unknown asked BadSettings so sn ko kn ends none = absurd (apart asked ends.question none ends.asks)
ends_unknown asked PageFault so sn ko kn ends none = absurd (apart asked ends.question none ends.asks)
ends_unknown asked BadUsage so sn ko kn ends none = inl refl
ends_unknown asked ReadFault so sn ko kn ends none = absurd (apart asked ends.0 none ends.1)
ends_unknown asked WriteFault so sn ko kn ends none = inr refl
ends_unknown asked NoMemory so sn ko kn ends none = absurd (apart asked ends.0 none ends.1)
ends_unknown asked TooLong so sn ko kn ends none = absurd (apart asked ends.0 none ends.1)

some_of : {A : Type 0} (o : Option A) (P : A → Type 0) → ((x : A) → o ≡ Some x → P x) → IfSome o P
some_of None P each = tt
some_of (Some x) P each = each x refl

at_some : {A : Type 0} (o : Option A) (x : A) (P : A → Type 0) → o ≡ Some x → IfSome o P → P x
at_some {A = A} o x P is h = let Q : Option A → Type 0 = λ q. IfSome q P in subst Q is h

same_asked : (asked : Option Question) (a b : Question) → asked ≡ Some a → asked ≡ Some b → a ≡ b
same_asked None a b x y = cc
same_asked (Some other) a b x y = cc

-- the status that bytes lead to, or a hindrance
follows_or_hinders : (question : Question) (f : Finding) (status : Status) → FollowsFinding question f status → (status ≡ status_of f) ⊎ IsHindrance question status
follows_or_hinders question f status follows = elim follows [ inl same ↦ inl same | inr unmade ↦ inr (inr (inr (inr unmade))) ]

-- the bytes were answered about: the status is that of what they are found to be
answer_follows : (asked : Option Question) (question : Question) (status : Status) (so sn : SourceTold) (ko kn : SinkTold) (rest : List ℕ) → asked ≡ Some question → so.rest ≡ Some rest → HasAnswered asked status so sn ko kn → FollowsBytes status rest question
answer_follows asked question status so sn ko kn rest asks told has =
    let same : has.bytes ≡ rest = at_some so.rest rest (λ r. has.bytes ≡ r) told has.whole.whole in
    let short : length rest ≤ most_input = subst (λ (b : List ℕ). length b ≤ most_input) same has.whole.fits in
    let one : has.question ≡ question = same_asked asked has.question question has.asks asks in
    let With : Question → List ℕ → Type 0 = λ q b. (status ≡ status_of (finding_for q b)) ⊎ IsHindrance q status in
    let is : With has.question has.bytes = follows_or_hinders has.question (finding_for has.question has.bytes) status (answer_status has.question has.bytes has.text status has.is) in
    record {
      short = λ h. subst (λ q. With q rest) one (subst (With has.question) same is);
      long = λ more. absurd (omega (arith, short, more));
    }

hindered : (status : Status) (rest : List ℕ) (question : Question) → IsHindrance question status → FollowsBytes status rest question
hindered status rest question is = record { short = λ h. inr is; long = λ h. inr is }

too_long : (so : SourceTold) (rest : List ℕ) (question : Question) → so.rest ≡ Some rest → IfSome so.rest (λ r. most_input < length r) → FollowsBytes TooLong rest question
too_long so rest question told is =
    let more : most_input < length rest = at_some so.rest rest (λ r. most_input < length r) told is in
    record { short = λ h. absurd (omega (arith, h, more)); long = λ h. inl refl }

-- the bytes lead to the status, or something stands in the way
ends_by_bytes : (asked : Option Question) (question : Question) (status : Status) (so sn : SourceTold) (ko kn : SinkTold) (rest : List ℕ) → asked ≡ Some question → so.rest ≡ Some rest → Ends asked status so sn ko kn → FollowsBytes status rest question
ends_by_bytes asked question Success so sn ko kn rest asks told ends = answer_follows asked question Success so sn ko kn rest asks told ends
ends_by_bytes asked question BadInput so sn ko kn rest asks told ends = answer_follows asked question BadInput so sn ko kn rest asks told ends
ends_by_bytes asked question BadSettings so sn ko kn rest asks told ends = answer_follows asked question BadSettings so sn ko kn rest asks told ends
ends_by_bytes asked question PageFault so sn ko kn rest asks told ends = answer_follows asked question PageFault so sn ko kn rest asks told ends
ends_by_bytes asked question BadUsage so sn ko kn rest asks told ends = absurd (apart asked question ends.0 asks)
ends_by_bytes asked question ReadFault so sn ko kn rest asks told ends = hindered ReadFault rest question (inl refl)
ends_by_bytes asked question WriteFault so sn ko kn rest asks told ends = hindered WriteFault rest question (inr (inl refl))
ends_by_bytes asked question NoMemory so sn ko kn rest asks told ends = hindered NoMemory rest question (inr (inr (inl refl)))
ends_by_bytes asked question TooLong so sn ko kn rest asks told ends = too_long so rest question told ends.2.more

pub follows : (asked : Option Question) (status : Status) (so sn : SourceTold) (ko kn : SinkTold) → Ends asked status so sn ko kn → IfSome asked (λ question. IfSome so.rest (λ bytes. FollowsBytes status bytes question))
follows asked status so sn ko kn ends =
    some_of asked (λ question. IfSome so.rest (λ bytes. FollowsBytes status bytes question))
    (λ question asks. some_of so.rest (λ bytes. FollowsBytes status bytes question)
    (λ rest told. ends_by_bytes asked question status so sn ko kn rest asks told ends))

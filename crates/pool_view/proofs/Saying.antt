-- What an answer says of what was found.
use Rattle.std.proofs.Common.{◌≡◌, ◌≢◌, ℕ, Bool, true, false, arith, List, [], ◌∷◌, refl, sym, ap, ◌∙◌, subst, inl, inr, ◌⊎◌, IfOk, Result, Ok, Err, String, string_bytes}
use Rattle.std.specs.declared.alloc.Global.{Global}
use Rattle.pool_pages.specs.MemoryTold.{memory_maker}
use Rattle.pool_pages.specs.declared.failing.Failing.{Failing}
use Rattle.pool_pages.specs.declared.made_region.MadeRegion.{MadeRegion}
use Rattle.pool_run.specs.Runs.{with_faults}
use Rattle.pool_run.specs.declared.input.Input.{Input}
use Rattle.pool_view_steps.specs.Shown.{IsUnmade}
use Rattle.pool_view_summary.specs.Shown.{IsSummary}
use Rattle.pool_view_steps.specs.declared.shown.ShowFault.{ShowFault}
use Rattle.pool_view_steps.specs.declared.shown.ShowFault.TheVariants.{Write, Memory, PageFault as Unmade}
use Rattle.pool_view.specs.Answers.{IsPicture, IsSummaryOf, IsUnmadeOf, RefusesAs, Says, ShownAs, ShowsRun, ok_line, problem_line}
use Rattle.pool_view.specs.Findings.{Finding, IsInputOf, can_run, no_input, breaks_rule, finding, status_of}
use Rattle.pool_view.specs.declared.answer.Answer.{Answer}
use Rattle.pool_view.specs.declared.status.Status.{Status}
use Rattle.pool_view.specs.declared.status.Status.TheVariants.{BadInput, BadConfig as BadSettings}

apart_bool : true ≡ false → ⊥
apart_bool h = cc

-- the first three bytes, 0 where there is none
first : List ℕ → ℕ
first [] = 0
first (a ∷ more) = a

second : List ℕ → ℕ
second [] = 0
second (a ∷ more) = first more

third : List ℕ → ℕ
third [] = 0
third (a ∷ more) = second more

-- there are more than three bytes
has_fourth : List ℕ → Bool
has_fourth (a ∷ b ∷ c ∷ d ∷ more) = true
has_fourth [] = false
has_fourth (a ∷ []) = false
has_fourth (a ∷ b ∷ []) = false
has_fourth (a ∷ b ∷ c ∷ []) = false

-- a colon is no other of these bytes
colon_o : (n : ℕ) → n ≡ 58 → n ≡ 111 → ⊥
colon_o n x y = omega (arith, x, y)

colon_k : (n : ℕ) → n ≡ 58 → n ≡ 107 → ⊥
colon_k n x y = omega (arith, x, y)

colon_feed : (n : ℕ) → n ≡ 58 → n ≡ 10 → ⊥
colon_feed n x y = omega (arith, x, y)

-- the line of a problem isn't the line of an input that can be run
pub never_ok : (place cause : List ℕ) → problem_line place cause ≡ ok_line → ⊥
unfolding first second third has_fourth
never_ok [] cause e = colon_o (first (problem_line [] cause)) refl (ap first e)
never_ok (a ∷ []) cause e = colon_k (second (problem_line (a ∷ []) cause)) refl (ap second e)
never_ok (a ∷ b ∷ []) cause e = colon_feed (third (problem_line (a ∷ b ∷ []) cause)) refl (ap third e)
never_ok (a ∷ b ∷ c ∷ []) cause e = let h : true ≡ false = ap has_fourth e in absurd (apart_bool h)
never_ok (a ∷ b ∷ c ∷ d ∷ more) cause e = let h : true ≡ false = ap has_fourth e in absurd (apart_bool h)

-- the answer to what was found to be no input
pub refuses_no_input : (f : Finding) (text : List ℕ) (status : Status) → f ≡ no_input → status ≡ BadInput → text ≢ ok_line → RefusesAs f text status
refuses_no_input f text status is ends other = record {
  says = record {
    status = ends ∙ sym (ap status_of is);
    ok = (λ same. absurd (other same), λ can. cc);
  };
  cause = inl is;
}

-- the answer to settings that were found to break a rule
pub refuses_breaks_rule : (f : Finding) (text : List ℕ) (status : Status) → f ≡ breaks_rule → status ≡ BadSettings → text ≢ ok_line → RefusesAs f text status
refuses_breaks_rule f text status is ends other = record {
  says = record {
    status = ends ∙ sym (ap status_of is);
    ok = (λ same. absurd (other same), λ can. cc);
  };
  cause = inr is;
}

-- an answer to what is the same
pub says_of_same : (f g : Finding) (text : List ℕ) (status : Status) → f ≡ g → Says g text status → Says f text status
says_of_same f g text status is says = let S : Finding → Type 0 = λ h. Says h text status in subst S (sym is) says

-- a refusal is no answer that shows a run
pub shows_refused : (Shows : List ℕ → Type 0) (bytes text : List ℕ) (status : Status) → RefusesAs (finding bytes) text status → ShowsRun Shows bytes text status
shows_refused Shows bytes text status refuses =
    let S : Status → Type 0 = λ s. ShowsRun Shows bytes text s in
    elim refuses.cause [
      | inl none ↦ subst S (sym (refuses.says.status ∙ ap status_of none)) (sym (ap status_of none))
      | inr breaks ↦ subst S (sym (refuses.says.status ∙ ap status_of breaks)) (sym (ap status_of breaks))
    ]

-- what a run gave, as an answer that shows it
pub shows_run : (Shows : List ℕ → Type 0) (bytes : List ℕ) (shown : Result (String Global) ShowFault) (a : Answer) → finding bytes ≡ can_run → IfOk shown (λ text. Shows (string_bytes text)) → (shown ≡ Err Unmade → IsUnmadeOf bytes) → ShownAs shown a → ShowsRun Shows bytes (string_bytes a.text) a.status
shows_run Shows bytes (Ok text) a can shows unmade is =
    let S : Status → Type 0 = λ s. ShowsRun Shows bytes (string_bytes a.text) s in
    let T : List ℕ → Type 0 = Shows in
    subst S (sym is.1) (can, subst T (sym (ap string_bytes is.0)) shows)
shows_run Shows bytes (Err Unmade) a can shows unmade is =
    let S : Status → Type 0 = λ s. ShowsRun Shows bytes (string_bytes a.text) s in
    subst S (sym is.1) (can, unmade refl, is.0)
shows_run Shows bytes (Err Write) a can shows unmade is = absurd is
shows_run Shows bytes (Err Memory) a can shows unmade is = absurd is

-- what an input can't have made, the bytes that it is can't
pub unmade_of_bytes : (bytes : List ℕ) (input : Input) (shown : Result (String Global) ShowFault) → IsInputOf bytes input → (shown ≡ Err Unmade → IsUnmade input (with_faults input (memory_maker input.page 0))) → shown ≡ Err Unmade → IsUnmadeOf bytes
unmade_of_bytes bytes input shown of lists is = (input, of, lists is)

-- the summary of a run is one of the bytes that its input is
pub summary_of_bytes : (bytes : List ℕ) (input : Input) (shown : Result (String Global) ShowFault) → IsInputOf bytes input → IfOk shown (IsSummary (Failing MadeRegion) input (with_faults input (memory_maker input.page 0))) → IfOk shown (λ text. IsSummaryOf bytes (string_bytes text))
summary_of_bytes bytes input (Ok text) of is = (input, is.0, is.1, is.2, of, is.3, is.4)
summary_of_bytes bytes input (Err fault) of is = tt

pub picture_of_bytes : (shown : Result (String Global) ShowFault) → IfOk shown (λ text. IsPicture (string_bytes text))
picture_of_bytes (Ok text) = tt
picture_of_bytes (Err fault) = tt

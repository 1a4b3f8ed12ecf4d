-- What a trace writes, turn by turn.
use Rattle.std.proofs.Common.{◌≡◌, ℕ, List, [], ◌∷◌, ◌++◌, Option, Some, None, option_map, refl, sym, ap, ◌∙◌, subst, append_assoc, ◌⊎◌, inl, inr}
use Rattle.std.proofs.lemmas.List.{append-nil}
use Rattle.pool_types.specs.Rising.{Rose, risen}
use Rattle.pool_pages.specs.MakerTold.{MakerTold}
use Rattle.pool_pages.specs.Told.{Told}
use Rattle.pool_forms.specs.Streams.{SinkTold, Wrote}
use Rattle.pool_run.specs.Runs.{HasFaultedMaking, with_faults}
use Rattle.pool_run.specs.Watching.{LeadsOver, TurnTold, IsWatchedRun}
use Rattle.pool_run.specs.declared.input.Input.{Input}
use Rattle.pool_run.specs.declared.output.RunOutput.{RunOutput}
use Rattle.pool_view_steps.specs.Lines.{IsLine, TraceText, PrintsFrom, PrintsTo, PrintsTurn, Printed, WritesLine}
use Rattle.pool_view_steps.specs.Shown.{IsTraced, IsUnmade, TracesTo, shown_by}
use Rattle.pool_view_steps.specs.declared.shown.ShowFault.{ShowFault}
use Rattle.pool_view_steps.specs.declared.shown.ShowFault.TheVariants as show
use Rattle.pool_view_steps.specs.declared.trace.Printer.{Printer}
use Rattle.pool_view_steps.specs.declared.trace.TraceFault.{TraceFault}
use Rattle.pool_view_steps.specs.declared.trace.TraceFault.TheVariants.{Write, Memory}

taken_none : (o : Option (List ℕ)) → o ≡ option_map (λ bytes. bytes ++ []) o
taken_none None = refl
taken_none (Some bytes) = ap Some (sym (append-nil bytes))

taken_on : (a b : List ℕ) (o : Option (List ℕ)) → option_map (λ bytes. bytes ++ b) (option_map (λ bytes. bytes ++ a) o) ≡ option_map (λ bytes. bytes ++ (a ++ b)) o
taken_on a b None = refl
taken_on a b (Some bytes) = ap Some (append_assoc bytes a b)

-- nothing was written, or one text and then another
pub wrote_none : (s : SinkTold) → Wrote [] s s
wrote_none s = record { taken = taken_none s.taken; faults = refl }

wrote_on : (a b : List ℕ) (x y z : SinkTold) → Wrote a x y → Wrote b y z → Wrote (a ++ b) x z
wrote_on a b x y z first second = record {
  taken = second.taken ∙ ap (option_map (λ bytes. bytes ++ b)) first.taken ∙ taken_on a b x.taken;
  faults = second.faults ∙ first.faults;
}

pub wrote_same : (x y : SinkTold) → y ≡ x → Wrote [] x y
wrote_same x y same = let W : SinkTold → Type 0 = λ s. Wrote [] x s in subst W (sym same) (wrote_none x)

-- Nothing was printed where nothing was run.
nothing_traced : (P : Type 0) (input : Input) (maker : MakerTold) (f : ShowFault) (old new : SinkTold) → (f ≡ show.PageFault) ⊎ (f ≡ show.Memory) → (f ≡ show.PageFault → IsUnmade input maker) → new ≡ old → TracesTo P input maker old new (Some f)
nothing_traced P input maker f old new which lists same =
    let To : ShowFault → Type 0 = λ x. TracesTo P input maker old new (Some x) in
    elim which [
      | inl unmade ↦ subst To (sym unmade) (same, lists unmade)
      | inr none ↦ subst To (sym none) ([], wrote_same old new same)
    ]

-- So it is where a trace begins with a printer, and nothing is run.
pub nothing_traced_from : {K P : Type 0} (told : K → SinkTold) (tells : P → Told) (input : Input) (before after : MakerTold) (f : ShowFault) (old w out : Printer K) → w ≡ record old { steps = 0; fault = None } → out ≡ w → (f ≡ show.PageFault) ⊎ (f ≡ show.Memory) → (f ≡ show.PageFault → HasFaultedMaking tells input before after) → TracesTo P input (with_faults input before) (told old.sink) (told out.sink) (Some f)
nothing_traced_from {K} {P} told tells input before after f old w out begun same which faulted = nothing_traced P input (with_faults input before) f (told old.sink) (told out.sink) which (λ is. (faulted is).planned) (ap (λ (p : Printer K). told p.sink) (same ∙ begun))

module _ {P K : Type 0} (told : K → SinkTold) (input : Input) where
  -- A line that was written is that of the turn.
  pub printed_as : (t : TurnTold P) (number : ℕ) (line : List ℕ) (old new : Printer K) (f : Option TraceFault) → number ≡ risen old.steps → IsLine input number t line → WritesLine told number line old new f → PrintsTo told input t old new f
  printed_as t number line old new None is of written = let Of : ℕ → Type 0 = λ n. IsLine input n t line in (line, subst Of is of, written.0 ∙ is, written.1)
  printed_as t number line old new (Some Write) is of written = written
  printed_as t number line old new (Some Memory) is of written = absurd written

  -- once something failed it stays as it is
  stuck : (fault : TraceFault) (turns : List (TurnTold P)) (w out : Printer K) → w.fault ≡ Some fault → LeadsOver (PrintsTurn told input) turns w out → out ≡ w
  stuck fault [] w out failed led = led
  stuck fault (t ∷ turns) w out failed led =
      let From : Option TraceFault → Type 0 = λ f. PrintsFrom told input t w led.0 f in
      let same : led.0 ≡ w = subst From failed led.1 in
      stuck fault turns led.0 out (ap (λ (x : Printer K). x.fault) same ∙ failed) led.2 ∙ same

  printed_line : (t : TurnTold P) (line : List ℕ) (turns : List (TurnTold P)) (w mid out : Printer K) (f : Option TraceFault) → IsLine input (risen w.steps) t line → mid.steps ≡ risen w.steps → Wrote line (told w.sink) (told mid.sink) → Printed told input turns mid out f → Printed told input (t ∷ turns) w out f
  printed_line t line turns w mid out None is steps wrote rest =
      let Text : ℕ → Type 0 = λ n. TraceText input n turns rest.0 in
      (line ++ rest.0, (line, rest.0, is, subst Text steps rest.1, refl), wrote_on line rest.0 (told w.sink) (told mid.sink) (told out.sink) wrote rest.2)
  printed_line t line turns w mid out (Some Write) is steps wrote rest = let R : ℕ → Type 0 = λ n. Rose n (told out.sink).faults in subst R wrote.faults rest
  printed_line t line turns w mid out (Some Memory) is steps wrote rest = (line ++ rest.0, wrote_on line rest.0 (told w.sink) (told mid.sink) (told out.sink) wrote rest.1)

  -- A step was printed; or it wasn't, and then no more is.
  printed_by : (t : TurnTold P) (turns : List (TurnTold P)) (w mid out : Printer K) (f : Option TraceFault) → mid.fault ≡ f → PrintsTo told input t w mid f → LeadsOver (PrintsTurn told input) turns mid out → (mid.fault ≡ None → Printed told input turns mid out out.fault) → Printed told input (t ∷ turns) w out out.fault
  printed_by t turns w mid out None is printed led rest = printed_line t printed.0 turns w mid out out.fault printed.1 printed.2 printed.3 (rest is)
  printed_by t turns w mid out (Some Write) is printed led rest =
      let same : out ≡ mid = stuck Write turns mid out is led in
      let At : Printer K → Type 0 = λ x. Printed told input (t ∷ turns) w x x.fault in
      let With : Option TraceFault → Type 0 = λ f. Printed told input (t ∷ turns) w mid f in
      subst At (sym same) (subst With (sym is) printed)
  printed_by t turns w mid out (Some Memory) is printed led rest =
      let same : out ≡ mid = stuck Memory turns mid out is led in
      let At : Printer K → Type 0 = λ x. Printed told input (t ∷ turns) w x x.fault in
      let With : Option TraceFault → Type 0 = λ f. Printed told input (t ∷ turns) w mid f in
      subst At (sym same) (subst With (sym is) ([], wrote_same (told w.sink) (told mid.sink) printed))

  printed_all : (turns : List (TurnTold P)) (w out : Printer K) → w.fault ≡ None → LeadsOver (PrintsTurn told input) turns w out → Printed told input turns w out out.fault
  printed_all [] w out going led =
      let At : Printer K → Type 0 = λ x. Printed told {P = P} input [] w x x.fault in
      let With : Option TraceFault → Type 0 = λ f. Printed told {P = P} input [] w w f in
      subst At (sym led) (subst With (sym going) ([], refl, wrote_none (told w.sink)))
  printed_all (t ∷ turns) w out going led =
      let From : Option TraceFault → Type 0 = λ f. PrintsFrom told input t w led.0 f in
      printed_by t turns w led.0 out led.0.fault refl (subst From going led.1) led.2 (λ is. printed_all turns led.0 out is led.2)

  traces_to : (maker : MakerTold) (output : RunOutput) (w out : Printer K) (f : Option TraceFault) → w.steps ≡ 0 → (is : IsWatchedRun P (PrintsTurn told input) input maker output w out) → Printed told input is.watched.watched.told w out f → TracesTo P input maker (told w.sink) (told out.sink) (shown_by f)
  traces_to maker output w out None start is printed =
      let Text : ℕ → Type 0 = λ n. TraceText input n is.watched.watched.told printed.0 in (
        output,
        printed.0,
        record {
          run = is.run;
          turns = is.watched.turns;
          order = is.watched.order;
          told = is.watched.watched.told;
          tells = is.watched.watched.tells;
          lines = subst Text start printed.1;
        },
        printed.2,
      )
  traces_to maker output w out (Some Write) start is printed = printed
  traces_to maker output w out (Some Memory) start is printed = printed

  -- So a run that a printer watched is traced, unless something failed.
  traced : (maker : MakerTold) (output : RunOutput) (w out : Printer K) → w.steps ≡ 0 → w.fault ≡ None → IsWatchedRun P (PrintsTurn told input) input maker output w out → TracesTo P input maker (told w.sink) (told out.sink) (shown_by out.fault)
  traced maker output w out start going is = traces_to maker output w out out.fault start is (printed_all is.watched.watched.told w out going is.watched.watched.leads)

  -- Likewise where a trace begins with it.
  pub traced_from : (maker : MakerTold) (output : RunOutput) (old w out : Printer K) (f : Option TraceFault) (result : Option ShowFault) → w ≡ record old { steps = 0; fault = None } → IsWatchedRun P (PrintsTurn told input) input maker output w out → f ≡ out.fault → result ≡ shown_by f → TracesTo P input maker (told old.sink) (told out.sink) result
  traced_from maker output old w out f result begun is faulted shown =
      let R : Option ShowFault → Type 0 = λ r. TracesTo P input maker (told old.sink) (told out.sink) r in
      let S : SinkTold → Type 0 = λ s. TracesTo P input maker s (told out.sink) (shown_by out.fault) in
      subst R (sym (shown ∙ ap shown_by faulted))
      (subst S (ap (λ (p : Printer K). told p.sink) begun) (traced maker output w out (ap (λ (p : Printer K). p.steps) begun) (ap (λ (p : Printer K). p.fault) begun) is))

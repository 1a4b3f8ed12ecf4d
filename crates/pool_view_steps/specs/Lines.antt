-- The lines of a trace: one for each turn of a run, as it is made.
use Rattle.std.specs.Prelude.{◌≡◌, ℕ, ◌-◌, List, [], ◌∷◌, ◌++◌, codes, slice_get, Option, Some, None}
use Rattle.std.specs.Fmt.{decimal}
use Rattle.pool_types.specs.Rising.{Rose, risen}
use Rattle.pool_forms.specs.Output.{line_feed, pool_reply_text}
use Rattle.pool_forms.specs.Streams.{SinkTold, Wrote}
use Rattle.pool_run.specs.Progress.{commands_done}
use Rattle.pool_run.specs.Watching.{TurnTold}
use Rattle.pool_run.specs.declared.input.Input.{Input}
use Rattle.pool_run.specs.declared.reply.Reply.{Reply}
use Rattle.pool_view_steps.specs.declared.trace.Printer.{Printer}
use Rattle.pool_view_steps.specs.declared.trace.TraceFault.{TraceFault}
use Rattle.pool_view_steps.specs.declared.trace.TraceFault.TheVariants.{Write, Memory}

-- how many commands ended with a turn
abbrev pub replies_in : Option Reply → ℕ
replies_in None = 0
replies_in (Some reply) = 1

-- The number of the command that a turn was of.
abbrev pub turn_command : {P : Type 0} → TurnTold P → ℕ
turn_command t = commands_done (slice_get t.run.parties t.party) - replies_in t.reply

-- How a line begins: with its number, and the numbers of its party and of its command.
abbrev pub line_head : ℕ → ℕ → ℕ → List ℕ
line_head number party command = decimal number ++ codes " " ++ decimal party ++ codes "." ++ decimal command ++ codes " "

-- How it ends: with the reply, where one ends the command.
abbrev pub line_tail : Input → ℕ → ℕ → Option Reply → List ℕ
line_tail input party command None = line_feed
line_tail input party command (Some reply) = codes " | " ++ pool_reply_text input party command reply ++ line_feed

-- This is the line of a turn, with this number; between its head and its end it says what was done.
abbrev pub IsLine : {P : Type 0} → Input → ℕ → TurnTold P → List ℕ → Type 0
IsLine input number t line = (middle : List ℕ) × (line ≡ line_head number t.party (turn_command t) ++ middle ++ line_tail input t.party (turn_command t) t.reply)

-- the text is the lines of these turns, in order, behind so many others
abbrev pub TraceText : {P : Type 0} → Input → ℕ → List (TurnTold P) → List ℕ → Type 0
TraceText input number [] text = text ≡ []
TraceText input number (t ∷ told) text = (line : List ℕ) × (rest : List ℕ) × IsLine input (risen number) t line × TraceText input (risen number) told rest × (text ≡ line ++ rest)

module _ {K : Type 0} (told : K → SinkTold) where
  -- A line was written, or a write failed. The contract of a private function.
  abbrev pub WritesLine : ℕ → List ℕ → Printer K → Printer K → Option TraceFault → Type 0
  WritesLine number line old new None = (new.steps ≡ number) × Wrote line (told old.sink) (told new.sink)
  WritesLine number line old new (Some Write) = Rose (told old.sink).faults (told new.sink).faults
  WritesLine number line old new (Some Memory) = ⊥

  -- The line of a turn was written, or a write failed, or there was no memory for it.
  abbrev pub PrintsTo : {P : Type 0} → Input → TurnTold P → Printer K → Printer K → Option TraceFault → Type 0
  PrintsTo input t old new None = (line : List ℕ) × IsLine input (risen old.steps) t line × (new.steps ≡ risen old.steps) × Wrote line (told old.sink) (told new.sink)
  PrintsTo input t old new (Some Write) = Rose (told old.sink).faults (told new.sink).faults
  PrintsTo input t old new (Some Memory) = told new.sink ≡ told old.sink

  -- once something failed, nothing more is printed
  abbrev pub PrintsFrom : {P : Type 0} → Input → TurnTold P → Printer K → Printer K → Option TraceFault → Type 0
  PrintsFrom input t old new None = PrintsTo input t old new new.fault
  PrintsFrom input t old new (Some fault) = new ≡ old

  -- What a printer makes of a turn that it is told.
  abbrev pub PrintsTurn : {P : Type 0} → Input → TurnTold P → Printer K → Printer K → Type 0
  PrintsTurn input t old new = PrintsFrom input t old new old.fault

  -- What came of a trace, by what kept it from going on, if something did: all lines of these turns were written; or a write failed;
  -- or something was written, until there was no memory.
  abbrev pub Printed : {P : Type 0} → Input → List (TurnTold P) → Printer K → Printer K → Option TraceFault → Type 0
  Printed input turns old new None = (text : List ℕ) × TraceText input old.steps turns text × Wrote text (told old.sink) (told new.sink)
  Printed input turns old new (Some Write) = Rose (told old.sink).faults (told new.sink).faults
  Printed input turns old new (Some Memory) = (text : List ℕ) × Wrote text (told old.sink) (told new.sink)

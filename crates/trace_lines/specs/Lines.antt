-- What is written of the records of a tick.
use Rattle.std.specs.Prelude.{ℕ, zero, suc, ◌+◌, List, [], ◌∷◌, ◌++◌, ◌≡◌, ◌≤◌, ◌==◌, if◌then◌else◌, Option, None, codes, decimal, length}
use Rattle.std.specs.List.{flat_map}
use Rattle.osek_base.specs.declared.ids.Owner.{Owner}
use Rattle.osek_base.specs.declared.instr.Instr.{Instr}
use Rattle.osek_base.specs.declared.trace_event.TraceEvent.{TraceEvent}
use Rattle.osek_base.specs.Names.{Names, owner_name}
use Rattle.osek_base.specs.Text.{instruction_text, line}
use Rattle.osek_base.specs.BlockingText.{blockers_text}
use Rattle.trace_lines.specs.declared.idle_lines.IdleWord.{IdleWord}

-- the digits of a number but for the last
abbrev pub front_digits : ℕ → List ℕ
front_digits tens = if tens == 0 then [] else decimal tens

-- a line and its end
abbrev pub ended : List ℕ → List ℕ
ended text = text ++ 10 ∷ []

-- a record's line, and the number of blockers where there is one
abbrev pub numbered_line : Names → ℕ → Option ℕ → TraceEvent → List ℕ
numbered_line names t number event = line names t event ++ blockers_text number event

-- that line and its end
abbrev pub record_text : Names → ℕ → Option ℕ → TraceEvent → List ℕ
record_text names t number event = ended (numbered_line names t number event)

-- the text of a tick
abbrev pub tick_text : Names → ℕ → Option ℕ → List TraceEvent → List ℕ
tick_text names t number events = flat_map (record_text names t number) events

-- the record of a tick in which nothing happens: in a view it is told as any that isn't shown
abbrev pub event_of : IdleWord → TraceEvent
event_of IdleWord.Idle = TraceEvent.Idle
event_of IdleWord.Other = TraceEvent.Other

-- the texts of n ticks, from tick t on
abbrev pub texts_from : (ℕ → List ℕ) → ℕ → ℕ → List ℕ
texts_from text_of t zero = []
texts_from text_of t (suc n) = texts_from text_of t n ++ text_of (t + n)

-- where each tick has that record alone
abbrev pub same_ticks_text : Names → TraceEvent → ℕ → ℕ → List ℕ
same_ticks_text names event = texts_from (λ k. tick_text names k None (event ∷ []))

-- where each tick has one line, and these end alike: the number, a space and the ending
abbrev pub lines_from : List ℕ → ℕ → ℕ → List ℕ
lines_from ending = texts_from (λ k. decimal k ++ codes " " ++ ending)

-- what the line of an instruction has between the tick and the outcome
abbrev pub executed_text : Names → Owner → ℕ → Instr → List ℕ
executed_text names who place what = owner_name names who ++ codes " " ++ decimal place ++ codes " " ++ instruction_text names what

-- a text is that of an instruction of an owner at a place
pub record IsExecutedText (names : Names) (who : Owner) (place : ℕ) (what : Instr) (text : List ℕ) : Type 0 where
  pub same : text ≡ executed_text names who place what
  pub short : length text ≤ 172

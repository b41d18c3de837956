-- What is known of the instructions that a run records, and the texts that are kept of a program.
use Rattle.std.specs.Prelude.{◌≡◌, ℕ, List, Some, slice_get, length}
use Rattle.osek_base.specs.declared.ids.Owner.{Owner}
use Rattle.osek_base.specs.declared.trace_event.TraceEvent.{TraceEvent}
use Rattle.osek_base.specs.System.{System, instruction_at, program}
use Rattle.trace_lines.specs.Lines.{IsExecutedText}

-- an instruction that is recorded stands at its place of its owner's program
abbrev pub IsOfProgram : System → TraceEvent → Type 0
IsOfProgram S (TraceEvent.Executed who place what outcome) = what ≡ instruction_at S who place
IsOfProgram S _ = Unit {0}

-- a text is that of the instruction at a place of an owner's program
abbrev pub IsTextAt : System → Owner → ℕ → List ℕ → Type 0
IsTextAt S who place text = IsExecutedText S.names who place (instruction_at S who place) text

-- P holds of each element and its number
abbrev pub EachAt : {X : Type 0} → (ℕ → X → Type 0) → List X → Type 0
EachAt {X} P xs = (i : ℕ) (x : X) → slice_get xs i ≡ Some x → P i x

-- a text for each instruction of an owner's program, each that of the instruction at its number
pub record AreTextsOf (S : System) (who : Owner) (texts : List (List ℕ)) : Type 0 where
  pub counted : length texts ≡ length (program S who)
  pub each : EachAt (IsTextAt S who) texts

-- those of the programs of so many owners
pub record AreAllTexts (S : System) (owner : ℕ → Owner) (count : ℕ) (programs : List (List (List ℕ))) : Type 0 where
  pub counted : length programs ≡ count
  pub each : EachAt (λ n. AreTextsOf S (owner n)) programs

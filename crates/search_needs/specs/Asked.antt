-- The counters whose values programs ask for are among some, program by program.
use Rattle.std.specs.Prelude.{ℕ, Bool, ◌<◌, ◌≡◌, IsTrue, Some, List, length}
use Rattle.osek_base.specs.declared.ids.Owner.{Owner}
use Rattle.osek_base.specs.declared.instr.Instr.{Instr}
use Rattle.osek_base.specs.System.{System, program, instruction_in}
use Rattle.law_future.specs.Need.{asked_by}

-- what an instruction asks for
abbrev pub Asks : System → (ℕ → Bool) → Instr → Type 0
Asks S counters what = (c : ℕ) → asked_by S what ≡ Some c → IsTrue (counters c)

-- the first n instructions of a program
abbrev pub LinesAsk : System → (ℕ → Bool) → List Instr → ℕ → Type 0
LinesAsk S counters instrs n = (place : ℕ) → place < n → Asks S counters (instruction_in instrs place)

abbrev pub ProgramAsks : System → (ℕ → Bool) → Owner → Type 0
ProgramAsks S counters who = LinesAsk S counters (program S who) (length (program S who))

-- the first n tasks, and the first n routines
abbrev pub TasksAsk : System → (ℕ → Bool) → ℕ → Type 0
TasksAsk S counters n = (t : ℕ) → t < n → ProgramAsks S counters (Owner.Task t)

abbrev pub RoutinesAsk : System → (ℕ → Bool) → ℕ → Type 0
RoutinesAsk S counters n = (i : ℕ) → i < n → ProgramAsks S counters (Owner.Routine i)

-- The modelled processor. The programs of a system, kept as words.
use Rattle.std.specs.Prelude.{ℕ, List, [], map, slice_index_or, Option}
use Rattle.std.specs.Option.{unwrap_or}
use Rattle.osek_base.specs.declared.instr.Plain.{Plain}
use Rattle.osek_base.specs.declared.ids.Owner.{Owner}
use Rattle.osek_base.specs.declared.instr.Instr.{Instr}
use Rattle.osek_base.specs.System.{System, Task, Routine}
use Rattle.machine.specs.Packing.{unpacked}

-- the programs of the tasks by number, and of the routines as declared
pub record Programs : Type 0 where
  pub tasks : List (List Instr)
  pub routines : List (List Instr)

-- the program of a task or routine, empty where there is none
abbrev pub program_in : Programs → Owner → List Instr
program_in c (Owner.Task t) = slice_index_or c.tasks t []
program_in c (Owner.Routine i) = slice_index_or c.routines i []

-- the programs of a system
abbrev pub programs_of : System → Programs
programs_of S = record {
  tasks = map (λ (t : Task). t.program) S.tasks;
  routines = map (λ (r : Routine). r.program) S.routines;
}

-- what the words of a program mean
abbrev pub meant : List ℕ → List (Option Instr)
meant words = map unpacked words

-- the instructions of words, NOP for a word of none
abbrev pub instrs_of : List ℕ → List Instr
instrs_of words = map (λ (o : Option Instr). unwrap_or o (Instr.Plain Plain.Nop)) (meant words)

use Rattle.std.proofs.Common.{List, map, ◌∙◌, ap, ap₂}
use Rattle.osek_base.specs.declared.instr.Instr.{Instr}
use Rattle.osek_base.specs.System.{Task, Routine}
use Rattle.machine.specs.Code.{Programs, programs_of}
use Rattle.machine.proofs.code.Code.of.Goals as goal

programs : List (List Instr) → List (List Instr) → Programs
programs tasks routines = record { tasks = tasks; routines = routines }

of_tasks : List Task → List (List Instr)
of_tasks tasks = map (λ (t : Task). t.program) tasks

of_routines : List Routine → List (List Instr)
of_routines routines = map (λ (r : Routine). r.program) routines

pub returns : goal.returns
unfolding programs of_tasks of_routines
returns c =
    ap₂ programs (c.in_ok-packed_tasks.ensures ∙ ap of_tasks c.as_slice.ensures.value)
    (c.in_ok-packed_routines.ensures ∙ ap of_routines c.as_slice-2.ensures.value)
    ∙ ap programs_of (c.parts.view_is ∙ c.parts-parts.ensures.value)

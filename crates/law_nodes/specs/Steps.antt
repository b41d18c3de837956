-- What may become of who executes its instruction at a node, whatever state it finds.
use Rattle.std.specs.Prelude.{ℕ, ◌+◌, ◌-◌, Bool, true, false, if◌then◌else◌, List, [], ◌∷◌, Option, Some, None, is_some}
use Rattle.osek_base.specs.declared.ids.Owner.{Owner}
use Rattle.osek_base.specs.declared.instr.Control.{Control}
use Rattle.osek_base.specs.declared.instr.Instr.{Instr}
use Rattle.osek_base.specs.declared.instr.Plain.{Plain}
use Rattle.osek_base.specs.Instruction.{holds, operate}
use Rattle.osek_base.specs.System.{System, instruction_at}
use Rattle.osek_base.specs.Types.{PlainInstr}
use Rattle.law_costs.specs.Left.{Switch, on}
use Rattle.law_nodes.specs.Nodes.{Node}
use Rattle.law_nodes.specs.Services.{next_node, served, with_known}
use Rattle.law_nodes.specs.Values.{known, of_known}

-- ---- plain instructions

abbrev pub sets_node : Node → ℕ → Option ℕ → Node
sets_node n d o = next_node (with_known n d o)

-- a jump: taken, not taken, or either
abbrev pub jumped : Option Bool → ℕ → Node → List Node
jumped (Some true) to n = record n { place = to } ∷ []
jumped (Some false) to n = next_node n ∷ []
jumped None to n = record n { place = to } ∷ next_node n ∷ []

-- known values are computed. A word that is loaded isn't known
abbrev pub plain_steps : PlainInstr → Node → List Node
plain_steps Plain.Nop n = next_node n ∷ []
plain_steps (Plain.Li d v) n = sets_node n d (Some v) ∷ []
plain_steps (Plain.Mov d a) n = sets_node n d (known n.registers a) ∷ []
plain_steps (Plain.Compute operation d a b) n =
    sets_node n d (of_known (operate operation) (known n.registers a) (known n.registers b)) ∷ []
plain_steps (Plain.Ld d a) n = sets_node n d None ∷ []
plain_steps (Plain.St a b) n = next_node n ∷ []
plain_steps (Plain.Jmp to) n = record n { place = to } ∷ []
plain_steps (Plain.JumpIf test a b to) n =
    jumped (of_known (holds test) (known n.registers a) (known n.registers b)) to n

-- ---- services without a status

abbrev pub switched_by : Control ℕ → Switch → Switch
switched_by Control.DisableAllInterrupts w = record w { disabled = true }
switched_by Control.EnableAllInterrupts w = record w { disabled = false }
switched_by Control.SuspendAllInterrupts w = record w { suspended_all = w.suspended_all + 1 }
switched_by Control.ResumeAllInterrupts w = record w { suspended_all = w.suspended_all - 1 }
switched_by Control.SuspendOsInterrupts w = record w { suspended_os = w.suspended_os + 1 }
switched_by Control.ResumeOsInterrupts w = record w { suspended_os = w.suspended_os - 1 }
switched_by (Control.ShutdownOs n) w = w
switched_by Control.ReturnFromInterrupt w = on

-- a routine that returns has ended. No job does
abbrev pub returned : Owner → Node → List Node
returned (Owner.Task t) n = n ∷ []
returned (Owner.Routine i) n = []

-- behind ShutdownOS the run is over
abbrev pub control_steps : Control ℕ → Node → List Node
control_steps (Control.ShutdownOs number) n = []
control_steps Control.ReturnFromInterrupt n =
    returned n.owner
    (record (next_node n) { switch = switched_by Control.ReturnFromInterrupt n.switch })
control_steps control n = record (next_node n) { switch = switched_by control n.switch } ∷ []

-- ---- an instruction

abbrev pub steps_by : System → Instr → Node → List Node
steps_by S (Instr.Plain plain) n = plain_steps plain n
steps_by S (Instr.Service call) n = served S n call
steps_by S (Instr.Control control) n = control_steps control n

-- who waits executes none
abbrev pub steps : System → Node → List Node
steps S n =
    if is_some n.waits_for then [] else steps_by S (instruction_at S n.owner n.place) n

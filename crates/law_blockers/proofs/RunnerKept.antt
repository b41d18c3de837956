-- An instruction leaves who runs.
use Rattle.std.proofs.Common.{ℕ, ◌≡◌, refl}
use Rattle.osek_base.specs.declared.ids.Owner.{Owner}
use Rattle.osek_base.specs.declared.instr.Instr.{Instr}
use Rattle.osek_base.specs.declared.instr.Control.{Control}
use Rattle.osek_base.specs.System.{System, instruction_at}
use Rattle.osek_base.specs.Instruction.{Context}
use Rattle.osek_base.specs.State.{State}
use Rattle.osek_base.specs.Service.{Caller, JobCalls, RoutineCalls, NobodyCalls, service, controlled}
use Rattle.osek_base.specs.Tick.{executed, caller_executes, executor, execute_phase}

control_running : (control : Control ℕ) (s : State) → (controlled control s).running ≡ s.running
control_running Control.DisableAllInterrupts s = refl
control_running _ s = refl

executed_running : (S : System) (who : Owner) (c : Caller) (x : Context) (what : Instr) (s : State)
    → (executed S who c x what s).state.running ≡ s.running
unfolding service
executed_running S who c x (Instr.Plain p) s = refl
executed_running S who c x (Instr.Service call) s = refl
executed_running S who c x (Instr.Control control) s = control_running control s

caller_running : (S : System) (c : Caller) (s : State) → (caller_executes S c s).state.running ≡ s.running
caller_running S (JobCalls j) s =
    executed_running S (Owner.Task j.id.task) (JobCalls j) j.context (instruction_at S (Owner.Task j.id.task) j.context.place) s
caller_running S (RoutineCalls a) s =
    executed_running S (Owner.Routine a.routine) (RoutineCalls a) a.context
    (instruction_at S (Owner.Routine a.routine) a.context.place) s
caller_running S NobodyCalls s = refl

pub execute_running : (S : System) (s : State) → (execute_phase S s).state.running ≡ s.running
unfolding execute_phase
execute_running S s = caller_running S (executor s) s

-- Behind an instruction too a job runs where interrupts are off and no routine is active.
use Rattle.std.proofs.Common.{◌≡◌, Bool, true, cond, List, refl, sym, ◌∙◌, ap}
use Rattle.std.specs.Prelude.{Some, is_some}
use Rattle.std.specs.List.{list_any}
use Rattle.std.specs.Option.{option_map}
use Rattle.osek_base.specs.declared.ids.Owner.{Owner}
use Rattle.osek_base.specs.declared.instr.Control.{Control}
use Rattle.osek_base.specs.declared.instr.Instr.{Instr}
use Rattle.osek_base.specs.declared.status.Status.{Status}
use Rattle.osek_base.specs.Instruction.{Context, next, plain}
use Rattle.osek_base.specs.Service.{Caller, JobCalls, Reply, RoutineCalls, first_refusal, refusals, reply_to, service}
use Rattle.osek_base.specs.State.{Active, Job, State, interrupts_off, same_id, with_job}
use Rattle.osek_base.specs.System.{System, instruction_at}
use Rattle.osek_base.specs.Tick.{answered, at_values, caller_executes, executed, job_moved, moved as active_moved}
use Rattle.osek_base.specs.Types.{ServiceCall}
use Rattle.law_runs.proofs.Foremost.{same_self}
use Rattle.law_runs.proofs.Known.{IsRunningCaller}
use Rattle.law_runs.proofs.Lists.{clash}
use Rattle.law_costs.specs.Jobs.{behind}
use Rattle.law_costs.proofs.JobTakes.{behind_running, next_of, owner_of}
use Rattle.law_costs.proofs.Parts.{any_changed}
use Rattle.law_costs.proofs.Switches.{some_moved}
use Rattle.law_costs.proofs.Running.{IsHeld}
use Rattle.law_costs.proofs.Totals.{found_counts}

pub refused : (S : System) (s : State) (who : Caller) (call : ServiceCall) → interrupts_off s ≡ true
    → (service S who s call).state.jobs ≡ s.jobs
unfolding service
refused S s who call off =
    ap
    (λ b. (reply_to S who s call
    (cond b (Some Status.SysDisabled) (first_refusal (refusals S who s call)))).state.jobs)
    off

module _ (S : System) (s : State) (j : Job) (calls : IsRunningCaller s j) (who : Owner)
    (x : Context) where
  abbrev is_it : Job → Bool
  is_it k = same_id k.id j.id

  stood : list_any is_it s.jobs ≡ true
  stood = found_counts is_it is_it s.jobs j calls.found (same_self j.id)

  still_there : (y : Context) (jobs : List Job) → list_any is_it jobs ≡ true
      → list_any is_it (with_job j.id (job_moved y) jobs) ≡ true
  still_there y jobs is = any_changed is_it j.id (job_moved y) (λ k. refl) jobs ∙ is

  service_switch : (call : ServiceCall)
      → interrupts_off (service S (JobCalls j) s call).state ≡ true
      → interrupts_off s ≡ true
  unfolding service
  service_switch call off = off

  stands : (what : Instr) → interrupts_off (executed S who (JobCalls j) x what s).state ≡ true
      → list_any is_it (executed S who (JobCalls j) x what s).state.jobs ≡ true
  stands (Instr.Plain what) off = still_there (plain what x (s.words who)).context s.jobs stood
  stands (Instr.Service call) off =
      let r : Reply = service S (JobCalls j) s (at_values x call) in
      still_there (answered r.status r.results x) r.state.jobs
      (ap (list_any is_it)
      (refused S s (JobCalls j) (at_values x call) (service_switch (at_values x call) off))
      ∙ stood)
  stands (Instr.Control Control.DisableAllInterrupts) off = still_there (next x) s.jobs stood
  stands (Instr.Control control) off = still_there (next x) s.jobs stood

pub job_held : (S : System) (s : State) (j : Job) → IsRunningCaller s j → IsHeld (behind S s j)
job_held S s j calls idle off = record {
  job = j.id;
  runs = behind_running S s j ∙ calls.runs;
  stands = stands S s j calls (owner_of j) j.context (next_of S j) off;
}

module _ (S : System) (s : State) (a : Active) (is : s.active ≡ Some a) (who : Owner)
    (x : Context) where
  stays_active : (y : Context) → is_some (option_map (active_moved y) s.active) ≡ true
  stays_active y = some_moved y s.active (ap is_some is)

  executed_held : (what : Instr) → IsHeld (executed S who (RoutineCalls a) x what s).state
  unfolding service
  executed_held (Instr.Plain what) idle off =
      clash (sym (stays_active (plain what x (s.words who)).context) ∙ idle)
  executed_held (Instr.Service call) idle off =
      let r : Reply = service S (RoutineCalls a) s (at_values x call) in
      clash (sym (stays_active (answered r.status r.results x)) ∙ idle)
  executed_held (Instr.Control Control.DisableAllInterrupts) idle off =
      clash (sym (stays_active (next x)) ∙ idle)
  executed_held (Instr.Control Control.EnableAllInterrupts) idle off =
      clash (sym (stays_active (next x)) ∙ idle)
  executed_held (Instr.Control Control.SuspendAllInterrupts) idle off =
      clash (sym (stays_active (next x)) ∙ idle)
  executed_held (Instr.Control Control.ResumeAllInterrupts) idle off =
      clash (sym (stays_active (next x)) ∙ idle)
  executed_held (Instr.Control Control.SuspendOsInterrupts) idle off =
      clash (sym (stays_active (next x)) ∙ idle)
  executed_held (Instr.Control Control.ResumeOsInterrupts) idle off =
      clash (sym (stays_active (next x)) ∙ idle)
  executed_held (Instr.Control (Control.ShutdownOs n)) idle off =
      clash (sym (stays_active (next x)) ∙ idle)
  executed_held (Instr.Control Control.ReturnFromInterrupt) idle off = clash (sym off)

pub routine_held : (S : System) (s : State) (a : Active) → s.active ≡ Some a
    → IsHeld (caller_executes S (RoutineCalls a) s).state
routine_held S s a is =
    executed_held S s a is (Owner.Routine a.routine) a.context
    (instruction_at S (Owner.Routine a.routine) a.context.place)

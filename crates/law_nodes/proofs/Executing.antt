-- A job that executes at a node stands at one of its steps behind that, if it is still there.
use Rattle.std.proofs.Common.{◌≡◌, ℕ, true, false, cond, List, [], ◌∷◌, refl, sym, ◌∙◌, subst}
use Rattle.std.specs.Prelude.{Option, Some, None, IfSome, is_some, slice_set}
use Rattle.std.specs.List.{AllByRecursion}
use Rattle.osek_base.specs.declared.ids.Owner.{Owner}
use Rattle.osek_base.specs.declared.instr.Control.{Control}
use Rattle.osek_base.specs.declared.instr.Instr.{Instr}
use Rattle.osek_base.specs.declared.status.Status.{Status}
use Rattle.osek_base.specs.declared.trace_event.Results.{Results}
use Rattle.osek_base.specs.Instruction.{Context, next, plain}
use Rattle.osek_base.specs.Service.{JobCalls, effect, first_refusal, refusals, reply_to, results, service}
use Rattle.osek_base.specs.State.{Job, State, interrupts_off, job_of, same_id, with_job}
use Rattle.osek_base.specs.System.{System, instruction_at}
use Rattle.osek_base.specs.Tick.{answered, at_values, executed, job_moved, status_number}
use Rattle.osek_base.specs.Types.{ServiceCall}
use Rattle.law_runs.proofs.Known.{IsCaller, IsRunningCaller, executor_calls}
use Rattle.law_runs.proofs.Lists.{all_weaker, clash, found}
use Rattle.law_costs.specs.Left.{Switch, is_off, switch_of}
use Rattle.law_costs.specs.Known.{Executes, ExcludesOthers, behind_by}
use Rattle.law_nodes.specs.Nodes.{Node, Table, is_at, is_told, of_job}
use Rattle.law_nodes.specs.Services.{Nothing, answers, caller_by, refusals_of, replied, results_of, served, with_found}
use Rattle.law_nodes.specs.Steps.{steps, steps_by}
use Rattle.law_nodes.proofs.Answering.{answered_context, answered_is, answered_values, results_told}
use Rattle.law_nodes.proofs.Granting.{changes, granted_told}
use Rattle.law_nodes.proofs.Knowing.{AreValues}
use Rattle.law_nodes.proofs.Owning.{IsAlone, IsOwn, caller_alone, own_changed}
use Rattle.law_nodes.proofs.Refusing.{first_told, refusals_told}
use Rattle.law_nodes.proofs.Showing.{CanBeShown, can_be_shown, has_shown}
use Rattle.law_nodes.proofs.Standing.{at_is, node_of}
use Rattle.law_nodes.proofs.Stepping.{plain_told, told_first}
use Rattle.law_nodes.proofs.Telling.{job_tells, job_tells_running, told_each}

module _ (S : System) (s : State) (j : Job) (calls : IsRunningCaller s j) (alone : IsAlone s j)
    (excludes : ExcludesOthers S (JobCalls j) s) (shows : CanBeShown S s j)
    (registers : List (Option ℕ)) (used : ℕ)
    (all : AreValues registers j.context.registers) where
  abbrev x : Context
  x = j.context

  abbrev who : Owner
  who = Owner.Task j.id.task

  abbrev w : Switch
  w = switch_of s

  abbrev n : Node
  n = node_of (of_job w j) registers used

  abbrev At : Switch → Table → Job → Type 0
  At v table k = is_told table (of_job v k) ≡ true

  abbrev Own : Switch → Table → List Job → Type 0
  Own v table jobs = AllByRecursion (IsOwn (At v table) j.id) jobs

  -- ---- a service

  pub job_replied : (call : ServiceCall) (o : Option Status)
      → Own w (replied S n call o)
      (with_job j.id
      (job_moved (answered (reply_to S (JobCalls j) s (at_values x call) o).status
      (reply_to S (JobCalls j) s (at_values x call) o).results x))
      (reply_to S (JobCalls j) s (at_values x call) o).state.jobs)
  job_replied call (Some refusal) =
      changes S s j alone (At w (replied S n call (Some refusal)))
      (job_moved (answered refusal Results.Nothing x))
      (told_first (of_job w (job_moved (answered refusal Results.Nothing x) j))
      (slice_set registers 0 (Some (status_number refusal))) used []
      (answered_values refusal Nothing Results.Nothing tt registers x all))
  job_replied call None =
      subst
      (λ y. Own w (replied S n call None)
      (with_job j.id (job_moved y) (effect S (JobCalls j) s (at_values x call)).jobs))
      (sym (answered_is Status.Ok (results S s (at_values x call)) x))
      (own_changed
      (λ k. At w (replied S n call None)
      (job_moved (answered_context Status.Ok (results S s (at_values x call)) x) k))
      (At w (replied S n call None)) j.id
      (job_moved (answered_context Status.Ok (results S s (at_values x call)) x))
      (effect S (JobCalls j) s (at_values x call)).jobs (λ k h. h)
      (granted_told S s j alone w x
      (answered_context Status.Ok (results S s (at_values x call)) x)
      (with_found (results_of S who (caller_by who j.held) call)
      (slice_set registers 0 (Some (status_number Status.Ok))))
      used
      (answered_values Status.Ok (results_of S who (caller_by who j.held) call)
      (results S s (at_values x call))
      (results_told S s who (caller_by who j.held) (job_tells_running S s j calls) x call)
      registers x all)
      shows call (has_shown S s x call shows.long)))

  served_told : (call : ServiceCall)
      → Own w (served S n call)
      (with_job j.id
      (job_moved (answered (service S (JobCalls j) s (at_values x call)).status
      (service S (JobCalls j) s (at_values x call)).results x))
      (service S (JobCalls j) s (at_values x call)).state.jobs)
  unfolding service
  served_told call =
      all_weaker (IsOwn (At w (replied S n call refusal)) j.id)
      (IsOwn (At w (served S n call)) j.id)
      (with_job j.id
      (job_moved (answered (reply_to S (JobCalls j) s (at_values x call) refusal).status
      (reply_to S (JobCalls j) s (at_values x call) refusal).results x))
      (reply_to S (JobCalls j) s (at_values x call) refusal).state.jobs)
      (λ k h own.
      told_each (of_job w k) (replied S n call) (answers S n call)
      ∙ first_told (λ o. is_told (replied S n call o) (of_job w k))
      ((Some (is_off w), Status.SysDisabled)
      ∷ refusals_of S (caller_by who j.held) registers call)
      ((interrupts_off s, Status.SysDisabled) ∷ refusals S (JobCalls j) s (at_values x call)) (
        refl,
        refl,
        λ on.
            refusals_told S s (caller_by who j.held) (JobCalls j)
            (job_tells S s j calls excludes) x registers all on call,
      )
      (h own))
      (job_replied call refusal)
    where
      refusal : Option Status
      refusal =
          first_refusal
          ((interrupts_off s, Status.SysDisabled) ∷ refusals S (JobCalls j) s (at_values x call))

  -- ---- an instruction

  abbrev e : Instr → State
  e what = (executed S who (JobCalls j) x what s).state

  moves : (v : Switch) → Own v (node_of (of_job v (job_moved (next x) j)) registers used ∷ [])
      (with_job j.id (job_moved (next x)) s.jobs)
  moves v =
      changes S s j alone (At v (node_of (of_job v (job_moved (next x) j)) registers used ∷ []))
      (job_moved (next x)) (told_first (of_job v (job_moved (next x) j)) registers used [] all)

  pub own_told : (what : Instr) → (e what).over ≡ false
      → Own (switch_of (e what)) (steps_by S what n) (e what).jobs
  unfolding service
  own_told (Instr.Plain what) goes_on =
      changes S s j alone (At w (steps_by S (Instr.Plain what) n))
      (job_moved (plain what x (s.words who)).context)
      (plain_told (of_job w j) registers used all (s.words who) what)
  own_told (Instr.Service call) goes_on = served_told call
  own_told (Instr.Control Control.DisableAllInterrupts) goes_on =
      moves (switch_of (e (Instr.Control Control.DisableAllInterrupts)))
  own_told (Instr.Control Control.EnableAllInterrupts) goes_on =
      moves (switch_of (e (Instr.Control Control.EnableAllInterrupts)))
  own_told (Instr.Control Control.SuspendAllInterrupts) goes_on =
      moves (switch_of (e (Instr.Control Control.SuspendAllInterrupts)))
  own_told (Instr.Control Control.ResumeAllInterrupts) goes_on =
      moves (switch_of (e (Instr.Control Control.ResumeAllInterrupts)))
  own_told (Instr.Control Control.SuspendOsInterrupts) goes_on =
      moves (switch_of (e (Instr.Control Control.SuspendOsInterrupts)))
  own_told (Instr.Control Control.ResumeOsInterrupts) goes_on =
      moves (switch_of (e (Instr.Control Control.ResumeOsInterrupts)))
  own_told (Instr.Control (Control.ShutdownOs number)) goes_on = clash goes_on
  own_told (Instr.Control Control.ReturnFromInterrupt) goes_on =
      moves (switch_of (e (Instr.Control Control.ReturnFromInterrupt)))

-- ---- the law

module _ (S : System) (s : State) (j : Job) (executes : Executes S (JobCalls j) s) where
  abbrev behind : State
  behind = behind_by S (JobCalls j) s

  calls_job : IsRunningCaller s j
  calls_job = subst (IsCaller s) executes.calls (executor_calls s)

  all_told : (registers : List (Option ℕ)) (used : ℕ) → AreValues registers j.context.registers
      → AllByRecursion
      (IsOwn (λ k. is_told (steps S (node_of (of_job (switch_of s) j) registers used))
      (of_job (switch_of behind) k) ≡ true) j.id) behind.jobs
  all_told registers used all =
      let alone = caller_alone S s j executes.good calls_job in
      subst
      (λ o. AllByRecursion
      (IsOwn (λ k. is_told
      (cond (is_some o) []
      (steps_by S (instruction_at S (Owner.Task j.id.task) j.context.place)
      (node_of (of_job (switch_of s) j) registers used)))
      (of_job (switch_of behind) k) ≡ true) j.id) behind.jobs)
      (sym alone.ready)
      (own_told S s j calls_job alone executes.excludes
      (can_be_shown S s j executes calls_job) registers used all
      (instruction_at S (Owner.Task j.id.task) j.context.place) executes.goes_on)

  pub job_sound : (n : Node) → is_at n (of_job (switch_of s) j) ≡ true
      → IfSome (job_of j.id behind.jobs)
      (λ k. is_told (steps S n) (of_job (switch_of behind) k) ≡ true)
  job_sound n at =
      let is = at_is n (of_job (switch_of s) j) at in
      subst
      (λ m. IfSome (job_of j.id behind.jobs)
      (λ k. is_told (steps S m) (of_job (switch_of behind) k) ≡ true))
      (sym is.0) (go (job_of j.id behind.jobs) refl is.1)
    where
      go : (o : Option Job) → job_of j.id behind.jobs ≡ o
          → AreValues n.registers j.context.registers
          → IfSome o (λ k. is_told (steps S (node_of (of_job (switch_of s) j) n.registers n.used))
          (of_job (switch_of behind) k) ≡ true)
      go None there all = tt
      go (Some k) there all =
          let both =
          found
          (IsOwn (λ l. is_told (steps S (node_of (of_job (switch_of s) j) n.registers n.used))
          (of_job (switch_of behind) l) ≡ true) j.id)
          (λ l. same_id l.id j.id) behind.jobs k (all_told n.registers n.used all) there in
          both.0 both.1

-- What is seen of the state of a run is seen of what is kept of it.
use Rattle.std.proofs.Common.{◌≡◌, ℕ, zero, suc, false, List, [], ◌∷◌, length, refl, sym, ◌∙◌, ap, arith}
use Rattle.std.specs.Prelude.{Some, ◌==◌}
use Rattle.std.specs.Option.{option_map}
use Rattle.std.specs.List.{find, AllByRecursion}
use Rattle.std.proofs.Math.Path.{fun_ext}
use Rattle.osek_base.specs.declared.ids.ResId.{ResId}
use Rattle.osek_base.specs.declared.instr.Service.{Service}
use Rattle.osek_base.specs.declared.status.TaskState.{TaskState}
use Rattle.osek_base.specs.declared.trace_event.Results.{Results}
use Rattle.osek_base.specs.Lists.{below}
use Rattle.osek_base.specs.System.{System}
use Rattle.osek_base.specs.State.{Job, State, jobs_of}
use Rattle.osek_base.specs.Service.{state_number, task_state}
use Rattle.osek_base.specs.Priority.{dynamic_priority}
use Rattle.osek_base.specs.Separable.{first_of_list}
use Rattle.law_runs.proofs.Lists.{all_any, all_filter, all_weaker}
use Rattle.law_runs.proofs.Foremost.{equal}
use Rattle.law_kept.specs.Kept.{kept, slot_of, slot_with}
use Rattle.law_kept.specs.Moves.{dynamic_in}
use Rattle.law_kept.specs.KeptService.{holds_in, task_state_in}
use Rattle.law_kept.specs.Seen.{holder_in, priority_in}
use Rattle.law_kept.proofs.Settled.{AreKnown, IsSettled}
use Rattle.law_kept.proofs.Tests.{results_kept}
use Rattle.seen_ticks.specs.Shown.{holder, is_held_by}
use Rattle.seen_ticks.specs.Told.{task_at, task_at_in}

-- ---- the slot of some jobs is the oldest one's

pub counted : (js : List Job) → (slot_of js).count ≡ length js
counted [] = refl
counted (j ∷ js) = refl

holding : (r : ResId) (js : List Job) → holds_in r (slot_of js) ≡ is_held_by r (first_of_list js)
holding r [] = refl
holding r (j ∷ js) = refl

pub raised : (S : System) (t : ℕ) (js : List Job) → AllByRecursion (λ j. j.id.task ≡ t) js
    → priority_in S t (slot_of js) ≡ option_map (dynamic_priority S) (first_of_list js)
raised S t [] all = refl
raised S t (j ∷ js) all =
    let some : (length (j ∷ js) == 0) ≡ false = grind arith in
    rw some (ap (λ u. Some (dynamic_in S u (slot_with (length (j ∷ js)) j))) (sym all.0))

-- the jobs of a task are of it
pub own : (t : ℕ) (jobs : List Job) → AllByRecursion (λ j. j.id.task ≡ t) (jobs_of t jobs)
own t jobs =
    all_weaker _ (λ (j : Job). j.id.task ≡ t) (jobs_of t jobs) (λ j h. equal j.id.task t h.1)
    (all_filter (λ j. Unit {0}) (λ (j : Job). j.id.task == t) jobs (all_any (λ j. Unit {0}) jobs (λ j. tt)))

-- ---- a task's state by its number

abbrev state_by : ℕ → TaskState
state_by zero = TaskState.Running
state_by (suc zero) = TaskState.Waiting
state_by (suc (suc zero)) = TaskState.Ready
state_by (suc (suc (suc n))) = TaskState.Suspended

by_number : (x : TaskState) → state_by (state_number x) ≡ x
by_number TaskState.Running = refl
by_number TaskState.Waiting = refl
by_number TaskState.Ready = refl
by_number TaskState.Suspended = refl

abbrev first_result : Results → ℕ
first_result (Results.One n) = n
first_result _ = 0

-- and so by what is kept of a settled state
pub state_is : (S : System) (s : State) → IsSettled S s → AreKnown S s → (t : ℕ) → task_state_in (kept S s) t ≡ task_state s t
state_is S s settled known t =
    let number : state_number (task_state s t) ≡ state_number (task_state_in (kept S s) t) =
    ap first_result (results_kept S s settled known (Service.GetTaskState (Some t))) in
    sym (by_number (task_state_in (kept S s) t)) ∙ ap state_by (sym number) ∙ by_number (task_state s t)

-- ---- a task, and who holds a resource

pub task_is : (S : System) (s : State) → IsSettled S s → AreKnown S s → (t : ℕ) → task_at_in S (kept S s) t ≡ task_at S s t
task_is S s settled known t = λ i. record {
  state = state_is S s settled known t i;
  priority = raised S t (jobs_of t s.jobs) (own t s.jobs) i;
  jobs = counted (jobs_of t s.jobs) i;
}

pub holder_is : (S : System) (s : State) (r : ResId) → holder_in S (kept S s) r ≡ holder S s r
holder_is S s r = ap (λ p. find p (below (length S.tasks))) (fun_ext (λ t. holding r (jobs_of t s.jobs)))

-- What is seen of a task that has no job, and to which nothing comes.
use Rattle.std.proofs.Common.{◌≡◌, ◌≢◌, ℕ, ◌+◌, ◌-◌, Bool, true, false, cond, List, [], ◌∷◌, length, refl, sym, ◌∙◌, ap, ap₂, arith}
use Rattle.std.specs.Prelude.{Option, Some, None, ◌&&◌, ◌==◌}
use Rattle.std.specs.Option.{option_map}
use Rattle.std.specs.List.{list_any}
use Rattle.seen_ticks.specs.Seen.{unseen_task}
use Rattle.osek_base.specs.declared.executed.Executed.{Executed}
use Rattle.osek_base.specs.declared.ids.Owner.{Owner}
use Rattle.osek_base.specs.declared.status.TaskState.{TaskState}
use Rattle.osek_base.specs.Lists.{is_empty, same_owner}
use Rattle.osek_base.specs.Priority.{dynamic_priority}
use Rattle.osek_base.specs.Separable.{first_of_list}
use Rattle.osek_base.specs.Service.{running_task, task_state}
use Rattle.osek_base.specs.State.{Job, State, jobs_of, waits}
use Rattle.osek_base.specs.System.{System}
use Rattle.seen_ticks.specs.declared.task_at.TaskAt.{TaskAt}
use Rattle.seen_ticks.specs.Observed.{Ticked, activations_by, ending, instruction, is_accepted, is_by, is_end, is_number, is_waiting, jobs_before, one_if, refusing, state_seen, task_of, task_seen}
use Rattle.seen_ticks.specs.Told.{task_at}
use Rattle.seen_runs.proofs.Refusals.{none_refused, same_number}
use Rattle.seen_runs.specs.Passing.{LeavesAll, task_left}
use Rattle.seen_runs.specs.Resting.{IsRest}
use Rattle.seen_runs.specs.Tasks.{LeavesTasks, MakesNone, standing_seen}

abbrev without_job : TaskAt
without_job = record { state = TaskState.Suspended; priority = None; jobs = 0 }

-- a SUSPENDED task has no job
pub suspended : (S : System) (s : State) (t : ℕ) → (task_at S s t).state ≡ TaskState.Suspended → task_at S s t ≡ without_job
suspended S s t = go (running_task s.running == t) (jobs_of t s.jobs)
  where
    state_by : Bool → List Job → TaskState
    state_by r js =
        cond r TaskState.Running
        (cond (list_any waits js) TaskState.Waiting (cond (is_empty js) TaskState.Suspended TaskState.Ready))

    some : (b : Bool) → cond b TaskState.Waiting TaskState.Ready ≢ TaskState.Suspended
    some true h = absurd cc
    some false h = absurd cc

    go : (r : Bool) (js : List Job) → state_by r js ≡ TaskState.Suspended
        → record { state = state_by r js; priority = option_map (dynamic_priority S) (first_of_list js); jobs = length js } ≡ without_job
    go true js h = absurd cc
    go false [] h = refl
    go false (j ∷ js) h = absurd (some (list_any waits (j ∷ js)) h)

-- where an instruction isn't of a task, no job of it ends
not_ended : (S : System) (e : Option Executed) (t : ℕ) → is_by (Owner.Task t) e ≡ false → false ≡ is_number t (ending S e)
not_ended S None t h = refl
not_ended S (Some e) t h = by (is_accepted e.outcome && is_end (instruction S e)) e.owner h
  where
    by : (b : Bool) (owner : Owner) → same_owner (Owner.Task t) owner ≡ false → false ≡ is_number t (cond b (task_of owner) None)
    by true (Owner.Task u) k = sym (same_number u t ∙ k)
    by true (Owner.Routine i) k = refl
    by false owner k = refl

-- and of one that is behind the tick what it was at it
pub standing_is : (S : System) (k : Ticked) (t : ℕ) (at : TaskAt) (before refused : ℕ) (executes : Bool) → at ≡ task_at S k.at t
    → before ≡ jobs_before k.first k.before t
    → refused ≡ one_if (is_number t (refusing S k.executed)) + activations_by S t k.refused
    → executes ≡ is_by (Owner.Task t) k.executed → LeavesTasks S k → standing_seen executes at before refused ≡ task_seen S k t
standing_is S k t at before refused executes at_is before_is refused_is own leaves =
    let behind : at ≡ task_at S k.after t = at_is ∙ leaves.each t in
    let ends : false ≡ is_number t (ending S k.executed) = sym (ap (is_number t) leaves.ends) in
    let plus : at.jobs ≡ at.jobs + 0 = omega arith in
    λ i. record {
      state = state_seen (own i) (at_is i).state;
      priority = (at_is i).priority;
      jobs = (at_is i).jobs;
      made = (ap (λ n. n - before) plus ∙ (λ j. (behind j).jobs + one_if (ends j) - before_is j)) i;
      refused = refused_is i;
      ended = ends i;
      waits = own i && is_waiting (behind i).state;
    }

-- nothing comes to anything in a tick that leaves tasks, where no job is made before its instruction
pub leaves_all : (S : System) (k : Ticked) → LeavesTasks S k → IsRest k → MakesNone S k → LeavesAll S k
leaves_all S k leaves rest none_made = record {
  each = λ t.
      let ends : is_number t (ending S k.executed) ≡ false = ap (is_number t) leaves.ends in
      let no_end : one_if (is_number t (ending S k.executed)) ≡ 0 = ap one_if ends in
      let had = none_made t in
      let stands : (task_at S k.at t).jobs ≡ (task_at S k.after t).jobs = ap (λ (x : TaskAt). x.jobs) (leaves.each t) in
      let made : length (jobs_of t k.after.jobs) + one_if (is_number t (ending S k.executed)) - jobs_before k.first k.before t ≡ 0 =
      omega (arith, no_end, had, stands) in
      λ i. record {
        state = state_seen (is_by (Owner.Task t) k.executed) (leaves.each t i).state;
        priority = (leaves.each t i).priority;
        jobs = (leaves.each t i).jobs;
        made = made i;
        refused = sym (none_refused S k t leaves.refuses rest.none_refused) i;
        ended = ends i;
        waits = is_by (Owner.Task t) k.executed && is_waiting (task_state k.after t);
      };
  rest = rest;
}

module _ (S : System) (k : Ticked) (t : ℕ) (other : is_by (Owner.Task t) k.executed ≡ false) where
  module _ (at : (task_at S k.at t).state ≡ TaskState.Suspended) (behind : (task_at S k.after t).state ≡ TaskState.Suspended)
      (before : 0 ≡ jobs_before k.first k.before t) where
    -- what it is stays
    pub stays_without : task_at S k.at t ≡ task_at S k.after t
    stays_without = suspended S k.at t at ∙ sym (suspended S k.after t behind)

    pub none_behind : 0 ≡ jobs_before false k.after t
    none_behind = sym (ap (λ (x : TaskAt). x.jobs) (suspended S k.after t behind))

    -- nothing comes to it where no activation is refused
    pub seen_without : refusing S k.executed ≡ None → k.refused ≡ [] → unseen_task ≡ task_seen S k t
    seen_without instruction alarms =
        let none = none_behind in
        let old = before in
        let made : 0 ≡ length (jobs_of t k.after.jobs) + one_if (is_number t (ending S k.executed)) - jobs_before k.first k.before t =
        ap (λ b. 0 + one_if b - 0) (not_ended S k.executed t other)
        ∙ ap₂ (λ m n. m + one_if (is_number t (ending S k.executed)) - n) none old in
        λ i. record {
          state = (sym (ap₂ state_seen other at)) i;
          priority = (sym (ap (λ (x : TaskAt). x.priority) (suspended S k.at t at))) i;
          jobs = (sym (ap (λ (x : TaskAt). x.jobs) (suspended S k.at t at))) i;
          made = made i;
          refused = none_refused S k t instruction alarms i;
          ended = not_ended S k.executed t other i;
          waits = (sym (ap (λ b. b && is_waiting (task_state k.after t)) other)) i;
        }

  -- and so in a tick in which nothing comes to anything
  pub left_without : LeavesAll S k → (task_at S k.after t).state ≡ TaskState.Suspended → unseen_task ≡ task_seen S k t
  left_without leaves behind =
      let none = suspended S k.after t behind in
      sym (leaves.each t ∙ ap₂ task_left other none)

-- What passes of each outcome at a node passes of that of a job's instruction.
use Rattle.std.proofs.Common.{◌≡◌, ℕ, Bool, true, false, List, ◌∷◌, refl, ◌∙◌, ap}
use Rattle.std.specs.Prelude.{Option, Some, slice_index}
use Rattle.std.specs.List.{AllByRecursion}
use Rattle.osek_base.specs.declared.ids.Owner.{Owner}
use Rattle.osek_base.specs.declared.instr.Instr.{Instr}
use Rattle.osek_base.specs.declared.status.Status.{Status}
use Rattle.osek_base.specs.Instruction.{Context}
use Rattle.osek_base.specs.Service.{JobCalls, answer, first_refusal, refusals, reply_to, service}
use Rattle.osek_base.specs.State.{Job, State, interrupts_off, job_of, same_id, waits, with_job}
use Rattle.osek_base.specs.System.{System}
use Rattle.osek_base.specs.Tick.{answered, at_values, executed, job_moved}
use Rattle.osek_base.specs.Types.{ServiceCall}
use Rattle.law_alarms.specs.Setting.{call_in}
use Rattle.law_costs.specs.Known.{ExcludesOthers}
use Rattle.law_costs.specs.Left.{Switch, Weights, is_off, switch_of}
use Rattle.law_costs.specs.Routines.{set_by, set_where, started_by, started_where}
use Rattle.law_runs.proofs.Known.{IsRunningCaller}
use Rattle.law_runs.proofs.Lists.{all_any, found}
use Rattle.law_nodes.specs.Early.{awaited, shows}
use Rattle.law_nodes.specs.Nodes.{Node, Table, is_told, of_job}
use Rattle.law_nodes.specs.Prices.{all_outcomes}
use Rattle.law_nodes.specs.Services.{caller_by, refusals_of, replied}
use Rattle.law_nodes.specs.Steps.{steps_by}
use Rattle.law_nodes.proofs.Executing.{job_replied, own_told}
use Rattle.law_nodes.proofs.Gains.{control_held, plain_held, replied_held}
use Rattle.law_nodes.proofs.Knowing.{AreValues}
use Rattle.law_nodes.proofs.Leaving.{LeavesAt}
use Rattle.law_nodes.proofs.Owning.{IsAlone, IsOwn, own_changed}
use Rattle.law_nodes.proofs.Refusing.{refusals_told}
use Rattle.law_nodes.proofs.Showing.{CanBeShown}
use Rattle.law_nodes.proofs.Standing.{node_of}
use Rattle.law_nodes.proofs.Telling.{job_tells}
use Rattle.law_nodes.proofs.Starting.{all_first, set_same, started_same}

-- steps that pass with what is started and set, and the job is at one of them, if it is still
-- there; where it doesn't wait, its events hold no more at that one
pub record JobOutcome (pays : Table → ℕ → ℕ → Bool) (v : Switch) (j : Job) (started set : ℕ)
    (what : Instr) (before used : ℕ) (e : State) : Type 0 where
  pub next : Table
  pub paid : pays next started set ≡ true
  pub own : AllByRecursion (IsOwn (λ k. is_told next (of_job v k) ≡ true) j.id) e.jobs
  pub held : (AllByRecursion (IsOwn (λ k. waits k ≡ true) j.id) e.jobs → ⊥)
      → (k : Job) → job_of j.id e.jobs ≡ Some k
      → AllByRecursion
      (LeavesAt (of_job v k) (awaited what) (shows what) before (slice_index e.masks j.id.task)
      used) next

module _ (S : System) (s : State) (j : Job) (calls : IsRunningCaller s j) (alone : IsAlone s j)
    (excludes : ExcludesOthers S (JobCalls j) s) (seen : CanBeShown S s j)
    (registers : List (Option ℕ)) (used : ℕ)
    (all : AreValues registers j.context.registers) (c : Weights)
    (pays : Table → ℕ → ℕ → Bool) where
  abbrev x : Context
  x = j.context

  abbrev who : Owner
  who = Owner.Task j.id.task

  abbrev n : Node
  n = node_of (of_job (switch_of s) j) registers used

  abbrev e : Instr → State
  e what = (executed S who (JobCalls j) x what s).state

  abbrev Outcome : Instr → Type 0
  Outcome what =
      JobOutcome pays (switch_of (e what)) j (started_by S c (JobCalls j) s (call_in x what))
      (set_by S c (JobCalls j) s (call_in x what)) what (slice_index s.masks j.id.task) used
      (e what)

  service_outcome : (call : ServiceCall) → all_outcomes S c pays (Instr.Service call) n ≡ true
      → Outcome (Instr.Service call)
  unfolding service
  service_outcome call passes = record {
    next = replied S n call refusal;
    paid =
        ap
        (λ k. pays (replied S n call refusal) k (set_where c (answer refusal) (at_values x call)))
        (started_same c x call (answer refusal))
        ∙ ap (pays (replied S n call refusal) (started_where c (answer refusal) call))
        (set_same c x call (answer refusal))
        ∙ all_first
        (λ o. pays (replied S n call o) (started_where c (answer o) call)
        (set_where c (answer o) call))
        ((Some (is_off (switch_of s)), Status.SysDisabled)
        ∷ refusals_of S (caller_by who j.held) registers call)
        ((interrupts_off s, Status.SysDisabled) ∷ refusals S (JobCalls j) s (at_values x call)) (
          refl,
          refl,
          λ on.
              refusals_told S s (caller_by who j.held) (JobCalls j)
              (job_tells S s j calls excludes) x registers all on call,
        )
        passes;
    own = job_replied S s j calls alone excludes seen registers used all call refusal;
    held = λ awake k there.
        replied_held S s j calls alone seen.long registers used call refusal
        (of_job (switch_of s) k) (context_is k there) awake;
  }
    where
      refusal : Option Status
      refusal =
          first_refusal
          ((interrupts_off s, Status.SysDisabled) ∷ refusals S (JobCalls j) s (at_values x call))

      y : Context
      y =
          answered (reply_to S (JobCalls j) s (at_values x call) refusal).status
          (reply_to S (JobCalls j) s (at_values x call) refusal).results x

      jobs : List Job
      jobs = (reply_to S (JobCalls j) s (at_values x call) refusal).state.jobs

      context_is : (k : Job) → job_of j.id (with_job j.id (job_moved y) jobs) ≡ Some k
          → k.context ≡ y
      context_is k there =
          let here =
          found (IsOwn (λ l. l.context ≡ y) j.id) (λ l. same_id l.id j.id)
          (with_job j.id (job_moved y) jobs) k
          (own_changed (λ l. Unit {0}) (λ l. l.context ≡ y) j.id (job_moved y) jobs (λ l h. refl)
          (all_any (IsOwn (λ l. Unit {0}) j.id) jobs (λ l own. tt)))
          there in
          here.0 here.1

  pub job_outcome : (what : Instr) → (e what).over ≡ false
      → all_outcomes S c pays what n ≡ true → Outcome what
  job_outcome (Instr.Plain what) goes_on passes = record {
    next = steps_by S (Instr.Plain what) n;
    paid = passes;
    own = own_told S s j calls alone excludes seen registers used all (Instr.Plain what) goes_on;
    held = λ awake k there.
        plain_held S s j calls alone seen.long registers used what
        (of_job (switch_of (e (Instr.Plain what))) k);
  }
  job_outcome (Instr.Service call) goes_on passes = service_outcome call passes
  job_outcome (Instr.Control control) goes_on passes = record {
    next = steps_by S (Instr.Control control) n;
    paid = passes;
    own =
        own_told S s j calls alone excludes seen registers used all (Instr.Control control)
        goes_on;
    held = λ awake k there.
        control_held S s j calls alone seen.long registers used control
        (of_job (switch_of (e (Instr.Control control))) k);
  }

-- A job that executes has taken its internal resource: a dispatch gave it, and with interrupts off
-- none is given up.
use Rattle.std.proofs.Common.{◌≡◌, ℕ, Bool, true, false, cond, not, ◌||◌, List, [], ◌∷◌, refl, sym, ◌∙◌, ap, subst}
use Rattle.std.specs.Prelude.{Option, Some, None, is_some}
use Rattle.std.specs.List.{AllByRecursion}
use Rattle.std.specs.Option.{option_map}
use Rattle.std.proofs.lemmas.Bool.{and_from}
use Rattle.osek_base.specs.declared.ids.Owner.{Owner}
use Rattle.osek_base.specs.declared.instr.Control.{Control}
use Rattle.osek_base.specs.declared.instr.Instr.{Instr}
use Rattle.osek_base.specs.Choice.{choice}
use Rattle.osek_base.specs.Instruction.{Context, next, plain}
use Rattle.osek_base.specs.Reschedule.{entered, id_of, jobs_entered, reschedule, switched, with_dispatch_of}
use Rattle.osek_base.specs.Service.{JobCalls, Reply, service}
use Rattle.osek_base.specs.State.{Job, JobId, State, interrupts_off, job_of, may_dispatch, same_id, with_job}
use Rattle.osek_base.specs.System.{System}
use Rattle.osek_base.specs.Tick.{alarm_phase, answered, arrival_phase, at_values, before_execution, executed, job_moved, start_phase}
use Rattle.osek_base.specs.Types.{ServiceCall}
use Rattle.law_runs.proofs.Known.{IsRunningCaller}
use Rattle.law_runs.proofs.Lists.{all_any, all_map, clash, found, none_some, some_inside}
use Rattle.law_runs.proofs.RankedTick.{may_start}
use Rattle.law_costs.specs.Jobs.{behind}
use Rattle.law_costs.specs.Known.{TakesInternal}
use Rattle.law_costs.specs.Left.{Switch, is_off, switch_of}
use Rattle.law_costs.proofs.Executed.{refused}
use Rattle.law_costs.proofs.JobsKeep.{Lasts}
use Rattle.law_costs.proofs.JobTakes.{next_of, owner_of}

-- ---- a job behind its instruction

-- it is the same, at another place
pub record IsMoved (j : Job) (e : State) : Type 0 where
  pub context : Context
  pub there : job_of j.id e.jobs ≡ Some (job_moved context j)

moved_found : (y : Context) (n : JobId) (j : Job) (jobs : List Job) → job_of n jobs ≡ Some j
    → job_of n (with_job n (job_moved y) jobs) ≡ Some (job_moved y j)
moved_found y n j [] h = absurd (none_some j h)
moved_found y n j (k ∷ jobs) h = go (same_id k.id n) refl h (moved_found y n j jobs)
  where
    go : (b : Bool) → same_id k.id n ≡ b
        → cond b (Some k) (job_of n jobs) ≡ Some j
        → (job_of n jobs ≡ Some j
        → job_of n (with_job n (job_moved y) jobs) ≡ Some (job_moved y j))
        → job_of n (cond b (job_moved y k) k ∷ with_job n (job_moved y) jobs)
        ≡ Some (job_moved y j)
    go true is here later =
        ap
        (λ b. cond b (Some (job_moved y k)) (job_of n (with_job n (job_moved y) jobs)))
        is
        ∙ ap (λ l. Some (job_moved y l)) (some_inside k j here)
    go false is here later =
        ap (λ b. cond b (Some k) (job_of n (with_job n (job_moved y) jobs))) is ∙ later here

module _ (S : System) (s : State) (j : Job) (calls : IsRunningCaller s j) where
  module _ (who : Owner) (x : Context) where
    abbrev there : Instr → State
    there what = (executed S who (JobCalls j) x what s).state

    moves : (y : Context) (jobs : List Job) → jobs ≡ s.jobs
        → job_of j.id (with_job j.id (job_moved y) jobs) ≡ Some (job_moved y j)
    moves y jobs is =
        moved_found y j.id j jobs (ap (job_of j.id) is ∙ calls.found)

    either : (b : Bool) → (b || b) ≡ true → b ≡ true
    either true h = refl
    either false h = h

    service_off : (call : ServiceCall)
        → (interrupts_off s || interrupts_off (service S (JobCalls j) s call).state) ≡ true
        → interrupts_off s ≡ true
    unfolding service
    service_off call off = either (interrupts_off s) off

    moved_by : (what : Instr) → (interrupts_off s || interrupts_off (there what)) ≡ true
        → IsMoved j (there what)
    moved_by (Instr.Plain what) off = record {
      context = (plain what x (s.words who)).context;
      there = moves (plain what x (s.words who)).context s.jobs refl;
    }
    moved_by (Instr.Service call) off =
        let r : Reply = service S (JobCalls j) s (at_values x call) in
        record {
          context = answered r.status r.results x;
          there =
              moves (answered r.status r.results x) r.state.jobs
              (refused S s (JobCalls j) (at_values x call) (service_off (at_values x call) off));
        }
    moved_by (Instr.Control Control.DisableAllInterrupts) off =
        record { context = next x; there = moves (next x) s.jobs refl }
    moved_by (Instr.Control control) off =
        record { context = next x; there = moves (next x) s.jobs refl }

  -- where interrupts are off before it or behind it
  pub moved_where_off : (interrupts_off s || interrupts_off (behind S s j)) ≡ true
      → IsMoved j (behind S s j)
  moved_where_off off = moved_by (owner_of j) j.context (next_of S j) off

module _ (S : System) where
  abbrev pub HasTaken : Job → Type 0
  HasTaken j = TakesInternal S (JobCalls j)

  -- ---- while a job finds interrupts off

  abbrev pub StaysTaken : Option JobId → Switch → Job → Type 0
  StaysTaken o w k = is_off w ≡ true → HasTaken k

  -- a job that isn't running finds them on
  pub taken_lasts : Lasts S StaysTaken
  taken_lasts = record {
    made = λ o n new off. clash (sym off);
    freed = λ o j waiting new h off. clash (sym off);
    none = λ o k h. h;
    itself = λ o k ready h off. clash (sym off);
    other = λ o k l under differs h. h;
  }

  second_off : (a b : Bool) → b ≡ true → (a || b) ≡ true
  second_off true b h = refl
  second_off false b h = h

  pub own_taken : (s : State) (j : Job) → IsRunningCaller s j → HasTaken j → (k : Job)
      → job_of j.id (behind S s j).jobs ≡ Some k → StaysTaken s.running (switch_of (behind S s j)) k
  own_taken s j calls has k is off =
      let moved =
      moved_where_off S s j calls
      (second_off (interrupts_off s) (interrupts_off (behind S s j)) off) in
      subst HasTaken (some_inside (job_moved moved.context j) k (sym moved.there ∙ is)) has

  -- ---- where interrupts are on, by the dispatch of the same tick

  entered_each : (n : JobId) (jobs : List Job)
      → AllByRecursion (λ k. same_id k.id n ≡ true → HasTaken k) (with_job n (entered S) jobs)
  entered_each n jobs =
      all_map (λ k. Unit {0}) (λ k. same_id k.id n ≡ true → HasTaken k)
      (λ k. cond (same_id k.id n) (entered S k) k) jobs
      (λ k h. one k (same_id k.id n) refl) (all_any (λ k. Unit {0}) jobs (λ k. tt))
    where
      one : (k : Job) (b : Bool) → same_id k.id n ≡ b
          → same_id (cond b (entered S k) k).id n ≡ true → HasTaken (cond b (entered S k) k)
      one k true is own = refl
      one k false is own = clash (sym own ∙ is)

  entered_taken : (o : Option Job) (jobs : List Job) (j : Job) → option_map id_of o ≡ Some j.id
      → job_of j.id (jobs_entered S o jobs) ≡ Some j → HasTaken j
  entered_taken None jobs j runs is = absurd (none_some j.id runs)
  entered_taken (Some k) jobs j runs is =
      let both =
      found (λ l. same_id l.id k.id ≡ true → HasTaken l) (λ l. same_id l.id j.id)
      (with_job k.id (entered S) jobs) j (entered_each k.id jobs) is in
      both.0 (subst (λ n. same_id j.id n ≡ true) (sym (some_inside k.id j.id runs)) both.1)

  dispatched_taken : (s : State) (j : Job) → may_dispatch s ≡ true
      → (reschedule S s).state.running ≡ Some j.id
      → job_of j.id (reschedule S s).state.jobs ≡ Some j → HasTaken j
  unfolding reschedule
  dispatched_taken s j may = go (may_dispatch s) may
    where
      to : Bool → State
      to b =
          (with_dispatch_of s
          (cond b (switched S (choice S s.jobs) s) (record { events = []; state = s }))).state

      go : (b : Bool) → b ≡ true → (to b).running ≡ Some j.id
          → job_of j.id (to b).jobs ≡ Some j → HasTaken j
      go true is runs there = entered_taken (choice S s.jobs) s.jobs j runs there
      go false is runs there = clash (sym is)

  same_dispatch : (s : State) → may_dispatch (reschedule S s).state ≡ may_dispatch s
  unfolding reschedule
  same_dispatch s = refl

  abbrev pub IsEntered : State → Type 0
  IsEntered s =
      interrupts_off s ≡ false → (j : Job) → IsRunningCaller s j → HasTaken j

  started_entered : (s : State) → IsEntered (start_phase S (reschedule S s).state)
  unfolding start_phase
  started_entered s on j calls =
      dispatched_taken s j
      (sym (same_dispatch s)
      ∙ may_start S (reschedule S s).state
      (and_from (not (is_some (start_phase S (reschedule S s).state).active))
      (not (interrupts_off (start_phase S (reschedule S s).state)))
      (ap (λ o. not (is_some o)) calls.idle) (ap not on)))
      calls.runs calls.found

  pub before_entered : (arrived : List ℕ) (s : State)
      → IsEntered (before_execution S arrived s).state
  before_entered arrived s = started_entered (arrival_phase arrived (alarm_phase S s).state)

-- Ticks more of a task's times: one count alone grows.
use Rattle.std.proofs.Common.{ℕ, ◌≡◌, ◌+◌, Bool, true, false, not, List, cond, refl, sym, ◌∙◌, ap, ap₂}
use Rattle.std.specs.Prelude.{◌||◌}
use Rattle.std.proofs.lemmas.Bool.{false≢true}
use Rattle.osek_base.specs.declared.status.TaskState.TheVariants.{Running, Waiting, Ready, Suspended}
use Rattle.view_figures.specs.declared.task_tick.TaskTick.{TaskTick}
use Rattle.view_figures.specs.declared.task_time.TaskTime.{TaskTime}
use Rattle.view_figures.specs.declared.task_time.TaskTime.TheVariants.{Executed, StandsReady, Preempted, Blocked, Waits, HasNoJob}
use Rattle.view_figures.specs.declared.task_times.TaskTimes.{TaskTimes}
use Rattle.view_figures.specs.Counts.{capped}
use Rattle.view_figures.specs.StateSums.{task_times, time_of, ready_time, begun, leaves, is_running, is_executed, is_ready, is_preempted, is_blocked, is_waited}
use Rattle.view_figures.specs.Calm.{time_on, times_on, times_stayed, went_on}
use Rattle.view_figures.proofs.QuietLemmas.{kept_count}
use Rattle.view_figures.proofs.AddLemmas.{time_in}

-- the count of each kind, as it is or some more
abbrev pub counted : TaskTime → ℕ → TaskTimes → TaskTimes
counted time more f = record {
  executed = capped (f.executed + cond (is_executed time) more 0);
  ready = capped (f.ready + cond (is_ready time) more 0);
  preempted = capped (f.preempted + cond (is_preempted time) more 0);
  blocked = capped (f.blocked + cond (is_blocked time) more 0);
  waiting = capped (f.waiting + cond (is_waited time) more 0);
  has_begun = f.has_begun;
}

pub one_counts : (time : TaskTime) (more : ℕ) (before : List TaskTick) (f : TaskTimes) → f ≡ task_times before
    → time_on time more f ≡ counted time more f
unfolding task_times
one_counts time more before f e =
    let x = kept_count f.executed _ 0 (ap (λ (f : TaskTimes). f.executed) e) refl in
    let r = kept_count f.ready _ 0 (ap (λ (f : TaskTimes). f.ready) e) refl in
    let p = kept_count f.preempted _ 0 (ap (λ (f : TaskTimes). f.preempted) e) refl in
    let b = kept_count f.blocked _ 0 (ap (λ (f : TaskTimes). f.blocked) e) refl in
    let w = kept_count f.waiting _ 0 (ap (λ (f : TaskTimes). f.waiting) e) refl in
    elim time as (λ time. time_on time more f ≡ counted time more f) [
      | Executed ↦ cc
      | StandsReady ↦ cc
      | Preempted ↦ cc
      | Blocked ↦ cc
      | Waits ↦ cc
      | HasNoJob ↦ cc
    ]

pub time_stays : (t : TaskTick) (more : ℕ) (before : List TaskTick) (f : TaskTimes) (time : TaskTime) (noted : TaskTimes) (had : Bool)
    → f ≡ task_times before → time ≡ time_of t f.has_begun → noted ≡ time_on time more f → had ≡ begun t noted.has_begun
    → (record noted { has_begun = had }) ≡ times_stayed t more f
time_stays t more before f time noted had e is notes begins =
    let one : noted ≡ counted (time_of t f.has_begun) more f =
    notes ∙ one_counts time more before f e ∙ ap (λ x. counted x more f) is in
    let same : had ≡ begun t f.has_begun = begins ∙ ap (λ (g : TaskTimes). begun t g.has_begun) one in
    ap₂ (λ (g : TaskTimes) b. record g { has_begun = b }) one same

-- a task that is RUNNING executes, and has begun unless its job leaves
pub runs_executed : (t : TaskTick) (had : Bool) → is_running t ≡ true → Executed ≡ time_of t had
runs_executed t had runs = elim t.seen.state as (λ s.
    elim s [ Running ↦ true | Waiting ↦ false | Ready ↦ false | Suspended ↦ false ] ≡ true → Executed ≡ time_in s t.lower_executes had) [
      | Running ↦ λ _. refl
      | Waiting ↦ λ h. absurd (false≢true h)
      | Ready ↦ λ h. absurd (false≢true h)
      | Suspended ↦ λ h. absurd (false≢true h)
    ] runs

not_left : (b : Bool) → not b ≡ cond b false true
not_left true = refl
not_left false = refl

pub begun_running : (t : TaskTick) (had : Bool) → is_running t ≡ true → not (leaves t) ≡ begun t had
begun_running t had runs = not_left (leaves t) ∙ ap (λ b. cond (leaves t) false (b || had)) (sym runs)

-- where the oldest job neither ends nor waits, the state says which count grows
pub went : (t : TaskTick) (more : ℕ) (before : List TaskTick) (f : TaskTimes) → leaves t ≡ false → f ≡ task_times before
    → went_on t.seen.state t.lower_executes more f ≡ times_stayed t more f
went t more before f stays e =
    let had = f.has_begun in
    let one : (time : TaskTime) → time_on time more f ≡ counted time more f = λ time. one_counts time more before f e in
    elim t.seen.state as (λ s. went_on s t.lower_executes more f
    ≡ (record (counted (time_in s t.lower_executes had) more f) {
      has_begun = elim s [ Running ↦ true | Waiting ↦ false | Ready ↦ false | Suspended ↦ false ] || had;
    })) [
      | Running ↦ ap (λ (g : TaskTimes). record g { has_begun = true }) (one Executed)
      | Waiting ↦ one Waits
      | Ready ↦ one (ready_time t.lower_executes had)
      | Suspended ↦ one HasNoJob
    ]
    ∙ ap (λ l. record (times_on t more f) { has_begun = cond l false (is_running t || had) }) (sym stays)

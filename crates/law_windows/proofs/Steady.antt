-- Work that stands before a tick stands at its instruction.
use Rattle.std.proofs.Common.{ℕ, ◌≡◌, ◌≤◌, Bool, true, false, cond, not, ◌||◌, List, [], ◌∷◌, ◌++◌, map, refl, sym, ◌∙◌, ap, subst}
use Rattle.std.specs.Prelude.{Option, Some, None, nat_le, ◌==◌}
use Rattle.std.specs.List.{AllByRecursion, filter, list_any}
use Rattle.std.proofs.lemmas.Bool.{and_parts, leb-true}
use Rattle.osek_base.specs.declared.arrivals.Arrival.{Arrival}
use Rattle.osek_base.specs.Priority.{static_priority}
use Rattle.osek_base.specs.Proper.{IsProper}
use Rattle.osek_base.specs.State.{Active, Job, JobId, State, jobs_of, waits}
use Rattle.osek_base.specs.System.{System, priority_of}
use Rattle.osek_base.specs.Tick.{before_execution, tick}
use Rattle.osek_base.specs.Trace.{arriving, run}
use Rattle.law_runs.proofs.Foremost.{equal, self_equal}
use Rattle.law_runs.proofs.Lists.{clash}
use Rattle.law_runs.proofs.RankedTick.{IsExecuting, before_executing, run_ordered}
use Rattle.law_blockers.specs.Steps.{step_at}
use Rattle.law_blockers.proofs.StepLemmas.{executing_is}
use Rattle.law_jobs.specs.Standing.{standing, stands, stands_in}
use Rattle.law_jobs.proofs.Growing.{before_grows}
use Rattle.law_jobs.proofs.Lists.{Grows, standing_append}
use Rattle.law_jobs.proofs.Members.{each_of, each_stands}
use Rattle.law_windows.specs.Work.{WorkStays, goes_at, has_work, is_active_at, is_work, some_pending}
use Rattle.law_windows.proofs.Routines.{executing_active}
use Rattle.law_windows.proofs.Working.{job_is_work, pending_works, some_pends}

-- ---- jobs

-- a task of the level has a job that stands
record SomeStands (S : System) (p : ℕ) (jobs : List Job) : Type 0 where
  task : ℕ
  high : p ≤ priority_of S task
  job : JobId
  others : List JobId
  are : standing task jobs ≡ job ∷ others

module _ (S : System) (p : ℕ) where
  this_stands : (j : Job) (jobs : List Job) → is_work S p j ≡ true → SomeStands S p (j ∷ jobs)
  this_stands j jobs work =
      let parts = and_parts (not (waits j)) (nat_le p (static_priority S j)) work in
      let own : List Job = jobs_of j.id.task jobs in
      record {
        task = j.id.task;
        high = leb-true p (static_priority S j) parts.1;
        job = j.id;
        others = standing j.id.task jobs;
        are =
            ap (λ b. map (λ (l : Job). l.id) (filter stands (cond b (j ∷ own) own)))
            (self_equal j.id.task)
            ∙ ap
            (λ b. map (λ (l : Job). l.id) (cond b (j ∷ filter stands own) (filter stands own)))
            parts.0;
      }

  later_stands : (j : Job) (jobs : List Job) → SomeStands S p jobs → SomeStands S p (j ∷ jobs)
  later_stands j jobs found =
      go (standing found.task (j ∷ []))
      (standing_append found.task (j ∷ []) jobs
      ∙ ap (λ ids. standing found.task (j ∷ []) ++ ids) found.are)
    where
      go : (front : List JobId)
          → standing found.task (j ∷ jobs) ≡ front ++ (found.job ∷ found.others)
          → SomeStands S p (j ∷ jobs)
      go [] are = record {
        task = found.task;
        high = found.high;
        job = found.job;
        others = found.others;
        are = are;
      }
      go (n ∷ front) are = record {
        task = found.task;
        high = found.high;
        job = n;
        others = front ++ (found.job ∷ found.others);
        are = are;
      }

  some_stands : (jobs : List Job) → list_any (is_work S p) jobs ≡ true → SomeStands S p jobs
  some_stands [] some = clash (sym some)
  some_stands (j ∷ jobs) some = go (is_work S p j) refl some (some_stands jobs)
    where
      go : (b : Bool) → is_work S p j ≡ b → (b || list_any (is_work S p) jobs) ≡ true
          → (list_any (is_work S p) jobs ≡ true → SomeStands S p jobs) → SomeStands S p (j ∷ jobs)
      go true work some rest = this_stands j jobs work
      go false none some rest = later_stands j jobs (rest some)

  -- ---- the active routine

  active_works : (arrived : List ℕ) (s : State) (a : Active) → s.active ≡ Some a
      → goes_at S p a.routine ≡ true → has_work S p (tick S arrived s).executing ≡ true
  active_works arrived s a is goes =
      let at : State = (tick S arrived s).executing in
      ap (λ o. is_active_at S p o || (some_pending S p at || list_any (is_work S p) at.jobs))
      (executing_active S arrived s a is)
      ∙ ap (λ b. b || (some_pending S p at || list_any (is_work S p) at.jobs)) goes

-- ---- a tick of a run

module _ (S : System) (mode : ℕ) (arrivals : List Arrival) (p n : ℕ) (proper : IsProper S)
    (going : (run S mode arrivals n).state.over ≡ false) where
  abbrev here : State
  here = (run S mode arrivals n).state

  abbrev at : State
  at = (step_at S mode arrivals n).executing

  at_is : (before_execution S (arriving arrivals n) here).state ≡ at
  at_is = executing_is S mode arrivals n going

  executing : IsExecuting S proper at
  executing =
      subst (IsExecuting S proper) at_is
      (before_executing S proper (arriving arrivals n) here (run_ordered S proper mode arrivals n))

  job_works : SomeStands S p here.jobs → has_work S p at ≡ true
  job_works found =
      let grows : Grows found.task here.jobs at.jobs =
      subst (λ (s : State). Grows found.task here.jobs s.jobs) at_is
      (before_grows S found.task proper (arriving arrivals n) here
      (run_ordered S proper mode arrivals n)) in
      let are : standing found.task at.jobs ≡ found.job ∷ (found.others ++ grows.fresh) =
      grows.is ∙ ap (λ ids. ids ++ grows.fresh) found.are in
      let own = subst (AllByRecursion (λ (m : JobId). (m.task == found.task) ≡ true)) are
      (each_of found.task at.jobs) in
      let stand = subst (AllByRecursion (λ (m : JobId). stands_in at m ≡ true)) are
      (each_stands S at executing.good.single found.task) in
      job_is_work S p at found.job
      (subst (λ t. p ≤ priority_of S t) (sym (equal found.job.task found.task own.0)) found.high)
      stand.0

  works : has_work S p here ≡ true → has_work S p at ≡ true
  works some = go here.active refl (some_pending S p here) refl some
    where
      beside : (b : Bool) → some_pending S p here ≡ b
          → (b || list_any (is_work S p) here.jobs) ≡ true → has_work S p at ≡ true
      beside true pends some =
          let one = some_pends S p here pends in
          pending_works S p (arriving arrivals here.tick) here one.which one.is
      beside false pends some = job_works (some_stands S p here.jobs some)

      by : (a : Active) → here.active ≡ Some a → (b : Bool) → goes_at S p a.routine ≡ b
          → (b || (some_pending S p here || list_any (is_work S p) here.jobs)) ≡ true
          → has_work S p at ≡ true
      by a active true goes some =
          active_works S p (arriving arrivals here.tick) here a active goes
      by a active false goes some = beside (some_pending S p here) refl some

      go : (o : Option Active) → here.active ≡ o → (b : Bool) → some_pending S p here ≡ b
          → (is_active_at S p o || (b || list_any (is_work S p) here.jobs)) ≡ true
          → has_work S p at ≡ true
      go None active b pends some = beside b pends some
      go (Some a) active b pends some =
          by a active (goes_at S p a.routine) refl
          (ap (λ q. goes_at S p a.routine || (q || list_any (is_work S p) here.jobs)) pends ∙ some)

pub work_stays : WorkStays
work_stays S mode arrivals p n proper going some = works S mode arrivals p n proper going some

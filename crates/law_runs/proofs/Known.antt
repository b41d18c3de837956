-- What is known where a service is called: the caller stands in the list, the tasks exist, and no refusal applies.
use Rattle.std.proofs.Common.{◌≡◌, ℕ, zero, suc, ◌<◌, Bool, true, false, cond, not, ◌||◌, List, [], ◌∷◌, length, refl, sym, ◌∙◌, ap, subst, arith}
use Rattle.std.specs.Prelude.{is_some, Option, Some, None, ◌==◌}
use Rattle.std.specs.List.{filter, list_all, AllByRecursion}
use Rattle.osek_base.specs.declared.status.Status.{Status}
use Rattle.osek_base.specs.declared.instr.Service.{Service}
use Rattle.osek_base.specs.Types.{ServiceCall}
use Rattle.osek_base.specs.Lists.{is_empty, below}
use Rattle.osek_base.specs.System.{System, task, no_task, alarm, no_alarm, is_extended, activation_of}
use Rattle.osek_base.specs.State.{Job, JobId, Active, State, same_id, jobs_of, job_of}
use Rattle.osek_base.specs.Activation.{is_full}
use Rattle.osek_base.specs.Service.{Caller, JobCalls, RoutineCalls, NobodyCalls, first_refusal, is_met}
use Rattle.osek_base.specs.Tick.{executor, caller_of, running_caller, job_caller}
use Rattle.osek_base.specs.Proper.{IsProper, is_proper_task, is_proper_alarm}
use Rattle.osek_base.proofs.PlaceLemmas.{all_at}
use Rattle.law_runs.proofs.Lists.{clash, all_weaker, all_any, all_append, found}
use Rattle.law_runs.proofs.Foremost.{same_ids}
use Rattle.std.proofs.lemmas.Bool.{and_parts}

-- the job that calls runs, and is the first of its id
pub record IsRunningCaller (s : State) (j : Job) : Type 0 where
  pub runs : s.running ≡ Some j.id
  pub idle : s.active ≡ None
  pub found : job_of j.id s.jobs ≡ Some j

abbrev pub IsCaller : State → Caller → Type 0
IsCaller s (JobCalls j) = IsRunningCaller s j
IsCaller s (RoutineCalls a) = s.active ≡ Some a
IsCaller s NobodyCalls = Unit {0}

-- the task that a service activates exists
abbrev pub ActivatesKnown : System → ServiceCall → Type 0
ActivatesKnown S (Service.ActivateTask (Some t)) = t < length S.tasks
ActivatesKnown S (Service.ChainTask (Some t)) = t < length S.tasks
ActivatesKnown S _ = Unit {0}

-- ---- refusals

pub passed : (b : Bool) (e : Status) (rest : List (Bool × Status)) → first_refusal ((b, e) ∷ rest) ≡ None
    → (b ≡ false) × (first_refusal rest ≡ None)
passed true e rest h = absurd (grind arith)
passed false e rest h = (refl, h)

-- where nothing is refused, no test applies
pub all_passed : (rs : List (Bool × Status)) → first_refusal rs ≡ None → AllByRecursion (λ r. r.0 ≡ false) rs
all_passed [] h = tt
all_passed ((b, e) ∷ rs) h = let both = passed b e rs h in (both.0, all_passed rs both.1)

-- a job that is met waits
pub met_waits : (m : ℕ) (o : Option ℕ) → is_met m o ≡ true → is_some o ≡ true
met_waits m None h = clash (sym h)
met_waits m (Some n) h = refl

-- ---- who executes

runner_calls : (s : State) (running : Option JobId) → s.running ≡ running → s.active ≡ None → IsCaller s (running_caller running s.jobs)
runner_calls s None e idle = tt
runner_calls s (Some r) e idle = go (job_of r s.jobs) refl
  where
    go : (o : Option Job) → job_of r s.jobs ≡ o → IsCaller s (job_caller o)
    go None h = tt
    go (Some j) h =
        let here = found (λ k. Unit {0}) (λ k. same_id k.id r) s.jobs j (all_any (λ k. Unit {0}) s.jobs (λ k. tt)) h in
        let same : j.id ≡ r = same_ids j.id r here.1 in
        record {
          runs = e ∙ ap Some (sym same);
          idle = idle;
          found = subst (λ n. job_of n s.jobs ≡ Some j) (sym same) h;
        }

pub executor_calls : (s : State) → IsCaller s (executor s)
executor_calls s = go s.active refl
  where
    go : (o : Option Active) → s.active ≡ o → IsCaller s (caller_of o s.running s.jobs)
    go None e = runner_calls s s.running refl e
    go (Some a) e = e

-- ---- tasks and alarms of a proper system

pub each_task : (S : System) → IsProper S → list_all (is_proper_task S) S.tasks ≡ true
each_task S proper = (and_parts _ _ (and_parts _ _ (and_parts _ _ (and_parts _ _ (and_parts _ _ proper.objects).0).0).0).0).1

pub each_alarm : (S : System) → IsProper S → list_all (is_proper_alarm S) S.alarms ≡ true
each_alarm S proper = (and_parts _ _ proper.objects).1

pub proper_at : (S : System) (t : ℕ) → IsProper S → t < length S.tasks → is_proper_task S (task S t) ≡ true
proper_at S t proper inside = all_at (is_proper_task S) S.tasks t no_task inside (each_task S proper)

pub proper_alarm_at : (S : System) (a : ℕ) → IsProper S → a < length S.alarms → is_proper_alarm S (alarm S a) ≡ true
proper_alarm_at S a proper inside = all_at (is_proper_alarm S) S.alarms a no_alarm inside (each_alarm S proper)

once : (b : Bool) (n : ℕ) → (b || n == 1) ≡ true → not b ≡ true → n ≡ 1
once true n h k = clash (sym k)
once false n h k = grind (arith, h)

-- an extended task has one job at most
pub single_activation : (S : System) (t : ℕ) → IsProper S → t < length S.tasks → is_extended S t ≡ true → activation_of S t ≡ 1
single_activation S t proper inside extended =
    let here = and_parts _ _ (and_parts _ _ (and_parts _ _ (and_parts _ _ (proper_at S t proper inside)).0).0).0 in
    once (is_empty (task S t).events) (activation_of S t) (and_parts _ _ here.0).1 extended

-- ---- room

pub none_kept : {X : Type 0} (test : X → Bool) (xs : List X) → length (filter test xs) < 1 → AllByRecursion (λ x. test x ≡ false) xs
none_kept test [] h = tt
none_kept test (x ∷ xs) h = go (test x) refl h (none_kept test xs)
  where
    go : (b : Bool) → test x ≡ b → length (cond b (x ∷ filter test xs) (filter test xs)) < 1
        → (length (filter test xs) < 1 → AllByRecursion (λ y. test y ≡ false) xs) → AllByRecursion (λ y. test y ≡ false) (x ∷ xs)
    go true e k rest = absurd (omega arith)
    go false e k rest = (e, rest k)

-- no two jobs of an extended task: where one can be added, there is none
abbrev pub HasRoom : System → ℕ → List Job → Type 0
HasRoom S t jobs = AllByRecursion (λ j. j.id.task ≡ t → is_extended S t ≡ false) jobs

pub full_room : (S : System) (t : ℕ) (s : State) → IsProper S → t < length S.tasks → is_full S s t ≡ false → HasRoom S t s.jobs
full_room S t s proper inside full = go (is_extended S t) refl
  where
    go : (b : Bool) → is_extended S t ≡ b → HasRoom S t s.jobs
    go false e = all_any (λ j. j.id.task ≡ t → is_extended S t ≡ false) s.jobs (λ j h. e)
    go true e =
        let one : activation_of S t ≡ 1 = single_activation S t proper inside e in
        let few : length (jobs_of t s.jobs) < activation_of S t = grind (arith, full) in
        let none : length (jobs_of t s.jobs) < 1 = omega arith in
        all_weaker (λ j. (j.id.task == t) ≡ false) (λ j. j.id.task ≡ t → is_extended S t ≡ false) s.jobs
        (λ j h k. clash (sym (same j.id.task k) ∙ h)) (none_kept (λ j. j.id.task == t) s.jobs none)
      where
        same : (n : ℕ) → n ≡ t → (n == t) ≡ true
        same n k = grind (arith, k)

-- ---- numbers below

pub all_below : (n : ℕ) → AllByRecursion (λ a. a < n) (below n)
all_below zero = tt
all_below (suc n) =
    all_append (λ a. a < suc n) (below n) (n ∷ [])
    (all_weaker (λ a. a < n) (λ a. a < suc n) (below n) (λ a h. omega (arith, h)) (all_below n)) (omega arith, tt)

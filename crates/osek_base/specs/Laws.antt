-- The theorems over whole runs, as public contracts cite them.
use Rattle.std.specs.Prelude.{ℕ, ◌≡◌, ◌<◌, ◌≤◌, Bool, false, not, ◌&&◌, ◌==◌, List, [], ◌∷◌, ◌++◌, drop, Some, IsTrue, IsFalse, length}
use Rattle.std.specs.List.{list_all, list_any, Contains}
use Rattle.osek_base.specs.Types.{ResId, Owner, Service, ServiceCall, Instr, Status, Results, Outcome, TraceEvent}
use Rattle.osek_base.specs.System.{System, mode_count}
use Rattle.osek_base.specs.State.{Job, JobId, jobs_of, shared_window}
use Rattle.osek_base.specs.Service.{may_take}
use Rattle.osek_base.specs.Tick.{Step}
use Rattle.osek_base.specs.Trace.{Arrival, boot, run}
use Rattle.osek_base.specs.Separable.{Separable}
use Rattle.osek_base.specs.Agree.{Agree, upper_core, upper_part}
use Rattle.osek_base.specs.View.{view}
use Rattle.osek_base.specs.Blocker.{executing_job, executes, is_ready_from, blockers}
use Rattle.osek_base.specs.GoodState.{IsGood, IsShaped}
use Rattle.osek_base.specs.Proper.{IsProper}

-- two systems have one view at p: in each mode, under the same arrivals, after every number of ticks
abbrev pub HaveOneView : System → System → ℕ → Type 0
HaveOneView S T p =
    (mode : ℕ) (arrivals : List Arrival) (n : ℕ) → mode < mode_count S
    → view S p (run S mode arrivals n) ≡ view T p (run T mode arrivals n)

-- isolation: whatever proper and separable system agrees with S from p upward has the same view, under the same arrivals
abbrev pub IsIsolated : System → ℕ → Type 0
IsIsolated S p = (B : System) → IsProper B → Separable B p → Agree S B p → HaveOneView S B p

-- the view of a system is that of its upper part run by itself
abbrev pub IsItsUpperPart : System → ℕ → Type 0
IsItsUpperPart S p = HaveOneView S (upper_part S p) p

-- the view of a system is that of its upper core, which says isolation of one system alone
abbrev pub HasTheViewOfItsCore : System → ℕ → Type 0
HasTheViewOfItsCore S p = HaveOneView S (upper_core S p) p

-- exclusion: a GetResource by a job that may take the resource is answered E_OS_ACCESS only where that job itself holds it
abbrev pub Excludes : System → ℕ → List Arrival → ℕ → Type 0
Excludes S mode arrivals n =
    (step : Step) (j : Job) (r : ResId) → Contains (run S mode arrivals n).steps step
    → executing_job step ≡ Some j → IsTrue (may_take S j.id.task r)
    → Contains step.events (TraceEvent.Executed (Owner.Task j.id.task) j.context.place (Instr.Service (Service.GetResource (Some r))) (Outcome.Answer Status.Access Results.Nothing))
    → Contains j.held r

-- single start: of one task no job but the oldest is begun
abbrev pub StartsSingly : System → ℕ → List Arrival → ℕ → Type 0
StartsSingly S mode arrivals n =
    (t : ℕ) → IsTrue (list_all (λ j. not j.begun) (drop 1 (jobs_of t (run S mode arrivals n).state.jobs)))

-- single blocking: each time that a job becomes ready, it has at most one blocker
abbrev pub BlocksOnce : System → ℕ → List Arrival → ℕ → Type 0
BlocksOnce S mode arrivals n =
    (u : ℕ) (job : JobId) → IsTrue (is_ready_from S (boot S mode).state (run S mode arrivals n).steps u job)
    → length (blockers S (run S mode arrivals n).steps u job) ≤ 1

-- ---- shared data

abbrev pub is_get : ℕ → ServiceCall → Bool
is_get r (Service.GetResource (Some (ResId.Declared q))) = q == r
is_get r _ = false

abbrev pub is_release : ℕ → ServiceCall → Bool
is_release r (Service.ReleaseResource (Some (ResId.Declared q))) = q == r
is_release r _ = false

abbrev pub is_store : ℕ → ServiceCall → Bool
is_store r (Service.StoreShared (Some (ResId.Declared q)) i v) = q == r
is_store r _ = false

-- whether a record tells of a service that passes the test and was answered E_OK
abbrev pub tells : (ServiceCall → Bool) → TraceEvent → Bool
tells test (TraceEvent.Executed who place (Instr.Service call) (Outcome.Answer Status.Ok found)) = test call
tells test _ = false

-- whether in a step the job of that id calls such a service, which is answered E_OK
abbrev pub does : (ServiceCall → Bool) → JobId → Step → Bool
does test n step = executes n step && list_any (tells test) step.events

-- the window of a resource after some steps, of which there is one at least
abbrev pub shared_after : ℕ → Step → List Step → List ℕ
shared_after r step [] = shared_window step.after.shared r
shared_after r step (next ∷ rest) = shared_after r next rest

-- protection: from a job's GetResource until its ReleaseResource, each answered E_OK, the words of the resource change only
-- by that job's own STR
abbrev pub Protects : System → ℕ → List Arrival → ℕ → Type 0
Protects S mode arrivals n =
    (r : ℕ) (job : JobId) (earlier between : List Step) (got next : Step)
    → (run S mode arrivals n).steps ≡ earlier ++ got ∷ between ++ next ∷ []
    → IsTrue (does (is_get r) job got) → IsFalse (list_any (does (is_release r) job) between)
    → IsFalse (does (is_store r) job next)
    → shared_window next.after.shared r ≡ shared_after r got between

-- every state of a run of a proper system is good, and has its shape
abbrev pub StaysGood : Type 0
StaysGood =
    (S : System) (mode : ℕ) (arrivals : List Arrival) (n : ℕ) → IsProper S → mode < mode_count S
    → IsGood S (run S mode arrivals n).state × IsShaped S (run S mode arrivals n).state

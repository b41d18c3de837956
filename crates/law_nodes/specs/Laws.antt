-- Steps of nodes, tables that are closed, and runs.
use Rattle.std.specs.Prelude.{ℕ, ◌≡◌, true, false, List, IfSome}
use Rattle.osek_base.specs.declared.arrivals.Arrival.{Arrival}
use Rattle.osek_base.specs.Proper.{IsProper}
use Rattle.osek_base.specs.Service.{JobCalls, RoutineCalls}
use Rattle.osek_base.specs.State.{Active, Job, State, job_of}
use Rattle.osek_base.specs.System.{System}
use Rattle.osek_base.specs.Trace.{run}
use Rattle.law_costs.specs.Left.{switch_of}
use Rattle.law_costs.specs.Known.{Executes, IsKnownAt, StaysKnown, behind_by}
use Rattle.law_nodes.specs.Closed.{is_closed, known_by}
use Rattle.law_nodes.specs.Nodes.{Node, Table, is_at, is_told, of_job, of_routine}
use Rattle.law_nodes.specs.Steps.{steps}

-- a job that executes at a node stands at one of the node's steps behind that, if it is still
-- there; and so does a routine
pub record AreSound (S : System) : Type 0 where
  pub job : (n : Node) (s : State) (j : Job) → Executes S (JobCalls j) s
      → is_at n (of_job (switch_of s) j) ≡ true
      → IfSome (job_of j.id (behind_by S (JobCalls j) s).jobs)
      (λ k. is_told (steps S n) (of_job (switch_of (behind_by S (JobCalls j) s)) k) ≡ true)
  pub routine : (n : Node) (s : State) (a : Active) → Executes S (RoutineCalls a) s
      → is_at n (of_routine (switch_of s) a) ≡ true
      → IfSome (behind_by S (RoutineCalls a) s).active
      (λ b. is_told (steps S n) (of_routine (switch_of (behind_by S (RoutineCalls a) s)) b) ≡ true)

-- ---- the laws

abbrev pub StepsAreSound : Type 0
StepsAreSound = (S : System) → AreSound S

-- so what a closed table tells stays known
abbrev pub ClosedTablesStayKnown : Type 0
ClosedTablesStayKnown =
    (S : System) (table : Table) → is_closed S table ≡ true → StaysKnown S (known_by table)

-- and who executes in each run of a proper system stands at a node of it
abbrev pub RunsAreTold : Type 0
RunsAreTold =
    (S : System) (mode : ℕ) (arrivals : List Arrival) (table : Table) → IsProper S
    → is_closed S table ≡ true → (n : ℕ) → (run S mode arrivals n).state.over ≡ false
    → IsKnownAt S mode arrivals (known_by table) n

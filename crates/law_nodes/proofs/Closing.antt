-- What a closed table tells stays known.
use Rattle.std.proofs.Common.{◌≡◌, ℕ, ◌<◌, Bool, true, not, ◌||◌, refl, sym, ◌∙◌, ap, subst}
use Rattle.std.specs.Prelude.{Option, Some, None, IfSome, is_some, length, replicate}
use Rattle.std.specs.List.{list_all}
use Rattle.std.proofs.lemmas.Bool.{and_parts}
use Rattle.osek_base.specs.declared.ids.Owner.{Owner}
use Rattle.osek_base.specs.declared.limits.TheConstants.{REGISTERS}
use Rattle.osek_base.specs.Activation.{new_job, woken}
use Rattle.osek_base.specs.Lists.{below}
use Rattle.osek_base.specs.Service.{JobCalls, RoutineCalls}
use Rattle.osek_base.specs.State.{Job, JobId, job_of, waits}
use Rattle.osek_base.specs.System.{System}
use Rattle.law_costs.proofs.Known.{runs_are_known}
use Rattle.law_nodes.specs.Closed.{goes_on_in, has_fresh, is_closed, known_by}
use Rattle.law_windows.specs.Routines.{begun}
use Rattle.law_costs.specs.Left.{on, switch_of}
use Rattle.law_costs.specs.Known.{behind_by}
use Rattle.law_nodes.specs.Laws.{ClosedTablesStayKnown, RunsAreTold}
use Rattle.law_nodes.specs.Nodes.{Node, Standing, Table, covers, fresh_node, is_at, is_covered, is_told, of_job, of_routine, with_awaited, woken_node}
use Rattle.law_nodes.specs.Steps.{steps}
use Rattle.law_nodes.proofs.Knowing.{AreValues}
use Rattle.law_nodes.proofs.Sound.{steps_are_sound}
use Rattle.law_nodes.proofs.Standing.{at_is, covered_at, is_at_of}
use Rattle.law_nodes.proofs.Tests.{any_weaker, by_any, one_below}

-- ---- tables

fresh_values : AreValues (replicate REGISTERS (Some 0)) (replicate REGISTERS 0)
fresh_values = (refl, (refl, (refl, (refl, (refl, (refl, (refl, (refl, tt))))))))

module _ (table : Table) (x : Standing) where
  -- who stands at a node that is covered is told
  told_covered : (n : Node) → is_at n x ≡ true → is_covered table n ≡ true → is_told table x ≡ true
  told_covered n at covered =
      any_weaker (λ m. covers m n) (λ m. is_at m x) table (λ m over. covered_at m n x over at)
      covered

  -- so is who stands at one of some nodes that are
  all_covered : (some : Table) → is_told some x ≡ true → list_all (is_covered table) some ≡ true
      → is_told table x ≡ true
  all_covered some told covered =
      by_any (is_told table x ≡ true) (λ n. is_at n x) (is_covered table) some told_covered told
      covered

module _ (S : System) (table : Table) (closed : is_closed S table ≡ true) where
  fresh : has_fresh S table ≡ true
  fresh = (and_parts (has_fresh S table) (list_all (goes_on_in S table) table) closed).0

  goes_on : list_all (goes_on_in S table) table ≡ true
  goes_on = (and_parts (has_fresh S table) (list_all (goes_on_in S table) table) closed).1

  abbrev fresh_tasks : Bool
  fresh_tasks =
      list_all (λ t. is_covered table (fresh_node (Owner.Task t))) (below (length S.tasks))

  abbrev fresh_routines : Bool
  fresh_routines =
      list_all (λ i. is_covered table (fresh_node (Owner.Routine i))) (below (length S.routines))

  job_fresh : (n : JobId) → n.task < length S.tasks
      → is_told table (of_job on (new_job n)) ≡ true
  job_fresh n inside =
      told_covered table (of_job on (new_job n)) (fresh_node (Owner.Task n.task))
      (is_at_of (of_job on (new_job n)) (replicate REGISTERS (Some 0)) 0 fresh_values)
      (one_below (λ t. is_covered table (fresh_node (Owner.Task t))) (length S.tasks) n.task inside
      (and_parts fresh_tasks fresh_routines fresh).0)

  routine_fresh : (i : ℕ) → i < length S.routines
      → is_told table (of_routine on (begun i)) ≡ true
  routine_fresh i inside =
      told_covered table (of_routine on (begun i)) (fresh_node (Owner.Routine i))
      (is_at_of (of_routine on (begun i)) (replicate REGISTERS (Some 0)) 0 fresh_values)
      (one_below (λ k. is_covered table (fresh_node (Owner.Routine k))) (length S.routines) i inside
      (and_parts fresh_tasks fresh_routines fresh).1)

  -- a job whose wait ends
  woken_told : (j : Job) → waits j ≡ true → is_told table (of_job on j) ≡ true
      → is_told table (of_job on (woken j)) ≡ true
  woken_told j waiting told =
      by_any (is_told table (of_job on (woken j)) ≡ true) (λ n. is_at n (of_job on j))
      (goes_on_in S table) table one told goes_on
    where
      one : (n : Node) → is_at n (of_job on j) ≡ true → goes_on_in S table n ≡ true
          → is_told table (of_job on (woken j)) ≡ true
      one n at on_in =
          let is = at_is n (of_job on j) at in
          let wakes =
          (and_parts (list_all (is_covered table) (steps S n))
          (not (is_some n.waits_for) || is_covered table (woken_node n)) on_in).1 in
          told_covered table (of_job on (woken j)) (woken_node n)
          (subst (λ m. is_at (woken_node m) (of_job on (woken j)) ≡ true) (sym is.0)
          (is_at_of (of_job on (woken j)) n.registers (with_awaited n.used j.waits_for) is.1))
          (ap (λ b. not b || is_covered table (woken_node n))
          (sym (ap (λ (m : Node). is_some m.waits_for) is.0 ∙ waiting))
          ∙ wakes)

  -- who stands at a node of the table, if it stands at one of its steps behind its instruction
  step_told : {X : Type 0} (x : Standing) (after : X → Standing) (o : Option X)
      → is_told table x ≡ true
      → ((n : Node) → is_at n x ≡ true → IfSome o (λ y. is_told (steps S n) (after y) ≡ true))
      → IfSome o (λ y. is_told table (after y) ≡ true)
  step_told x after None told sound = tt
  step_told x after (Some y) told sound =
      by_any (is_told table (after y) ≡ true) (λ n. is_at n x) (goes_on_in S table) table
      (λ n at on_in.
      all_covered table (after y) (steps S n) (sound n at)
      (and_parts (list_all (is_covered table) (steps S n))
      (not (is_some n.waits_for) || is_covered table (woken_node n)) on_in).0)
      told goes_on

pub closed_tables_stay_known : ClosedTablesStayKnown
closed_tables_stay_known S table closed = record {
  fresh = job_fresh S table closed;
  started = routine_fresh S table closed;
  dispatched = λ j ready told. told;
  freed = woken_told S table closed;
  job = λ s j executes told.
      step_told S table closed (of_job (switch_of s) j)
      (of_job (switch_of (behind_by S (JobCalls j) s)))
      (job_of j.id (behind_by S (JobCalls j) s).jobs) told
      (λ n at. (steps_are_sound S).job n s j executes at);
  routine = λ s a executes told.
      step_told S table closed (of_routine (switch_of s) a)
      (of_routine (switch_of (behind_by S (RoutineCalls a) s)))
      (behind_by S (RoutineCalls a) s).active told
      (λ n at. (steps_are_sound S).routine n s a executes at);
}

pub runs_are_told : RunsAreTold
runs_are_told S mode arrivals table proper closed =
    runs_are_known S mode arrivals (known_by table) proper (closed_tables_stay_known S table closed)

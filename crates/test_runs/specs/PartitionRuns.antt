-- Partitions. Worked checks, views and upper parts by themselves.
use Rattle.std.specs.Prelude.{ℕ, true, ◌≡◌, IsTrue, List, [], ◌∷◌, Option, Some, None, codes, bytes_eq}
use Rattle.std.specs.List.{concat, flat_map}
use Rattle.osek_base.specs.declared.arrivals.Arrival.{Arrival}
use Rattle.osek_base.specs.declared.ids.Owner.{Owner}
use Rattle.osek_base.specs.declared.task.Property.{Property}
use Rattle.osek_base.specs.declared.ids.ResId.TheVariants.{Scheduler}
use Rattle.osek_base.specs.System.{System, Task}
use Rattle.osek_base.specs.Proper.{IsProper}
use Rattle.osek_base.specs.Trace.{run}
use Rattle.osek_base.specs.Separable.{first_denial}
use Rattle.osek_base.specs.Agree.{upper_part, upper_core}
use Rattle.osek_base.specs.View.{view, view_lines}
use Rattle.test_runs.specs.Worked.{no_hooks, task, autostarted, non, listing_resources, activating_from, to_seven, declared, arrival_in, of_tasks, with_routine, with_resource, with_event, with_alarm, with_hooks, IsWorkedRun, nop, li, st, jmp, act, term, gtid, gtst, getr, relr, srel, cana, galm, sai, rai, soi, reti}

-- ---- what holds of a system at 5

-- a proper system that is denied at 5, first by that rule, in that subject, at that place
pub record IsDenied (S : System) (rule : ℕ) (subject : Owner) (place : Option ℕ) : Type 0 where
  pub proper : IsProper S
  pub denied : first_denial S 5 ≡ Some (record { rule = rule; subject = subject; place = place })

-- the lines of a view in one text, and the words of its windows in one list
abbrev pub view_text : System → List Arrival → ℕ → List ℕ
view_text S arrivals n = concat (view_lines S 5 (run S 0 arrivals n))

abbrev pub view_windows : System → List Arrival → ℕ → List ℕ
view_windows S arrivals n = flat_map (λ seen. concat seen.windows) (view S 5 (run S 0 arrivals n))

-- a system has the view of its upper core
abbrev pub HasViewOfItsCore : System → List Arrival → ℕ → Type 0
HasViewOfItsCore S arrivals n = IsTrue (bytes_eq (view_text S arrivals n) (view_text (upper_core S 5) arrivals n))

abbrev pub HasWindowsOfItsCore : System → List Arrival → ℕ → Type 0
HasWindowsOfItsCore S arrivals n = IsTrue (bytes_eq (view_windows S arrivals n) (view_windows (upper_core S 5) arrivals n))

-- ---- systems

-- an upper task U, which an alarm activates in tick 2 and in each third tick from then on, beside a lower task L
abbrev pub beside : Task → Task → System
beside upper lower = with_alarm (activating_from 2 3 0) (of_tasks (codes "U" ∷ codes "L" ∷ []) (upper ∷ lower ∷ []))

abbrev pub upper : Task
upper = task 5 (li 1 9 ∷ term ∷ [])

-- a lower task that ends; the systems with it, and with one that goes round
abbrev pub ending : Task
ending = autostarted (task 1 (term ∷ []))

abbrev pub lower_ends : System
lower_ends = beside upper ending

abbrev pub lower_goes_round : System
lower_goes_round = beside upper (autostarted (task 1 (act (Some 1) ∷ jmp 0 ∷ [])))

-- the view of both at 5, in 7 ticks
abbrev pub every_third_tick : List (List ℕ)
every_third_tick =
    codes "0 other"
    ∷ codes "1 other"
    ∷ codes "2 U 0 LI r1, 9 -> 9"
    ∷ codes "3 U 1 TERM = 0"
    ∷ codes "4 other"
    ∷ codes "5 U 0 LI r1, 9 -> 9"
    ∷ codes "6 U 1 TERM = 0"
    ∷ []

-- lower objects declared before upper ones
abbrev pub mixed : System
mixed =
    let S =
    with_routine 1 (sai ∷ act (Some 0) ∷ rai ∷ act (Some 0) ∷ reti ∷ [])
    (with_event
    (with_hooks (record no_hooks { error = true; pre_task = true; post_task = true })
    (of_tasks (codes "V" ∷ codes "U" ∷ codes "L" ∷ [])
    (listing_resources (1 ∷ []) (task 7 (getr (declared 1) ∷ relr (declared 1) ∷ li 2 1 ∷ li 1 2 ∷ srel (Some 1) 1 0
    ∷ term ∷ []))
    ∷ listing_resources (1 ∷ []) (task 5 (getr (declared 1) ∷ act (Some 0) ∷ st 0 3 ∷ relr (declared 1) ∷ li 1 70
    ∷ st 1 1 ∷ term ∷ []))
    ∷ listing_resources (0 ∷ []) (autostarted (task 1 (getr (declared 0) ∷ li 1 3 ∷ st 1 1 ∷ relr (declared 0)
    ∷ galm (Some 0) ∷ jmp 6 ∷ term ∷ [])))
    ∷ []))))
    in
    record S {
      names = record S.names { resources = codes "Q" ∷ codes "R" ∷ []; alarms = codes "LA" ∷ codes "AL" ∷ [] };
      resources = Property.Standard ∷ Property.Standard ∷ [];
      counters = to_seven ∷ [];
      alarms = activating_from 3 2 2 ∷ activating_from 2 0 1 ∷ [];
    }

abbrev pub two_arrivals : List Arrival
two_arrivals = arrival_in 1 ∷ arrival_in 9 ∷ []

-- ---- runs, views and verdicts

pub record PartitionRuns : Type 0 where
  pub run_lower_ends :
      IsWorkedRun lower_ends [] 7
      (codes "0 L 0 TERM = 0"
      ∷ codes "1 idle"
      ∷ codes "2 U 0 LI r1, 9 -> 9"
      ∷ codes "3 U 1 TERM = 0"
      ∷ codes "4 idle"
      ∷ codes "5 U 0 LI r1, 9 -> 9"
      ∷ codes "6 U 1 TERM = 0"
      ∷ [])
  pub view_lower_ends : view_lines lower_ends 5 (run lower_ends 0 [] 7) ≡ every_third_tick
  pub alone_lower_ends : view_lines (upper_part lower_ends 5) 5 (run (upper_part lower_ends 5) 0 [] 7) ≡ every_third_tick
  pub check_lower_ends_at5 : first_denial lower_ends 5 ≡ None
  pub check_lower_ends_at6 : first_denial lower_ends 6 ≡ None
  pub core_lower_ends : HasViewOfItsCore lower_ends [] 7
  pub windows_lower_ends : HasWindowsOfItsCore lower_ends [] 7
  pub run_lower_goes_round :
      IsWorkedRun lower_goes_round [] 7
      (codes "0 L 0 ACT L = 4"
      ∷ codes "1 L 1 JMP 0"
      ∷ codes "2 U 0 LI r1, 9 -> 9"
      ∷ codes "3 U 1 TERM = 0"
      ∷ codes "4 L 0 ACT L = 4"
      ∷ codes "5 U 0 LI r1, 9 -> 9"
      ∷ codes "6 U 1 TERM = 0"
      ∷ [])
  pub view_lower_goes_round : view_lines lower_goes_round 5 (run lower_goes_round 0 [] 7) ≡ every_third_tick
  pub alone_lower_goes_round :
      view_lines (upper_part lower_goes_round 5) 5 (run (upper_part lower_goes_round 5) 0 [] 7) ≡ every_third_tick
  pub check_lower_goes_round : first_denial lower_goes_round 5 ≡ None
  pub core_lower_goes_round : HasViewOfItsCore lower_goes_round [] 7
  pub windows_lower_goes_round : HasWindowsOfItsCore lower_goes_round [] 7
  pub check_lower_takes_scheduler :
      IsDenied (beside upper (autostarted (task 1 (getr (Some Scheduler) ∷ term ∷ [])))) 3 (Owner.Task 1) (Some 0)
  pub check_routine_asks_task :
      IsDenied (with_routine 1 (gtid ∷ reti ∷ []) (beside upper ending)) 7 (Owner.Routine 0) (Some 0)
  pub check_lower_non_preemptable : IsDenied (beside upper (non ending)) 1 (Owner.Task 1) None
  pub check_shared_internal :
      IsDenied (with_resource Property.Internal
      (beside (listing_resources (0 ∷ []) upper) (listing_resources (0 ∷ []) ending))) 2 (Owner.Task 1) None
  pub check_lower_suspends : IsDenied (beside upper (autostarted (task 1 (soi ∷ term ∷ [])))) 4 (Owner.Task 1) (Some 0)
  pub check_lower_names_upper :
      IsDenied (beside upper (autostarted (task 1 (nop ∷ cana (Some 0) ∷ term ∷ [])))) 5 (Owner.Task 1) (Some 1)
  pub check_upper_names_lower : IsDenied (beside (task 5 (gtst (Some 1) ∷ term ∷ [])) ending) 6 (Owner.Task 0) (Some 0)
  -- two rules are broken
  pub check_two_breaches :
      IsDenied (with_routine 1 (gtid ∷ reti ∷ []) (beside upper (non ending))) 1 (Owner.Task 1) None
  pub proper_mixed : IsProper mixed
  pub check_mixed : first_denial mixed 5 ≡ None
  pub core_mixed : HasViewOfItsCore mixed two_arrivals 14
  pub windows_mixed : HasWindowsOfItsCore mixed two_arrivals 14

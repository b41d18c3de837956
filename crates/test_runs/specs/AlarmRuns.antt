-- OSEK/VDX OS: alarms. Worked runs with counters and alarms.
use Rattle.std.specs.Prelude.{true, [], ◌∷◌, Some, codes}
use Rattle.osek_base.specs.System.{System}
use Rattle.test_runs.specs.Worked.{no_hooks, task, autostarted, non, activating, activating_from, to_seven, of_tasks, alone, with_alarm, with_hooks, IsWorkedRun, nop, li, act, term, srel, sabs, cana, galm}

abbrev pub dispatch_at_end_of_tick : System
dispatch_at_end_of_tick =
    with_alarm (activating_from 2 0 0)
    (of_tasks (codes "V" ∷ codes "A" ∷ codes "U" ∷ [])
    (task 5 (term ∷ []) ∷ autostarted (task 3 (act (Some 2) ∷ term ∷ [])) ∷ non (task 1 (nop ∷ term ∷ [])) ∷ []))

-- the alarm declared first activates the task that is numbered last
abbrev pub two_alarms_due : System
two_alarms_due =
    let S =
    with_alarm (activating_from 2 0 1)
    (of_tasks (codes "A" ∷ codes "B" ∷ []) (task 1 (term ∷ []) ∷ task 1 (term ∷ []) ∷ []))
    in
    record S {
      names = record S.names { alarms = codes "AL" ∷ codes "BL" ∷ [] };
      alarms = activating_from 2 0 1 ∷ activating_from 2 0 0 ∷ [];
    }

abbrev pub absolute_start_now : System
absolute_start_now =
    with_alarm (activating 1)
    (of_tasks (codes "A" ∷ codes "B" ∷ [])
    (autostarted (task 1 (li 1 3 ∷ li 2 8 ∷ sabs (Some 0) 2 3 ∷ sabs (Some 0) 1 3 ∷ galm (Some 0) ∷ term ∷ []))
    ∷ task 1 (term ∷ [])
    ∷ []))

-- on a counter with a MINCYCLE of 2
abbrev pub refused_alarms : System
refused_alarms =
    record (with_alarm (activating 0) (alone (srel (Some 0) 1 1 ∷ li 1 1 ∷ li 2 5 ∷ srel (Some 0) 2 1 ∷ srel (Some 0) 2 3
    ∷ srel (Some 0) 2 3 ∷ cana (Some 0) ∷ cana (Some 0) ∷ term ∷ []))) {
      counters = record to_seven { min_cycle = 2 } ∷ [];
    }

abbrev pub large_counter : System
large_counter =
    record (with_alarm (activating 0) (alone (sabs (Some 0) 0 0 ∷ galm (Some 0) ∷ term ∷ []))) {
      counters = record { max_allowed_value = 2147483647; ticks_per_base = 1000000; min_cycle = 1 } ∷ [];
    }

pub record AlarmRuns : Type 0 where
  pub run_dispatch_at_end_of_tick :
      IsWorkedRun dispatch_at_end_of_tick [] 5
      (codes "0 A 0 ACT U = 0"
      ∷ codes "1 A 1 TERM = 0"
      ∷ codes "2 U 0 NOP"
      ∷ codes "3 U 1 TERM = 0"
      ∷ codes "4 V 0 TERM = 0"
      ∷ [])
  -- two alarms that are due in one tick act in declaration order
  pub run_two_alarms_due :
      IsWorkedRun two_alarms_due [] 5
      (codes "0 idle"
      ∷ codes "1 idle"
      ∷ codes "2 B 0 TERM = 0"
      ∷ codes "3 A 0 TERM = 0"
      ∷ codes "4 idle"
      ∷ [])
  -- an absolute start equal to the present value waits a whole round
  pub run_absolute_start_now :
      IsWorkedRun absolute_start_now [] 12
      (codes "0 A 0 LI r1, 3 -> 3"
      ∷ codes "1 A 1 LI r2, 8 -> 8"
      ∷ codes "2 A 2 SABS AL, r2, r3 = 8"
      ∷ codes "3 A 3 SABS AL, r1, r3 = 0"
      ∷ codes "4 A 4 GALM AL = 0 : 7"
      ∷ codes "5 A 5 TERM = 0"
      ∷ codes "6 idle"
      ∷ codes "7 idle"
      ∷ codes "8 idle"
      ∷ codes "9 idle"
      ∷ codes "10 idle"
      ∷ codes "11 B 0 TERM = 0"
      ∷ [])
  -- what alarm services refuse
  pub run_refused_alarms :
      IsWorkedRun refused_alarms [] 9
      (codes "0 A 0 SREL AL, r1, r1 = 8"
      ∷ codes "1 A 1 LI r1, 1 -> 1"
      ∷ codes "2 A 2 LI r2, 5 -> 5"
      ∷ codes "3 A 3 SREL AL, r2, r1 = 8"
      ∷ codes "4 A 4 SREL AL, r2, r3 = 0"
      ∷ codes "5 A 5 SREL AL, r2, r3 = 7"
      ∷ codes "6 A 6 CANA AL = 0"
      ∷ codes "7 A 7 CANA AL = 5"
      ∷ codes "8 A 8 TERM = 0"
      ∷ [])
  -- an alarm action that is refused
  pub run_refused_action :
      IsWorkedRun (with_hooks (record no_hooks { error = true }) (with_alarm (activating_from 2 0 0)
      (alone (nop ∷ nop ∷ nop ∷ term ∷ [])))) [] 4
      (codes "0 A 0 NOP"
      ∷ codes "1 A 1 NOP"
      ∷ codes "2 error @AL ACT A 4"
      ∷ codes "2 A 2 NOP"
      ∷ codes "3 A 3 TERM = 0"
      ∷ [])
  -- an absolute start at a large counter
  pub run_large_counter :
      IsWorkedRun large_counter [] 3
      (codes "0 A 0 SABS AL, r0, r0 = 0"
      ∷ codes "1 A 1 GALM AL = 0 : 2147483648"
      ∷ codes "2 A 2 TERM = 0"
      ∷ [])

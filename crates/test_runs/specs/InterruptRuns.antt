-- OSEK/VDX OS: interrupt processing. Worked runs with routines and with interrupts off.
use Rattle.std.specs.Prelude.{true, [], ◌∷◌, Some, None, codes}
use Rattle.osek_base.specs.declared.task.Property.{Property}
use Rattle.osek_base.specs.System.{System}
use Rattle.test_runs.specs.Worked.{quiet, one_mode, no_hooks, task, autostarted, listing_resources, activating_from, declared, arrival_in, of_tasks, alone, with_routine, with_resource, with_event, with_alarm, with_hooks, IsWorkedRun, nop, act, term, chain, sched, gtid, getr, relr, clre, wait, sai, rai, soi, roi, reti}

-- the alarm comes while A has turned interrupts off
abbrev pub interrupts_off : System
interrupts_off =
    with_hooks (record no_hooks { pre_task = true })
    (with_alarm (activating_from 1 0 0)
    (of_tasks (codes "B" ∷ codes "A" ∷ [])
    (task 2 (term ∷ []) ∷ autostarted (task 1 (soi ∷ nop ∷ act (Some 0) ∷ roi ∷ term ∷ [])) ∷ [])))

-- two routines, and no tasks
abbrev pub routines_alone : System
routines_alone =
    record quiet {
      names = record one_mode { routines = codes "I" ∷ codes "J" ∷ [] };
      routines = record { priority = 1; program = term ∷ reti ∷ [] } ∷ record { priority = 2; program = reti ∷ [] } ∷ [];
    }

abbrev pub routine_refused : System
routine_refused =
    with_routine 0 (term ∷ chain None ∷ sched ∷ wait 1 ∷ clre 1 ∷ getr (declared 0) ∷ relr (declared 0) ∷ getr None
    ∷ sai ∷ act (Some 0) ∷ reti ∷ [])
    (with_resource Property.Standard
    (with_event (of_tasks (codes "A" ∷ []) (listing_resources (0 ∷ []) (task 1 (term ∷ [])) ∷ []))))

pub record InterruptRuns : Type 0 where
  pub run_interrupts_off :
      IsWorkedRun interrupts_off [] 6
      (codes "0 pre A"
      ∷ codes "0 A 0 SOI"
      ∷ codes "1 A 1 NOP"
      ∷ codes "2 A 2 ACT B = 32"
      ∷ codes "3 A 3 ROI"
      ∷ codes "3 pre B"
      ∷ codes "4 B 0 TERM = 0"
      ∷ codes "4 pre A"
      ∷ codes "5 A 4 TERM = 0"
      ∷ [])
  -- a routine that arrives twice is pending once, and the higher one comes first
  pub run_routines_alone :
      IsWorkedRun routines_alone (arrival_in 1 ∷ arrival_in 1 ∷ record { tick = 1; routine = 1 } ∷ []) 5
      (codes "0 idle"
      ∷ codes "1 J 0 RETI"
      ∷ codes "2 I 0 TERM = 2"
      ∷ codes "3 I 1 RETI"
      ∷ codes "4 idle"
      ∷ [])
  pub run_nested_suspension :
      IsWorkedRun (with_routine 1 (gtid ∷ reti ∷ []) (alone (sai ∷ sai ∷ rai ∷ rai ∷ term ∷ []))) (arrival_in 1 ∷ []) 7
      (codes "0 A 0 SAI"
      ∷ codes "1 A 1 SAI"
      ∷ codes "2 A 2 RAI"
      ∷ codes "3 A 3 RAI"
      ∷ codes "4 I 0 GTID = 0 : 0"
      ∷ codes "5 I 1 RETI"
      ∷ codes "6 A 4 TERM = 0"
      ∷ [])
  -- what a routine may not call
  pub run_routine_refused :
      IsWorkedRun routine_refused (arrival_in 0 ∷ []) 12
      (codes "0 I 0 TERM = 2"
      ∷ codes "1 I 1 CHAIN INVALID = 2"
      ∷ codes "2 I 2 SCHED = 2"
      ∷ codes "3 I 3 WAIT 0x00000001 = 2"
      ∷ codes "4 I 4 CLRE 0x00000001 = 2"
      ∷ codes "5 I 5 GETR R = 1"
      ∷ codes "6 I 6 RELR R = 1"
      ∷ codes "7 I 7 GETR INVALID = 3"
      ∷ codes "8 I 8 SAI"
      ∷ codes "9 I 9 ACT A = 32"
      ∷ codes "10 I 10 RETI"
      ∷ codes "11 idle"
      ∷ [])

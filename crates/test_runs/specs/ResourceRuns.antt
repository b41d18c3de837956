-- OSEK/VDX OS: resource management. Worked runs with resources, RES_SCHEDULER and internal resources.
use Rattle.std.specs.Prelude.{ℕ, List, [], ◌∷◌, Some, None, codes}
use Rattle.osek_base.specs.declared.task.Property.{Property}
use Rattle.osek_base.specs.declared.ids.ResId.TheVariants.{Scheduler}
use Rattle.osek_base.specs.System.{System}
use Rattle.osek_base.specs.declared.instr.Instr.{Instr}
use Rattle.osek_base.specs.State.{JobId}
use Rattle.test_runs.specs.Worked.{task, autostarted, listing_resources, declared, of_tasks, with_resource, IsWorkedRun, TellsBlockers, HasBlockers, nop, li, act, term, chain, sched, getr, relr, ldr, str, sai}

abbrev pub nested_resources : System
nested_resources =
    let S =
    of_tasks (codes "C" ∷ codes "B" ∷ codes "A" ∷ [])
    (listing_resources (1 ∷ []) (task 3 (term ∷ []))
    ∷ listing_resources (0 ∷ []) (task 2 (term ∷ []))
    ∷ listing_resources (0 ∷ 1 ∷ []) (autostarted (task 1 (getr (declared 0) ∷ getr (declared 1) ∷ relr (declared 0)
    ∷ act (Some 1) ∷ act (Some 0) ∷ relr (declared 1) ∷ relr (declared 0) ∷ term ∷ [])))
    ∷ [])
    in
    record S {
      names = record S.names { resources = codes "R" ∷ codes "S" ∷ [] };
      resources = Property.Standard ∷ Property.Standard ∷ [];
    }

-- the first job of a task
abbrev pub first_of : ℕ → JobId
first_of t = record { task = t; serial = 0 }

-- one task A that lists R
abbrev pub lister_alone : List Instr → System
lister_alone program =
    with_resource Property.Standard
    (of_tasks (codes "A" ∷ []) (listing_resources (0 ∷ []) (autostarted (task 1 program)) ∷ []))

-- B has as many jobs as it may while A holds R
abbrev pub checks_in_order : System
checks_in_order =
    with_resource Property.Standard
    (of_tasks (codes "A" ∷ codes "B" ∷ [])
    (listing_resources (0 ∷ []) (autostarted (task 1 (act (Some 1) ∷ getr (declared 0) ∷ chain None ∷ chain (Some 1)
    ∷ relr (declared 0) ∷ chain (Some 1) ∷ term ∷ [])))
    ∷ task 1 (term ∷ [])
    ∷ []))

-- A and C have one internal resource, and D has a priority between theirs
abbrev pub schedule : System
schedule =
    with_resource Property.Internal
    (of_tasks (codes "C" ∷ codes "D" ∷ codes "A" ∷ codes "B" ∷ [])
    (listing_resources (0 ∷ []) (task 3 (term ∷ []))
    ∷ task 2 (term ∷ [])
    ∷ listing_resources (0 ∷ []) (autostarted (task 1 (act (Some 3) ∷ sched ∷ act (Some 1) ∷ nop ∷ sched ∷ term ∷ [])))
    ∷ task 1 (term ∷ [])
    ∷ []))

abbrev pub res_scheduler : System
res_scheduler =
    of_tasks (codes "B" ∷ codes "A" ∷ [])
    (task 2 (term ∷ [])
    ∷ autostarted (task 1 (getr (Some Scheduler) ∷ act (Some 0) ∷ getr (Some Scheduler) ∷ relr (Some Scheduler) ∷ term ∷ []))
    ∷ [])

abbrev pub shared_words : System
shared_words =
    with_resource Property.Standard
    (of_tasks (codes "B" ∷ codes "A" ∷ [])
    (listing_resources (0 ∷ []) (task 2 (getr (declared 0) ∷ li 2 1 ∷ ldr (declared 0) 2 ∷ relr (declared 0) ∷ term ∷ []))
    ∷ listing_resources (0 ∷ []) (autostarted (task 1 (li 1 17 ∷ li 2 7 ∷ str (declared 0) 1 2
    ∷ getr (declared 0) ∷ str (declared 0) 1 2 ∷ act (Some 0) ∷ relr (declared 0) ∷ term ∷ [])))
    ∷ []))

pub record ResourceRuns : Type 0 where
  pub run_nested_resources :
      IsWorkedRun nested_resources [] 10
      (codes "0 A 0 GETR R = 0"
      ∷ codes "1 A 1 GETR S = 0"
      ∷ codes "2 A 2 RELR R = 5"
      ∷ codes "3 A 3 ACT B = 0"
      ∷ codes "4 A 4 ACT C = 0"
      ∷ codes "5 A 5 RELR S = 0"
      ∷ codes "6 C 0 TERM = 0"
      ∷ codes "7 A 6 RELR R = 0"
      ∷ codes "8 B 0 TERM = 0"
      ∷ codes "9 A 7 TERM = 0"
      ∷ [])
  pub blocking_nested_resources :
      TellsBlockers nested_resources [] 10
      (codes "0 A 0 GETR R = 0 ! 0"
      ∷ codes "1 A 1 GETR S = 0"
      ∷ codes "2 A 2 RELR R = 5"
      ∷ codes "3 A 3 ACT B = 0"
      ∷ codes "4 A 4 ACT C = 0"
      ∷ codes "5 A 5 RELR S = 0"
      ∷ codes "6 C 0 TERM = 0 ! 1"
      ∷ codes "7 A 6 RELR R = 0 ! 0"
      ∷ codes "8 B 0 TERM = 0 ! 1"
      ∷ codes "9 A 7 TERM = 0 ! 0"
      ∷ [])
  pub blockers_nested_resources_at0 : HasBlockers nested_resources [] 10 0 (first_of 2) 0
  pub blockers_nested_resources_at5 : HasBlockers nested_resources [] 10 5 (first_of 0) 1
  pub blockers_nested_resources_at4 : HasBlockers nested_resources [] 10 4 (first_of 1) 1
  pub blockers_nested_resources_at6 : HasBlockers nested_resources [] 10 6 (first_of 2) 0
  pub blockers_nested_resources_at8 : HasBlockers nested_resources [] 10 8 (first_of 2) 0
  -- a task that holds a resource may not end
  pub run_no_end_while_holding :
      IsWorkedRun (lister_alone (getr (declared 0) ∷ term ∷ relr (declared 0) ∷ term ∷ [])) [] 4
      (codes "0 A 0 GETR R = 0"
      ∷ codes "1 A 1 TERM = 6"
      ∷ codes "2 A 2 RELR R = 0"
      ∷ codes "3 A 3 TERM = 0"
      ∷ [])
  -- a call that two checks would refuse is answered by the first: E_OS_ID, then E_OS_RESOURCE, then E_OS_LIMIT
  pub run_checks_in_order :
      IsWorkedRun checks_in_order [] 8
      (codes "0 A 0 ACT B = 0"
      ∷ codes "1 A 1 GETR R = 0"
      ∷ codes "2 A 2 CHAIN INVALID = 3"
      ∷ codes "3 A 3 CHAIN B = 6"
      ∷ codes "4 A 4 RELR R = 0"
      ∷ codes "5 A 5 CHAIN B = 4"
      ∷ codes "6 A 6 TERM = 0"
      ∷ codes "7 B 0 TERM = 0"
      ∷ [])
  -- an internal resource is given up by Schedule alone, and only for a task of higher priority
  pub run_schedule :
      IsWorkedRun schedule [] 8
      (codes "0 A 0 ACT B = 0"
      ∷ codes "1 A 1 SCHED = 0"
      ∷ codes "2 A 2 ACT D = 0"
      ∷ codes "3 A 3 NOP"
      ∷ codes "4 A 4 SCHED = 0"
      ∷ codes "5 D 0 TERM = 0"
      ∷ codes "6 A 5 TERM = 0"
      ∷ codes "7 B 0 TERM = 0"
      ∷ [])
  pub run_res_scheduler :
      IsWorkedRun res_scheduler [] 6
      (codes "0 A 0 GETR RES_SCHEDULER = 0"
      ∷ codes "1 A 1 ACT B = 0"
      ∷ codes "2 A 2 GETR RES_SCHEDULER = 1"
      ∷ codes "3 A 3 RELR RES_SCHEDULER = 0"
      ∷ codes "4 B 0 TERM = 0"
      ∷ codes "5 A 4 TERM = 0"
      ∷ [])
  -- two tasks share the words of a resource: the one that doesn't hold it may not write, the index counts mod 16
  pub run_shared_words :
      IsWorkedRun shared_words [] 13
      (codes "0 A 0 LI r1, 17 -> 17"
      ∷ codes "1 A 1 LI r2, 7 -> 7"
      ∷ codes "2 A 2 STR R, r1, r2 = 1"
      ∷ codes "3 A 3 GETR R = 0"
      ∷ codes "4 A 4 STR R, r1, r2 = 0"
      ∷ codes "5 A 5 ACT B = 0"
      ∷ codes "6 A 6 RELR R = 0"
      ∷ codes "7 B 0 GETR R = 0"
      ∷ codes "8 B 1 LI r2, 1 -> 1"
      ∷ codes "9 B 2 LDR R, r2 = 0 : 7"
      ∷ codes "10 B 3 RELR R = 0"
      ∷ codes "11 B 4 TERM = 0"
      ∷ codes "12 A 7 TERM = 0"
      ∷ [])
  -- RES_SCHEDULER has no words, though the caller holds it, and neither has INVALID; interrupts being off comes first
  pub run_shared_refused :
      IsWorkedRun (lister_alone (getr (Some Scheduler) ∷ str (Some Scheduler) 0 0 ∷ ldr None 0 ∷ ldr (declared 0) 0
      ∷ relr (Some Scheduler) ∷ sai ∷ str None 0 0 ∷ term ∷ [])) [] 7
      (codes "0 A 0 GETR RES_SCHEDULER = 0"
      ∷ codes "1 A 1 STR RES_SCHEDULER, r0, r0 = 1"
      ∷ codes "2 A 2 LDR INVALID, r0 = 3"
      ∷ codes "3 A 3 LDR R, r0 = 1"
      ∷ codes "4 A 4 RELR RES_SCHEDULER = 0"
      ∷ codes "5 A 5 SAI"
      ∷ codes "6 A 6 STR INVALID, r0, r0 = 32"
      ∷ [])

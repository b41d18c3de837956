-- OSEK/VDX OS: task management. Worked runs of tasks: activation, preemption, ends, chaining, Schedule, plain instructions.
use Rattle.std.specs.Prelude.{ℕ, true, ◌≡◌, List, [], ◌∷◌, Some, None, codes}
use Rattle.osek_base.specs.declared.status.Class.{Class}
use Rattle.osek_base.specs.declared.instr.Operation.TheVariants.{Add, Mul}
use Rattle.osek_base.specs.declared.instr.Comparison.TheVariants.{Less}
use Rattle.osek_base.specs.System.{System}
use Rattle.osek_base.specs.Classes.{class_of}
use Rattle.test_runs.specs.Worked.{no_hooks, task, autostarted, with_activation, non, of_tasks, alone, with_event, with_hooks, IsWorkedRun, nop, li, compute, ld, st, jump_if, act, term, chain, sched, gtid, gtst, sete, wait, shut}

-- a job of D activates A and B in turn, and A once too often
abbrev pub activation_order : System
activation_order =
    with_hooks (record no_hooks { error = true })
    (of_tasks (codes "D" ∷ codes "A" ∷ codes "B" ∷ [])
    (autostarted (task 9 (act (Some 1) ∷ act (Some 2) ∷ act (Some 1) ∷ act (Some 2) ∷ act (Some 1)
    ∷ act (Some 1) ∷ term ∷ []))
    ∷ with_activation 3 (task 1 (term ∷ []))
    ∷ with_activation 3 (task 1 (term ∷ []))
    ∷ []))

-- A activates B, of its priority, and C, of a higher one, which preempts it
abbrev pub preempting : ℕ → ℕ → System
preempting higher lower =
    with_hooks (record no_hooks { pre_task = true; post_task = true })
    (of_tasks (codes "C" ∷ codes "A" ∷ codes "B" ∷ [])
    (task higher (term ∷ [])
    ∷ autostarted (task lower (act (Some 2) ∷ act (Some 0) ∷ nop ∷ term ∷ []))
    ∷ task lower (term ∷ [])
    ∷ []))

-- its lines
abbrev pub oldest_lines : List (List ℕ)
oldest_lines =
    codes "0 pre A"
    ∷ codes "0 A 0 ACT B = 0"
    ∷ codes "1 A 1 ACT C = 0"
    ∷ codes "1 post A"
    ∷ codes "1 pre C"
    ∷ codes "2 C 0 TERM = 0"
    ∷ codes "2 post C"
    ∷ codes "2 pre A"
    ∷ codes "3 A 2 NOP"
    ∷ codes "4 A 3 TERM = 0"
    ∷ codes "4 post A"
    ∷ codes "4 pre B"
    ∷ codes "5 B 0 TERM = 0"
    ∷ codes "5 post B"
    ∷ []

abbrev pub chain_to_itself : System
chain_to_itself =
    of_tasks (codes "A" ∷ codes "B" ∷ [])
    (autostarted (task 1 (act (Some 1) ∷ chain (Some 0) ∷ [])) ∷ task 1 (term ∷ []) ∷ [])

abbrev pub non_preemptable : System
non_preemptable =
    of_tasks (codes "B" ∷ codes "A" ∷ [])
    (task 2 (gtst (Some 1) ∷ term ∷ [])
    ∷ non (autostarted (task 1 (act (Some 0) ∷ gtst (Some 0) ∷ gtst (Some 1) ∷ sched ∷ gtid ∷ term ∷ [])))
    ∷ [])

pub record TaskRuns : Type 0 where
  pub run_one_task :
      IsWorkedRun (alone (term ∷ [])) [] 3
      (codes "0 A 0 TERM = 0"
      ∷ codes "1 idle"
      ∷ codes "2 idle"
      ∷ [])
  pub class_one_task : class_of (alone (term ∷ [])) ≡ Class.Bcc1
  -- order of activation across tasks; a fourth activation is refused
  pub run_activation_order :
      IsWorkedRun activation_order [] 13
      (codes "0 D 0 ACT A = 0"
      ∷ codes "1 D 1 ACT B = 0"
      ∷ codes "2 D 2 ACT A = 0"
      ∷ codes "3 D 3 ACT B = 0"
      ∷ codes "4 D 4 ACT A = 0"
      ∷ codes "5 D 5 ACT A = 4"
      ∷ codes "5 error D ACT A 4"
      ∷ codes "6 D 6 TERM = 0"
      ∷ codes "7 A 0 TERM = 0"
      ∷ codes "8 B 0 TERM = 0"
      ∷ codes "9 A 0 TERM = 0"
      ∷ codes "10 B 0 TERM = 0"
      ∷ codes "11 A 0 TERM = 0"
      ∷ codes "12 idle"
      ∷ [])
  pub class_activation_order : class_of activation_order ≡ Class.Bcc2
  -- a preempted job is the oldest, with the highest priority too
  pub run_preempted_is_oldest : IsWorkedRun (preempting 2 1) [] 6 oldest_lines
  pub run_highest_priority : IsWorkedRun (preempting 63 31) [] 6 oldest_lines
  -- chaining to oneself makes the newest job
  pub run_chain_to_itself :
      IsWorkedRun chain_to_itself [] 6
      (codes "0 A 0 ACT B = 0"
      ∷ codes "1 A 1 CHAIN A = 0"
      ∷ codes "2 B 0 TERM = 0"
      ∷ codes "3 A 0 ACT B = 0"
      ∷ codes "4 A 1 CHAIN A = 0"
      ∷ codes "5 B 0 TERM = 0"
      ∷ [])
  pub run_non_preemptable :
      IsWorkedRun non_preemptable [] 8
      (codes "0 A 0 ACT B = 0"
      ∷ codes "1 A 1 GTST B = 0 : 2"
      ∷ codes "2 A 2 GTST A = 0 : 0"
      ∷ codes "3 A 3 SCHED = 0"
      ∷ codes "4 B 0 GTST A = 0 : 2"
      ∷ codes "5 B 1 TERM = 0"
      ∷ codes "6 A 4 GTID = 0 : 1"
      ∷ codes "7 A 5 TERM = 0"
      ∷ [])
  -- what a basic task may not do
  pub run_basic_task_refused :
      IsWorkedRun (with_event (alone (wait 1 ∷ sete (Some 0) 1 ∷ act None ∷ term ∷ []))) [] 4
      (codes "0 A 0 WAIT 0x00000001 = 1"
      ∷ codes "1 A 1 SETE A, 0x00000001 = 1"
      ∷ codes "2 A 2 ACT INVALID = 3"
      ∷ codes "3 A 3 TERM = 0"
      ∷ [])
  -- plain instructions
  pub run_plain :
      IsWorkedRun (alone (li 1 3 ∷ li 2 65536 ∷ compute Mul 3 2 2 ∷ jump_if Less 3 1 5 ∷ nop ∷ st 1 1 ∷ ld 4 1 ∷ term ∷ [])) [] 7
      (codes "0 A 0 LI r1, 3 -> 3"
      ∷ codes "1 A 1 LI r2, 65536 -> 65536"
      ∷ codes "2 A 2 MUL r3, r2, r2 -> 0"
      ∷ codes "3 A 3 JLT r3, r1, 5"
      ∷ codes "4 A 5 ST r1, r1 -> [3] 3"
      ∷ codes "5 A 6 LD r4, r1 -> 3"
      ∷ codes "6 A 7 TERM = 0"
      ∷ [])
  -- registers and indices wrap
  pub run_wrapping :
      IsWorkedRun (alone (li 1 64 ∷ li 2 4294967295 ∷ li 3 7 ∷ st 1 3 ∷ st 2 3 ∷ li 4 1 ∷ compute Add 5 2 4 ∷ term ∷ [])) [] 8
      (codes "0 A 0 LI r1, 64 -> 64"
      ∷ codes "1 A 1 LI r2, 4294967295 -> 4294967295"
      ∷ codes "2 A 2 LI r3, 7 -> 7"
      ∷ codes "3 A 3 ST r1, r3 -> [0] 7"
      ∷ codes "4 A 4 ST r2, r3 -> [63] 7"
      ∷ codes "5 A 5 LI r4, 1 -> 1"
      ∷ codes "6 A 6 ADD r5, r2, r4 -> 0"
      ∷ codes "7 A 7 TERM = 0"
      ∷ [])
  pub run_shutdown :
      IsWorkedRun (with_hooks (record no_hooks { shutdown = true }) (alone (shut 9 ∷ []))) [] 5
      (codes "0 A 0 SHUT 9"
      ∷ codes "0 shutdown 9"
      ∷ [])

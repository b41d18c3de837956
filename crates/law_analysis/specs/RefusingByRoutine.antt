-- OSEK/VDX OS: task management, ActivateTask and E_OS_LIMIT; interrupt processing, category 2.
-- Tasks that a routine activates by one of its instructions, and of which no activation is refused,
-- as each job has ended before the routine comes there again.
use Rattle.std.specs.Prelude.{ℕ, ◌+◌, ◌≡◌, ◌<◌, ◌≤◌, Bool, true, false, not, ◌&&◌, ◌||◌, ◌==◌, nat_lt, min, List, length}
use Rattle.std.specs.List.{list_all}
use Rattle.osek_base.specs.declared.instr.Instr.{Instr}
use Rattle.osek_base.specs.declared.instr.Plain.{Plain}
use Rattle.osek_base.specs.Lists.{below}
use Rattle.osek_base.specs.Proper.{IsProper}
use Rattle.osek_base.specs.System.{System, Task, instruction_in, is_extended, routine, starts_in}
use Rattle.arrival_rules.specs.declared.rule.ArrivalRule.{ArrivalRule}
use Rattle.arrival_rules.specs.Rules.{rule_at}
use Rattle.law_bounds.specs.Ending.{EndsWithin}
use Rattle.law_windows.specs.Losses.{KeepsApart}
use Rattle.law_analysis.specs.Told.{StartsBefore}
use Rattle.seen_ticks.specs.Observed.{activates, is_number}
use Rattle.law_analysis.specs.Refusing.{NeverRefused, leaves_task, no_alarm_activates}

-- ---- programs

-- whether a jump at place q leads on: behind q, and behind `place` where q is there or behind it
abbrev pub leads_on : ℕ → ℕ → Instr → Bool
leads_on place q (Instr.Plain (Plain.Jmp to)) = nat_lt (min q place) to
leads_on place q (Instr.Plain (Plain.JumpIf test a b to)) = nat_lt (min q place) to
leads_on place q _ = true

-- whether the instruction at place q leads on, and may activate a task at `place` alone
abbrev pub is_once : ℕ → ℕ → ℕ → Instr → Bool
is_once k place q what =
    (q == place || not (is_number k (activates what))) && leads_on place q what

-- whether a program may activate a task at a place alone, to which it comes once at most, behind no
-- more instructions than stand before it
abbrev pub activates_once : ℕ → ℕ → List Instr → Bool
activates_once k place program =
    list_all (λ q. is_once k place q (instruction_in program q)) (below (length program))

-- whether of all programs that of routine i alone may activate the task, and only so
abbrev pub is_activated_at : System → ℕ → ℕ → ℕ → Bool
is_activated_at S i place k =
    list_all (λ (t : Task). leaves_task k t.program) S.tasks
    && list_all (λ r. r == i || leaves_task k (routine S r).program) (below (length S.routines))
    && activates_once k place (routine S i).program

-- ---- a routine alone

-- neither boot makes a job of the task, nor an alarm, nor an instruction but that of routine i at a
-- place
pub record IsOfRoutine (S : System) (mode k i place : ℕ) : Type 0 where
  pub programs : is_activated_at S i place k ≡ true
  pub alarms : no_alarm_activates S k ≡ true
  pub boot : starts_in S mode k ≡ false

-- some rule keeps the interrupts of the routine so many ticks apart, or more
pub record AreKeptApart (rules : List ArrivalRule) (i ticks : ℕ) : Type 0 where
  pub number : ℕ
  pub of : (rule_at rules number).routine ≡ i
  pub apart : KeepsApart (rule_at rules number) ticks

-- ---- the law

-- jobs of a basic task end within some ticks, the routine starts before some have passed, and its
-- interrupts come as many ticks apart as both together, and as instructions stand before the one
-- that activates the task: no activation is refused
abbrev pub RoutinesRefuseNone : Type 0
RoutinesRefuseNone =
    (S : System) (mode : ℕ) (rules : List ArrivalRule) (k i place latency most : ℕ) → IsProper S
    → k < length S.tasks → is_extended S k ≡ false → i < length S.routines
    → IsOfRoutine S mode k i place → 1 ≤ latency → StartsBefore S mode rules latency i
    → AreKeptApart rules i (latency + place + most) → EndsWithin S mode rules most k
    → NeverRefused S mode rules k

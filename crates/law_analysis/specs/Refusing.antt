-- OSEK/VDX OS: task management, ActivateTask and E_OS_LIMIT; alarms. Tasks of which no activation
-- is refused, as each job has ended before the next one is made.
use Rattle.std.specs.Prelude.{ℕ, ◌*◌, ◌≡◌, ◌<◌, ◌≤◌, ◌⊎◌, Bool, true, false, not, ◌&&◌, ◌||◌, ◌==◌, List, Some, length}
use Rattle.std.specs.List.{list_all}
use Rattle.osek_base.specs.declared.arrivals.Arrival.{Arrival}
use Rattle.osek_base.specs.declared.instr.Instr.{Instr}
use Rattle.osek_base.specs.Lists.{below}
use Rattle.osek_base.specs.Proper.{IsProper}
use Rattle.osek_base.specs.System.{System, Task, Routine, alarm, alarm_start_in, is_extended, starts_in}
use Rattle.osek_base.specs.Trace.{run}
use Rattle.arrival_rules.specs.declared.rule.ArrivalRule.{ArrivalRule}
use Rattle.arrival_rules.specs.Rules.{KeepRules}
use Rattle.law_alarms.specs.Expiries.{base_of}
use Rattle.law_alarms.specs.Setting.{is_never_set}
use Rattle.seen_ticks.specs.Observed.{activates, alarm_seen, is_activation, is_number, task_seen, tick_at}
use Rattle.law_bounds.specs.Ending.{EndsWithin}

-- whatever arrives that keeps the rules, no activation of a task is refused in a tick of the run
abbrev pub NeverRefused : System → ℕ → List ArrivalRule → ℕ → Type 0
NeverRefused S mode rules k =
    (arrivals : List Arrival) (n : ℕ) → KeepRules S rules arrivals
    → (run S mode arrivals n).state.over ≡ false
    → (task_seen S (tick_at S mode arrivals n) k).refused ≡ 0

-- and no action of an alarm
abbrev pub NeverRefusedBy : System → ℕ → List ArrivalRule → ℕ → Type 0
NeverRefusedBy S mode rules a =
    (arrivals : List Arrival) (n : ℕ) → KeepRules S rules arrivals
    → (run S mode arrivals n).state.over ≡ false
    → (alarm_seen (tick_at S mode arrivals n) a).is_refused ≡ false

-- ---- who activates a task

abbrev pub leaves_task : ℕ → List Instr → Bool
leaves_task k program = list_all (λ i. not (is_number k (activates i))) program

-- whether no program has an instruction that does, ActivateTask or ChainTask
abbrev pub is_activated_by_none : System → ℕ → Bool
is_activated_by_none S k =
    list_all (λ (t : Task). leaves_task k t.program) S.tasks
    && list_all (λ (r : Routine). leaves_task k r.program) S.routines

-- whether an alarm does
abbrev pub alarm_activates : System → ℕ → ℕ → Bool
alarm_activates S k a = is_activation k (alarm S a).action

-- whether no alarm does
abbrev pub no_alarm_activates : System → ℕ → Bool
no_alarm_activates S k = list_all (λ a. not (alarm_activates S k a)) (below (length S.alarms))

-- whether alarm a does, and no other one
abbrev pub activates_alone : System → ℕ → ℕ → Bool
activates_alone S a k =
    alarm_activates S k a
    && list_all (λ b. b == a || not (alarm_activates S k b)) (below (length S.alarms))

-- ---- an alarm alone

-- but for boot only alarm a activates the task, and programs leave the alarm to boot, which sets it
-- to a time and a cycle
pub record IsOfAlarm (S : System) (mode k a time cycle : ℕ) : Type 0 where
  pub programs : is_activated_by_none S k ≡ true
  pub alone : activates_alone S a k ≡ true
  pub unset : is_never_set S a ≡ true
  pub starts : alarm_start_in S mode a ≡ Some (time, cycle)

-- from each activation to the next lie so many ticks, or more: from an expiry, and from boot where
-- it makes a job
pub record AreSoFarApart (S : System) (mode k a time cycle most : ℕ) : Type 0 where
  pub expiries : (cycle ≡ 0) ⊎ (most ≤ cycle * base_of S a)
  pub boot : (starts_in S mode k ≡ false) ⊎ (most ≤ time * base_of S a)

-- ---- the laws

-- jobs of a basic task end within some ticks, and no activation comes sooner: none is refused
abbrev pub AlarmsRefuseNone : Type 0
AlarmsRefuseNone =
    (S : System) (mode : ℕ) (rules : List ArrivalRule) (k a time cycle most : ℕ) → IsProper S
    → k < length S.tasks → is_extended S k ≡ false → IsOfAlarm S mode k a time cycle
    → AreSoFarApart S mode k a time cycle most → EndsWithin S mode rules most k
    → NeverRefused S mode rules k × NeverRefusedBy S mode rules a

-- a task that nobody activates but boot
abbrev pub NobodyRefuses : Type 0
NobodyRefuses =
    (S : System) (mode : ℕ) (rules : List ArrivalRule) (k : ℕ) → is_activated_by_none S k ≡ true
    → no_alarm_activates S k ≡ true → NeverRefused S mode rules k

-- where none is refused, no action of an alarm that activates the task is
abbrev pub AcceptedActions : Type 0
AcceptedActions =
    (S : System) (mode : ℕ) (rules : List ArrivalRule) (k a : ℕ) → alarm_activates S k a ≡ true
    → NeverRefused S mode rules k → NeverRefusedBy S mode rules a

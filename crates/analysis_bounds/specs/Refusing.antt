-- OSEK/VDX OS: task management, ActivateTask and E_OS_LIMIT. Tasks of which code knows that no
-- activation is refused, and what is told of refusals.
use Rattle.std.specs.Prelude.{ℕ, ◌≡◌, ◌<◌, ◌≤◌, ◌⊎◌, ◌+◌, true, false, List, length}
use Rattle.osek_base.specs.System.{System, is_extended}
use Rattle.arrival_rules.specs.declared.rule.ArrivalRule.{ArrivalRule}
use Rattle.view_measures.specs.declared.measure.Measure.{Measure}
use Rattle.view_measures.specs.Measures.{figure}
use Rattle.search_peaks.specs.Peaks.{Peaks, told}
use Rattle.law_analysis.specs.Refusing.{AreSoFarApart, IsOfAlarm, NeverRefused, NeverRefusedBy, alarm_activates, is_activated_by_none, no_alarm_activates}
use Rattle.law_analysis.specs.RefusingByRoutine.{IsOfRoutine}
use Rattle.analysis_bounds.specs.declared.levels.TheConstants.{CAP}
use Rattle.analysis_bounds.specs.Told.{AreKeptApart, IsResponse, IsSomeMost}

-- ---- who activates a task

-- nobody but boot
pub record IsLeftAlone (S : System) (k : ℕ) : Type 0 where
  pub programs : is_activated_by_none S k ≡ true
  pub alarms : no_alarm_activates S k ≡ true

-- but for boot alarm a alone, and not before some ticks have passed
pub record IsLeftToAlarm (S : System) (mode k a most : ℕ) : Type 0 where
  pub time : ℕ
  pub cycle : ℕ
  pub alone : IsOfAlarm S mode k a time cycle
  pub apart : AreSoFarApart S mode k a time cycle most

-- routine i alone at one place, and its interrupts come so many ticks apart
pub record IsLeftToRoutine (S : System) (mode : ℕ) (rules : List ArrivalRule) (k i place ticks : ℕ)
    : Type 0 where
  pub alone : IsOfRoutine S mode k i place
  pub apart : AreKeptApart rules i ticks

-- one of the alarms
abbrev pub AlarmIsSlow : System → ℕ → ℕ → ℕ → Type 0
AlarmIsSlow S mode k most =
    (a : ℕ) × (a < length S.alarms) × IsLeftToAlarm S mode k a most

-- or of the routines, which starts before some ticks have passed
pub record RoutineIsSlow (S : System) (mode : ℕ) (rules : List ArrivalRule) (mosts : List ℕ)
    (k most : ℕ) : Type 0 where
  pub which : ℕ
  pub inside : which < length S.routines
  pub latency : ℕ
  pub some : 1 ≤ latency
  pub low : latency < CAP
  pub of_level : IsSomeMost S mosts which latency
  pub at_place : ℕ
  pub seldom : IsLeftToRoutine S mode rules k which at_place (latency + at_place + most)

-- ---- tasks

-- its jobs never wait, and each has ended before the next one is made
pub record AreJobsShort (S : System) (mode : ℕ) (rules : List ArrivalRule) (mosts : List ℕ)
    (k : ℕ) : Type 0 where
  pub basic : is_extended S k ≡ false
  pub most : ℕ
  pub low : most < CAP
  pub of_level : IsResponse S mosts k most
  pub slow : AlarmIsSlow S mode k most ⊎ RoutineIsSlow S mode rules mosts k most

-- what code knows where no activation is refused
abbrev pub IsAccepted : System → ℕ → List ArrivalRule → List ℕ → ℕ → Type 0
IsAccepted S mode rules mosts k = IsLeftAlone S k ⊎ AreJobsShort S mode rules mosts k

-- .. or a refusal is told
abbrev pub IsKnown : System → ℕ → List ArrivalRule → List ℕ → Peaks → ℕ → Type 0
IsKnown S mode rules mosts peaks k =
    IsAccepted S mode rules mosts k ⊎ (1 ≤ told peaks (figure Measure.Refusal k))

-- .. of the first tasks
abbrev pub AreAccepted : System → ℕ → List ArrivalRule → List ℕ → Peaks → ℕ → Type 0
AreAccepted S mode rules mosts peaks count =
    (k : ℕ) → k < count → IsKnown S mode rules mosts peaks k

-- ---- alarms

-- an alarm activates a task of which no refusal is told
pub record IsActionAccepted (S : System) (peaks : Peaks) (a : ℕ) : Type 0 where
  pub activated : ℕ
  pub inside : activated < length S.tasks
  pub by_alarm : alarm_activates S activated a ≡ true
  pub none : told peaks (figure Measure.Refusal activated) < 1

-- .. or that its action is refused is told, of the first alarms
abbrev pub AreActionsAccepted : System → Peaks → ℕ → Type 0
AreActionsAccepted S peaks count =
    (a : ℕ) → a < count
    → IsActionAccepted S peaks a ⊎ (1 ≤ told peaks (figure Measure.RefusedAction a))

-- ---- all of it

pub record RefusalsAreTold (S : System) (mode : ℕ) (rules : List ArrivalRule) (peaks : Peaks)
    : Type 0 where
  pub tasks : (k : ℕ) → k < length S.tasks
      → NeverRefused S mode rules k ⊎ (1 ≤ told peaks (figure Measure.Refusal k))
  pub alarms : (a : ℕ) → a < length S.alarms
      → NeverRefusedBy S mode rules a ⊎ (1 ≤ told peaks (figure Measure.RefusedAction a))

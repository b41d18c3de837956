-- When alarms expire, as code keeps it.
use Rattle.std.specs.Prelude.{ℕ, ◌+◌, ◌-◌, ◌*◌, ◌<◌, ◌≡◌, ◌==◌, nat_le, if◌then◌else◌, List, length, Option, Some, None, slice_index_or}
use Rattle.osek_base.specs.System.{System, alarm_start_in}
use Rattle.law_alarms.specs.Expiries.{base_of}
use Rattle.law_alarms.specs.Setting.{is_never_set}
use Rattle.law_alarms.specs.Spaced.{most_in}
use Rattle.analysis_bounds.specs.declared.timing.Timing.{Timing}
use Rattle.analysis_bounds.specs.Levels.{numbered}

-- ---- how often

-- how many lie below a tick: of one alone, and of those a gap apart from a first one on
abbrev pub once_before : ℕ → ℕ → ℕ
once_before tick t = if nat_le t tick then 0 else 1

abbrev pub each_before : ℕ → ℕ → ℕ → ℕ
each_before first gap t = if nat_le t first then 0 else most_in gap (t - first)

-- in so many ticks, from one on
abbrev pub often_from : Timing → ℕ → ℕ → ℕ
often_from Timing.Never from count = 0
often_from (Timing.Once tick) from count =
    once_before tick (from + count) - once_before tick from
often_from (Timing.Each first gap) from count =
    each_before first gap (from + count) - each_before first gap from
often_from (Timing.Apart gap) from count = most_in gap count

-- ---- of a system's alarms

-- of one that boot alone starts, to a time and a cycle, by a counter with so many ticks a count
abbrev pub timing_by : Option (ℕ × ℕ) → ℕ → Timing
timing_by None base = Timing.Never
timing_by (Some start) base =
    if start.1 == 0 then Timing.Once (start.0 * base)
    else Timing.Each (start.0 * base) (start.1 * base)

-- any alarm, where programs set it, if they do, no sooner than so many counts
abbrev pub timing_of : System → ℕ → (ℕ → ℕ) → ℕ → Timing
timing_of S mode least a =
    if is_never_set S a then timing_by (alarm_start_in S mode a) (base_of S a)
    else Timing.Apart (least a * base_of S a)

abbrev pub timing_in : List Timing → ℕ → Timing
timing_in timings a = slice_index_or timings a Timing.Never

-- so each alarm of the system expires
abbrev pub AreTimed : System → ℕ → List ℕ → List Timing → Type 0
AreTimed S mode least timings =
    (a : ℕ) → a < length S.alarms
    → timing_in timings a ≡ timing_of S mode (numbered least) a

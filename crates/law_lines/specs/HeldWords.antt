-- The modelled processor; alarms. What a state holds has 32 bits.
use Rattle.std.specs.Prelude.{ℕ, ◌+◌, ◌<◌, ◌^◌, List, Option, Some, None, IfSome}
use Rattle.std.specs.List.{AllByRecursion}
use Rattle.osek_base.specs.declared.arrivals.Arrival.{Arrival}
use Rattle.osek_base.specs.declared.ids.Owner.{Owner}
use Rattle.osek_base.specs.Alarm.{count, expiry}
use Rattle.osek_base.specs.Proper.{IsProper}
use Rattle.osek_base.specs.State.{Expiry, State}
use Rattle.osek_base.specs.System.{System}
use Rattle.osek_base.specs.Trace.{run}

abbrev pub IsWord : ℕ → Type 0
IsWord n = n < 2 ^ 32

abbrev pub AreWords : List ℕ → Type 0
AreWords values = AllByRecursion IsWord values

-- an alarm that is on has fewer than 2 ^ 32 counts left at count n, and in its cycle
abbrev pub IsNear : ℕ → Option Expiry → Type 0
IsNear n None = Unit {0}
IsNear n (Some e) = (e.count < n + 2 ^ 32) × IsWord e.cycle

-- the registers of jobs and of the active routine, the words of windows, those of resources, masks,
-- and alarms
pub record HoldsWords (S : System) (s : State) : Type 0 where
  pub jobs : AllByRecursion (λ j. AreWords j.context.registers) s.jobs
  pub active : IfSome s.active (λ a. AreWords a.context.registers)
  pub words : (who : Owner) (i : ℕ) → IsWord (s.words who i)
  pub shared : AllByRecursion AreWords s.shared
  pub masks : AreWords s.masks
  pub alarms : (a : ℕ) → IsNear (count S s a) (expiry s a)

-- ---- the law

-- sums, differences and products wrap, and nothing else grows beyond
abbrev pub RunsHoldWords : Type 0
RunsHoldWords =
    (S : System) (mode : ℕ) (arrivals : List Arrival) (n : ℕ) → IsProper S
    → HoldsWords S (run S mode arrivals n).state

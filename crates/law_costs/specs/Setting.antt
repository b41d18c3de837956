-- How soon alarms are set by who is known, whatever state that finds; and which are set once.
use Rattle.std.specs.Prelude.{ℕ, ◌≡◌, ◌<◌, ◌≤◌, false, IfSome, Some, length}
use Rattle.osek_base.specs.declared.instr.Service.{Service}
use Rattle.osek_base.specs.GoodState.{IsGood, IsShaped}
use Rattle.osek_base.specs.State.{State}
use Rattle.osek_base.specs.System.{System, alarm_start_in}
use Rattle.osek_base.specs.Tick.{executor}
use Rattle.osek_base.specs.Types.{ServiceCall}
use Rattle.law_alarms.specs.Setting.{IsNoSooner, IsServed, IsSlow, is_never_set}
use Rattle.law_windows.specs.Coming.{Costs}
use Rattle.law_costs.specs.Left.{Weights, switch_of}
use Rattle.law_costs.specs.Known.{IsKnownCaller, Known}

-- how soon an alarm is set: by a count, which is always so, or by more, where boot does, and who is
-- known and executes in a good state
pub record IsKnownNoSooner (S : System) (mode : ℕ) (known : Known) (a least : ℕ) : Type 0 where
  pub some : 1 ≤ least
  pub boot : 1 < least → IfSome (alarm_start_in S mode a) (λ start. IsSlow least start.1)
  pub calls : 1 < least → (s : State) (call : ServiceCall) → IsGood S s → IsShaped S s
      → IsKnownCaller known (switch_of s) (executor s) → IsServed S s call
      → IsNoSooner a least call

-- .. each that programs set and whose expiry costs something
abbrev pub AreKnownNoSooner : System → ℕ → Costs → Known → (ℕ → ℕ) → Type 0
AreKnownNoSooner S mode costs known least =
    (a : ℕ) → a < length S.alarms → 1 ≤ costs.of_expiry a → is_never_set S a ≡ false
    → IsKnownNoSooner S mode known a (least a)

-- ---- alarms that are set once

-- where a service sets the alarm, it is to expire once
abbrev pub SetsOnce : ℕ → ServiceCall → Type 0
SetsOnce a (Service.SetRelAlarm (Some b) increment cycle) = b ≡ a → cycle ≡ 0
SetsOnce a (Service.SetAbsAlarm (Some b) start cycle) = b ≡ a → cycle ≡ 0
SetsOnce a call = Unit {0}

-- so do boot, where it starts the alarm, and who is known and executes in a good state
pub record IsKnownOnce (S : System) (mode : ℕ) (known : Known) (a : ℕ) : Type 0 where
  pub boot : IfSome (alarm_start_in S mode a) (λ start. start.1 ≡ 0)
  pub calls : (s : State) (call : ServiceCall) → IsGood S s → IsShaped S s
      → IsKnownCaller known (switch_of s) (executor s) → IsServed S s call → SetsOnce a call

-- .. each that pays
abbrev pub AreKnownOnce : System → ℕ → Weights → Known → Type 0
AreKnownOnce S mode c known =
    (a : ℕ) → a < length S.alarms → 1 ≤ c.of_alarm a → IsKnownOnce S mode known a

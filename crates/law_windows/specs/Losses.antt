-- OSEK/VDX OS: interrupt processing, category 2. Interrupts that aren't lost.
use Rattle.std.specs.Prelude.{ℕ, ◌+◌, ◌≡◌, ◌<◌, ◌≤◌, true, false, List, length}
use Rattle.osek_base.specs.declared.arrivals.Arrival.{Arrival}
use Rattle.osek_base.specs.System.{System}
use Rattle.osek_base.specs.Tick.{is_pending}
use Rattle.osek_base.specs.Trace.{run}
use Rattle.arrival_rules.specs.declared.rule.ArrivalRule.{ArrivalRule}
use Rattle.law_future.specs.Shown.{arrives}
use Rattle.arrival_rules.specs.Rules.{KeepRules, rule_at}
use Rattle.law_windows.specs.Responses.{RespondWithin}
use Rattle.law_windows.specs.Work.{goes_at}

-- no interrupt of a routine arrives while one is pending
abbrev pub NoneIsLost : System → ℕ → List Arrival → ℕ → Type 0
NoneIsLost S mode arrivals i =
    (n : ℕ) → (run S mode arrivals n).state.over ≡ false → arrives arrivals n i ≡ true
    → is_pending (run S mode arrivals n).state i ≡ false

-- ---- the law

-- by a rule two interrupts of its routine come so many ticks apart, or more
abbrev pub KeepsApart : ArrivalRule → ℕ → Type 0
KeepsApart rule ticks = ticks + rule.slack ≤ rule.period + 1

-- where routines of a level start before so many ticks have passed, and a rule keeps interrupts of
-- one of them as many apart
abbrev pub SoonStartedAreNotLost : Type 0
SoonStartedAreNotLost =
    (S : System) (mode : ℕ) (rules : List ArrivalRule) (arrivals : List Arrival) (p most n : ℕ)
    → KeepRules S rules arrivals → RespondWithin S mode arrivals p most
    → (rule_at rules n).routine < length S.routines
    → goes_at S p (rule_at rules n).routine ≡ true → KeepsApart (rule_at rules n) most
    → NoneIsLost S mode arrivals (rule_at rules n).routine

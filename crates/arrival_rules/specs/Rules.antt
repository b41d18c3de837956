-- OSEK/VDX OS: interrupt processing, category 2. How interrupts of routines come.
use Rattle.std.specs.Prelude.{ℕ, zero, suc, ◌+◌, ◌*◌, ◌==◌, ◌<◌, ◌≤◌, Bool, IsTrue, cond, List, length, slice_index_or}
use Rattle.std.specs.List.{AllByRecursion, filter}
use Rattle.osek_base.specs.declared.arrivals.Arrival.{Arrival}
use Rattle.osek_base.specs.Lists.{is_in}
use Rattle.osek_base.specs.System.{System}
use Rattle.osek_base.specs.Trace.{arriving}
use Rattle.arrival_rules.specs.declared.rule.ArrivalRule.{ArrivalRule}

-- whether an interrupt of a routine comes at a tick
abbrev pub comes : List Arrival → ℕ → ℕ → Bool
comes arrivals i t = is_in i (arriving arrivals t)

-- in how many of so many ticks, from one on
abbrev pub comings : List Arrival → ℕ → ℕ → ℕ → ℕ
comings arrivals i from zero = 0
comings arrivals i from (suc count) =
    comings arrivals i from count + cond (comes arrivals i (from + count)) 1 0

-- of two that come so many ticks apart, and of which the later is the k-th behind the earlier, k
-- periods are fewer ticks than those and the slack
abbrev pub KeepsRule : List Arrival → ArrivalRule → Type 0
KeepsRule arrivals rule =
    (t count : ℕ) → IsTrue (comes arrivals rule.routine t)
    → IsTrue (comes arrivals rule.routine (t + count))
    → comings arrivals rule.routine t count * rule.period < count + rule.slack

-- ---- several rules, by number

-- one that says nothing
abbrev pub no_rule : ArrivalRule
no_rule = record { routine = 0; period = 0; slack = 1 }

abbrev pub rule_at : List ArrivalRule → ℕ → ArrivalRule
rule_at rules n = slice_index_or rules n no_rule

-- interrupts come of routines of the system, and keep each rule, and one of a routine at most comes
-- in a tick; there may be any number of them, at any ticks
pub record KeepRules (S : System) (rules : List ArrivalRule) (arrivals : List Arrival)
    : Type 0 where
  pub known : AllByRecursion (λ (a : Arrival). a.routine < length S.routines) arrivals
  pub each : (n : ℕ) → KeepsRule arrivals (rule_at rules n)
  pub once : (i t : ℕ) → length (filter (λ j. j == i) (arriving arrivals t)) ≤ 1

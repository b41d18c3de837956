-- OSEK/VDX OS: interrupt processing, category 2. What interrupts owe by a rule: one that comes adds
-- the period, and each tick takes one off.
use Rattle.std.specs.Prelude.{ℕ, zero, suc, ◌+◌, ◌-◌, ◌≡◌, ◌<◌, Bool, cond, min, List, length}
use Rattle.osek_base.specs.declared.arrivals.Arrival.{Arrival}
use Rattle.arrival_rules.specs.declared.rule.ArrivalRule.{ArrivalRule}
use Rattle.arrival_rules.specs.Rules.{comes, rule_at}

-- behind a tick, in which one comes or none; told up to a greatest number
abbrev pub next_debt : ArrivalRule → Bool → ℕ → ℕ
next_debt rule come debt = min 4294967295 (debt + cond come rule.period 0) - 1

-- after n ticks of a run
abbrev pub debt_after : ArrivalRule → List Arrival → ℕ → ℕ
debt_after rule arrivals zero = 0
debt_after rule arrivals (suc n) =
    next_debt rule (comes arrivals rule.routine n) (debt_after rule arrivals n)

-- by each rule of the routine, in the order of a list, the debt is below the slack: so an interrupt
-- of it may come
abbrev pub IsFree : List ArrivalRule → (ℕ → ℕ) → ℕ → Type 0
IsFree rules debt i =
    (n : ℕ) → n < length rules → (rule_at rules n).routine ≡ i → debt n < (rule_at rules n).slack

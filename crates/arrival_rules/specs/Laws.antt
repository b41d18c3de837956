-- OSEK/VDX OS: interrupt processing, category 2. Debts tell where interrupts may come.
use Rattle.std.specs.Prelude.{ℕ, ◌<◌, IsTrue, List}
use Rattle.osek_base.specs.declared.arrivals.Arrival.{Arrival}
use Rattle.arrival_rules.specs.declared.rule.ArrivalRule.{ArrivalRule}
use Rattle.arrival_rules.specs.Rules.{KeepsRule, comes}
use Rattle.arrival_rules.specs.Debts.{debt_after}

-- where a rule is kept, an interrupt comes only where the debt is below the slack
abbrev pub DebtsAreBelow : Type 0
DebtsAreBelow =
    (rule : ArrivalRule) (arrivals : List Arrival) (n : ℕ) → KeepsRule arrivals rule
    → IsTrue (comes arrivals rule.routine n) → debt_after rule arrivals n < rule.slack

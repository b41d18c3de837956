-- OSEK/VDX OS: interrupt processing, category 2. Arrivals in a list, tried one by one.
use Rattle.std.specs.Prelude.{ℕ, ◌+◌, ◌-◌, ◌*◌, ◌==◌, ◌≤◌, ◌&&◌, Bool, true, cond, nat_le, nat_lt, not, List, [], ◌∷◌, length}
use Rattle.std.specs.List.{filter, list_all}
use Rattle.osek_base.specs.declared.arrivals.Arrival.{Arrival}
use Rattle.arrival_rules.specs.declared.rule.ArrivalRule.{ArrivalRule}
use Rattle.arrival_rules.specs.Rules.{comings, rule_at}

-- an arrival isn't of a routine, or doesn't come before a tick
abbrev pub comes_behind : ℕ → ℕ → Arrival → Bool
comes_behind routine tick b = not (b.routine == routine && nat_lt b.tick tick)

-- the arrivals of each routine come in ticks of their own
abbrev pub come_once : List Arrival → Bool
come_once [] = true
come_once (a ∷ later) = list_all (comes_behind a.routine (a.tick + 1)) later && come_once later

-- what is left of a debt that was owed at a tick, at a later one
abbrev pub debt_left : ℕ → ℕ → ℕ → ℕ
debt_left debt since tick = debt - (tick - since)

-- so much is owed by a rule at a tick, and from there on each arrival of its routine comes where
-- the debt is below the slack, and adds a period
abbrev pub keeps_from : ArrivalRule → ℕ → ℕ → List Arrival → Bool
keeps_from rule debt since [] = true
keeps_from rule debt since (a ∷ later) =
    cond (a.routine == rule.routine)
    (nat_lt (debt_left debt since a.tick) rule.slack
    && keeps_from rule (debt_left debt since a.tick + rule.period) a.tick later)
    (keeps_from rule debt since later)

-- the arrivals keep each rule, from no debt on
abbrev pub keep_each : List ArrivalRule → List Arrival → Bool
keep_each rules arrivals = list_all (λ (rule : ArrivalRule). keeps_from rule 0 0 arrivals) rules

-- an arrival is of a routine, and comes at a tick or behind it, and before another
abbrev pub comes_between : ℕ → ℕ → ℕ → Arrival → Bool
comes_between routine from until a =
    a.routine == routine && nat_le from a.tick && nat_lt a.tick until

-- by a rule these add no more than the ticks between take off
abbrev pub pays_by : ArrivalRule → List Arrival → ℕ → ℕ → Bool
pays_by rule arrivals from until =
    nat_le (length (filter (comes_between rule.routine from until) arrivals) * rule.period)
    (until - from)

abbrev pub pay_by_each : List ArrivalRule → List Arrival → ℕ → ℕ → Bool
pay_by_each rules arrivals from until =
    list_all (λ (rule : ArrivalRule). pays_by rule arrivals from until) rules

-- by no rule is more added, in the ticks from one on and before another, than these take off
abbrev pub ArePaid : List ArrivalRule → List Arrival → ℕ → ℕ → Type 0
ArePaid rules arrivals from until =
    (n : ℕ)
    → comings arrivals (rule_at rules n).routine from (until - from) * (rule_at rules n).period
    ≤ until - from

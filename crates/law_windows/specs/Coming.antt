-- OSEK/VDX OS: interrupt processing, category 2; alarms. What comes in the ticks of a run:
-- interrupts that arrive and alarms that expire, each with what it costs.
use Rattle.std.specs.Prelude.{ℕ, zero, suc, ◌+◌, ◌*◌, ◌<◌, ◌≤◌, List, length}
use Rattle.std.specs.List.{filter, sum_by}
use Rattle.osek_base.specs.declared.arrivals.Arrival.{Arrival}
use Rattle.osek_base.specs.Lists.{below}
use Rattle.osek_base.specs.System.{System}
use Rattle.law_future.specs.Shown.{arrives, chosen_of}
use Rattle.law_alarms.specs.Expiries.{expires, expiries}
use Rattle.law_alarms.specs.Spaced.{how_many}

-- how many instructions of a level are counted for an interrupt of each routine and for an expiry
-- of each alarm, and how many at most where a window begins: with the run, or later
pub record Costs : Type 0 where
  pub of_arrival : ℕ → ℕ
  pub of_expiry : ℕ → ℕ
  pub at_boot : ℕ
  pub at_begin : ℕ

-- for a window that begins in that tick
abbrev pub first_cost : Costs → ℕ → ℕ
first_cost costs zero = costs.at_boot
first_cost costs (suc n) = costs.at_begin

-- what comes in tick n costs so much: each routine that arrives, and each alarm that expires
abbrev pub coming : System → ℕ → List Arrival → Costs → ℕ → ℕ
coming S mode arrivals costs n =
    sum_by costs.of_arrival (chosen_of S (arrives arrivals n))
    + sum_by costs.of_expiry (filter (λ a. expires S mode arrivals a n) (below (length S.alarms)))

-- a sum over so many ticks in a row, from one on
abbrev pub in_ticks : (ℕ → ℕ) → ℕ → ℕ → ℕ
in_ticks f from zero = 0
in_ticks f from (suc count) = in_ticks f from count + f (from + count)

-- what comes in them
abbrev pub came : System → ℕ → List Arrival → Costs → ℕ → ℕ → ℕ
came S mode arrivals costs from count = in_ticks (coming S mode arrivals costs) from count

-- ---- how often each comes

-- in how many of so many ticks, from one on, a routine's interrupt arrives
abbrev pub arrivals_in : List Arrival → ℕ → ℕ → ℕ → ℕ
arrivals_in arrivals i from count = how_many (λ n. arrives arrivals n i) from count

-- in no so many ticks in a row does an alarm whose expiry costs something expire more often
abbrev pub ExpireAtMost : System → ℕ → List Arrival → Costs → (ℕ → ℕ) → ℕ → Type 0
ExpireAtMost S mode arrivals costs most count =
    (a from : ℕ) → a < length S.alarms → 1 ≤ costs.of_expiry a
    → expiries S mode arrivals a from count ≤ most a

-- what so many interrupts of each routine and so many expiries of each alarm cost
abbrev pub cost_of : System → Costs → (ℕ → ℕ) → (ℕ → ℕ) → ℕ
cost_of S costs many often =
    sum_by (λ i. many i * costs.of_arrival i) (below (length S.routines))
    + sum_by (λ a. often a * costs.of_expiry a) (below (length S.alarms))

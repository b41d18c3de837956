-- Partitions. What some run of the upper part by itself shows, some run of every system with that
-- part shows.
use Rattle.std.specs.Prelude.{ℕ, List}
use Rattle.osek_base.specs.declared.arrivals.Arrival.{Arrival}
use Rattle.osek_base.specs.Agree.{upper_part}
use Rattle.osek_base.specs.Proper.{IsProper}
use Rattle.osek_base.specs.Separable.{Separable}
use Rattle.osek_base.specs.System.{System}
use Rattle.arrival_rules.specs.declared.rule.ArrivalRule.{ArrivalRule}
use Rattle.seen_ticks.specs.declared.failures.Failure.{Failure}
use Rattle.view_measures.specs.declared.figure.Figure.{Figure}
use Rattle.law_bounds.specs.Showing.{Shows}
use Rattle.law_upper.specs.Above.{AreOneAbove, IsUpperTask}
use Rattle.law_upper.specs.FiguresAbove.{IsAbove, figure_in_part}
use Rattle.search_peaks.specs.Peaks.{Peaks, told}
use Rattle.search_nodes.specs.declared.found.Bounds.{Bounds}
use Rattle.search_witnesses.specs.declared.endless.Endless.{Endless}
use Rattle.search_witnesses.specs.declared.witness.Witness.{Witness}
use Rattle.search_witnesses.specs.Endless.{IsEndless}
use Rattle.search_witnesses.specs.Failing.{Fails, FailsAtEnd}
use Rattle.search_witnesses.specs.Listed.{IsKeptList}
use Rattle.search_witnesses.specs.Shown.{IsReached}

-- some run whose interrupts are a list that keeps the rules shows so much of a figure
pub record CanShow (S : System) (mode : ℕ) (rules : List ArrivalRule) (figure : Figure)
    (value : ℕ) : Type 0 where
  pub witness : Witness
  pub arrivals : IsKeptList S rules witness.arrivals
  pub shows : Shows S mode witness.arrivals witness.ticks figure value

-- what a run of the upper part shows, that of the system under the same arrivals shows; so what is
-- told of the part as reached is reached by a run of the system, a service that fails there fails
-- here, and a task that can be kept from ending there can be kept so here, by the same arrivals
pub record HoldsOf (P S : System) (p : ℕ) : Type 0 where
  pub shows : (mode : ℕ) (arrivals : List Arrival) (n : ℕ) (figure : Figure) (value : ℕ)
      → IsAbove S p figure → Shows P mode arrivals n (figure_in_part S p figure) value
      → Shows S mode arrivals n figure value
  pub fails_at_end : (mode : ℕ) (arrivals : List Arrival) (n : ℕ) (failure : Failure)
      → FailsAtEnd P mode arrivals n failure → FailsAtEnd S mode arrivals n failure
  pub reached : (mode : ℕ) (rules : List ArrivalRule) (found : Bounds) (figure : Figure)
      → IsAbove S p figure → IsReached P mode rules found (figure_in_part S p figure)
      → CanShow S mode rules figure (told found.peaks (figure_in_part S p figure))
  pub failing : (mode : ℕ) (rules : List ArrivalRule) (peaks : Peaks) (number : ℕ)
      → Fails P mode rules peaks number → Fails S mode rules peaks number
  pub endless : (mode : ℕ) (rules : List ArrivalRule) (t : ℕ) (e : Endless) → IsUpperTask S p t
      → IsEndless P mode rules t e → IsEndless S mode rules t e

-- in the whole system, and in each that agrees with it from p upward, whatever stands below
pub record WhatThePartShowsHolds : Type 0 where
  pub whole : (S : System) (p : ℕ) → IsProper S → Separable S p → HoldsOf (upper_part S p) S p
  pub others : (S B : System) (p : ℕ) → AreOneAbove S B p → HoldsOf (upper_part S p) B p

-- What is promised of a figure by what a table tells of it.
use Rattle.std.specs.Prelude.{ℕ, ◌≡◌, ◌<◌, Bool, IsTrue, IsFalse, List, nat_lt}
use Rattle.osek_base.specs.System.{System}
use Rattle.arrival_rules.specs.declared.rule.ArrivalRule.{ArrivalRule}
use Rattle.view_measures.specs.declared.figure.Figure.{Figure}
use Rattle.search_peaks.specs.Peaks.{is_below, told}
use Rattle.search_nodes.specs.declared.found.Bounds.{Bounds}
use Rattle.search_witnesses.specs.Findings.{HasNoEnd, IsShown}
use Rattle.cli_tables.specs.declared.cells.Cell.{Cell}

-- what the bounds tell of the figure is promised, as it is below their cap; where it is marked as
-- reached, some run shows it, or it is 0
pub record IsPromised (S : System) (mode : ℕ) (rules : List ArrivalRule) (found : Bounds)
    (figure : Figure) (reached : Bool) : Type 0 where
  pub below : IsTrue (is_below found.cap found.peaks figure)
  pub shown : IsTrue reached → IsShown S mode rules found figure

-- a time and a number are what the bounds tell, a time is below the cap, and something may come where
-- they tell more than 0; above the cap nothing is promised
abbrev pub Promises : System → ℕ → List ArrivalRule → Bounds → Figure → Cell → Type 0
Promises S mode rules found figure (Cell.Time ticks reached) =
    (ticks ≡ told found.peaks figure) × (ticks < found.cap)
    × IsPromised S mode rules found figure reached
Promises S mode rules found figure Cell.Above =
    IsFalse (is_below found.cap found.peaks figure)
Promises S mode rules found figure Cell.Unbounded = HasNoEnd S mode rules figure
Promises S mode rules found figure (Cell.Count value reached) =
    (value ≡ told found.peaks figure) × IsPromised S mode rules found figure reached
Promises S mode rules found figure (Cell.Coming comes reached) =
    (comes ≡ nat_lt 0 (told found.peaks figure))
    × IsPromised S mode rules found figure reached

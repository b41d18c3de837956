-- Runs that show what bounds tell.
use Rattle.std.specs.Prelude.{ℕ, IsTrue, List}
use Rattle.osek_base.specs.System.{System}
use Rattle.arrival_rules.specs.declared.rule.ArrivalRule.{ArrivalRule}
use Rattle.view_measures.specs.declared.figure.Figure.{Figure}
use Rattle.search_peaks.specs.Peaks.{is_below, told}
use Rattle.law_bounds.specs.Showing.{Shows}
use Rattle.search_nodes.specs.declared.found.Bounds.{Bounds}
use Rattle.search_witnesses.specs.declared.witness.Witness.{Witness}
use Rattle.search_witnesses.specs.Listed.{IsKeptList}

-- the arrivals of a witness are a list that keeps rules, and its run shows what bounds tell of a
-- figure
pub record IsWitness (S : System) (mode : ℕ) (rules : List ArrivalRule) (found : Bounds)
    (figure : Figure) (w : Witness) : Type 0 where
  pub arrivals : IsKeptList S rules w.arrivals
  pub shows : Shows S mode w.arrivals w.ticks figure (told found.peaks figure)

-- the figure is below their cap, and some run is one
pub record IsReached (S : System) (mode : ℕ) (rules : List ArrivalRule) (found : Bounds)
    (figure : Figure) : Type 0 where
  pub below : IsTrue (is_below found.cap found.peaks figure)
  pub witness : Witness
  pub is : IsWitness S mode rules found figure witness

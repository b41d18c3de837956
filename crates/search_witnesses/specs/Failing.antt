-- OSEK/VDX OS: error handling. Runs in whose last tick a service is answered other than E_OK.
use Rattle.std.specs.Prelude.{ℕ, ◌≡◌, List, [], ◌∷◌, Option, Some, None, slice_get}
use Rattle.osek_base.specs.declared.arrivals.Arrival.{Arrival}
use Rattle.osek_base.specs.System.{System}
use Rattle.arrival_rules.specs.declared.rule.ArrivalRule.{ArrivalRule}
use Rattle.seen_ticks.specs.declared.failures.Failure.{Failure}
use Rattle.seen_ticks.specs.declared.observation.Observation.{Observation}
use Rattle.law_figures.specs.RunFigures.{AreTicksOf}
use Rattle.search_peaks.specs.Peaks.{Peaks}
use Rattle.search_witnesses.specs.declared.witness.Witness.{Witness}
use Rattle.search_witnesses.specs.Listed.{IsKeptList}

-- the service that is answered so in the last tick that was seen, if one is
abbrev pub last_failure : List Observation → Option Failure
last_failure [] = None
last_failure (o ∷ before) = o.failure

-- the last of the first n ticks of a run has that one
pub record FailsAtEnd (S : System) (mode : ℕ) (arrivals : List Arrival) (n : ℕ)
    (failure : Failure) : Type 0 where
  pub seen : List Observation
  pub ticks : AreTicksOf S mode arrivals n seen
  pub fails : last_failure seen ≡ Some failure

-- the arrivals of a witness are a list that keeps rules, and its last tick has the service of a
-- number among those of peaks
pub record IsFailing (S : System) (mode : ℕ) (rules : List ArrivalRule) (peaks : Peaks) (number : ℕ)
    (w : Witness) : Type 0 where
  pub failure : Failure
  pub is : slice_get peaks.failures number ≡ Some failure
  pub arrivals : IsKeptList S rules w.arrivals
  pub fails : FailsAtEnd S mode w.arrivals w.ticks failure

-- some run does
pub record Fails (S : System) (mode : ℕ) (rules : List ArrivalRule) (peaks : Peaks)
    (number : ℕ) : Type 0 where
  pub witness : Witness
  pub is : IsFailing S mode rules peaks number witness

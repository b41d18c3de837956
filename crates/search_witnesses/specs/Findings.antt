-- Bounds, and what runs are known to show of them.
use Rattle.std.specs.Prelude.{ℕ, ◌≡◌, ◌⊎◌, ◌==◌, ◌||◌, Bool, false, IsTrue, List, []}
use Rattle.std.specs.List.{list_any}
use Rattle.osek_base.specs.System.{System}
use Rattle.arrival_rules.specs.declared.rule.ArrivalRule.{ArrivalRule}
use Rattle.view_measures.specs.declared.figure.Figure.{Figure}
use Rattle.view_measures.specs.declared.measure.Measure.{Measure}
use Rattle.view_measures.specs.Measures.{is_same}
use Rattle.search_peaks.specs.Peaks.{told}
use Rattle.law_bounds.specs.Unending.{NeedNotEnd}
use Rattle.search_nodes.specs.declared.found.Bounds.{Bounds}
use Rattle.search_witnesses.specs.declared.findings.Findings.{Findings}
use Rattle.search_witnesses.specs.Failing.{Fails}
use Rattle.search_witnesses.specs.Shown.{IsReached}

-- what is told of a figure is 0, or is known to be shown by some run
abbrev pub is_reached : Findings → Figure → Bool
is_reached f figure =
    told f.bounds.peaks figure == 0
    || list_any (λ (known : Figure). is_same known figure) f.reached.items

-- a figure is the time of a task that is known as one that can be kept from ending
abbrev pub is_endless_by : Findings → Measure → ℕ → Bool
is_endless_by f Measure.Response k = list_any (λ (known : ℕ). known == k) f.endless.items
is_endless_by f other k = false

abbrev pub is_endless : Findings → Figure → Bool
is_endless f figure = is_endless_by f figure.measure figure.number

-- a service, by its number among those of the bounds, is known to be answered so by some run
abbrev pub is_failing : Findings → ℕ → Bool
is_failing f number = list_any (λ (known : ℕ). known == number) f.failing.items

-- what is told of a figure is 0, or some run shows it
abbrev pub IsShown : System → ℕ → List ArrivalRule → Bounds → Figure → Type 0
IsShown S mode rules bounds figure =
    (told bounds.peaks figure ≡ 0) ⊎ IsReached S mode rules bounds figure

-- it is the time of a task that can be kept from ending for as many ticks as one likes
abbrev pub HasNoEndBy : System → ℕ → List ArrivalRule → Measure → ℕ → Type 0
HasNoEndBy S mode rules Measure.Response k = NeedNotEnd S mode rules k
HasNoEndBy S mode rules other k = ⊥

abbrev pub HasNoEnd : System → ℕ → List ArrivalRule → Figure → Type 0
HasNoEnd S mode rules figure = HasNoEndBy S mode rules figure.measure figure.number

-- what is known is so: a figure that is told above 0 is shown by some run below the cap, a time
-- can be made as long as one likes, and some run answers a service as is told
pub record AreFindings (S : System) (mode : ℕ) (rules : List ArrivalRule) (f : Findings)
    : Type 0 where
  pub reached : (figure : Figure) → IsTrue (is_reached f figure)
      → IsShown S mode rules f.bounds figure
  pub endless : (figure : Figure) → IsTrue (is_endless f figure)
      → HasNoEnd S mode rules figure
  pub failing : (number : ℕ) → IsTrue (is_failing f number)
      → Fails S mode rules f.bounds.peaks number

-- bounds of which no run is known
pub record AreUntried (found : Bounds) (f : Findings) : Type 0 where
  pub bounds : f.bounds ≡ found
  pub reached : f.reached.items ≡ []
  pub endless : f.endless.items ≡ []
  pub failing : f.failing.items ≡ []

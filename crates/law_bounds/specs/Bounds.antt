-- Peaks that bound the figures of every run whose interrupts keep rules.
use Rattle.std.specs.Prelude.{ℕ, ◌≡◌, ◌<◌, ◌≤◌, false, List, Contains, IfSome, IsTrue}
use Rattle.osek_base.specs.declared.arrivals.Arrival.{Arrival}
use Rattle.osek_base.specs.Proper.{IsProper}
use Rattle.osek_base.specs.System.{System}
use Rattle.osek_base.specs.Trace.{run}
use Rattle.arrival_rules.specs.declared.rule.ArrivalRule.{ArrivalRule}
use Rattle.law_future.specs.Need.{Suffices}
use Rattle.seen_ticks.specs.Observed.{failure_of, tick_at}
use Rattle.view_figures.specs.FigureSums.{RunFigures}
use Rattle.view_measures.specs.declared.figure.Figure.{Figure}
use Rattle.view_measures.specs.Measures.{is_of}
use Rattle.law_figures.specs.Labels.{IsAtMost}
use Rattle.law_figures.specs.RunFigures.{AreRunFigures}
use Rattle.search_keys.specs.InRange.{NeedsOwnWords}
use Rattle.search.specs.Searched.{AreAll}
use Rattle.search.specs.Levels.{AreLevels}
use Rattle.search.specs.Rules.{AreKept}
use Rattle.search_peaks.specs.Peaks.{Peaks, is_below, told}
use Rattle.arrival_rules.specs.Rules.{KeepRules}
use Rattle.law_bounds.specs.Nodes.{AreNoted, Node, Setting, search_rules}
use Rattle.law_bounds.specs.Showing.{AreTold, shown_at, value}

-- tick n of a run is within peaks: of no figure does it show more than is told, where that is below
-- a cap; and a service that is answered other than E_OK is one of theirs
pub record IsTickWithin (S : System) (mode cap : ℕ) (peaks : Peaks) (arrivals : List Arrival)
    (n : ℕ) : Type 0 where
  pub figures : (figure : Figure) → IsTrue (is_of S figure) → IsTrue (is_below cap peaks figure)
      → IsAtMost (told peaks figure) (shown_at S mode arrivals n figure)
  pub failures : IfSome (failure_of (tick_at S mode arrivals n).executed)
      (λ x. Contains peaks.failures x)

-- whatever arrives that keeps the rules, for so many ticks at most: no run shows more of a figure
-- than is told, where that is below a cap. The time of a task or routine counts what hasn't ended or
-- started behind the last tick too
pub record AreBoundsUpTo (S : System) (mode : ℕ) (rules : List ArrivalRule) (cap : ℕ) (peaks : Peaks)
    (count : ℕ) : Type 0 where
  pub figures : (arrivals : List Arrival) (n : ℕ) (f : RunFigures) (figure : Figure) → n ≤ count
      → KeepRules S rules arrivals → (are : AreRunFigures S mode arrivals n f)
      → AreTold S mode arrivals are.seen figure.measure → IsTrue (is_of S figure)
      → IsTrue (is_below cap peaks figure)
      → value f are.seen (run S mode arrivals n).state.over figure ≤ told peaks figure
  pub ticks : (arrivals : List Arrival) (n : ℕ) → n < count → KeepRules S rules arrivals
      → (run S mode arrivals n).state.over ≡ false → IsTickWithin S mode cap peaks arrivals n

-- and for however many ticks
abbrev pub AreBounds : System → ℕ → List ArrivalRule → ℕ → Peaks → Type 0
AreBounds S mode rules cap peaks =
    (count : ℕ) → AreBoundsUpTo S mode rules cap peaks count

-- ---- the laws

-- where the nodes of a search stand for all that can come, the peaks that it has noted are bounds
abbrev pub SearchesBound : Type 0
SearchesBound =
    (s : Setting) (peaks : Peaks) (nodes : List Node) → IsProper s.system
    → Suffices s.system s.need → NeedsOwnWords s.system s.need
    → AreAll (search_rules s) (AreNoted s peaks) nodes
    → AreBounds s.system s.mode s.rules s.cap peaks

-- where lists of nodes stand for all that can come in so many steps, in runs of so many ticks
abbrev pub LevelsBound : Type 0
LevelsBound =
    (s : Setting) (peaks : Peaks) (count : ℕ) (levels : ℕ → List Node) → IsProper s.system
    → Suffices s.system s.need → NeedsOwnWords s.system s.need
    → AreLevels (search_rules s) (AreNoted s peaks) count levels
    → AreBoundsUpTo s.system s.mode s.rules s.cap peaks count

-- a node stands for what each node stands for that it covers
abbrev pub NodesAreKept : Type 0
NodesAreKept = (s : Setting) → AreKept (search_rules s)

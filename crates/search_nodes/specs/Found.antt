-- What a search through all runs of a system finds.
use Rattle.std.specs.Prelude.{ℕ, ◌<◌, List, length}
use Rattle.osek_base.specs.System.{System}
use Rattle.arrival_rules.specs.declared.rule.ArrivalRule.{ArrivalRule}
use Rattle.law_future.specs.Need.{Need, Suffices}
use Rattle.view_figures.specs.FigureSums.{held_count}
use Rattle.search.specs.declared.outcome.Limits.{Limits}
use Rattle.search.specs.declared.outcome.Outcome.{Outcome}
use Rattle.search.specs.declared.outcome.Outcome.TheVariants.{Decided, Undecided}
use Rattle.search.specs.Outcomes.{IsOutcome}
use Rattle.search_keys.specs.InRange.{NeedsOwnWords}
use Rattle.view_measures.specs.declared.measure.Measure.{Measure}
use Rattle.view_measures.specs.Measures.{figure}
use Rattle.search_peaks.specs.Peaks.{told}
use Rattle.law_bounds.specs.Bounds.{AreBounds, AreBoundsUpTo}
use Rattle.law_bounds.specs.Ending.{EndsWithin}
use Rattle.law_bounds.specs.Nodes.{AreNoted, Setting, search_rules}
use Rattle.law_bounds.specs.Starting.{RoutinesStart}
use Rattle.law_bounds.specs.Releasing.{ReleasesWithin}
use Rattle.search_nodes.specs.declared.found.Bounds.{Bounds}
use Rattle.search_nodes.specs.declared.found.Extent.{Extent}

-- what holds for ever, where the search is decided; else what holds for so many ticks, for as many
-- as it has done levels
abbrev pub Says : Outcome → Type 0 → (ℕ → Type 0) → Type 0
Says (Decided p) ever up_to = ever
Says (Undecided obstacle p) ever up_to = up_to p.levels

-- the peaks are bounds
abbrev pub AreFound : System → ℕ → List ArrivalRule → Bounds → Type 0
AreFound S mode rules found =
    Says found.outcome (AreBounds S mode rules found.cap found.peaks)
    (AreBoundsUpTo S mode rules found.cap found.peaks)

-- where the search is decided, each job ends or begins to wait within its task's greatest response, if
-- that is below the cap
abbrev pub JobsEnd : System → ℕ → List ArrivalRule → Bounds → Type 0
JobsEnd S mode rules found =
    Says found.outcome
    ((k : ℕ) → k < length S.tasks → told found.peaks (figure Measure.Response k) < found.cap
    → EndsWithin S mode rules (told found.peaks (figure Measure.Response k)) k)
    (λ levels. Unit {0})

-- and each routine starts within its greatest latency of each interrupt that isn't lost
abbrev pub InterruptsStart : System → ℕ → List ArrivalRule → Bounds → Type 0
InterruptsStart S mode rules found =
    Says found.outcome (RoutinesStart S mode rules found.cap found.peaks) (λ levels. Unit {0})

-- and each job that gets a resource releases it within the resource's longest hold
abbrev pub HoldsEnd : System → ℕ → List ArrivalRule → Bounds → Type 0
HoldsEnd S mode rules found =
    Says found.outcome
    ((r : ℕ) → r < held_count S → told found.peaks (figure Measure.Hold r) < found.cap
    → ReleasesWithin S mode rules (told found.peaks (figure Measure.Hold r)) r)
    (λ levels. Unit {0})

-- ---- the search

abbrev pub limits_of : Extent → Limits
limits_of extent = record { nodes = extent.nodes; visits = extent.visits }

abbrev pub setting_by : System → ℕ → Need → List ArrivalRule → ℕ → Setting
setting_by S mode need rules cap =
    record { system = S; mode = mode; need = need; rules = rules; cap = cap }

-- it is what a search by some need that suffices has come to: where it is decided, no node is open,
-- and as many as are told stand for all that can come; else it is told why it stopped
pub record IsOfSearch (S : System) (mode : ℕ) (rules : List ArrivalRule) (extent : Extent)
    (found : Bounds) : Type 0 where
  pub need : Need
  pub suffices : Suffices S need
  pub own : NeedsOwnWords S need
  pub outcome : IsOutcome (search_rules (setting_by S mode need rules found.cap))
      (AreNoted (setting_by S mode need rules found.cap) found.peaks) (limits_of extent)
      found.outcome

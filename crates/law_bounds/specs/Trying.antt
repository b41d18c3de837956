-- What a search that tries one state of each node has to know.
use Rattle.std.specs.Prelude.{ℕ, ◌≡◌, ◌<◌, ◌^◌, false, IsTrue, List, length}
use Rattle.osek_base.specs.Proper.{IsProper}
use Rattle.arrival_rules.specs.declared.rule.ArrivalRule.{ArrivalRule}
use Rattle.arrival_rules.specs.Debts.{IsFree}
use Rattle.law_kept.specs.Kept.{Kept}
use Rattle.law_future.specs.Need.{Suffices}
use Rattle.search_keys.specs.InRange.{NeedsOwnWords}
use Rattle.search.specs.Subsets.{IsSubset}
use Rattle.view_figures.specs.FigureSums.{levels_of}
use Rattle.search_labels.specs.Labels.{IsAtLeast, Labels, arrives_in, debt_of}
use Rattle.search_peaks.specs.Noting.{IsNoted}
use Rattle.search_peaks.specs.Peaks.{Peaks}
use Rattle.law_bounds.specs.Nodes.{AreNoted, IsAfter, IsNext, May, Node, Setting, StandsFor, tick_shown_from}

-- ---- labels

pub record LabelsAreOrdered : Type 0 where
  pub itself : (l : Labels) → IsAtLeast l l
  pub joined : (l m n : Labels) → IsAtLeast l m → IsAtLeast m n → IsAtLeast l n

-- ---- states

-- what comes of one state comes of each that the node stands for, and what is seen from it is seen
-- from each
pub record TellsAll (s : Setting) (x : Node) (set : ℕ) (o : Kept) : Type 0 where
  pub next : (y : Node) → IsAfter s x set y o → IsNext s x set y
  pub noted : (peaks : Peaks)
      → IsNoted (levels_of s.system) s.cap peaks (tick_shown_from s set o) x.labels
      → AreNoted s peaks x set

abbrev pub OneStateTells : Type 0
OneStateTells =
    (s : Setting) (x : Node) (set : ℕ) (o : Kept) → IsProper s.system → Suffices s.system s.need
    → NeedsOwnWords s.system s.need → x.over ≡ false → StandsFor s x o → TellsAll s x set o

-- ---- sets of routines

-- the set of all routines that may arrive
pub record AreFree (routines : ℕ) (rules : List ArrivalRule) (l : Labels) (whole : ℕ)
    : Type 0 where
  pub low : whole < 2 ^ routines
  pub free : (i : ℕ) → IsTrue (arrives_in whole i) → IsFree rules (debt_of l) i
  pub others : (i : ℕ) → i < routines → IsFree rules (debt_of l) i → IsTrue (arrives_in whole i)

-- where the run isn't over, just its subsets may
pub record MaySubsets (s : Setting) (x : Node) (whole : ℕ) : Type 0 where
  pub may : (set : ℕ) → IsSubset set whole → May s x set
  pub others : (set : ℕ) → May s x set → IsSubset set whole

abbrev pub SubsetsMay : Type 0
SubsetsMay =
    (s : Setting) (x : Node) (whole : ℕ) → x.over ≡ false
    → AreFree (length s.system.routines) s.rules x.labels whole → MaySubsets s x whole

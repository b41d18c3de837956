-- Interrupts of routines that are pending already: they are lost, and change nothing else.
use Rattle.std.specs.Prelude.{ℕ, ◌≡◌, ◌<◌, ◌≤◌, true, false, IsTrue, length}
use Rattle.law_kept.specs.Kept.{Kept}
use Rattle.law_future.specs.Spans.{is_pending_in}
use Rattle.view_figures.specs.FigureSums.{levels_of}
use Rattle.search_labels.specs.Labels.{arrives_in}
use Rattle.view_measures.specs.declared.measure.Measure.{Measure}
use Rattle.view_measures.specs.Measures.{figure}
use Rattle.search_peaks.specs.Noting.{IsNoted}
use Rattle.search_peaks.specs.Peaks.{Peaks, told}
use Rattle.law_bounds.specs.Nodes.{IsAfter, May, Node, Setting, tick_shown_from}

-- a set without some routines that are pending in a state
pub record IsWithoutLost (s : Setting) (set fewer : ℕ) (o : Kept) : Type 0 where
  pub less : (i : ℕ) → IsTrue (arrives_in fewer i) → IsTrue (arrives_in set i)
  pub pend : (i : ℕ) → i < length s.system.routines → IsTrue (arrives_in set i)
      → arrives_in fewer i ≡ false → is_pending_in o i ≡ true

-- what comes of the state with the smaller set comes of it with the greater one too, and what is
-- noted of the one is noted of the other once the losses are
pub record LoseNothing (s : Setting) (x : Node) (set fewer : ℕ) (o : Kept) : Type 0 where
  pub next : (y : Node) → IsAfter s x fewer y o → IsAfter s x set y o
  pub noted : (peaks : Peaks)
      → IsNoted (levels_of s.system) s.cap peaks (tick_shown_from s fewer o) x.labels
      → ((i : ℕ) → i < length s.system.routines → IsTrue (arrives_in set i)
      → arrives_in fewer i ≡ false → 1 ≤ told peaks (figure Measure.Loss i))
      → IsNoted (levels_of s.system) s.cap peaks (tick_shown_from s set o) x.labels

abbrev pub LostChangeNothing : Type 0
LostChangeNothing =
    (s : Setting) (x : Node) (set fewer : ℕ) (o : Kept) → May s x set
    → IsWithoutLost s set fewer o → LoseNothing s x set fewer o

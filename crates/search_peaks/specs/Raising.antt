-- What raising numbers does: what is shown is in them, none is lower, and they are as before where
-- none has risen.
use Rattle.std.specs.Prelude.{ℕ, ◌≡◌, ◌<◌, ◌≤◌, Bool, false, List, [], ◌∷◌, IsTrue, Option, length}
use Rattle.std.specs.List.{AllByRecursion}
use Rattle.seen_ticks.specs.declared.failures.Failure.{Failure}
use Rattle.seen_ticks.specs.Seen.{Seen}
use Rattle.view_figures.specs.FigureSums.{is_routine, is_task}
use Rattle.view_measures.specs.declared.figure.Figure.{Figure}
use Rattle.view_measures.specs.declared.kind.Kind.{Kind}
use Rattle.view_measures.specs.declared.measure.Measure.{Measure}
use Rattle.view_measures.specs.Measures.{figure}
use Rattle.law_figures.specs.Counts.{one_if}
use Rattle.law_figures.specs.Labels.{IsAtMost}
use Rattle.search_peaks.specs.Noting.{fails_by, is_seen}
use Rattle.search_peaks.specs.Peaks.{number_in}

-- by what holds of the numbers then, and goes on to hold as they rise
pub record Raises (Noted : List ℕ → Type 0) (old new : List ℕ) (has_risen : Bool) : Type 0 where
  pub count : length new ≡ length old
  pub noted : Noted new
  pub rises : (f : Figure) → number_in old f ≤ number_in new f
  pub stays : has_risen ≡ false → new ≡ old

-- what is noted thing by thing: all that is told of a kind but errors
abbrev pub noted_of : Kind → List Measure
noted_of Kind.Task =
    Measure.Response ∷ Measure.Blocked ∷ Measure.Blockers ∷ Measure.Jobs ∷ Measure.Refusal ∷ []
noted_of Kind.Routine = Measure.Latency ∷ Measure.Loss ∷ []
noted_of Kind.Resource = Measure.Hold ∷ []
noted_of Kind.Alarm = Measure.RefusedAction ∷ []
noted_of Kind.System = Measure.Shutdown ∷ []

-- of one thing
abbrev pub IsNotedOf : (Figure → Option ℕ) → List Measure → ℕ → List ℕ → Type 0
IsNotedOf shown measures k numbers =
    AllByRecursion
    (λ m. IsAtMost (number_in numbers (figure m k)) (shown (figure m k))) measures

-- of each thing below a number
abbrev pub IsNotedBelow : (Figure → Option ℕ) → List Measure → ℕ → List ℕ → Type 0
IsNotedBelow shown measures n numbers =
    (k : ℕ) → k < n → IsNotedOf shown measures k numbers

-- of the owner of a service that fails, if one does
pub record AreErrorsNoted (failure : Option Failure) (numbers : List ℕ) : Type 0 where
  pub tasks : (k : ℕ)
      → one_if (fails_by (λ who. is_task who k) failure) ≤ number_in numbers (figure Measure.Errors k)
  pub routines : (i : ℕ)
      → one_if (fails_by (λ who. is_routine who i) failure)
      ≤ number_in numbers (figure Measure.RoutineErrors i)

-- of all that is seen
abbrev pub IsAllNoted : (Figure → Option ℕ) → Seen → List ℕ → Type 0
IsAllNoted shown seen numbers =
    (f : Figure) → IsTrue (is_seen seen f) → IsAtMost (number_in numbers f) (shown f)

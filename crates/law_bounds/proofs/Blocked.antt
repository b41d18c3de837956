-- For how many ticks a task has been blocked in a run, by labels that are at least the run's.
use Rattle.std.proofs.Common.{ℕ, zero, suc, ◌≡◌, ◌<◌, ◌≤◌, false, List, None, length, min, refl, sym, ◌∙◌, subst}
use Rattle.std.specs.Option.{option_map}
use Rattle.osek_base.specs.declared.arrivals.Arrival.{Arrival}
use Rattle.osek_base.specs.Proper.{IsProper}
use Rattle.osek_base.specs.System.{System}
use Rattle.osek_base.specs.Trace.{run}
use Rattle.law_runs.proofs.RunSteps.{going_before}
use Rattle.seen_ticks.specs.Observed.{owner_of, tick_at}
use Rattle.law_future.specs.Alike.{kept_after}
use Rattle.law_seen.specs.Shown.{ShowTheSame, kept_tick_at}
use Rattle.law_seen.proofs.Shown.{runs_show}
use Rattle.view_figures.specs.FigureSums.{levels_of, lower_executes}
use Rattle.law_figures.specs.Blocking.{blocked_in, blocked_next, blocking}
use Rattle.law_figures.specs.RunFigures.{label_before, task_ticks}
use Rattle.search_labels.specs.Labels.{Labels, blocked_of}
use Rattle.search_labels.specs.Ticks.{blocked_tick}
use Rattle.law_bounds.specs.RunTicks.{blocked_at, run_tick}
use Rattle.law_bounds.specs.Nodes.{Setting, lower_from, routines_of, seen_from}
use Rattle.law_bounds.proofs.Arrived.{StandFor, set_at}
use Rattle.law_bounds.proofs.Capped.{blocked_within}
use Rattle.law_bounds.proofs.Seen.{blocked_agrees}
use Rattle.law_bounds.proofs.Standing.{AreBoundsAt, blocked_before}

-- ---- the ticks of a run by its states, and by what is kept of these

module _ (S : System) (mode : ℕ) (arrivals : List Arrival) (proper : IsProper S) (k : ℕ) where
  one_tick : (n : ℕ) → (run S mode arrivals n).state.over ≡ false
      → run_tick S mode arrivals k n ≡ task_ticks S mode arrivals k n
  one_tick n going =
      let told : ShowTheSame S (tick_at S mode arrivals n) (kept_tick_at S mode arrivals n) =
      runs_show S mode arrivals n proper going in
      λ i. record {
        tick = n;
        seen = told.tasks k i;
        lower_executes = lower_executes (levels_of S) (option_map owner_of (told.executed i)) k;
        has_failed = false;
        blockers = None;
      }

  one_label : (n : ℕ) → (run S mode arrivals n).state.over ≡ false
      → label_before blocking (run_tick S mode arrivals k) n
      ≡ label_before blocking (task_ticks S mode arrivals k) n
  one_label zero going = refl
  one_label (suc n) going =
      let before : (run S mode arrivals n).state.over ≡ false =
      going_before S mode arrivals n going in
      λ i. blocked_next (one_tick n before i) (one_label n before i)

  blocked_is : (n : ℕ) → (run S mode arrivals n).state.over ≡ false
      → blocked_at S mode arrivals k n
      ≡ blocked_in (task_ticks S mode arrivals k n)
      (label_before blocking (task_ticks S mode arrivals k) n)
  blocked_is n going = λ i. blocked_in (one_tick n going i) (one_label n going i)

-- ---- what a label shows below the cap

module _ (s : Setting) (arrivals : List Arrival) (n : ℕ) (l : Labels)
    (proper : IsProper s.system) (going : (run s.system s.mode arrivals n).state.over ≡ false)
    (stand : StandFor s.system s.mode arrivals n (routines_of s (set_at s.system arrivals n)))
    (bounds : AreBoundsAt s arrivals n l) where
  abbrev S : System
  S = s.system

  abbrev set : ℕ
  set = set_at S arrivals n

  abbrev shown : ℕ → ℕ
  shown k =
      blocked_in
      (blocked_tick (lower_from s set (kept_after S s.mode arrivals n))
      (seen_from s set (kept_after S s.mode arrivals n)) k)
      (blocked_of l k)

  pub blocked_low : (k m : ℕ) → k < length S.tasks → m < s.cap → min s.cap (shown k) ≤ m
      → blocked_at S s.mode arrivals k n ≤ m
  blocked_low k m low below_cap noted =
      let tick = blocked_tick (lower_from s set (kept_after S s.mode arrivals n))
      (seen_from s set (kept_after S s.mode arrivals n)) k in
      let same : blocked_at S s.mode arrivals k n
      ≡ blocked_in tick (blocked_before s arrivals k n) =
      blocked_is S s.mode arrivals proper k n going
      ∙ (blocked_agrees S s.mode arrivals n (routines_of s set) stand k low
      (blocked_before s arrivals k n)).blocked in
      subst (λ (x : ℕ). x ≤ m) (sym same)
      (blocked_within s.cap m below_cap tick (blocked_of l k) (blocked_before s arrivals k n)
      (bounds.blocked k low) noted)

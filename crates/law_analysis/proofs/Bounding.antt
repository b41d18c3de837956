-- What an analysis tells bounds the figures of every run.
use Rattle.std.proofs.Common.{◌≡◌, ℕ, suc, ◌<◌, ◌≤◌, ◌⊎◌, inl, inr, Bool, true, false, List, length, refl, sym, subst, arith, ltb-true}
use Rattle.std.specs.Prelude.{IsTrue}
use Rattle.osek_base.specs.declared.arrivals.Arrival.{Arrival}
use Rattle.osek_base.specs.Proper.{IsProper}
use Rattle.osek_base.specs.System.{System}
use Rattle.osek_base.specs.Trace.{run}
use Rattle.arrival_rules.specs.declared.rule.ArrivalRule.{ArrivalRule}
use Rattle.arrival_rules.specs.Rules.{KeepRules}
use Rattle.seen_ticks.specs.Observed.{alarm_seen, tick_at}
use Rattle.view_figures.specs.FigureSums.{is_routine, is_task}
use Rattle.view_measures.specs.declared.measure.Measure.{Measure}
use Rattle.view_measures.specs.Measures.{figure, is_of}
use Rattle.search_peaks.specs.Peaks.{Peaks, is_below, told}
use Rattle.law_figures.specs.Counts.{one_if}
use Rattle.law_figures.specs.Labels.{IsAtMost}
use Rattle.law_bounds.specs.Bounds.{IsTickWithin}
use Rattle.law_bounds.specs.RunTicks.{age_at, blocked_at}
use Rattle.law_bounds.specs.Showing.{shown_by}
use Rattle.law_bounds.proofs.Showing.{going_at, value_within}
use Rattle.law_windows.specs.Losses.{NoneIsLost}
use Rattle.law_nodes.specs.Nodes.{Table}
use Rattle.law_analysis.specs.Laws.{AnalysesBound}
use Rattle.law_analysis.specs.Refusing.{NeverRefused, NeverRefusedBy}
use Rattle.law_analysis.specs.Told.{AreAnalysed, LosesNone, StartsBefore, may_end}
use Rattle.law_analysis.proofs.Ages.{jobs_low, response_low}
use Rattle.law_analysis.proofs.Blocked.{blocked_low}
use Rattle.law_analysis.proofs.Ending.{ends_at, goes_on}
use Rattle.law_analysis.proofs.Failing.{failures_told, fails_low, routine_low, task_low}
use Rattle.law_analysis.proofs.Holding.{held_low}
use Rattle.law_analysis.proofs.Refused.{AreToldAt, run_told}
use Rattle.law_analysis.proofs.Waiting.{losses_low, waits_by_later_starts, waits_by_starts}

-- what comes or doesn't is no more than 1
one_at_most : (b : Bool) → one_if b ≤ 1
one_at_most true = omega arith
one_at_most false = omega arith

one_low : (b : Bool) (most : ℕ) → 1 ≤ most → one_if b ≤ most
one_low b most some = let few = one_at_most b in omega (arith, few, some)

only_zero : (n : ℕ) → n < 1 → n ≡ 0
only_zero n low = omega (arith, low)

module _ (S : System) (mode : ℕ) (rules : List ArrivalRule) (cap : ℕ) (table : Table)
    (peaks : Peaks) (proper : IsProper S) (are : AreAnalysed S mode rules cap table peaks)
    (arrivals : List Arrival) (keep : KeepRules S rules arrivals) (n : ℕ)
    (going : (run S mode arrivals n).state.over ≡ false) where
  abbrev most : Measure → ℕ → ℕ
  most measure k = told peaks (figure measure k)

  abbrev IsLow : Measure → ℕ → Type 0
  IsLow measure k = IsAtMost (most measure k) (shown_by S mode arrivals n measure k)

  abbrev IsTold : Measure → ℕ → Type 0
  IsTold measure k = most measure k < cap

  all_told : AreToldAt S table (tick_at S mode arrivals n).executed
  all_told = run_told S mode arrivals table proper are.closed n going

  oldest_low : (k : ℕ) → k < length S.tasks → IsTold Measure.Response k
      → IsAtMost (most Measure.Response k) (age_at S mode arrivals k n)
  oldest_low k known below =
      response_low S mode arrivals proper n k going known rules keep (most Measure.Response k)
      (are.responses k known below)

  task_blocked : (k : ℕ) → k < length S.tasks → IsTold Measure.Blocked k
      → blocked_at S mode arrivals k n ≤ most Measure.Blocked k
  task_blocked k known below =
      let covered = are.blocked k known below in
      let few : blocked_at S mode arrivals k n ≤ most Measure.Response k =
      blocked_low S mode arrivals proper k known n (most Measure.Response k) going
      (oldest_low k known covered.0) in
      let less : most Measure.Response k ≤ most Measure.Blocked k = covered.1 in
      omega (arith, few, less)

  routine_waits : (i : ℕ) → i < length S.routines → IsTold Measure.Latency i
      → IsLow Measure.Latency i
  routine_waits i known below = go (are.latencies i known below)
    where
      go : StartsBefore S mode rules (most Measure.Latency i) i
          ⊎ ((may_end S table ≡ false)
          × StartsBefore S mode rules (suc (most Measure.Latency i)) i)
          → IsLow Measure.Latency i
      go (inl starts) =
          waits_by_starts S mode rules arrivals proper keep i known n (most Measure.Latency i) going
          starts
          (λ over.
          are.endings i known below (ends_at S mode arrivals proper table are.closed n going over))
      go (inr later) =
          waits_by_later_starts S mode rules arrivals proper keep i known n (most Measure.Latency i)
          going later.1 (goes_on S mode arrivals proper table are.closed n going later.0)

  ended : one_if (run S mode arrivals (suc n)).state.over ≤ most Measure.Shutdown 0
  ended = go (run S mode arrivals (suc n)).state.over refl
    where
      go : (b : Bool) → (run S mode arrivals (suc n)).state.over ≡ b
          → one_if b ≤ most Measure.Shutdown 0
      go false is = omega arith
      go true is = are.shutdown (ends_at S mode arrivals proper table are.closed n going is)

  few_refused : (k : ℕ) → NeverRefused S mode rules k ⊎ (1 ≤ most Measure.Refusal k)
      → IsLow Measure.Refusal k
  few_refused k (inl never) = let none = never arrivals n keep going in omega (arith, none)
  few_refused k (inr some) = omega (arith, some)

  few_actions : (a : ℕ) → NeverRefusedBy S mode rules a ⊎ (1 ≤ most Measure.RefusedAction a)
      → IsLow Measure.RefusedAction a
  few_actions a (inl never) =
      subst (λ b. one_if b ≤ most Measure.RefusedAction a) (sym (never arrivals n keep going))
      (omega arith)
  few_actions a (inr some) =
      one_low (alarm_seen (tick_at S mode arrivals n) a).is_refused (most Measure.RefusedAction a)
      some

  low_by : (measure : Measure) (k : ℕ) → IsTrue (is_of S (figure measure k))
      → IsTrue (is_below cap peaks (figure measure k)) → IsLow measure k
  low_by Measure.Response k of below =
      oldest_low k (ltb-true _ _ of) (ltb-true _ _ below)
  low_by Measure.Blocked k of below = task_blocked k (ltb-true _ _ of) (ltb-true _ _ below)
  low_by Measure.Blockers k of below =
      let some = are.blockers k (ltb-true _ _ of) in omega (arith, some)
  low_by Measure.Jobs k of below =
      let known = ltb-true _ _ of in
      let few = jobs_low S mode arrivals proper n k going known in
      let some = are.jobs k known in
      omega (arith, few, some)
  low_by Measure.Refusal k of below = few_refused k (are.refusals k (ltb-true _ _ of))
  low_by Measure.Errors k of below =
      fails_low S table peaks are.failures (λ who. is_task who k) (most Measure.Errors k)
      (task_low peaks k) (tick_at S mode arrivals n).executed all_told
  low_by Measure.Latency k of below = routine_waits k (ltb-true _ _ of) (ltb-true _ _ below)
  low_by Measure.Loss k of below =
      let known = ltb-true _ _ of in
      losses_low S mode rules arrivals proper keep k known n (most Measure.Loss k) going
      (go (are.losses k known))
    where
      go : LosesNone S mode rules k ⊎ (1 ≤ most Measure.Loss k)
          → NoneIsLost S mode arrivals k ⊎ (1 ≤ most Measure.Loss k)
      go (inl none) = inl (none arrivals keep)
      go (inr some) = inr some
  low_by Measure.RoutineErrors k of below =
      fails_low S table peaks are.failures (λ who. is_routine who k) (most Measure.RoutineErrors k)
      (routine_low peaks k) (tick_at S mode arrivals n).executed all_told
  low_by Measure.Hold r of below =
      let known = ltb-true _ _ of in
      held_low S mode arrivals proper rules keep n going r (most Measure.Hold r) known
      (λ k inside takes.
      let covered = are.holds r k known inside (ltb-true _ _ below) takes in
      (most Measure.Response k, are.responses k inside covered.0, covered.1))
  low_by Measure.RefusedAction a of below = few_actions a (are.actions a (ltb-true _ _ of))
  low_by Measure.Shutdown z of below =
      subst
      (λ m. one_if (run S mode arrivals (suc n)).state.over ≤ most Measure.Shutdown m)
      (sym (only_zero z (ltb-true _ _ of))) ended

  tick_within : IsTickWithin S mode cap peaks arrivals n
  tick_within = record {
    figures = λ f of below. low_by f.measure f.number of below;
    failures =
        failures_told S table peaks are.failures (tick_at S mode arrivals n).executed all_told;
  }

-- ---- the law

pub analyses_bound : AnalysesBound
analyses_bound S mode rules cap table peaks proper are count = record {
  figures = λ arrivals n f figure few keep seen told_so of below.
      value_within S mode arrivals n f figure (told peaks figure) seen told_so of
      (λ i inside.
      (tick_within S mode rules cap table peaks proper are arrivals keep i
      (going_at S mode arrivals n seen.seen seen.ticks i inside)).figures figure of below);
  ticks = λ arrivals n early keep going.
      tick_within S mode rules cap table peaks proper are arrivals keep n going;
}

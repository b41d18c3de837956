-- OSEK/VDX OS: interrupt processing, category 2. What is told of latencies is so: less what the
-- routine itself executes, where no run ends.
use Rattle.std.proofs.Common.{ℕ, suc, ◌+◌, ◌-◌, ◌≡◌, ◌<◌, ◌≤◌, ◌⊎◌, inl, inr, Bool, true, false, List, length, sym, subst, arith}
use Rattle.osek_base.specs.Proper.{IsProper}
use Rattle.osek_base.specs.System.{System}
use Rattle.arrival_rules.specs.declared.rule.ArrivalRule.{ArrivalRule}
use Rattle.view_measures.specs.declared.measure.Measure.{Measure}
use Rattle.view_measures.specs.Measures.{figure}
use Rattle.search_peaks.specs.Peaks.{Peaks, told}
use Rattle.law_windows.specs.Analysis.{IsBoundOf}
use Rattle.law_windows.specs.Routines.{begun}
use Rattle.law_windows.specs.Work.{goes_at}
use Rattle.law_costs.specs.Left.{on}
use Rattle.law_nodes.specs.Closed.{is_closed}
use Rattle.law_nodes.specs.Nodes.{Table}
use Rattle.law_analysis.specs.Late.{LongRoutinesStartEarly}
use Rattle.law_analysis.specs.Lengths.{Lasts}
use Rattle.law_analysis.specs.Told.{StartsBefore, may_end}
use Rattle.analysis_bounds.specs.declared.levels.TheConstants.{CAP}
use Rattle.analysis_bounds.specs.Told.{IsSomeMost, IsSoonTold}
use Rattle.analysis_bounds.specs.Windows.{AreMosts}

module _ (S : System) (mode : ℕ) (rules : List ArrivalRule) (peaks : Peaks) (mosts : List ℕ)
    (bounds : AreMosts S mode rules CAP mosts) (most i : ℕ) (known : i < length S.routines)
    (is_most : IsSomeMost S mosts i most) where
  some_bound : most < CAP
      → (p : ℕ) × (goes_at S p i ≡ true) × IsBoundOf S mode rules p most
  some_bound low =
      let is = is_most low in (
        is.0,
        is.3,
        subst (IsBoundOf S mode rules is.0) is.2
            (bounds is.0 is.1 (subst (λ n. n < CAP) (sym is.2) low)),
      )

  later : (few many : ℕ) → few ≤ many → StartsBefore S mode rules few i
      → StartsBefore S mode rules many i
  later few many less before =
      λ arrivals n since keep over first pends.
      (let soon = before arrivals n since keep over first pends in
      omega (arith, soon, less))

  pub latency_told : (table : Table) (over : Bool) (count : ℕ) → LongRoutinesStartEarly
      → IsProper S → is_closed S table ≡ true → Lasts S count on (begun i)
      → (over ≡ false → may_end S table ≡ false) → IsSoonTold peaks most over count i
      → told peaks (figure Measure.Latency i) < CAP
      → StartsBefore S mode rules (told peaks (figure Measure.Latency i)) i
      ⊎ ((may_end S table ≡ false)
      × StartsBefore S mode rules (suc (told peaks (figure Measure.Latency i))) i)
  latency_told table over count law proper closed lasts none soon low = go (soon low)
    where
      go : ((most ≤ told peaks (figure Measure.Latency i))
          ⊎ ((over ≡ false) × (most < CAP)
          × (most ≤ told peaks (figure Measure.Latency i) + count)))
          → StartsBefore S mode rules (told peaks (figure Measure.Latency i)) i
          ⊎ ((may_end S table ≡ false)
          × StartsBefore S mode rules (suc (told peaks (figure Measure.Latency i))) i)
      go (inl less) =
          let found = some_bound (omega (arith, less, low)) in
          inl (later most (told peaks (figure Measure.Latency i)) less
          (λ arrivals n since keep over first pends.
          (found.2.responses arrivals keep).routines n since i over known found.1 first pends))
      go (inr one) =
          let less = one.2 in
          let found = some_bound one.1 in
          inr (
            none one.0,
            later (suc (most - count)) (suc (told peaks (figure Measure.Latency i)))
                (omega (arith, less))
                (law S mode rules table found.0 most i count proper closed (none one.0) known
                found.1 found.2 lasts),
          )

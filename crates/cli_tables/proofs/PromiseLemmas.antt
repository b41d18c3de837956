-- What cells promise is so.
use Rattle.std.specs.Prelude.{ℕ, ◌≡◌, ◌<◌, Bool, true, false, cond, IsTrue, List}
use Rattle.std.proofs.Common.{refl, subst}
use Rattle.std.proofs.lemmas.Bool.{ltb-true}
use Rattle.osek_base.specs.System.{System}
use Rattle.arrival_rules.specs.declared.rule.ArrivalRule.{ArrivalRule}
use Rattle.view_measures.specs.declared.figure.Figure.{Figure}
use Rattle.view_measures.specs.declared.measure.Measure.{Measure}
use Rattle.view_measures.specs.declared.measure.Sort.{Sort}
use Rattle.view_measures.specs.Measures.{sort_of}
use Rattle.search_peaks.specs.Peaks.{is_below, is_number_below, is_sort_below, told}
use Rattle.search_witnesses.specs.declared.findings.Findings.{Findings}
use Rattle.search_witnesses.specs.Findings.{AreFindings, is_endless, is_reached}
use Rattle.cli_tables.specs.declared.cells.Cell.{Cell}
use Rattle.cli_tables.specs.Cells.{cell_below, cell_of}
use Rattle.cli_tables.specs.Promises.{IsPromised, Promises}

-- a time below the cap is less
below_by_sort : (cap : ℕ) (measure : Measure) (n : ℕ) → IsTrue (is_number_below cap measure n)
    → IsTrue (is_sort_below cap (sort_of measure) n)
below_by_sort cap Measure.Blockers n h = refl
below_by_sort cap other n h = h

less_than_cap : (cap : ℕ) (measure : Measure) (n : ℕ) → sort_of measure ≡ Sort.Time
    → IsTrue (is_number_below cap measure n) → n < cap
less_than_cap cap measure n is h =
    ltb-true n cap (subst (λ s. IsTrue (is_sort_below cap s n)) is (below_by_sort cap measure n h))

module _ (S : System) (mode : ℕ) (rules : List ArrivalRule) (f : Findings)
    (are : AreFindings S mode rules f) where
  -- what is told is marked as reached where it is so
  promised_so : (figure : Figure) → IsTrue (is_below f.bounds.cap f.bounds.peaks figure)
      → IsPromised S mode rules f.bounds figure (is_reached f figure)
  promised_so figure below = record { below = below; shown = are.reached figure }

  by_sort : (figure : Figure) (sort : Sort) → sort_of figure.measure ≡ sort
      → IsTrue (is_below f.bounds.cap f.bounds.peaks figure)
      → Promises S mode rules f.bounds figure
      (cell_below sort (told f.bounds.peaks figure) (is_reached f figure))
  by_sort figure Sort.Time is h = (
    refl,
    less_than_cap f.bounds.cap figure.measure (told f.bounds.peaks figure) is h,
    promised_so figure h,
  )
  by_sort figure Sort.Count is h = (refl, promised_so figure h)
  by_sort figure Sort.Coming is h = (refl, promised_so figure h)

  -- what is told without an end, below the cap, or above it
  by_end : (figure : Figure) (told : Cell) (ends below : Bool)
      → (IsTrue ends → Promises S mode rules f.bounds figure Cell.Unbounded)
      → (IsTrue below → Promises S mode rules f.bounds figure told)
      → is_below f.bounds.cap f.bounds.peaks figure ≡ below
      → Promises S mode rules f.bounds figure (cond ends Cell.Unbounded (cond below told Cell.Above))
  by_end figure told true below unbounded within is = unbounded refl
  by_end figure told false true unbounded within is = within refl
  by_end figure told false false unbounded within is = is

  pub promised : (figure : Figure) → Promises S mode rules f.bounds figure (cell_of f figure)
  promised figure =
      by_end figure _ (is_endless f figure) (is_below f.bounds.cap f.bounds.peaks figure)
      (are.endless figure) (by_sort figure (sort_of figure.measure) refl) refl

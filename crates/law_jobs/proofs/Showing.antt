-- What labels over the observations of a run show, labels before each of its ticks show.
use Rattle.std.proofs.Common.{◌≡◌, ◌⊎◌, inl, inr, ℕ, zero, suc, ◌<◌, ◌≤◌, false, List, [], ◌∷◌, map, ◌∙◌, ap, subst, arith}
use Rattle.std.specs.Prelude.{Option}
use Rattle.std.proofs.lemmas.Bool.{cases_lt}
use Rattle.osek_base.specs.declared.arrivals.Arrival.{Arrival}
use Rattle.osek_base.specs.System.{System}
use Rattle.osek_base.specs.Trace.{run}
use Rattle.seen_ticks.specs.declared.observation.Observation.{Observation}
use Rattle.law_figures.specs.Labels.{IsAtMost, Label, NoneShowsMore, label_after}
use Rattle.law_figures.specs.RunFigures.{AreTicksOf, IsTickOf, NoneMoreBefore, label_before}
use Rattle.law_figures.proofs.Running.{same_label}

module _ (S : System) (mode : ℕ) (arrivals : List Arrival) where
  pub goes_on : (n : ℕ) (seen : List Observation) → AreTicksOf S mode arrivals n seen → (i : ℕ)
      → i < n → (run S mode arrivals i).state.over ≡ false
  goes_on zero seen are i low = absurd (omega (arith, low))
  goes_on (suc n) [] are i low = absurd are
  goes_on (suc n) (o ∷ before) are i low = go (cases_lt i n) (goes_on n before are.1 i)
    where
      go : (i < n) ⊎ (n ≤ i) → (i < n → (run S mode arrivals i).state.over ≡ false)
          → (run S mode arrivals i).state.over ≡ false
      go (inl less) rest = rest less
      go (inr more) rest =
          let here : n ≡ i = omega (arith, low, more) in
          subst (λ j. (run S mode arrivals j).state.over ≡ false) here are.0.going

  module _ {T L : Type 0} (label : Label T L) (show : T → L → Option ℕ) (tick : Observation → T)
      (ticks : ℕ → T)
      (next : (n : ℕ) (o : Observation) → IsTickOf S mode arrivals n o → (l : L)
      → label.next (tick o) l ≡ label.next (ticks n) l)
      (shown : (n : ℕ) (o : Observation) → IsTickOf S mode arrivals n o → (l : L)
      → show (tick o) l ≡ show (ticks n) l) where
    pub none_before : (m n : ℕ) (seen : List Observation) → AreTicksOf S mode arrivals n seen
        → NoneShowsMore label show m (map tick seen) → NoneMoreBefore label show ticks m n
    none_before m zero seen are none i low = absurd (omega (arith, low))
    none_before m (suc n) [] are none i low = absurd are
    none_before m (suc n) (o ∷ before) are none i low =
        go (cases_lt i n) (none_before m n before are.1 none.1 i)
      where
        same : show (tick o) (label_after label (map tick before))
            ≡ show (ticks n) (label_before label ticks n)
        same =
            shown n o are.0 (label_after label (map tick before))
            ∙ ap (show (ticks n))
            (same_label S mode arrivals label show tick ticks next shown n before are.1)

        go : (i < n) ⊎ (n ≤ i)
            → (i < n → IsAtMost m (show (ticks i) (label_before label ticks i)))
            → IsAtMost m (show (ticks i) (label_before label ticks i))
        go (inl less) rest = rest less
        go (inr more) rest =
            let here : n ≡ i = omega (arith, low, more) in
            subst (λ j. IsAtMost m (show (ticks j) (label_before label ticks j))) here
            (subst (IsAtMost m) same none.0)

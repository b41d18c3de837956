-- What is counted of all ticks of a run are its figures.
use Rattle.std.proofs.Common.{◌≡◌, ℕ, suc, ◌+◌, ◌<◌, min, true, false, List, [], ◌∷◌, ◌++◌, length, append-nil, refl, sym, ◌∙◌, ap, subst, arith}
use Rattle.std.specs.Prelude.{IfSome, None, Option, Some, reverse}
use Rattle.osek_base.specs.declared.arrivals.Arrival.{Arrival}
use Rattle.osek_base.specs.declared.limits.TheConstants.{MAX_TICKS}
use Rattle.osek_base.specs.BlockingText.{blockers_at}
use Rattle.osek_base.specs.System.{System}
use Rattle.osek_base.specs.Trace.{run}
use Rattle.seen_ticks.specs.declared.observation.Observation.{Observation}
use Rattle.seen_ticks.specs.Observed.{IsObserved}
use Rattle.law_figures.specs.RunFigures.{AreTicksOf}
use Rattle.law_figures.specs.Telling.{TellBlockers}
use Rattle.view_runs.specs.Law.{CountedAreRunFigures}
use Rattle.view_runs.specs.Seen.{AreSeen}
use Rattle.view_runs.proofs.CountLemmas.{reverse_first}
use Rattle.view_runs.proofs.RunLemmas.{few_steps, not_over, steps}

-- observations, oldest first, behind others, newest first
newest_first : (S : System) (mode : ℕ) (arrivals : List Arrival) (t : ℕ) (seen before : List Observation)
    → ((k : ℕ) → k < length seen → (run S mode arrivals (t + k)).state.over ≡ false) → AreSeen true S mode arrivals t seen
    → AreTicksOf S mode arrivals t before → AreTicksOf S mode arrivals (t + length seen) (reverse seen ++ before)
newest_first S mode arrivals t [] before going are ticks =
    let same : t ≡ t + 0 = omega arith in
    subst (λ n. AreTicksOf S mode arrivals n before) same ticks
newest_first S mode arrivals t (o ∷ seen) before going are ticks =
    let same : suc t + length seen ≡ t + suc (length seen) = omega arith in
    let here : t + 0 ≡ t = omega arith in
    let now : AreTicksOf S mode arrivals (suc t) (o ∷ before) = (
      record {
        number = are.0.number;
        going = subst (λ n. (run S mode arrivals n).state.over ≡ false) here (going 0 (omega arith));
        seen = are.0.seen;
      },
      ticks,
    ) in
    let later : (k : ℕ) → k < length seen → (run S mode arrivals (suc t + k)).state.over ≡ false = λ k low.
    let next : t + suc k ≡ suc t + k = omega arith in
    subst (λ n. (run S mode arrivals n).state.over ≡ false) next (going (suc k) (omega (arith, low))) in
    subst (λ n. AreTicksOf S mode arrivals n (reverse (o ∷ seen) ++ before)) same
    (subst (AreTicksOf S mode arrivals (suc t + length seen)) (sym (reverse_first o seen before))
    (newest_first S mode arrivals (suc t) seen (o ∷ before) later are.1 now))

-- and where each is seen with its number of blockers, that is what they tell
told_by : (S : System) (mode : ℕ) (arrivals : List Arrival) (t : ℕ) (o : Observation)
    → IsObserved true S mode arrivals t o
    → IfSome o.blockers (λ m. blockers_at S mode arrivals o.tick ≡ Some m)
told_by S mode arrivals t o is = go o.blockers (is.blockers refl)
  where
    go : (b : Option ℕ) → b ≡ blockers_at S mode arrivals t
        → IfSome b (λ m. blockers_at S mode arrivals o.tick ≡ Some m)
    go None same = tt
    go (Some m) same = ap (blockers_at S mode arrivals) is.number ∙ sym same

newest_told : (S : System) (mode : ℕ) (arrivals : List Arrival) (t : ℕ)
    (seen before : List Observation) → AreSeen true S mode arrivals t seen
    → TellBlockers S mode arrivals before → TellBlockers S mode arrivals (reverse seen ++ before)
newest_told S mode arrivals t [] before are told = told
newest_told S mode arrivals t (o ∷ seen) before are told =
    subst (TellBlockers S mode arrivals) (sym (reverse_first o seen before))
    (newest_told S mode arrivals (suc t) seen (o ∷ before) are.1
    (told_by S mode arrivals t o are.0, told))

pub counted_are_run_figures : CountedAreRunFigures
counted_are_run_figures r ticks f proper counted =
    let seen = counted.sees.seen in
    let n = length seen in
    let most = min ticks MAX_TICKS in
    let many : n ≡ steps r.system r.mode r.arrivals most = counted.sees.all in
    let low = few_steps r.system r.mode r.arrivals most in
    let going : (k : ℕ) → k < n → (run r.system r.mode r.arrivals (0 + k)).state.over ≡ false = λ k below.
    let here : k ≡ 0 + k = omega arith in
    subst (λ m. (run r.system r.mode r.arrivals m).state.over ≡ false) here
    (not_over r.system r.mode r.arrivals k most (omega (arith, below, many))) in
    let all = newest_first r.system r.mode r.arrivals 0 seen [] going counted.sees.each tt in
    record {
      count = n;
      all = many;
      few = omega (arith, many, low);
      are = record {
        seen = reverse seen;
        proper = proper;
        small = omega (arith, many, low);
        ticks =
            let here : 0 + n ≡ n = omega arith in
            subst (λ m. AreTicksOf r.system r.mode r.arrivals m (reverse seen)) here
            (subst (AreTicksOf r.system r.mode r.arrivals (0 + n)) (append-nil (reverse seen)) all);
        figures = counted.counted;
      };
      told =
          subst (TellBlockers r.system r.mode r.arrivals) (append-nil (reverse seen))
          (newest_told r.system r.mode r.arrivals 0 seen [] counted.sees.each tt);
    }

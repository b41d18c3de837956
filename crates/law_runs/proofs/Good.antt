-- Every state of every run of a proper system is good, and has its shape.
use Rattle.std.proofs.Common.{◌≡◌, ℕ, zero, suc, ◌<◌, ◌≤◌, ◌⊎◌, inl, inr, Bool, true, false, not, ◌||◌, List, [], ◌∷◌, refl, sym, ◌∙◌, ap, subst, arith}
use Rattle.std.specs.Prelude.{Some, slice_get}
use Rattle.std.specs.List.{AllByRecursion}
use Rattle.std.proofs.lemmas.Bool.{cases_lt}
use Rattle.osek_base.specs.System.{System}
use Rattle.osek_base.specs.State.{Job, JobId, State, Active, same_id, waits}
use Rattle.osek_base.specs.Priority.{static_priority, dynamic_priority}
use Rattle.osek_base.specs.Trace.{run}
use Rattle.osek_base.specs.GoodState.{IsGood, IsShaped, IsJobAt, IsRunningJob, IsRoutine, is_raised}
use Rattle.osek_base.specs.Laws.{StaysGood}
use Rattle.law_runs.proofs.Lists.{Pairs, clash}
use Rattle.law_runs.proofs.Foremost.{same_self}
use Rattle.law_runs.proofs.Single.{IsSoundJob, IsSoundPair}
use Rattle.law_runs.proofs.SingleService.{runner_begun}
use Rattle.law_runs.proofs.Ranked.{IsRankedPair, IsBehind, IsStill}
use Rattle.law_runs.proofs.RankedTick.{IsRunState, run_ordered}
use Rattle.law_runs.proofs.Formed.{IsPlacedJob, IsPlacedRoutine, HasActive, HasForm}
use Rattle.law_runs.proofs.FormedTick.{run_form}

-- ---- at a place of a list

module _ {X : Type 0} where
  pub all_get : (P : X → Type 0) (xs : List X) (i : ℕ) (x : X) → AllByRecursion P xs → slice_get xs i ≡ Some x → P x
  all_get P [] i x all e = absurd (grind arith)
  all_get P (y ∷ xs) zero x all e = let same : y ≡ x = grind arith in subst P same all.0
  all_get P (y ∷ xs) (suc i) x all e = all_get P xs i x all.1 e

  pub pairs_get : (R : X → X → Type 0) (xs : List X) (i k : ℕ) (x y : X) → Pairs R xs → slice_get xs i ≡ Some x → slice_get xs k ≡ Some y → i < k → R x y
  pairs_get R [] i k x y all ex ey less = absurd (grind arith)
  pairs_get R (z ∷ xs) zero zero x y all ex ey less = absurd (omega arith)
  pairs_get R (z ∷ xs) zero (suc k) x y all ex ey less =
      let same : z ≡ x = grind arith in
      subst (λ w. R w y) same (all_get (R z) xs k y all.0 ey)
  pairs_get R (z ∷ xs) (suc i) zero x y all ex ey less = absurd (omega arith)
  pairs_get R (z ∷ xs) (suc i) (suc k) x y all ex ey less = pairs_get R xs i k x y all.1 ex ey (omega arith)

-- ---- a good state

module _ (S : System) (s : State) (run_state : IsRunState S s) (form : HasForm S s) where
  good_apart : (i k : ℕ) (j l : Job) → IsJobAt s i j → IsJobAt s k l → j.id ≡ l.id → i ≡ k
  good_apart i k j l at_i at_k e = go (cases_lt i k) (cases_lt k i)
    where
      never : (m n : ℕ) (x y : Job) → IsJobAt s m x → IsJobAt s n y → x.id ≡ y.id → m < n → ⊥
      never m n x y at_m at_n same less =
          let pair : IsSoundPair S x y = pairs_get (IsSoundPair S) s.jobs m n x y run_state.single.pairs at_m at_n less in
          clash (sym (same_self y.id) ∙ ap (λ (n : JobId). same_id y.id n) (sym same) ∙ pair.apart)

      go : (i < k) ⊎ (k ≤ i) → (k < i) ⊎ (i ≤ k) → i ≡ k
      go (inl less) other = absurd (never i k j l at_i at_k e less)
      go (inr ge) (inl less) = absurd (never k i l j at_k at_i (sym e) less)
      go (inr ge) (inr le) = omega arith

  each_at : (i : ℕ) (j : Job) → IsJobAt s i j → IsSoundJob S s.made j
  each_at i j at_i = all_get (IsSoundJob S s.made) s.jobs i j run_state.single.each at_i

  good_held : (i : ℕ) (j : Job) → IsJobAt s i j → (not j.begun || waits j) ≡ true → (j.held ≡ []) × (j.taken ≡ false)
  good_held i j at_i h = go j.begun refl h
    where
      go : (b : Bool) → j.begun ≡ b → (not b || waits j) ≡ true → (j.held ≡ []) × (j.taken ≡ false)
      go false e k = (each_at i j at_i).idle e
      go true e k = all_get IsStill s.jobs i j run_state.ordered.ranked.still at_i k

  good_older : (i k : ℕ) (j l : Job) → IsJobAt s i j → IsJobAt s k l → (IsRunningJob s j ⊎ (is_raised S j ≡ true)) → waits l ≡ false
      → static_priority S j ≤ dynamic_priority S l → dynamic_priority S l ≤ dynamic_priority S j → i ≤ k
  good_older i k j l at_i at_k high ready low up = go (cases_lt k i) high
    where
      go : (k < i) ⊎ (i ≤ k) → (IsRunningJob s j ⊎ (is_raised S j ≡ true)) → i ≤ k
      go (inr le) either = le
      go (inl less) (inl runs) =
          absurd (pairs_get (IsBehind S s.running) s.jobs k i l j run_state.ordered.ranked.behind at_k at_i less runs ready low up)
      go (inl less) (inr raised) =
          absurd ((pairs_get (IsRankedPair S) s.jobs k i l j run_state.ordered.ranked.pairs at_k at_i less).older raised ready low up)

  good_across : (i k : ℕ) (j l : Job) → IsJobAt s i j → IsJobAt s k l → is_raised S j ≡ true → waits l ≡ false
      → static_priority S l ≤ dynamic_priority S j → dynamic_priority S l ≤ dynamic_priority S j
  good_across i k j l at_i at_k raised ready le = go (cases_lt i k) (cases_lt k i)
    where
      go : (i < k) ⊎ (k ≤ i) → (k < i) ⊎ (i ≤ k) → dynamic_priority S l ≤ dynamic_priority S j
      go (inl less) other = (pairs_get (IsRankedPair S) s.jobs i k j l run_state.ordered.ranked.pairs at_i at_k less).later_across raised ready le
      go (inr ge) (inl less) = (pairs_get (IsRankedPair S) s.jobs k i l j run_state.ordered.ranked.pairs at_k at_i less).earlier_across raised ready le
      go (inr ge) (inr lt) =
          let same : i ≡ k = omega arith in
          let both : Some j ≡ Some l = sym at_i ∙ ap (λ n. slice_get s.jobs n) same ∙ at_k in
          let one : j ≡ l = grind arith in
          subst (λ z. dynamic_priority S z ≤ dynamic_priority S j) one (omega arith)

  pub good : IsGood S s
  good = record {
    apart = good_apart;
    given = λ i j at_i. (each_at i j at_i).given;
    limited = λ t inside. form.formed.limited t;
    oldest_begun = λ i k j l at_i at_k less e. (pairs_get (IsSoundPair S) s.jobs i k j l run_state.single.pairs at_i at_k less).unbegun e;
    running_begun = λ i j at_i runs. all_get (λ k. same_id k.id j.id ≡ true → k.begun ≡ true) s.jobs i j (runner_begun S s run_state.single j.id runs) at_i (same_self j.id);
    extended_wait = λ i j at_i h. (each_at i j at_i).extended h;
    running_ready = λ i j at_i runs. all_get (λ k. s.running ≡ Some k.id → waits k ≡ false) s.jobs i j run_state.ordered.ready at_i runs;
    nothing_held = good_held;
    older = good_older;
    none_across = good_across;
  }

  placed_at : (i : ℕ) (j : Job) → IsJobAt s i j → IsPlacedJob S j
  placed_at i j at_i = all_get (IsPlacedJob S) s.jobs i j form.formed.jobs at_i

  active_at : (a : Active) → IsRoutine s a → IsPlacedRoutine S a
  active_at a e = subst (HasActive S) e form.active

  pub shaped : IsShaped S s
  shaped = record {
    made = run_state.single.known;
    masks = form.formed.masks;
    pending = form.pending;
    alarms = form.formed.alarms;
    job_tasks = λ i j at_i. (placed_at i j at_i).task;
    job_registers = λ i j at_i. (placed_at i j at_i).context.registers;
    job_places = λ i j at_i. (placed_at i j at_i).context.place;
    routine = λ a e. (active_at a e).routine;
    routine_registers = λ a e. (active_at a e).context.registers;
    routine_place = λ a e. (active_at a e).context.place;
  }

pub stays_good : StaysGood
stays_good S mode arrivals n proper inside =
    let s : State = (run S mode arrivals n).state in
    let run_state : IsRunState S s = run_ordered S proper mode arrivals n in
    let form : HasForm S s = run_form S proper mode arrivals n in
    (good S s run_state form, shaped S s run_state form)

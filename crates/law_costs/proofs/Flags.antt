-- Arrivals add what they cost, and the start of a routine adds nothing.
use Rattle.std.proofs.Common.{ℕ, zero, suc, ◌≡◌, ◌<◌, ◌≤◌, ◌+◌, inl, inr, Bool, true, false, cond, ◌&&◌, List, [], ◌∷◌, set, length, refl, ap, arith}
use Rattle.std.specs.Prelude.{Option, Some, None, slice_index_or}
use Rattle.std.specs.List.{sum_by}
use Rattle.std.proofs.lemmas.Bool.{and_from, and_parts}
use Rattle.osek_base.specs.Lists.{below, is_foremost, is_in}
use Rattle.osek_base.specs.State.{State, may_dispatch}
use Rattle.osek_base.specs.System.{System, routine}
use Rattle.osek_base.specs.Tick.{arrival_phase, is_pending, routine_choice, routine_started, start_phase, with_start_of}
use Rattle.law_future.specs.Shown.{chosen_of}
use Rattle.law_runs.proofs.Known.{all_below}
use Rattle.law_runs.proofs.Foremost.{foremost_greatest}
use Rattle.law_runs.proofs.Lists.{found}
use Rattle.law_windows.specs.Routines.{begun}
use Rattle.law_windows.specs.Work.{goes_at, has_work, is_pending_at}
use Rattle.law_windows.proofs.Losses.{not_taken, raised}
use Rattle.law_costs.specs.Left.{Weights, left, left_of_active, left_of_jobs, on, switch_of}
use Rattle.law_costs.specs.Paying.{PayForComing}
use Rattle.law_costs.proofs.Levels.{work_starts}
use Rattle.law_costs.proofs.Switches.{all_on, dispatching}
use Rattle.law_costs.proofs.Totals.{sum_either, sum_taken}

flag_off : (flags : List Bool) (i : ℕ) → slice_index_or (set flags i false) i false ≡ false
flag_off [] i = refl
flag_off (b ∷ flags) zero = refl
flag_off (b ∷ flags) (suc i) = flag_off flags i

module _ (S : System) (p : ℕ) (c : Weights) where
  pub arrivals_add : (arrived : List ℕ) (s : State)
      → left S p c (arrival_phase arrived s)
      ≤ left S p c s + sum_by c.costs.of_arrival (chosen_of S (λ i. is_in i arrived))
  arrivals_add arrived s =
      let more =
      sum_either c.costs.of_arrival (is_pending_at S p (arrival_phase arrived s))
      (is_pending_at S p s) (λ i. is_in i arrived) (below (length S.routines))
      (λ i is.
      (let both = and_parts (is_pending (arrival_phase arrived s) i) (goes_at S p i) is in
      elim (raised arrived s.pending i both.0) [
        | inl now ↦ inr now
        | inr before ↦ inl (and_from (is_pending s i) (goes_at S p i) before both.1)
      ]))
      in
      omega (arith, more)

  module _ (pays : PayForComing S p c) (s : State) (may : may_dispatch s ≡ true) where
    chosen_less : (i : ℕ) → routine_choice S s ≡ Some i → goes_at S p i ≡ true
        → left S p c (with_start_of s (routine_started (Some i) s)) ≤ left S p c s
    chosen_less i chosen goes =
        let there : State = with_start_of s (routine_started (Some i) s) in
        let rank : ℕ → ℕ = λ k. (routine S k).priority in
        let best =
        found (λ k. k < length S.routines)
        (is_foremost (is_pending s) rank (below (length S.routines)))
        (below (length S.routines)) i (all_below (length S.routines)) chosen in
        let pends : is_pending s i ≡ true =
        (foremost_greatest (is_pending s) rank (below (length S.routines)) i best.1).0 in
        let fewer =
        sum_taken c.costs.of_arrival (is_pending_at S p s) (is_pending_at S p there)
        (is_foremost (is_pending s) rank (below (length S.routines))) (below (length S.routines)) i
        chosen (and_from (is_pending s i) (goes_at S p i) pends goes)
        (ap (λ b. b && goes_at S p i) (flag_off s.pending i))
        (λ k is.
        (let both = and_parts (is_pending there k) (goes_at S p k) is in
        and_from (is_pending s k) (goes_at S p k) (not_taken s.pending i k both.0) both.1)) in
        let is = (dispatching s may).1 in
        let jobs = ap (λ find. left_of_jobs S p c s.masks find s.jobs) (all_on s is) in
        let after = ap (λ find. left_of_jobs S p c s.masks find s.jobs) (all_on there is) in
        let starts : left_of_active c (switch_of there) there.active ≡ c.of_active on (begun i) =
        ap (λ w. c.of_active w (begun i)) is in
        let pay = pays.routine i best.0 goes in
        omega (arith, fewer, jobs, after, starts, pay)

    started_less : (o : Option ℕ) → routine_choice S s ≡ o
        → has_work S p (with_start_of s (routine_started o s)) ≡ true
        → left S p c (with_start_of s (routine_started o s)) ≤ left S p c s
    started_less None chosen stands = omega arith
    started_less (Some i) chosen stands =
        chosen_less i chosen (work_starts S p s i chosen stands)

  -- .. where work stands behind it
  pub start_less : PayForComing S p c → (s : State) → has_work S p (start_phase S s) ≡ true
      → left S p c (start_phase S s) ≤ left S p c s
  unfolding start_phase
  start_less pays s stands = go (may_dispatch s) refl stands
    where
      go : (b : Bool) → may_dispatch s ≡ b
          → has_work S p (with_start_of s (cond b (routine_started (routine_choice S s) s) s))
          ≡ true
          → left S p c (with_start_of s (cond b (routine_started (routine_choice S s) s) s))
          ≤ left S p c s
      go false may stands = omega arith
      go true may stands = started_less pays s may (routine_choice S s) refl stands

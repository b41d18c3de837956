-- Where work stands: with a job of the level, and where a routine of it is pending.
use Rattle.std.proofs.Common.{ℕ, zero, suc, ◌≡◌, ◌<◌, ◌≤◌, ◌⊎◌, inl, inr, Bool, true, false, cond, not, ◌&&◌, ◌||◌, List, [], ◌∷◌, length, set, refl, sym, ◌∙◌, ap, subst, arith}
use Rattle.std.specs.Prelude.{Option, Some, None, is_some, nat_le, slice_index_or}
use Rattle.std.specs.List.{AllByRecursion, list_any}
use Rattle.std.proofs.lemmas.Bool.{and_parts, cases_lt, le-leb, leb-true}
use Rattle.std.proofs.lemmas.List.Folds.{list_any-append}
use Rattle.osek_base.specs.Lists.{below, is_foremost}
use Rattle.osek_base.specs.Blocker.{is_in_state, is_waiting_job, waits_in}
use Rattle.osek_base.specs.Priority.{static_priority}
use Rattle.osek_base.specs.Reschedule.{reschedule}
use Rattle.osek_base.specs.State.{Job, JobId, State, job_of, may_dispatch, same_id}
use Rattle.osek_base.specs.System.{System, priority_of, routine}
use Rattle.osek_base.specs.Tick.{alarm_phase, arrival_phase, flagged, is_pending, routine_choice, routine_started, start_phase, tick, with_start_of}
use Rattle.law_runs.proofs.Foremost.{foremost_greatest, same_ids}
use Rattle.law_runs.proofs.Known.{all_below}
use Rattle.law_runs.proofs.Lists.{clash, found}
use Rattle.law_jobs.proofs.Members.{all_back, all_front}
use Rattle.law_windows.specs.Work.{goes_at, has_work, is_active_at, is_pending_at, is_work, level_of_routine, some_pending}
use Rattle.law_windows.proofs.Before.{or_true, pending_alarms, pending_reschedule}

-- ---- jobs

module _ (S : System) (p : ℕ) where
  job_works : (jobs : List Job) (n : JobId) → p ≤ priority_of S n.task
      → (is_some (job_of n jobs) && not (is_waiting_job (job_of n jobs))) ≡ true
      → list_any (is_work S p) jobs ≡ true
  job_works [] n high stands = clash (sym stands)
  job_works (j ∷ jobs) n high stands = go (same_id j.id n) refl stands (job_works jobs n high)
    where
      go : (b : Bool) → same_id j.id n ≡ b
          → (is_some (cond b (Some j) (job_of n jobs))
          && not (is_waiting_job (cond b (Some j) (job_of n jobs)))) ≡ true
          → ((is_some (job_of n jobs) && not (is_waiting_job (job_of n jobs))) ≡ true
          → list_any (is_work S p) jobs ≡ true)
          → (is_work S p j || list_any (is_work S p) jobs) ≡ true
      go true same here rest =
          let level : nat_le p (static_priority S j) ≡ true =
          ap (λ (m : JobId). nat_le p (priority_of S m.task)) (same_ids j.id n same)
          ∙ le-leb p (priority_of S n.task) high in
          ap (λ b. (b && nat_le p (static_priority S j)) || list_any (is_work S p) jobs) here
          ∙ ap (λ b. b || list_any (is_work S p) jobs) level
      go false other there rest =
          ap (λ b. is_work S p j || b) (rest there) ∙ or_true (is_work S p j)

  pub job_is_work : (s : State) (n : JobId) → p ≤ priority_of S n.task
      → (is_in_state s n && not (waits_in s n)) ≡ true → has_work S p s ≡ true
  job_is_work s n high stands =
      ap (λ b. is_active_at S p s.active || (some_pending S p s || b))
      (job_works s.jobs n high stands)
      ∙ ap (λ b. is_active_at S p s.active || b) (or_true (some_pending S p s))
      ∙ or_true (is_active_at S p s.active)

-- ---- numbers below one

-- what holds of each of them holds of one
pub each_below : (P : ℕ → Type 0) (n i : ℕ) → AllByRecursion P (below n) → i < n → P i
each_below P zero i all low = absurd (omega (arith, low))
each_below P (suc n) i all low = elim (cases_lt i n) [
  | inl less ↦ each_below P n i (all_front P (below n) (n ∷ []) all) less
  | inr most ↦
      let same : n ≡ i = omega (arith, low, most) in
      subst P same (all_back P (below n) (n ∷ []) all).0
]

-- one of them passes a test, so some does
pub any_below : (test : ℕ → Bool) (n i : ℕ) → i < n → test i ≡ true
    → list_any test (below n) ≡ true
any_below test zero i low is = absurd (omega (arith, low))
any_below test (suc n) i low is =
    list_any-append test (below n) (n ∷ []) ∙ go (cases_lt i n) (any_below test n i)
  where
    go : (i < n) ⊎ (n ≤ i) → (i < n → test i ≡ true → list_any test (below n) ≡ true)
        → (list_any test (below n) || (test n || false)) ≡ true
    go (inl less) before = ap (λ b. b || (test n || false)) (before less is)
    go (inr most) before =
        let same : i ≡ n = omega (arith, low, most) in
        ap (λ b. list_any test (below n) || (b || false))
        (subst (λ (k : ℕ). test k ≡ true) same is)
        ∙ or_true (list_any test (below n))

-- and where some does, there is one
pub record Passes (test : ℕ → Bool) (n : ℕ) : Type 0 where
  pub one : ℕ
  pub inside : one < n
  pub passes : test one ≡ true

pub found_below : (test : ℕ → Bool) (n : ℕ) → list_any test (below n) ≡ true → Passes test n
found_below test zero some = clash (sym some)
found_below test (suc n) some =
    go (list_any test (below n)) refl (sym (list_any-append test (below n) (n ∷ [])) ∙ some)
    (found_below test n)
  where
    last : (b : Bool) → test n ≡ b → (b || false) ≡ true → Passes test (suc n)
    last true is some = record { one = n; inside = omega arith; passes = is }
    last false is some = clash (sym some)

    go : (b : Bool) → list_any test (below n) ≡ b → (b || (test n || false)) ≡ true
        → (list_any test (below n) ≡ true → Passes test n) → Passes test (suc n)
    go true is some rest =
        let before = rest is in
        let inside = before.inside in
        record { one = before.one; inside = omega (arith, inside); passes = before.passes }
    go false is some rest = last (test n) refl some

-- ---- pending routines

pub stays_raised : (flags : List Bool) (r i : ℕ) → slice_index_or flags i false ≡ true
    → slice_index_or (set flags r true) i false ≡ true
stays_raised [] r i up = up
stays_raised (b ∷ flags) zero zero up = refl
stays_raised (b ∷ flags) zero (suc i) up = up
stays_raised (b ∷ flags) (suc r) zero up = up
stays_raised (b ∷ flags) (suc r) (suc i) up = stays_raised flags r i up

pub stays_flagged : (arrived : List ℕ) (flags : List Bool) (i : ℕ)
    → slice_index_or flags i false ≡ true → slice_index_or (flagged arrived flags) i false ≡ true
stays_flagged [] flags i up = up
stays_flagged (r ∷ arrived) flags i up =
    stays_flagged arrived (set flags r true) i (stays_raised flags r i up)

module _ (S : System) (p : ℕ) where
  -- a routine of the level is pending
  pub record Pends (s : State) (i : ℕ) : Type 0 where
    pub known : i < length S.routines
    pub goes : goes_at S p i ≡ true
    pub pends : is_pending s i ≡ true

  pub one_pends : (s : State) (i : ℕ) → Pends s i → some_pending S p s ≡ true
  one_pends s i h =
      any_below (is_pending_at S p s) (length S.routines) i h.known
      (ap (λ b. b && goes_at S p i) h.pends ∙ h.goes)

  pub pending_is_work : (s : State) (i : ℕ) → Pends s i → has_work S p s ≡ true
  pending_is_work s i h =
      ap (λ b. is_active_at S p s.active || (b || list_any (is_work S p) s.jobs))
      (one_pends s i h)
      ∙ or_true (is_active_at S p s.active)

  -- where some is, there is one
  pub record SomePends (s : State) : Type 0 where
    pub which : ℕ
    pub is : Pends s which

  pub some_pends : (s : State) → some_pending S p s ≡ true → SomePends s
  some_pends s some =
      let one = found_below (is_pending_at S p s) (length S.routines) some in
      let both = and_parts (is_pending s one.one) (goes_at S p one.one) one.passes in
      record {
        which = one.one;
        is = record { known = one.inside; goes = both.1; pends = both.0 };
      }

  -- ---- up to the instruction

  -- a routine that starts has the greatest priority of all that are pending
  pub start_goes : (s : State) (k i : ℕ) → routine_choice S s ≡ Some k → Pends s i
      → goes_at S p k ≡ true
  start_goes s k i chosen h =
      let rank : ℕ → ℕ = λ r. (routine S r).priority in
      let all : List ℕ = below (length S.routines) in
      let best =
      found (λ r. r < length S.routines) (is_foremost (is_pending s) rank all) all k
      (all_below (length S.routines)) chosen in
      let under : rank i ≤ rank k =
      each_below (λ r. is_pending s r ≡ true → rank r ≤ rank k) (length S.routines) i
      (foremost_greatest (is_pending s) rank all k best.1).1 h.known h.pends in
      let high = leb-true p (level_of_routine S i) h.goes in
      le-leb p (level_of_routine S k) (omega (arith, under, high))

  start_works : (s : State) (i : ℕ) → Pends s i → has_work S p (start_phase S s) ≡ true
  unfolding start_phase
  start_works s i h = go (may_dispatch s)
    where
      started : (chosen : Option ℕ) → routine_choice S s ≡ chosen
          → has_work S p (with_start_of s (routine_started chosen s)) ≡ true
      started None none = pending_is_work s i h
      started (Some k) is =
          ap
          (λ b. b
          || (some_pending S p (with_start_of s (routine_started (Some k) s))
          || list_any (is_work S p) s.jobs))
          (start_goes s k i is h)

      go : (b : Bool)
          → has_work S p (with_start_of s (cond b (routine_started (routine_choice S s) s) s))
          ≡ true
      go true = started (routine_choice S s) refl
      go false = pending_is_work s i h

  -- where a routine of the level pends before a tick, the tick is busy
  pub pending_works : (arrived : List ℕ) (s : State) (i : ℕ) → Pends s i
      → has_work S p (tick S arrived s).executing ≡ true
  unfolding tick
  pending_works arrived s i h =
      let acted : State = (alarm_phase S s).state in
      let raised : State = arrival_phase arrived acted in
      start_works (reschedule S raised).state i
      (record {
        known = h.known;
        goes = h.goes;
        pends =
            ap (λ flags. slice_index_or flags i false) (pending_reschedule S raised)
            ∙ stays_flagged arrived acted.pending i
            (ap (λ flags. slice_index_or flags i false) (pending_alarms S s) ∙ h.pends);
      })

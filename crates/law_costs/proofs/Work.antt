-- Work that stands behind a tick stands behind its instruction; and what pends where none may.
use Rattle.std.proofs.Common.{ℕ, ◌≡◌, Bool, true, false, cond, ◌&&◌, ◌||◌, List, [], ◌∷◌, length, refl, sym, ◌∙◌, ap}
use Rattle.std.specs.Prelude.{Option, Some, None, slice_index_or}
use Rattle.std.specs.List.{filter, list_any, sum_by}
use Rattle.osek_base.specs.Choice.{choice}
use Rattle.osek_base.specs.Lists.{below}
use Rattle.osek_base.specs.Reschedule.{entered, reschedule, switched, with_dispatch_of}
use Rattle.osek_base.specs.State.{Job, State, may_dispatch}
use Rattle.osek_base.specs.System.{System, routine}
use Rattle.osek_base.specs.Tick.{execute_phase, is_pending, last_phase, routine_choice, routine_started, silent, start_phase, tick, with_start_of}
use Rattle.law_future.specs.Shown.{chosen_of}
use Rattle.law_runs.proofs.Lists.{all_weaker, clash}
use Rattle.law_windows.specs.Work.{goes_at, has_work, is_active_at, is_pending_at, is_work, some_pending}
use Rattle.law_windows.proofs.Before.{active_reschedule, pending_reschedule}
use Rattle.law_costs.specs.Left.{Weights, left_of_pending}
use Rattle.law_costs.proofs.Parts.{any_changed, none_foremost}
use Rattle.law_costs.proofs.Totals.{none_any}

-- ---- the last phase

module _ (S : System) (p : ℕ) where
  work_reschedule : (s : State) → has_work S p (reschedule S s).state ≡ has_work S p s
  unfolding reschedule
  work_reschedule s = go (may_dispatch s)
    where
      go : (b : Bool)
          → has_work S p
          (with_dispatch_of s
          (cond b (switched S (choice S s.jobs) s) (record { events = []; state = s }))).state
          ≡ has_work S p s
      go false = refl
      go true = pick (choice S s.jobs)
        where
          pick : (o : Option Job)
              → has_work S p (with_dispatch_of s (switched S o s)).state ≡ has_work S p s
          pick None = refl
          pick (Some k) =
              ap (λ b. is_active_at S p s.active || (some_pending S p s || b))
              (any_changed (is_work S p) k.id (entered S) (λ l. refl) s.jobs)

  work_last : (e : State) → has_work S p (last_phase S e).state ≡ has_work S p e
  work_last e = go e.over
    where
      go : (b : Bool) → has_work S p (cond b (silent e) (reschedule S e)).state ≡ has_work S p e
      go true = refl
      go false = work_reschedule e

  -- work behind a tick stands behind its instruction
  pub work_behind : (arrived : List ℕ) (s : State)
      → has_work S p (tick S arrived s).after
      ≡ has_work S p (execute_phase S (tick S arrived s).executing).state
  unfolding tick
  work_behind arrived s = work_last (execute_phase S (tick S arrived s).executing).state

module _ (S : System) where
  pending_last : (e : State) → (last_phase S e).state.pending ≡ e.pending
  pending_last e = go e.over
    where
      go : (b : Bool) → (cond b (silent e) (reschedule S e)).state.pending ≡ e.pending
      go true = refl
      go false = pending_reschedule S e

  pub pending_behind : (arrived : List ℕ) (s : State)
      → (tick S arrived s).after.pending
      ≡ (execute_phase S (tick S arrived s).executing).state.pending
  unfolding tick
  pending_behind arrived s = pending_last (execute_phase S (tick S arrived s).executing).state

  active_last : (e : State) → (last_phase S e).state.active ≡ e.active
  active_last e = go e.over
    where
      go : (b : Bool) → (cond b (silent e) (reschedule S e)).state.active ≡ e.active
      go true = refl
      go false = active_reschedule S e

  pub active_behind : (arrived : List ℕ) (s : State)
      → (tick S arrived s).after.active
      ≡ (execute_phase S (tick S arrived s).executing).state.active
  unfolding tick
  active_behind arrived s = active_last (execute_phase S (tick S arrived s).executing).state

-- ---- pending routines

module _ (S : System) (p : ℕ) where
  -- they go by the flags alone
  pub pending_same : (s e : State) → e.pending ≡ s.pending
      → some_pending S p e ≡ some_pending S p s
  pending_same s e same =
      ap
      (λ flags. list_any (λ i. slice_index_or flags i false && goes_at S p i)
      (below (length S.routines)))
      same

  pub left_same : (c : Weights) (s e : State) → e.pending ≡ s.pending
      → left_of_pending S p c e ≡ left_of_pending S p c s
  left_same c s e same =
      ap
      (λ flags. sum_by c.costs.of_arrival
      (chosen_of S (λ i. slice_index_or flags i false && goes_at S p i)))
      same

  -- where a job may be dispatched at an instruction, no routine is pending
  pub none_pends : (s : State) → may_dispatch (start_phase S s) ≡ true
      → some_pending S p (start_phase S s) ≡ false
  unfolding start_phase
  none_pends s may = go (may_dispatch s) refl may
    where
      go : (b : Bool) → may_dispatch s ≡ b
          → may_dispatch
          (with_start_of s (cond b (routine_started (routine_choice S s) s) s)) ≡ true
          → some_pending S p
          (with_start_of s (cond b (routine_started (routine_choice S s) s) s)) ≡ false
      go false is may = clash (sym may ∙ is)
      go true is may = pick (routine_choice S s) refl may
        where
          pick : (o : Option ℕ) → routine_choice S s ≡ o
              → may_dispatch (with_start_of s (routine_started o s)) ≡ true
              → some_pending S p (with_start_of s (routine_started o s)) ≡ false
          pick None is may =
              none_any (is_pending_at S p s) (below (length S.routines))
              (all_weaker (λ i. is_pending s i ≡ false) (λ i. is_pending_at S p s i ≡ false)
              (below (length S.routines)) (λ i off. ap (λ b. b && goes_at S p i) off)
              (none_foremost (is_pending s) (λ i. (routine S i).priority)
              (below (length S.routines)) is))
          pick (Some i) is may = clash (sym may)

  -- where none of the level is pending, nothing is left of them
  pub none_left : (c : Weights) (s : State) → some_pending S p s ≡ false
      → left_of_pending S p c s ≡ 0
  none_left c s none = out (below (length S.routines)) none
    where
      out : (xs : List ℕ) → list_any (is_pending_at S p s) xs ≡ false
          → sum_by c.costs.of_arrival (filter (is_pending_at S p s) xs) ≡ 0
      out [] none = refl
      out (x ∷ xs) none = go (is_pending_at S p s x) none (out xs)
        where
          go : (b : Bool) → (b || list_any (is_pending_at S p s) xs) ≡ false
              → (list_any (is_pending_at S p s) xs ≡ false
              → sum_by c.costs.of_arrival (filter (is_pending_at S p s) xs) ≡ 0)
              → sum_by c.costs.of_arrival
              (cond b (x ∷ filter (is_pending_at S p s) xs) (filter (is_pending_at S p s) xs)) ≡ 0
          go true none rest = clash none
          go false none rest = rest none

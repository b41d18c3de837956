-- A job that is ready, and a routine that is pending, lie in one window as long as they are.
use Rattle.std.proofs.Common.{ℕ, zero, suc, ◌≡◌, ◌<◌, ◌≤◌, ◌+◌, inl, inr, true, false, List, length, sym, ◌∙◌, ap, subst, arith}
use Rattle.std.specs.Prelude.{slice_index_or}
use Rattle.std.proofs.lemmas.Bool.{cases_lt}
use Rattle.osek_base.specs.declared.arrivals.Arrival.{Arrival}
use Rattle.osek_base.specs.State.{JobId, State}
use Rattle.osek_base.specs.System.{System, priority_of}
use Rattle.osek_base.specs.Tick.{is_pending, tick}
use Rattle.osek_base.specs.Trace.{arriving, run}
use Rattle.law_runs.proofs.RunSteps.{run_tick, state_more}
use Rattle.law_blockers.specs.Steps.{step_at}
use Rattle.seen_ticks.proofs.Staying.{pending_stays}
use Rattle.law_jobs.specs.ReadySince.{IsReadySince}
use Rattle.law_windows.specs.Work.{goes_at, has_work_after, is_busy}
use Rattle.law_windows.specs.Windows.{LieInAWindow, WindowsEndWithin}
use Rattle.law_windows.specs.Responses.{PendsBehind, ResponsesLieInWindows}
use Rattle.law_windows.proofs.Begins.{busy_ticks_lie_in_windows}
use Rattle.law_windows.proofs.Short.{going_early}
use Rattle.law_windows.proofs.Working.{Pends, job_is_work, pending_is_work, pending_works}

-- who is pending behind a tick was so at its instruction
pub same_flags : (S : System) (mode : ℕ) (arrivals : List Arrival) (t : ℕ)
    → (run S mode arrivals t).state.over ≡ false
    → (run S mode arrivals (suc t)).state.pending
    ≡ (step_at S mode arrivals t).executing.pending
same_flags S mode arrivals t going =
    ap (λ (s : State). s.pending) (state_more S mode arrivals t going)
    ∙ ap (λ k. (tick S (arriving arrivals k) (run S mode arrivals t).state).after.pending)
    (sym (run_tick S mode arrivals t going))
    ∙ pending_stays S mode arrivals t

module _ (S : System) (mode : ℕ) (arrivals : List Arrival) (p most : ℕ)
    (within : WindowsEndWithin S mode arrivals p most) where
  within_one : (from n : ℕ) → LieInAWindow S mode arrivals p from n → n < from + most
  within_one from n found =
      let early = found.early in
      let short = within found.first n found.window in
      omega (arith, early, short)

  -- ---- jobs

  jobs_within : (n since : ℕ) (job : JobId) → (run S mode arrivals n).state.over ≡ false
      → p ≤ priority_of S job.task → IsReadySince S mode arrivals n job since → n < since + most
  jobs_within n since job going high ready =
      within_one since n
      (busy_ticks_lie_in_windows S mode arrivals p since n ready.past going
      (λ i low late.
      job_is_work S p (step_at S mode arrivals i).executing job high (ready.stands i low late))
      (λ i low late.
      job_is_work S p (run S mode arrivals i).state job high (ready.between i low late)))

  -- ---- routines

  module _ (n since i : ℕ) (going : (run S mode arrivals (suc n)).state.over ≡ false)
      (known : i < length S.routines) (level : goes_at S p i ≡ true)
      (order : since ≤ n) (pends : PendsBehind S mode arrivals i since n) where
    pend : (s : State) → is_pending s i ≡ true → Pends S p s i
    pend s on = record { known = known; goes = level; pends = on }

    busy_at : (t : ℕ) → (run S mode arrivals t).state.over ≡ false
        → is_pending (run S mode arrivals (suc t)).state i ≡ true
        → is_busy S mode arrivals p t ≡ true
    busy_at t now on =
        let executing : State = (step_at S mode arrivals t).executing in
        pending_is_work S p executing i
        (pend executing
        (subst (λ flags. slice_index_or flags i false ≡ true) (same_flags S mode arrivals t now)
        on))

    busy_behind : (t : ℕ) → is_pending (run S mode arrivals t).state i ≡ true
        → is_busy S mode arrivals p t ≡ true
    busy_behind t on =
        let before : State = (run S mode arrivals t).state in
        pending_works S p (arriving arrivals before.tick) before i (pend before on)

    busy : (t : ℕ) → since ≤ t → t ≤ suc n → is_busy S mode arrivals p t ≡ true
    busy t low high = elim (cases_lt n t) [
      | inl last ↦
          let same : suc n ≡ t = omega (arith, high, last) in
          subst (λ (k : ℕ). is_busy S mode arrivals p k ≡ true) same
          (busy_behind (suc n) (pends n order (omega arith)))
      | inr inside ↦
          busy_at t (going_early S mode arrivals (suc n) t high going) (pends t low inside)
    ]

    joined : (t : ℕ) → since < t → t ≤ suc n → has_work_after S mode arrivals p t ≡ true
    joined zero low high = absurd (omega (arith, low))
    joined (suc t) low high =
        let behind : State = (run S mode arrivals (suc t)).state in
        pending_is_work S p behind i
        (pend behind (pends t (omega (arith, low)) (omega (arith, high))))

    routines_within : suc n < since + most
    routines_within =
        within_one since (suc n)
        (busy_ticks_lie_in_windows S mode arrivals p since (suc n) (omega (arith, order)) going
        busy joined)

pub responses_lie_in_windows : ResponsesLieInWindows
responses_lie_in_windows S mode arrivals p most within = record {
  jobs = jobs_within S mode arrivals p most within;
  routines = routines_within S mode arrivals p most within;
}

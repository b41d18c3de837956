-- Routines start within the longest time that their interrupts wait.
use Rattle.std.proofs.Common.{◌⊎◌, inl, inr, zero, ◌≡◌, ℕ, suc, ◌+◌, ◌-◌, ◌<◌, ◌≤◌, ◌^◌, Bool, true, false, cond, List, [], ◌∷◌, map, length, refl, sym, ◌∙◌, ap, subst, arith}
use Rattle.std.specs.Prelude.{slice_index_or}
use Rattle.osek_base.specs.declared.arrivals.Arrival.{Arrival}
use Rattle.osek_base.specs.Proper.{IsProper}
use Rattle.osek_base.specs.System.{System}
use Rattle.osek_base.specs.Trace.{run}
use Rattle.law_blockers.proofs.StampLemmas.{earlier}
use Rattle.seen_ticks.specs.declared.observation.Observation.{Observation}
use Rattle.view_figures.specs.declared.routine_figures.RoutineFigures.{RoutineFigures}
use Rattle.view_figures.specs.declared.routine_figures.RoutineTick.{RoutineTick}
use Rattle.view_figures.specs.FigureSums.{last_tick, routine_tick}
use Rattle.view_figures.specs.RoutineSums.{routine_figures}
use Rattle.law_figures.specs.Labels.{IsAtMost, IsWithin, NoneShowsMore}
use Rattle.law_figures.specs.Pending.{pending, tick_of}
use Rattle.law_figures.specs.RunFigures.{AreTicksOf, label_before, routine_ticks}
use Rattle.law_figures.specs.Times.{routine_time, waited}
use Rattle.law_figures.proofs.Running.{all_small, numbered, routine_agrees}
use Rattle.law_figures.proofs.Times.{routine_times_are_ages}
use Rattle.law_jobs.specs.PendingSince.{IsPendingSince, IsTaken, starts_in, ticks_waited}
use Rattle.law_jobs.specs.Starting.{HasStarted, InterruptsStartWithin}
use Rattle.law_jobs.proofs.Flags.{is_raised}
use Rattle.law_jobs.proofs.Pending.{latencies_are_of_interrupts, next_flag, pends_on}
use Rattle.law_jobs.proofs.Showing.{goes_on, none_before}

module _ (S : System) (mode : ℕ) (arrivals : List Arrival) (k m : ℕ) (proper : IsProper S)
    (known : k < length S.routines) where
  abbrev starts : ℕ → Bool
  starts n = starts_in S mode arrivals n k

  abbrev pub WaitsAtMost : ℕ → Type 0
  WaitsAtMost n =
      IsAtMost m (waited (routine_ticks S mode arrivals k n)
      (label_before pending (routine_ticks S mode arrivals k) n))

  -- in a tick in which no interrupt has waited for longer, none is pending since so long
  not_later : (n since : ℕ) → (run S mode arrivals n).state.over ≡ false → WaitsAtMost n
      → IsPendingSince S mode arrivals n k since → starts n ≡ false → n < since + m
  not_later n since going low is none =
      let past = is.past in
      let most : ticks_waited S mode arrivals n k since ≤ m =
      subst (IsAtMost m)
      ((latencies_are_of_interrupts S mode arrivals n k proper going known).all since is) low in
      let count : suc n - since ≤ m = subst (λ b. cond b n (suc n) - since ≤ m) none most in
      omega (arith, count, past)

  -- ---- an interrupt, tick by tick

  abbrev Stays : ℕ → ℕ → Type 0
  Stays n since = IsPendingSince S mode arrivals n k since × (starts n ≡ false)

  abbrev Passes : ℕ → ℕ → Type 0
  Passes since n = HasStarted S mode arrivals k since n ⊎ Stays n since

  passes_by : (n since : ℕ) → IsPendingSince S mode arrivals n k since → Passes since n
  passes_by n since is = go (starts n) refl
    where
      go : (b : Bool) → starts n ≡ b → Passes since n
      go true it = inl (record { tick = n; pends = is; starts = it; within = omega arith })
      go false it = inr (is, it)

  passes : (since count : ℕ) → IsTaken S mode arrivals k since
      → (run S mode arrivals (since + count)).state.over ≡ false → Passes since (since + count)
  passes since zero is going =
      passes_by (since + zero) since
      (record { past = omega arith; taken = is; between = λ i from to. absurd (omega (arith, from, to)) })
  passes since (suc count) is going =
      subst (Passes since) next (go (passes since count is on))
    where
      next : suc (since + count) ≡ since + suc count
      next = omega arith

      on : (run S mode arrivals (since + count)).state.over ≡ false
      on =
          earlier S mode arrivals (since + count)
          (subst (λ n. (run S mode arrivals n).state.over ≡ false) (sym next) going)

      go : Passes since (since + count) → Passes since (suc (since + count))
      go (inl done) =
          let low = done.within in
          inl (record {
            tick = done.tick;
            pends = done.pends;
            starts = done.starts;
            within = omega (arith, low);
          })
      go (inr stays) =
          passes_by (suc (since + count)) since
          (pends_on S mode arrivals k proper known (since + count) since
          (next_flag S mode arrivals k proper known (since + count) on
          ∙ ap (λ b. cond b false (is_raised S mode arrivals (since + count) k)) stays.1)
          stays.0)

  -- where no interrupt has waited for longer so many ticks later, its routine has started
  pub started_within : (since : ℕ) → (run S mode arrivals (since + m)).state.over ≡ false
      → WaitsAtMost (since + m) → IsTaken S mode arrivals k since
      → HasStarted S mode arrivals k since (since + m)
  started_within since going low is = go (passes since m is going)
    where
      go : Passes since (since + m) → HasStarted S mode arrivals k since (since + m)
      go (inl done) = done
      go (inr stays) =
          let less = not_later (since + m) since going low stays.0 stays.1 in
          absurd (omega (arith, less))

  -- ---- the figures of a run

  abbrev tick : Observation → RoutineTick
  tick o = routine_tick o k

  seen_shown : (n : ℕ) (seen : List Observation) → AreTicksOf S mode arrivals n seen
      → n ≤ 2 ^ 32 → m < 2 ^ 32 - 1
      → IsWithin m (routine_time (last_tick seen) (routine_figures (map tick seen)))
      → NoneShowsMore pending waited m (map tick seen)
  seen_shown n [] are low small within = tt
  seen_shown n (o ∷ before) are low small within =
      (routine_times_are_ages (tick o) (map tick before)
      (numbered S mode arrivals tick_of tick (λ o. refl) n (o ∷ before) are)
      (all_small S mode arrivals tick_of tick (λ o. refl) n (o ∷ before) are low)).shown m small
      within

pub interrupts_start_within : InterruptsStartWithin
interrupts_start_within S mode arrivals n f are = record {
  interrupts = λ k m known small within since low is.
      let tick = λ (o : Observation). routine_tick o k in
      let seen : List RoutineTick = map tick are.seen in
      let shown : IsWithin m (routine_time (last_tick are.seen) (routine_figures seen)) =
      subst (λ (g : RoutineFigures). IsWithin m (routine_time (last_tick are.seen) g))
      (are.figures.routines.each k known)
      (subst
      (λ last. IsWithin m (routine_time last (slice_index_or f.routines k (routine_figures []))))
      are.figures.last within) in
      started_within S mode arrivals k m are.proper known since
      (goes_on S mode arrivals n are.seen are.ticks (since + m) low)
      (none_before S mode arrivals pending waited tick (routine_ticks S mode arrivals k)
      (λ i o is age. (routine_agrees S mode arrivals are.proper i o is k known age).next)
      (λ i o is age. (routine_agrees S mode arrivals are.proper i o is k known age).waited)
      m n are.seen are.ticks
      (seen_shown S mode arrivals k m are.proper known n are.seen are.ticks are.small small shown)
      (since + m) low)
      is;
}

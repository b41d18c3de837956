-- An active routine goes on with each tick, and ends within as many as its instructions.
use Rattle.std.proofs.Common.{ℕ, zero, suc, ◌≡◌, ◌<◌, ◌≤◌, ◌+◌, inl, inr, Bool, true, false, cond, not, ◌&&◌, List, [], refl, sym, ◌∙◌, ap, subst, arith}
use Rattle.std.specs.Prelude.{Option, Some, None, IfSome, is_some}
use Rattle.std.proofs.lemmas.Bool.{cases_lt}
use Rattle.osek_base.specs.declared.arrivals.Arrival.{Arrival}
use Rattle.osek_base.specs.Reschedule.{reschedule}
use Rattle.osek_base.specs.State.{Active, State, interrupts_off}
use Rattle.osek_base.specs.System.{System}
use Rattle.osek_base.specs.Tick.{alarm_phase, arrival_phase, execute_phase, last_phase, routine_choice, routine_started, start_phase, tick}
use Rattle.osek_base.specs.Trace.{arriving, run}
use Rattle.law_runs.proofs.Lists.{clash}
use Rattle.law_runs.proofs.RunSteps.{going_before, run_tick, state_more}
use Rattle.law_blockers.specs.Steps.{step_at}
use Rattle.law_windows.specs.Routines.{EndsIn, RoutinesEndInTime, begun}
use Rattle.law_windows.proofs.Before.{active_alarms, active_reschedule}
use Rattle.law_windows.proofs.Short.{going_early}

module _ (S : System) where
  -- ---- up to the instruction

  start_keeps : (s : State) (a : Active) → s.active ≡ Some a
      → (start_phase S s).active ≡ Some a
  unfolding start_phase
  start_keeps s a is =
      ap (λ o. (cond (not (is_some o) && not (interrupts_off s))
      (routine_started (routine_choice S s) s) s).active) is
      ∙ is

  pub executing_active : (arrived : List ℕ) (s : State) (a : Active) → s.active ≡ Some a
      → (tick S arrived s).executing.active ≡ Some a
  unfolding tick
  executing_active arrived s a is =
      let raised : State = arrival_phase arrived (alarm_phase S s).state in
      start_keeps (reschedule S raised).state a
      (active_reschedule S raised ∙ active_alarms S s ∙ is)

  -- ---- behind it

  over_reschedule : (s : State) → (reschedule S s).state.over ≡ s.over
  unfolding reschedule
  over_reschedule s = refl

  -- the last phase leaves who is active, and whether the run is over
  last_over : (s : State) → (last_phase S s).state.over ≡ s.over
  last_over s = go s.over
    where
      go : (b : Bool)
          → (cond b (record { events = []; state = s }) (reschedule S s)).state.over ≡ s.over
      go true = refl
      go false = over_reschedule s

  last_active : (s : State) → (last_phase S s).state.active ≡ s.active
  last_active s = go s.over
    where
      go : (b : Bool)
          → (cond b (record { events = []; state = s }) (reschedule S s)).state.active ≡ s.active
      go true = refl
      go false = active_reschedule S s

  pub behind_over : (arrived : List ℕ) (s : State)
      → (tick S arrived s).after.over
      ≡ (execute_phase S (tick S arrived s).executing).state.over
  unfolding tick
  behind_over arrived s = last_over (execute_phase S (tick S arrived s).executing).state

  behind_active : (arrived : List ℕ) (s : State)
      → (tick S arrived s).after.active
      ≡ (execute_phase S (tick S arrived s).executing).state.active
  unfolding tick
  behind_active arrived s = last_active (execute_phase S (tick S arrived s).executing).state

module _ (S : System) (mode : ℕ) (arrivals : List Arrival) where
  abbrev at : ℕ → State
  at n = (run S mode arrivals n).state

  abbrev in_tick : ℕ → State
  in_tick n = (step_at S mode arrivals n).executing

  -- behind a tick of a routine none is active, or one that ends within one instruction fewer
  ends_on : (n c : ℕ) (a : Active) → (at (suc n)).over ≡ false → (in_tick n).active ≡ Some a
      → EndsIn S (suc c) a → IfSome (at (suc n)).active (EndsIn S c)
  ends_on n c a going is ends =
      let before = going_before S mode arrivals n going in
      let more = state_more S mode arrivals n before in
      let arrived : List ℕ = arriving arrivals n in
      let same : (tick S arrived (at n)).executing ≡ in_tick n =
      ap (λ t. (tick S (arriving arrivals t) (at n)).executing)
      (sym (run_tick S mode arrivals n before)) in
      subst (λ o. IfSome o (EndsIn S c))
      (sym (ap (λ (s : State). s.active) more ∙ behind_active S arrived (at n)))
      (ends (tick S arrived (at n)).executing (ap (λ (s : State). s.active) same ∙ is)
      (sym (behind_over S arrived (at n)) ∙ sym (ap (λ (s : State). s.over) more) ∙ going))

  -- and that one executes in the next tick
  still_active : (n : ℕ) (a : Active) → (at n).active ≡ Some a → (in_tick n).active ≡ Some a
  still_active n a is = executing_active S (arriving arrivals (at n).tick) (at n) a is

  ends_by : (c : ℕ) (a : Active) (since n : ℕ) → EndsIn S c a → (at n).over ≡ false → since ≤ n
      → (in_tick since).active ≡ Some a
      → ((t : ℕ) → since < t → t ≤ n → is_some (at t).active ≡ true) → n < since + c
  ends_by zero a since n ends going order is active = absurd ends
  ends_by (suc c) a since n ends going order is active = elim (cases_lt since n) [
    | inr last ↦ omega (arith, last)
    | inl less ↦
        next (at (suc since)).active refl
        (ends_on since c a (going_early S mode arrivals n (suc since) (omega (arith, less)) going)
        is ends)
        (active (suc since) (omega arith) (omega (arith, less)))
        (λ b there later.
        let rest = ends_by c b (suc since) n later going (omega (arith, less))
        (still_active (suc since) b there)
        (λ t low high. active t (omega (arith, low)) high) in
        omega (arith, rest))
  ]
    where
      next : (o : Option Active) → (at (suc since)).active ≡ o → IfSome o (EndsIn S c)
          → is_some o ≡ true
          → ((b : Active) → (at (suc since)).active ≡ Some b → EndsIn S c b → n < since + suc c)
          → n < since + suc c
      next None here later some rest = clash (sym some)
      next (Some b) here later some rest = rest b here later

pub routines_end_in_time : RoutinesEndInTime
routines_end_in_time S mode arrivals i c since n ends going a =
    ends_by S mode arrivals c (begun i) since n ends going a.order a.starts a.active

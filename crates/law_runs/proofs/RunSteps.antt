-- A run, one tick further.
use Rattle.std.proofs.Common.{◌≡◌, ℕ, zero, suc, ◌+◌, Bool, true, false, List, [], ◌∷◌, refl, sym, ◌∙◌, ap, arith}
use Rattle.std.proofs.lemmas.Bool.{true≢false}
use Rattle.osek_base.specs.declared.arrivals.Arrival.{Arrival}
use Rattle.osek_base.specs.System.{System}
use Rattle.osek_base.specs.State.{State, still}
use Rattle.osek_base.specs.Activation.{activated}
use Rattle.osek_base.specs.Tick.{tick}
use Rattle.osek_base.specs.Trace.{Run, arriving, run, one_more, step_added, boot, starting_tasks, starting_alarms, all_activated}
use Rattle.osek_base.proofs.FrameLemmas.{tick_tick, tick_reschedule}

pub run_suc : (S : System) (mode : ℕ) (arrivals : List Arrival) (n : ℕ) → run S mode arrivals (suc n) ≡ one_more S arrivals (run S mode arrivals n)
unfolding run
run_suc S mode arrivals n = refl

pub one_more-going : (S : System) (arrivals : List Arrival) (r : Run) → r.state.over ≡ false
    → one_more S arrivals r ≡ step_added r (tick S (arriving arrivals r.state.tick) r.state)
one_more-going S arrivals r going = rw going refl

pub one_more-over : (S : System) (arrivals : List Arrival) (r : Run) → r.state.over ≡ true → one_more S arrivals r ≡ r
one_more-over S arrivals r over = rw over refl

tick_activated : (S : System) (t : ℕ) (s : State) → (activated S t s).tick ≡ s.tick
unfolding activated
tick_activated S t s = refl

tick_all_activated : (S : System) (ts : List ℕ) (s : State) → (all_activated S ts s).tick ≡ s.tick
tick_all_activated S [] s = refl
tick_all_activated S (t ∷ ts) s = tick_all_activated S ts (activated S t s) ∙ tick_activated S t s

pub tick_zero : (S : System) (mode : ℕ) (arrivals : List Arrival) → (run S mode arrivals 0).state.tick ≡ 0
unfolding run boot
tick_zero S mode arrivals =
    tick_reschedule S _ ∙ tick_all_activated S (starting_tasks S mode) (record (still S) { alarms = starting_alarms S mode })

module _ (S : System) (mode : ℕ) (arrivals : List Arrival) where
  pub stays_over : (n : ℕ) → (run S mode arrivals n).state.over ≡ true → run S mode arrivals (suc n) ≡ run S mode arrivals n
  stays_over n over = run_suc S mode arrivals n ∙ one_more-over S arrivals (run S mode arrivals n) over

  -- a run that isn't over wasn't so a tick before
  pub going_before : (n : ℕ) → (run S mode arrivals (suc n)).state.over ≡ false → (run S mode arrivals n).state.over ≡ false
  going_before n later = go (run S mode arrivals n).state.over refl
    where
      go : (over : Bool) → (run S mode arrivals n).state.over ≡ over → over ≡ false
      go false is = refl
      go true is = absurd (true≢false (sym is ∙ ap (λ (r : Run). r.state.over) (sym (stays_over n is)) ∙ later))

  -- the state after n ticks is that of tick n
  pub run_tick : (n : ℕ) → (run S mode arrivals n).state.over ≡ false → (run S mode arrivals n).state.tick ≡ n
  run_tick zero going = tick_zero S mode arrivals
  run_tick (suc n) going =
      let before : (run S mode arrivals n).state.over ≡ false = going_before n going in
      let is : (run S mode arrivals n).state.tick ≡ n = run_tick n before in
      let more : (run S mode arrivals n).state.tick + 1 ≡ suc n = omega (arith, is) in
      ap (λ (r : Run). r.state.tick) (run_suc S mode arrivals n ∙ one_more-going S arrivals (run S mode arrivals n) before)
      ∙ tick_tick S _ (run S mode arrivals n).state ∙ more

  -- the state after one tick more
  pub state_more : (n : ℕ) → (run S mode arrivals n).state.over ≡ false
      → (run S mode arrivals (suc n)).state ≡ (tick S (arriving arrivals n) (run S mode arrivals n).state).after
  state_more n going =
      ap (λ (r : Run). r.state) (run_suc S mode arrivals n ∙ one_more-going S arrivals (run S mode arrivals n) going)
      ∙ ap (λ k. (tick S (arriving arrivals k) (run S mode arrivals n).state).after) (run_tick n going)

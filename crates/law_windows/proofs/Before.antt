-- What phases 1 to 3 of a tick leave alone: who is pending but for arrivals, and who is active.
use Rattle.std.proofs.Common.{ℕ, ◌≡◌, Bool, true, false, ◌||◌, List, [], ◌∷◌, refl}
use Rattle.osek_base.specs.Alarm.{due_alarms, alarms_advanced}
use Rattle.osek_base.specs.Reschedule.{reschedule}
use Rattle.osek_base.specs.Service.{unasked_service}
use Rattle.osek_base.specs.State.{State}
use Rattle.osek_base.specs.System.{System}
use Rattle.osek_base.specs.Tick.{alarm_acts, alarm_phase, alarms_act}

pub or_true : (b : Bool) → (b || true) ≡ true
or_true true = refl
or_true false = refl

module _ (S : System) where
  pending_acts : (due : List ℕ) (s : State) → (alarms_act S due s).state.pending ≡ s.pending
  unfolding unasked_service
  pending_acts [] s = refl
  pending_acts (a ∷ due) s = pending_acts due (alarm_acts S a s).state

  pub pending_alarms : (s : State) → (alarm_phase S s).state.pending ≡ s.pending
  unfolding alarm_phase
  pending_alarms s = pending_acts (due_alarms S s) (record s { alarms = alarms_advanced S s })

  pub pending_reschedule : (s : State) → (reschedule S s).state.pending ≡ s.pending
  unfolding reschedule
  pending_reschedule s = refl

  active_acts : (due : List ℕ) (s : State) → (alarms_act S due s).state.active ≡ s.active
  unfolding unasked_service
  active_acts [] s = refl
  active_acts (a ∷ due) s = active_acts due (alarm_acts S a s).state

  pub active_alarms : (s : State) → (alarm_phase S s).state.active ≡ s.active
  unfolding alarm_phase
  active_alarms s = active_acts (due_alarms S s) (record s { alarms = alarms_advanced S s })

  pub active_reschedule : (s : State) → (reschedule S s).state.active ≡ s.active
  unfolding reschedule
  active_reschedule s = refl

-- Due alarms act in turn; at the first tick none is due.
use Rattle.std.proofs.Common.{◌≡◌, ℕ, zero, suc, ◌/◌, Bool, true, false, not, ◌&&◌, List, [], ◌∷◌, ◌++◌, length, refl, sym, ◌∙◌, ap, ap₂}
use Rattle.std.specs.Prelude.{Option, None, slice_index_or}
use Rattle.std.proofs.lemmas.Bool.{false≢true}
use Rattle.std.proofs.Math.Nat.{zero-div}
use Rattle.osek_base.specs.declared.task.Action.{Action}
use Rattle.osek_base.specs.declared.status.Status.{Status}
use Rattle.osek_base.specs.declared.trace_event.Source.{Source}
use Rattle.osek_base.specs.declared.trace_event.TraceEvent.{TraceEvent}
use Rattle.osek_base.specs.declared.instr.Instr.{Instr}
use Rattle.osek_base.specs.System.{System, alarm, counter_of}
use Rattle.osek_base.specs.State.{State, Expiry, Words}
use Rattle.osek_base.specs.Alarm.{count, expiry, is_due, is_due_at, due_alarms, alarms_advanced}
use Rattle.osek_base.specs.Tick.{action_call, error_record}
use Rattle.law_kept.specs.Kept.{Kept}
use Rattle.law_kept.specs.Moves.{KeptRecorded}
use Rattle.law_kept.specs.KeptService.{ByNobody, KeptReply, bare, unasked_in}
use Rattle.law_kept.specs.KeptTick.{alarm_reply_in, alarm_acts_in, alarms_act_in, alarm_phase_in, silent_in}
use Rattle.law_kept.proofs.Quiet.{nothing_due as none_due, nothing_advanced as none_advanced}
use Rattle.law_kept.proofs.Words.{with_words, reply_with, unasked_words}
use Rattle.services.specs.Objects.{Objects, kept_of, kept_in}
use Rattle.kernel.specs.Processor.{AreAhead}
use Rattle.seen_ticks.specs.Told.{acting_in}

-- an alarm acts by the service of its action
module _ (S : System) (a : ℕ) (w : Words) (o : Objects) (action : Action) (is : (alarm S a).action ≡ action) where
  acts_by : alarm_acts_in S a (kept_of w o) ≡ alarm_reply_in S a (reply_with w (unasked_in S ByNobody (kept_in o) (action_call action)))
  acts_by =
      ap (λ v. alarm_reply_in S a (unasked_in S ByNobody (kept_of w o) (action_call v))) is
      ∙ ap (alarm_reply_in S a) (unasked_words S w ByNobody (kept_in o) (action_call action))

  pub state_by : (n : Objects) → kept_in n ≡ (unasked_in S ByNobody (kept_in o) (action_call action)).state
      → kept_of w n ≡ (alarm_acts_in S a (kept_of w o)).state
  state_by n after = ap (with_words w) after ∙ sym (ap (λ (r : KeptRecorded). r.state) acts_by)

  pub status_by : (status : Status) → status ≡ (unasked_in S ByNobody (kept_in o) (action_call action)).status
      → status ≡ (acting_in S a (kept_of w o)).status
  status_by status answered =
      answered ∙ sym (ap (λ (r : KeptReply). r.status) (unasked_words S w ByNobody (kept_in o) (action_call action)))
      ∙ sym (ap (λ v. (unasked_in S ByNobody (kept_of w o) (action_call v)).status) is)

  pub events_by : (status : Status) (earlier records : List TraceEvent)
      → status ≡ (unasked_in S ByNobody (kept_in o) (action_call action)).status
      → records ≡ earlier ++ error_record S (Source.Alarm a) (Instr.Service (action_call action)) status
      → records ≡ earlier ++ (alarm_acts_in S a (kept_of w o)).events
  events_by status earlier records answered told =
      told
      ∙ ap (λ s. earlier ++ error_record S (Source.Alarm a) (Instr.Service (action_call action)) s) answered
      ∙ ap (λ v. earlier ++ error_record S (Source.Alarm a) (Instr.Service (action_call v)) (unasked_in S ByNobody (kept_in o) (action_call action)).status) (sym is)
      ∙ sym (ap (λ (r : KeptRecorded). earlier ++ r.events) acts_by)

-- ---- the first tick

head_tail : (b : Bool) (c : Bool) → (not b && c) ≡ true → (b ≡ false) × (c ≡ true)
head_tail true c h = absurd (false≢true h)
head_tail false c h = (refl, h)

none_at : (alarms : List (Option Expiry)) (i : ℕ) → AreAhead alarms → is_due_at 0 (slice_index_or alarms i None) ≡ false
none_at [] i ahead = refl
none_at (e ∷ rest) zero ahead = (head_tail _ _ ahead).0
none_at (e ∷ rest) (suc i) ahead = none_at rest i (head_tail _ _ ahead).1

module _ (S : System) (s : State) (first : s.tick ≡ 0) (size : length s.alarms ≡ length S.alarms) (ahead : AreAhead s.alarms) where
  at_zero : (a : ℕ) → count S s a ≡ 0
  at_zero a = ap (λ t. t / (counter_of S a).ticks_per_base) first ∙ zero-div (counter_of S a).ticks_per_base

  not_due : (a : ℕ) → is_due S s a ≡ false
  not_due a = ap (λ n. is_due_at n (expiry s a)) (at_zero a) ∙ none_at s.alarms a ahead

  pub nothing_due : due_alarms S s ≡ []
  nothing_due = none_due S s size (λ a low. not_due a)

  nothing_advanced : alarms_advanced S s ≡ s.alarms
  nothing_advanced = none_advanced S s size (λ a low. not_due a)

-- at the first tick nothing is due
pub first_alarm_phase : (S : System) (o : Kept) → o.tick ≡ 0 → length o.alarms ≡ length S.alarms → AreAhead o.alarms → alarm_phase_in S o ≡ silent_in o
unfolding alarm_phase_in
first_alarm_phase S o first size ahead =
    ap₂ (λ (due : List ℕ) (alarms : List (Option Expiry)). alarms_act_in S due (record o { alarms = alarms }))
    (nothing_due S (bare o) first size ahead) (nothing_advanced S (bare o) first size ahead)

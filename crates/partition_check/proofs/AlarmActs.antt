-- The alarm phase in the system and in its upper core.
use Rattle.std.proofs.Common.{◌≡◌, ℕ, ◌<◌, Bool, true, false, cond, List, [], ◌∷◌, map, length, refl, sym, subst}
use Rattle.std.specs.List.{filter, AllByRecursion}
use Rattle.osek_base.specs.declared.instr.Instr.{Instr}
use Rattle.osek_base.specs.declared.task.Action.{Action}
use Rattle.osek_base.specs.declared.trace_event.Source.{Source}
use Rattle.osek_base.specs.Lists.{below}
use Rattle.osek_base.specs.System.{System, alarm}
use Rattle.osek_base.specs.State.{State}
use Rattle.osek_base.specs.Alarm.{is_due, due_alarms, alarms_advanced}
use Rattle.osek_base.specs.Service.{NobodyCalls, unasked_service}
use Rattle.osek_base.specs.Reschedule.{Recorded}
use Rattle.osek_base.specs.Tick.{action_call, error_record, alarm_acts, alarms_act, alarm_phase}
use Rattle.osek_base.specs.Upper.{is_upper_alarm, action_task}
use Rattle.osek_base.specs.Agree.{rank, upper_core}
use Rattle.osek_base.specs.Proper.{IsProper}
use Rattle.partition_check.proofs.UpperState.{up}
use Rattle.partition_check.proofs.Renumbering.{renumbered_kept}
use Rattle.partition_check.proofs.Dispatch.{lines_append, lines_none}
use Rattle.partition_check.proofs.AlarmPhase.{due_alarms_up, alarms_advanced_up, advanced_layered, acts_on_known, error_records, error_hidden}
use Rattle.partition_check.proofs.ActionsUp.{action_up, action_unseen, action_layered}
use Rattle.partition_check.proofs.Shared.{IsCounterpart, IsLow, IsLayered, IsSameReply, SameLines}
use Rattle.partition_check.proofs.ListsUp.{all_filter, each_below}

-- ---- what is due is an alarm

pub all_below : (n : ℕ) → AllByRecursion (λ a. a < n) (below n)
all_below n = each_below (λ a. a < n) n (λ a h. h)

-- ---- alarms act

-- what the action of an alarm does, recorded under its number
abbrev pub acts_by : System → ℕ → Action → State → Recorded
acts_by A a act t =
    let r = unasked_service A NobodyCalls t (action_call act) in
    record { events = error_record A (Source.Alarm a) (Instr.Service (action_call act)) r.status; state = r.state }

-- two phases that do the same above, and keep the layers
pub record AreAlike (S : System) (p : ℕ) (mine theirs : Recorded) : Type 0 where
  pub state : up S p mine.state ≡ theirs.state
  pub lines : SameLines S p mine.events theirs.events
  pub layered : IsLayered S p mine.state

module _ (S : System) (p : ℕ) (both : IsCounterpart S p) (low : IsLow S p)
    (known : (a : ℕ) → a < length S.alarms → action_task (alarm S a).action < length S.tasks) where
  -- an upper alarm
  pub acts_upper : (a : ℕ) (s : State) → IsLayered S p s → a < length S.alarms → is_upper_alarm S p a ≡ true
      → AreAlike S p (alarm_acts S a s) (alarm_acts (upper_core S p) (rank (is_upper_alarm S p) a) (up S p s))
  acts_upper a s layered inside high =
      let act : Action = (alarm S a).action in
      let there : action_task act < length S.tasks = known a inside in
      let same : IsSameReply S p (unasked_service S NobodyCalls s (action_call act)) (unasked_service (upper_core S p) NobodyCalls (up S p s) (action_call act)) =
      action_up S p both low s layered act there high in
      subst (λ x. AreAlike S p (alarm_acts S a s) (acts_by (upper_core S p) (rank (is_upper_alarm S p) a) x (up S p s))) (sym (both.actions a inside high))
      (record {
        state = sym same.state;
        lines =
            subst (λ status. SameLines S p (alarm_acts S a s).events (error_record (upper_core S p) (Source.Alarm (rank (is_upper_alarm S p) a)) (Instr.Service (action_call act)) status)) (sym same.status)
            (error_records S p both a act (unasked_service S NobodyCalls s (action_call act)).status inside high refl there high);
        layered = action_layered S p s act there layered;
      })

  -- a lower one
  pub acts_lower : (a : ℕ) (s : State) → IsLayered S p s → a < length S.alarms → is_upper_alarm S p a ≡ false
      → AreAlike S p (alarm_acts S a s) (record { events = []; state = up S p s })
  acts_lower a s layered inside unseen =
      let act : Action = (alarm S a).action in
      record {
        state = action_unseen S p both s act (known a inside) unseen;
        lines = error_hidden S p both a (Instr.Service (action_call act)) (unasked_service S NobodyCalls s (action_call act)).status unseen;
        layered = action_layered S p s act (known a inside) layered;
      }

  -- one more
  act_true : (a : ℕ) (rest rest' : List ℕ) (s : State)
      → AreAlike S p (alarm_acts S a s) (alarm_acts (upper_core S p) (rank (is_upper_alarm S p) a) (up S p s))
      → AreAlike S p (alarms_act S rest (alarm_acts S a s).state) (alarms_act (upper_core S p) rest' (up S p (alarm_acts S a s).state))
      → AreAlike S p (alarms_act S (a ∷ rest) s) (alarms_act (upper_core S p) (rank (is_upper_alarm S p) a ∷ rest') (up S p s))
  act_true a rest rest' s first later =
      let at : AreAlike S p (alarms_act S rest (alarm_acts S a s).state) (alarms_act (upper_core S p) rest' (alarm_acts (upper_core S p) (rank (is_upper_alarm S p) a) (up S p s)).state) =
      subst (λ t. AreAlike S p (alarms_act S rest (alarm_acts S a s).state) (alarms_act (upper_core S p) rest' t)) first.state later in
      record {
        state = at.state;
        lines = lines_append S p _ _ _ _ first.lines at.lines;
        layered = at.layered;
      }

  act_false : (a : ℕ) (rest rest' : List ℕ) (s : State)
      → AreAlike S p (alarm_acts S a s) (record { events = []; state = up S p s })
      → AreAlike S p (alarms_act S rest (alarm_acts S a s).state) (alarms_act (upper_core S p) rest' (up S p (alarm_acts S a s).state))
      → AreAlike S p (alarms_act S (a ∷ rest) s) (alarms_act (upper_core S p) rest' (up S p s))
  act_false a rest rest' s first later =
      let at : AreAlike S p (alarms_act S rest (alarm_acts S a s).state) (alarms_act (upper_core S p) rest' (up S p s)) =
      subst (λ t. AreAlike S p (alarms_act S rest (alarm_acts S a s).state) (alarms_act (upper_core S p) rest' t)) first.state later in
      record {
        state = at.state;
        lines = lines_append S p (alarm_acts S a s).events (alarms_act S rest (alarm_acts S a s).state).events [] (alarms_act (upper_core S p) rest' (up S p s)).events first.lines at.lines;
        layered = at.layered;
      }

  all_act : (due : List ℕ) → AllByRecursion (λ a. a < length S.alarms) due → (s : State) → IsLayered S p s
      → AreAlike S p (alarms_act S due s) (alarms_act (upper_core S p) (renumbered_kept (is_upper_alarm S p) due) (up S p s))
  all_act [] all s layered = record { state = refl; lines = lines_none S p; layered = layered }
  all_act (a ∷ rest) all s layered = go (is_upper_alarm S p a) refl (all_act rest all.1)
    where
      go : (b : Bool) → is_upper_alarm S p a ≡ b
          → ((t : State) → IsLayered S p t → AreAlike S p (alarms_act S rest t) (alarms_act (upper_core S p) (renumbered_kept (is_upper_alarm S p) rest) (up S p t)))
          → AreAlike S p (alarms_act S (a ∷ rest) s)
          (alarms_act (upper_core S p) (map (rank (is_upper_alarm S p)) (cond b (a ∷ filter (is_upper_alarm S p) rest) (filter (is_upper_alarm S p) rest))) (up S p s))
      go true h later =
          let first = acts_upper a s layered all.0 h in
          act_true a rest (renumbered_kept (is_upper_alarm S p) rest) s first (later (alarm_acts S a s).state first.layered)
      go false h later =
          let first = acts_lower a s layered all.0 h in
          act_false a rest (renumbered_kept (is_upper_alarm S p) rest) s first (later (alarm_acts S a s).state first.layered)

  alarm_phase_alike : (s : State) → IsLayered S p s → AreAlike S p (alarm_phase S s) (alarm_phase (upper_core S p) (up S p s))
  unfolding alarm_phase
  alarm_phase_alike s layered =
      let begun : State = record s { alarms = alarms_advanced S s } in
      let all : AreAlike S p (alarms_act S (due_alarms S s) begun) (alarms_act (upper_core S p) (renumbered_kept (is_upper_alarm S p) (due_alarms S s)) (up S p begun)) =
      all_act (due_alarms S s) (all_filter (λ a. a < length S.alarms) (is_due S s) (below (length S.alarms)) (all_below (length S.alarms))) begun (advanced_layered S p s layered) in
      subst (λ ns. AreAlike S p (alarms_act S (due_alarms S s) begun) (alarms_act (upper_core S p) ns (record (up S p s) { alarms = alarms_advanced (upper_core S p) (up S p s) }))) (sym (due_alarms_up S p both s))
      (subst (λ t. AreAlike S p (alarms_act S (due_alarms S s) begun) (alarms_act (upper_core S p) (renumbered_kept (is_upper_alarm S p) (due_alarms S s)) t)) (alarms_advanced_up S p both s) all)

-- the alarm phase does the same above
pub alarms_alike : (S : System) (p : ℕ) → IsCounterpart S p → IsLow S p → IsProper S → (s : State) → IsLayered S p s
    → AreAlike S p (alarm_phase S s) (alarm_phase (upper_core S p) (up S p s))
alarms_alike S p both low proper s layered = alarm_phase_alike S p both low (acts_on_known S proper) s layered

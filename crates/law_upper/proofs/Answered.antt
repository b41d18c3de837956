-- The upper alarms that act in a tick, and how their actions are answered, are those of the upper
-- core.
use Rattle.std.proofs.Common.{◌≡◌, ℕ, ◌<◌, Bool, true, false, cond, List, [], ◌∷◌, map, length, refl, sym, ◌∙◌, ap, ap₂}
use Rattle.std.specs.List.{filter, AllByRecursion}
use Rattle.osek_base.specs.declared.arrivals.Arrival.{Arrival}
use Rattle.osek_base.specs.declared.status.Status.{Status}
use Rattle.osek_base.specs.declared.task.Action.{Action}
use Rattle.osek_base.specs.Lists.{below}
use Rattle.osek_base.specs.System.{System, alarm}
use Rattle.osek_base.specs.State.{State}
use Rattle.osek_base.specs.Alarm.{is_due, due_alarms, alarms_advanced}
use Rattle.osek_base.specs.Service.{NobodyCalls, unasked_service}
use Rattle.osek_base.specs.Tick.{action_call, alarm_acts}
use Rattle.osek_base.specs.Trace.{run}
use Rattle.osek_base.specs.Upper.{is_upper_alarm}
use Rattle.osek_base.specs.Agree.{rank, upper_core}
use Rattle.osek_base.specs.Proper.{IsProper}
use Rattle.osek_base.specs.Separable.{Separable}
use Rattle.partition_check.proofs.UpperState.{up}
use Rattle.partition_check.proofs.IsolationLemmas.{Agree-core}
use Rattle.partition_check.proofs.Shared.{IsCounterpart, IsLow, IsLayered}
use Rattle.partition_check.proofs.ListsUp.{all_filter, each_below}
use Rattle.partition_check.proofs.Renumbering.{renumbered_kept}
use Rattle.partition_check.proofs.ActionsUp.{action_up}
use Rattle.partition_check.proofs.AlarmPhase.{due_alarms_up, alarms_advanced_up, advanced_layered, acts_on_known}
use Rattle.partition_check.proofs.AlarmActs.{acts_upper, acts_lower}
use Rattle.law_upper.specs.AlarmsAbove.{AlarmAnswer, answer_to, upper_answers, upper_expiring, AlarmsAreAnsweredTheSame, AlarmsActTheSame}
use Rattle.law_upper.specs.Above.{AreOneAbove}
use Rattle.law_upper.proofs.Sides.{both as its_core, below as its_low, run_beside, of_the_part}

-- all alarms that act in turn
abbrev pub answers : System → List ℕ → State → List AlarmAnswer
answers A [] s = []
answers A (a ∷ rest) s = answer_to A a a s ∷ answers A rest (alarm_acts A a s).state

abbrev pub expiring : System → State → List AlarmAnswer
expiring A s = answers A (due_alarms A s) (record s { alarms = alarms_advanced A s })

same_answer : (number : ℕ) (act other : Action) (a b : Status) → act ≡ other → a ≡ b
    → ◌≡◌ {A = AlarmAnswer} (record { number = number; action = act; status = a })
    (record { number = number; action = other; status = b })
same_answer number act other a b h k = λ i. record { number = number; action = h i; status = k i }

module _ (S : System) (p : ℕ) (both : IsCounterpart S p) (low : IsLow S p)
    (proper : IsProper S) where
  answer_up : (a : ℕ) (s : State) → IsLayered S p s → a < length S.alarms
      → is_upper_alarm S p a ≡ true
      → answer_to S (rank (is_upper_alarm S p) a) a s
      ≡ answer_to (upper_core S p) (rank (is_upper_alarm S p) a) (rank (is_upper_alarm S p) a)
      (up S p s)
  answer_up a s layered inside high =
      let act : Action = (alarm S a).action in
      let same = action_up S p both low s layered act (acts_on_known S proper a inside) high in
      let action : (alarm (upper_core S p) (rank (is_upper_alarm S p) a)).action
      ≡ act = both.actions a inside high in
      same_answer (rank (is_upper_alarm S p) a) act
      (alarm (upper_core S p) (rank (is_upper_alarm S p) a)).action
      (unasked_service S NobodyCalls s (action_call act)).status
      (unasked_service (upper_core S p) NobodyCalls (up S p s)
      (action_call (alarm (upper_core S p) (rank (is_upper_alarm S p) a)).action)).status
      (sym action)
      (sym same.status ∙ ap
      (λ x. (unasked_service (upper_core S p) NobodyCalls (up S p s) (action_call x)).status)
      (sym action))

  answers_up : (due : List ℕ) → AllByRecursion (λ a. a < length S.alarms) due → (s : State)
      → IsLayered S p s
      → upper_answers S p due s
      ≡ answers (upper_core S p) (renumbered_kept (is_upper_alarm S p) due) (up S p s)
  answers_up [] all s layered = refl
  answers_up (a ∷ rest) all s layered = go (is_upper_alarm S p a) refl (answers_up rest all.1)
    where
      go : (b : Bool) → is_upper_alarm S p a ≡ b
          → ((t : State) → IsLayered S p t
          → upper_answers S p rest t
          ≡ answers (upper_core S p) (renumbered_kept (is_upper_alarm S p) rest) (up S p t))
          → cond b (answer_to S (rank (is_upper_alarm S p) a) a s ∷ upper_answers S p rest
          (alarm_acts S a s).state) (upper_answers S p rest (alarm_acts S a s).state)
          ≡ answers (upper_core S p)
          (map (rank (is_upper_alarm S p))
          (cond b (a ∷ filter (is_upper_alarm S p) rest) (filter (is_upper_alarm S p) rest)))
          (up S p s)
      go true h later =
          let first = acts_upper S p both low (acts_on_known S proper) a s layered all.0 h in
          ap₂ (λ (x : AlarmAnswer) xs. x ∷ xs) (answer_up a s layered all.0 h)
          (later (alarm_acts S a s).state first.layered
          ∙ ap (answers (upper_core S p) (renumbered_kept (is_upper_alarm S p) rest)) first.state)
      go false h later =
          let first = acts_lower S p both low (acts_on_known S proper) a s layered all.0 h in
          later (alarm_acts S a s).state first.layered
          ∙ ap (answers (upper_core S p) (renumbered_kept (is_upper_alarm S p) rest)) first.state

  expiring_up : (s : State) → IsLayered S p s
      → upper_expiring S p s ≡ expiring (upper_core S p) (up S p s)
  expiring_up s layered =
      answers_up (due_alarms S s)
      (all_filter (λ a. a < length S.alarms) (is_due S s) (below (length S.alarms))
      (each_below (λ a. a < length S.alarms) (length S.alarms) (λ a h. h)))
      (record s { alarms = alarms_advanced S s }) (advanced_layered S p s layered)
      ∙ ap₂ (answers (upper_core S p)) (sym (due_alarms_up S p both s))
      (alarms_advanced_up S p both s)

run_expiring : (S : System) (p : ℕ) → IsProper S → Separable S p
    → (mode : ℕ) (arrivals : List Arrival) (n : ℕ)
    → upper_expiring S p (run S mode arrivals n).state
    ≡ expiring (upper_core S p) (run (upper_core S p) mode arrivals n).state
run_expiring S p proper separable mode arrivals n =
    let beside = run_beside S p proper separable mode arrivals n in
    expiring_up S p (its_core S p proper separable) (its_low S p proper separable) proper
    (run S mode arrivals n).state beside.layered
    ∙ ap (expiring (upper_core S p)) (sym beside.state)

answered_the_same : (S B : System) (p : ℕ) → AreOneAbove S B p → AlarmsAreAnsweredTheSame S B p
answered_the_same S B p pair mode arrivals n =
    run_expiring S p pair.proper pair.separable mode arrivals n
    ∙ ap (λ C. expiring C (run C mode arrivals n).state) (Agree-core S B p pair.agree)
    ∙ sym (run_expiring B p pair.proper_there pair.separable_there mode arrivals n)

pub alarms_act_the_same : AlarmsActTheSame
alarms_act_the_same = of_the_part AlarmsAreAnsweredTheSame answered_the_same

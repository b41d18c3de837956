-- Partitions. The upper alarms that act in a tick, and how their actions are answered, are the
-- same in systems that agree.
use Rattle.std.specs.Prelude.{ℕ, ◌≡◌, if◌then◌else◌, List, [], ◌∷◌}
use Rattle.osek_base.specs.declared.arrivals.Arrival.{Arrival}
use Rattle.osek_base.specs.declared.status.Status.{Status}
use Rattle.osek_base.specs.declared.task.Action.{Action}
use Rattle.osek_base.specs.System.{System, alarm}
use Rattle.osek_base.specs.State.{State}
use Rattle.osek_base.specs.Alarm.{due_alarms, alarms_advanced}
use Rattle.osek_base.specs.Service.{NobodyCalls, unasked_service}
use Rattle.osek_base.specs.Tick.{action_call, alarm_acts}
use Rattle.osek_base.specs.Trace.{run}
use Rattle.osek_base.specs.Upper.{is_upper_alarm}
use Rattle.osek_base.specs.Agree.{rank}
use Rattle.law_upper.specs.Above.{IsThatOfTheUpperPart}

-- an alarm, what its action is, and how that is answered
pub record AlarmAnswer : Type 0 where
  pub number : ℕ
  pub action : Action
  pub status : Status

abbrev pub answer_to : System → ℕ → ℕ → State → AlarmAnswer
answer_to S number a s =
    record {
      number = number;
      action = (alarm S a).action;
      status = (unasked_service S NobodyCalls s (action_call (alarm S a).action)).status;
    }

-- of alarms that act in turn the upper ones, by their numbers among these
abbrev pub upper_answers : System → ℕ → List ℕ → State → List AlarmAnswer
upper_answers S p [] s = []
upper_answers S p (a ∷ rest) s =
    if is_upper_alarm S p a
    then answer_to S (rank (is_upper_alarm S p) a) a s ∷ upper_answers S p rest
    (alarm_acts S a s).state
    else upper_answers S p rest (alarm_acts S a s).state

-- the upper alarms that expire in a tick, of which s is the state before
abbrev pub upper_expiring : System → ℕ → State → List AlarmAnswer
upper_expiring S p s =
    upper_answers S p (due_alarms S s) (record s { alarms = alarms_advanced S s })

-- in each mode and under the same arrivals, in every tick the same upper alarms expire, in order,
-- and their actions are answered alike
abbrev pub AlarmsAreAnsweredTheSame : System → System → ℕ → Type 0
AlarmsAreAnsweredTheSame S B p =
    (mode : ℕ) (arrivals : List Arrival) (n : ℕ)
    → upper_expiring S p (run S mode arrivals n).state
    ≡ upper_expiring B p (run B mode arrivals n).state

abbrev pub AlarmsActTheSame : Type 0
AlarmsActTheSame = IsThatOfTheUpperPart AlarmsAreAnsweredTheSame

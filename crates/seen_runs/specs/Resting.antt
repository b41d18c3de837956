-- Ticks in which nothing comes to a routine or an alarm.
use Rattle.std.specs.Prelude.{ℕ, ◌≡◌, Bool, false, List, [], map, length, slice_index_or}
use Rattle.seen_ticks.specs.declared.alarm_seen.AlarmSeen.{AlarmSeen}
use Rattle.seen_ticks.specs.declared.observation.Observation.{Observation}
use Rattle.seen_ticks.specs.declared.routine_seen.RoutineSeen.{RoutineSeen}
use Rattle.osek_base.specs.declared.ids.Owner.{Owner}
use Rattle.osek_base.specs.Lists.{below}
use Rattle.osek_base.specs.System.{System}
use Rattle.seen_ticks.specs.Observed.{Ticked, is_by}

-- in a tick no alarm is due, no interrupt arrives and no routine executes, and the same routines are pending at its instruction
-- as before it
pub record IsRest (k : Ticked) : Type 0 where
  pub none_due : k.due ≡ []
  pub none_refused : k.refused ≡ []
  pub none_arrive : k.arrived ≡ []
  pub no_routine : (i : ℕ) → is_by (Owner.Routine i) k.executed ≡ false
  pub pending : k.at.pending ≡ k.before.pending

-- what is seen then of a routine and of an alarm, where these routines are pending
abbrev pub resting_routine : List Bool → ℕ → RoutineSeen
resting_routine pending i =
    record {
      executes = false;
      is_pending = slice_index_or pending i false;
      is_started = false;
      arrived = 0;
      lost = 0;
    }

abbrev pub resting_alarm : ℕ → AlarmSeen
resting_alarm a = record { has_expired = false; is_refused = false }

-- an observation has that of each
pub record AreAtRest (S : System) (pending : List Bool) (o : Observation) : Type 0 where
  pub routines : o.routines.items ≡ map (resting_routine pending) (below (length S.routines))
  pub alarms : o.alarms.items ≡ map resting_alarm (below (length S.alarms))

-- What is seen of things in a tick from a state, as plain lists; and who executes its instruction.
use Rattle.std.specs.Prelude.{ℕ, false, List, Option, map, length}
use Rattle.std.specs.Option.{option_map}
use Rattle.osek_base.specs.declared.ids.Owner.{Owner}
use Rattle.osek_base.specs.declared.status.Status.{Status}
use Rattle.osek_base.specs.Lists.{below}
use Rattle.osek_base.specs.System.{System}
use Rattle.law_kept.specs.Kept.{Kept}
use Rattle.seen_ticks.specs.Seen.{Seen}
use Rattle.seen_ticks.specs.declared.failures.Failure.{Failure}
use Rattle.seen_ticks.specs.Observed.{answered, failure_of, owner_of}
use Rattle.law_seen.specs.Shown.{KeptTicked, alarm_seen_in, holders_seen_in, routine_seen_in, task_seen_in, ticked_in}

abbrev pub seen_by : System → KeptTicked → Seen
seen_by S k =
    record {
      tasks = map (task_seen_in S k) (below (length S.tasks));
      routines = map (routine_seen_in k) (below (length S.routines));
      holders = holders_seen_in S k.at;
      alarms = map (alarm_seen_in k) (below (length S.alarms));
    }

-- in a tick from a state in which the interrupts of some routines arrive; jobs that boot has made
-- count as made before it
unfoldable pub seen_in : System → List ℕ → Kept → Seen
seen_in S arrived o = seen_by S (ticked_in S false arrived o)

-- who executes the instruction of such a tick, and what that is answered
unfoldable pub executor_in : System → List ℕ → Kept → Option Owner
executor_in S arrived o = option_map owner_of (ticked_in S false arrived o).executed

unfoldable pub answered_in : System → List ℕ → Kept → Option Status
answered_in S arrived o = answered (ticked_in S false arrived o).executed

-- the instruction of such a tick, if it is a service that is answered other than E_OK
unfoldable pub failure_in : System → List ℕ → Kept → Option Failure
failure_in S arrived o = failure_of (ticked_in S false arrived o).executed

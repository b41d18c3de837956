-- The alarms that are refused exist.
use Rattle.std.proofs.Common.{ℕ, ◌<◌, List, [], ◌∷◌, length}
use Rattle.std.specs.List.{AllByRecursion}
use Rattle.osek_base.specs.declared.arrivals.Arrival.{Arrival}
use Rattle.osek_base.specs.declared.status.Status.{Status}
use Rattle.osek_base.specs.Alarm.{alarms_advanced, due_alarms, is_due}
use Rattle.osek_base.specs.Lists.{below}
use Rattle.osek_base.specs.Service.{NobodyCalls, Reply, unasked_service}
use Rattle.osek_base.specs.State.{State}
use Rattle.osek_base.specs.System.{System, alarm}
use Rattle.osek_base.specs.Tick.{action_call}
use Rattle.osek_base.specs.Trace.{run}
use Rattle.law_runs.proofs.Lists.{all_append, all_kept}
use Rattle.law_runs.proofs.Known.{all_below}
use Rattle.seen_ticks.specs.Told.{if_refused, refused_in, refused_of}

module _ (S : System) where
  abbrev Exists : ℕ → Type 0
  Exists a = a < length S.alarms

  one_known : (a : ℕ) (status : Status) → Exists a → AllByRecursion Exists (if_refused a status)
  one_known a Status.Ok h = tt
  one_known a _ h = (h, tt)

  known_of : (due : List ℕ) (s : State) → AllByRecursion Exists due → AllByRecursion Exists (refused_of S due s)
  known_of [] s all = tt
  known_of (a ∷ due) s all =
      let r : Reply = unasked_service S NobodyCalls s (action_call (alarm S a).action) in
      all_append Exists (if_refused a r.status) (refused_of S due r.state) (one_known a r.status all.0)
      (known_of due r.state all.1)

  pub refused_known : (mode : ℕ) (arrivals : List Arrival) (n : ℕ) → AllByRecursion Exists (refused_in S mode arrivals n)
  refused_known mode arrivals n =
      let s : State = (run S mode arrivals n).state in
      known_of (due_alarms S s) (record s { alarms = alarms_advanced S s })
      (all_kept Exists (is_due S s) (below (length S.alarms)) (all_below (length S.alarms)))

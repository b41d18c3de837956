-- Ticks of a run as figures have them, and what labels of its earlier ticks show in each.
use Rattle.std.specs.Prelude.{ℕ, false, List, Option, None, slice_index_or}
use Rattle.std.specs.Option.{option_map}
use Rattle.osek_base.specs.declared.arrivals.Arrival.{Arrival}
use Rattle.osek_base.specs.System.{System}
use Rattle.seen_ticks.specs.Observed.{holders_seen, owner_of, routine_seen, task_seen, tick_at}
use Rattle.view_figures.specs.declared.task_tick.TaskTick.{TaskTick}
use Rattle.view_figures.specs.declared.routine_figures.RoutineTick.{RoutineTick}
use Rattle.view_figures.specs.declared.resource_figures.HolderTick.{HolderTick}
use Rattle.view_figures.specs.FigureSums.{levels_of, lower_executes}
use Rattle.law_figures.specs.Ages.{ages, oldest_age}
use Rattle.law_figures.specs.Blocking.{blocked_in, blocking}
use Rattle.law_figures.specs.Holding.{held_ticks, holding}
use Rattle.law_figures.specs.Pending.{pending}
use Rattle.law_figures.specs.RunFigures.{label_before}
use Rattle.law_figures.specs.Times.{waited}

-- what tick i of a run is for task k: what is seen of it, and whether a lower task executes
abbrev pub run_tick : System → ℕ → List Arrival → ℕ → ℕ → TaskTick
run_tick S mode arrivals k i =
    record {
      tick = i;
      seen = task_seen S (tick_at S mode arrivals i) k;
      lower_executes =
          lower_executes (levels_of S) (option_map owner_of (tick_at S mode arrivals i).executed) k;
      has_failed = false;
      blockers = None;
    }

-- for a routine
abbrev pub run_routine : System → ℕ → List Arrival → ℕ → ℕ → RoutineTick
run_routine S mode arrivals k i =
    record {
      tick = i;
      seen = routine_seen (tick_at S mode arrivals i) k;
      has_failed = false;
    }

-- and for what can be held
abbrev pub run_holder : System → ℕ → List Arrival → ℕ → ℕ → HolderTick
run_holder S mode arrivals r i =
    record {
      tick = i;
      holder = slice_index_or (holders_seen S (tick_at S mode arrivals i).at) r None;
    }

-- for how many ticks a task's oldest job has stood, tick n counted, if one stands
abbrev pub age_at : System → ℕ → List Arrival → ℕ → ℕ → Option ℕ
age_at S mode arrivals k n =
    oldest_age (run_tick S mode arrivals k n)
    (label_before ages (run_tick S mode arrivals k) n)

-- for how many ticks it has been blocked
abbrev pub blocked_at : System → ℕ → List Arrival → ℕ → ℕ → ℕ
blocked_at S mode arrivals k n =
    blocked_in (run_tick S mode arrivals k n)
    (label_before blocking (run_tick S mode arrivals k) n)

-- for how many ticks a routine's interrupt has waited, if one is pending or starts
abbrev pub waited_at : System → ℕ → List Arrival → ℕ → ℕ → Option ℕ
waited_at S mode arrivals k n =
    waited (run_routine S mode arrivals k n)
    (label_before pending (run_routine S mode arrivals k) n)

-- for how many ticks a task has held a resource, if one holds it
abbrev pub held_at : System → ℕ → List Arrival → ℕ → ℕ → Option ℕ
held_at S mode arrivals r n =
    held_ticks (run_holder S mode arrivals r n)
    (label_before holding (run_holder S mode arrivals r) n)

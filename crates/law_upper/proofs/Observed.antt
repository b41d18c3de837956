-- Each run of a system that isn't over has observations and figures.
use Rattle.std.proofs.Common.{◌≡◌, ℕ, zero, suc, ◌<◌, false, List, [], ◌∷◌, map, length, refl, arith}
use Rattle.std.specs.Prelude.{None, count_by}
use Rattle.std.specs.Option.{option_map}
use Rattle.osek_base.specs.declared.arrivals.Arrival.{Arrival}
use Rattle.osek_base.specs.Lists.{below}
use Rattle.osek_base.specs.System.{System}
use Rattle.osek_base.specs.Trace.{run}
use Rattle.seen_ticks.specs.declared.observation.Observation.{Observation}
use Rattle.seen_ticks.specs.Observed.{Ticked, alarm_seen, answered, failure_of, holders_seen, owner_of, routine_seen, task_seen, tick_at}
use Rattle.law_future.proofs.Tables.{length-table, table_at}
use Rattle.view_figures.specs.AlarmSums.{alarm_figures}
use Rattle.view_figures.specs.Counts.{capped}
use Rattle.view_figures.specs.FigureSums.{AreFigures, AreOf, RunFigures, alarm_tick, held_count, holder_tick, is_idle, last_tick, levels_of, routine_tick, task_figures, task_tick}
use Rattle.view_figures.specs.ResourceSums.{resource_figures}
use Rattle.view_figures.specs.RoutineSums.{routine_figures}
use Rattle.law_figures.specs.RunFigures.{AreTicksOf}

module _ (S : System) (mode : ℕ) (arrivals : List Arrival) where
  abbrev pub observed_at : ℕ → Observation
  observed_at n =
      let k : Ticked = tick_at S mode arrivals n in
      record {
        tick = n;
        executor = option_map owner_of k.executed;
        answered = answered k.executed;
        failure = failure_of k.executed;
        blockers = None;
        tasks = record { items = map (task_seen S k) (below (length S.tasks)) };
        routines = record { items = map (routine_seen k) (below (length S.routines)) };
        holders = record { items = holders_seen S k.at };
        alarms = record { items = map (alarm_seen k) (below (length S.alarms)) };
      }

  -- of the first n ticks, newest first
  abbrev pub observed_before : ℕ → List Observation
  observed_before zero = []
  observed_before (suc n) = observed_at n ∷ observed_before n

  pub are_ticks : (n : ℕ) → ((i : ℕ) → i < n → (run S mode arrivals i).state.over ≡ false)
      → AreTicksOf S mode arrivals n (observed_before n)
  are_ticks zero going = tt
  are_ticks (suc n) going = (
    record {
      number = refl;
      going = going n (omega arith);
      seen = record {
        executor = refl;
        answered = refl;
        failure = refl;
        tasks = refl;
        routines = refl;
        holders = refl;
        alarms = refl;
      };
    },
    are_ticks n (λ i low. going i (omega (arith, low))),
  )

-- ---- figures

each_of : {T X : Type 0} (n : ℕ) (kind : List T → X) (seen : ℕ → List T)
    → AreOf n kind seen (map (λ k. kind (seen k)) (below n))
each_of n kind seen = record {
  count = length-table (λ k. kind (seen k)) n;
  each = λ k low. table_at (λ k. kind (seen k)) n k (kind []) low;
}

module _ (S : System) (seen : List Observation) where
  abbrev pub figures_of : RunFigures
  figures_of =
      record {
        ticks = capped (length seen);
        last = last_tick seen;
        idle = capped (count_by is_idle seen);
        levels = levels_of S;
        tasks =
            map (λ k. task_figures (map (λ o. task_tick (levels_of S) o k) seen))
            (below (length S.tasks));
        routines =
            map (λ k. routine_figures (map (λ o. routine_tick o k) seen))
            (below (length S.routines));
        resources =
            map (λ k. resource_figures (map (λ o. holder_tick o k) seen)) (below (held_count S));
        alarms =
            map (λ k. alarm_figures (map (λ o. alarm_tick o k) seen)) (below (length S.alarms));
      }

  pub are_figures : AreFigures S seen figures_of
  are_figures = record {
    ticks = refl;
    last = refl;
    idle = refl;
    levels = refl;
    tasks =
        each_of (length S.tasks) task_figures
        (λ k. map (λ o. task_tick (levels_of S) o k) seen);
    routines = each_of (length S.routines) routine_figures (λ k. map (λ o. routine_tick o k) seen);
    resources = each_of (held_count S) resource_figures (λ k. map (λ o. holder_tick o k) seen);
    alarms = each_of (length S.alarms) alarm_figures (λ k. map (λ o. alarm_tick o k) seen);
  }

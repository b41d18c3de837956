-- Figures of an interrupt routine, over the ticks that were seen, newest first.
use Rattle.std.specs.Prelude.{ℕ, List, [], ◌∷◌, Option, Some, None, sum_by, count_by, cond, nat_lt, ◌-◌, ◌+◌, ◌||◌}
use Rattle.view_figures.specs.declared.reached.Reached.{Reached}
use Rattle.view_figures.specs.declared.routine_figures.RoutineTick.{RoutineTick}
use Rattle.view_figures.specs.declared.routine_figures.RoutineFigures.{RoutineFigures}
use Rattle.view_figures.specs.Counts.{capped}
use Rattle.view_figures.specs.Reaching.{worse_of, first_tick}

-- since when an interrupt is pending, before the tick's start: one that is started in the tick was pending
abbrev pub since : RoutineTick → Option ℕ → Option ℕ
since r flag = first_tick (r.seen.is_pending || r.seen.is_started) r.tick flag

-- a start clears the flag
abbrev pub still : RoutineTick → Option ℕ → Option ℕ
still r flag = cond r.seen.is_started None flag

-- since which tick an interrupt is pending after the last tick seen
abbrev pub pending_since : List RoutineTick → Option ℕ
pending_since [] = None
pending_since (r ∷ before) = still r (since r (pending_since before))

-- the ticks from that one to the start, where the routine is started
abbrev pub latency : RoutineTick → Option ℕ → Option Reached
latency r None = None
latency r (Some u) = cond r.seen.is_started (Some (record { ticks = r.tick - u; at = r.tick })) None

abbrev pub greatest_latency : List RoutineTick → Option Reached
greatest_latency [] = None
greatest_latency (r ∷ before) = worse_of (greatest_latency before) (latency r (since r (pending_since before)))

-- for how many ticks an interrupt is pending behind a tick
abbrev pub pending_age : ℕ → Option ℕ → Option Reached
pending_age tick None = None
pending_age tick (Some u) = Some (record { ticks = capped (tick - u + 1); at = tick })

-- the first tick in which an interrupt was lost
abbrev pub first_loss : List RoutineTick → Option ℕ
first_loss [] = None
first_loss (r ∷ before) = first_tick (nat_lt 0 r.seen.lost) r.tick (first_loss before)

-- the interrupts that arrived, those that were lost, the starts, the services answered other than E_OK, and the latency
unfoldable pub routine_figures : List RoutineTick → RoutineFigures
routine_figures seen = record {
  arrivals = capped (sum_by (λ r. r.seen.arrived) seen);
  starts = capped (count_by (λ r. r.seen.is_started) seen);
  losses = capped (sum_by (λ r. r.seen.lost) seen);
  errors = capped (count_by (λ r. r.has_failed) seen);
  latency = greatest_latency seen;
  pending_since = pending_since seen;
  first_loss = first_loss seen;
}

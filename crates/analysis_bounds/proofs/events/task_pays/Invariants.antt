use Rattle.std.specs.Prelude.{ℕ, ◌≡◌, ◌<◌, nat_le, true}
use Rattle.analysis_bounds.specs.Levels.{by_event}
use Rattle.analysis_bounds.proofs.events.task_pays.Given as goal

abbrev pub invariant-loop-event : goal.invariant-loop-event
invariant-loop-event l =
    (b : ℕ) → b < l.event
    → nat_le (by_event l.level.holds.items l.task b) (by_event l.level.sets.items l.task b) ≡ true

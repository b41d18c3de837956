use Rattle.std.specs.Prelude.{ℕ, ◌≡◌, ◌<◌, ◌||◌, nat_le, not, true}
use Rattle.law_nodes.specs.Early.{is_set}
use Rattle.analysis_bounds.specs.Levels.{by_event}
use Rattle.analysis_bounds.proofs.events.cost_each.Given as goal

abbrev pub invariant-loop-event : goal.invariant-loop-event
invariant-loop-event l =
    (b : ℕ) → b < l.event
    → (not (is_set l.mask b) || nat_le l.least (by_event l.list l.task b)) ≡ true

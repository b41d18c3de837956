use Rattle.std.specs.Prelude.{◌≡◌}
use Rattle.std.specs.List.{filter, sum_by}
use Rattle.osek_base.specs.Lists.{below}
use Rattle.analysis_bounds.specs.Events.{is_summed}
use Rattle.analysis_bounds.specs.Levels.{by_event}
use Rattle.analysis_bounds.proofs.events.sum_events.Given as goal

abbrev pub invariant-loop-event : goal.invariant-loop-event
invariant-loop-event l =
    l.sum ≡ sum_by (by_event l.list l.task) (filter (is_summed l.mask l.besides) (below l.event))

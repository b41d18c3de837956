-- Fewer events follow.
use Rattle.std.proofs.Common.{◌-◌}
use Rattle.osek_base.specs.declared.limits.TheConstants.{MAX_EVENTS}
use Rattle.analysis_bounds.proofs.events.+least_from.Given as goal

abbrev pub decreases-least_from : goal.decreases-least_from
decreases-least_from l = MAX_EVENTS - l.event

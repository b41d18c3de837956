-- Each run, by computation.
use Rattle.std.proofs.Common.{refl}
use Rattle.std.specs.Fmt.{digits}
use Rattle.osek_base.specs.Reschedule.{reschedule}
use Rattle.osek_base.specs.Activation.{activated, released}
use Rattle.osek_base.specs.Service.{service, unasked_service}
use Rattle.osek_base.specs.Tick.{alarm_phase, start_phase, execute_phase, tick}
use Rattle.osek_base.specs.Trace.{boot, run}
use Rattle.test_runs.proofs.Computed.{proper, worked}
use Rattle.test_runs.proofs.events.Goals as goal

pub returns : goal.returns
unfolding digits reschedule activated released service unasked_service alarm_phase start_phase execute_phase tick boot run
returns c =
    record {
      run_released_is_newest = worked refl refl;
      class_released_is_newest = refl;
      run_events = worked refl refl;
      proper_extended_single = proper refl;
      class_extended_single = refl;
    }

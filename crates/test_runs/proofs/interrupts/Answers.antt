-- Each run, by computation.
use Rattle.std.proofs.Common.{refl}
use Rattle.std.specs.Fmt.{digits}
use Rattle.osek_base.specs.Reschedule.{reschedule}
use Rattle.osek_base.specs.Activation.{activated, released}
use Rattle.osek_base.specs.Service.{service, unasked_service}
use Rattle.osek_base.specs.Tick.{alarm_phase, start_phase, execute_phase, tick}
use Rattle.osek_base.specs.Trace.{boot, run}
use Rattle.test_runs.proofs.Computed.{worked}
use Rattle.test_runs.proofs.interrupts.Goals as goal

pub returns : goal.returns
unfolding digits reschedule activated released service unasked_service alarm_phase start_phase execute_phase tick boot run
returns c =
    record {
      run_interrupts_off = worked refl refl;
      run_routines_alone = worked refl refl;
      run_nested_suspension = worked refl refl;
      run_routine_refused = worked refl refl;
    }

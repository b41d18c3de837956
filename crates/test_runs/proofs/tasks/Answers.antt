-- Each run, by computation.
use Rattle.std.proofs.Common.{refl}
use Rattle.std.specs.Fmt.{digits}
use Rattle.osek_base.specs.Reschedule.{reschedule}
use Rattle.osek_base.specs.Activation.{activated, released}
use Rattle.osek_base.specs.Service.{service, unasked_service}
use Rattle.osek_base.specs.Tick.{alarm_phase, start_phase, execute_phase, tick}
use Rattle.osek_base.specs.Trace.{boot, run}
use Rattle.test_runs.proofs.Computed.{worked}
use Rattle.test_runs.proofs.tasks.Goals as goal

pub returns : goal.returns
unfolding digits reschedule activated released service unasked_service alarm_phase start_phase execute_phase tick boot run
returns c =
    record {
      run_one_task = worked refl refl;
      class_one_task = refl;
      run_activation_order = worked refl refl;
      class_activation_order = refl;
      run_preempted_is_oldest = worked refl refl;
      run_highest_priority = worked refl refl;
      run_chain_to_itself = worked refl refl;
      run_non_preemptable = worked refl refl;
      run_basic_task_refused = worked refl refl;
      run_plain = worked refl refl;
      run_wrapping = worked refl refl;
      run_shutdown = worked refl refl;
    }

-- Each run, by computation.
use Rattle.std.proofs.Common.{refl}
use Rattle.std.specs.Fmt.{digits}
use Rattle.osek_base.specs.Reschedule.{reschedule}
use Rattle.osek_base.specs.Activation.{activated, released}
use Rattle.osek_base.specs.Service.{service, unasked_service}
use Rattle.osek_base.specs.Tick.{alarm_phase, start_phase, execute_phase, tick}
use Rattle.osek_base.specs.Trace.{boot, run}
use Rattle.test_runs.proofs.Computed.{worked}
use Rattle.test_runs.proofs.resources.Goals as goal

pub returns : goal.returns
unfolding digits reschedule activated released service unasked_service alarm_phase start_phase execute_phase tick boot run
returns c =
    record {
      run_nested_resources = worked refl refl;
      blocking_nested_resources = refl;
      blockers_nested_resources_at0 = record { ready = refl; blocked = refl };
      blockers_nested_resources_at5 = record { ready = refl; blocked = refl };
      blockers_nested_resources_at4 = record { ready = refl; blocked = refl };
      blockers_nested_resources_at6 = record { ready = refl; blocked = refl };
      blockers_nested_resources_at8 = record { ready = refl; blocked = refl };
      run_no_end_while_holding = worked refl refl;
      run_checks_in_order = worked refl refl;
      run_schedule = worked refl refl;
      run_res_scheduler = worked refl refl;
      run_shared_words = worked refl refl;
      run_shared_refused = worked refl refl;
    }

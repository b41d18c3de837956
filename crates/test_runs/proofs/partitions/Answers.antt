-- Each run, by computation.
use Rattle.std.proofs.Common.{refl}
use Rattle.std.specs.Fmt.{digits}
use Rattle.osek_base.specs.Reschedule.{reschedule}
use Rattle.osek_base.specs.Activation.{activated, released}
use Rattle.osek_base.specs.Service.{service, unasked_service}
use Rattle.osek_base.specs.Tick.{alarm_phase, start_phase, execute_phase, tick}
use Rattle.osek_base.specs.Trace.{boot, run}
use Rattle.osek_base.specs.Separable.{first_denial}
use Rattle.test_runs.proofs.Computed.{proper, worked}
use Rattle.test_runs.proofs.partitions.Goals as goal

pub returns : goal.returns
unfolding digits reschedule activated released service unasked_service alarm_phase start_phase execute_phase tick boot run first_denial
returns c =
    record {
      run_lower_ends = worked refl refl;
      view_lower_ends = refl;
      alone_lower_ends = refl;
      check_lower_ends_at5 = refl;
      check_lower_ends_at6 = refl;
      core_lower_ends = refl;
      windows_lower_ends = refl;
      run_lower_goes_round = worked refl refl;
      view_lower_goes_round = refl;
      alone_lower_goes_round = refl;
      check_lower_goes_round = refl;
      core_lower_goes_round = refl;
      windows_lower_goes_round = refl;
      check_lower_takes_scheduler = record { proper = proper refl; denied = refl };
      check_routine_asks_task = record { proper = proper refl; denied = refl };
      check_lower_non_preemptable = record { proper = proper refl; denied = refl };
      check_shared_internal = record { proper = proper refl; denied = refl };
      check_lower_suspends = record { proper = proper refl; denied = refl };
      check_lower_names_upper = record { proper = proper refl; denied = refl };
      check_upper_names_lower = record { proper = proper refl; denied = refl };
      check_two_breaches = record { proper = proper refl; denied = refl };
      proper_mixed = proper refl;
      check_mixed = refl;
      core_mixed = refl;
      windows_mixed = refl;
    }

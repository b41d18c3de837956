use Rattle.std.proofs.Common.{◌≡◌, ◌≤◌, ◌*◌}
use Rattle.osek_base.specs.System.{activation_of}
use Rattle.law_kept.specs.Standing.{sum_to}
use Rattle.services.proofs.objects.room_for.Given as goal

-- the ACTIVATION values of the tasks so far, each of which fits a byte
abbrev pub invariant-loop-number : goal.invariant-loop-number
invariant-loop-number l = record {
  sum : l.room ≡ sum_to l.number (activation_of l.system);
  low : l.room ≤ l.number * 255;
}

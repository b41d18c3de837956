use Rattle.std.proofs.Common.{length}
use Rattle.system_gen.proofs.object_checks.+has_two_internal.Given as goal

abbrev pub decreases-has_two_internal : goal.decreases-has_two_internal
decreases-has_two_internal l = length l.names.now

use Rattle.std.proofs.Common.{length}
use Rattle.search_states.proofs.tasks.+push_resources.Given as goal

abbrev pub decreases-push_resources : goal.decreases-push_resources
decreases-push_resources l = length l.resources.now

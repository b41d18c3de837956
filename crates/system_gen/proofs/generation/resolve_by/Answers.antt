use Rattle.std.proofs.Common.{sym, subst}
use Rattle.system_gen.specs.Generated.{IsWithinLimits}
use Rattle.system_gen.proofs.LimitLemmas.{within_limits}
use Rattle.system_gen.proofs.generation.resolve_by.Goals as goal

pub new-resolver-requires : goal.new-resolver-requires
new-resolver-requires c = subst IsWithinLimits (sym c.requires.declared) (within_limits c.args.file.now c.in_ok-masks.ensures.limits)

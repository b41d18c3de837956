-- The numbers so far have their ceilings.
use Rattle.std.proofs.Common.{◌≡◌, length}
use Rattle.osek_base.specs.declared.limits.TheConstants.{MAX_RESOURCES}
use Rattle.osek_base.specs.KeptCeilings.{HasCeilings}
use Rattle.osek_base.proofs.ceilings.declared_ceilings.Given as goal

abbrev pub invariant-loop-number : goal.invariant-loop-number
invariant-loop-number l = record { long : length l.ceilings ≡ MAX_RESOURCES; so_far : HasCeilings l.parts l.ceilings l.number }

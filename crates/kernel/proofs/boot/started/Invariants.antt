use Rattle.std.proofs.Common.{◌≡◌}
use Rattle.services.specs.Objects.{kept_in}
use Rattle.kernel.proofs.StartLemmas.{AreStarting}
use Rattle.kernel.proofs.boot.started.Given as goal

-- the tasks so far that start in the mode were activated once each
abbrev pub invariant-loop-number : goal.invariant-loop-number
invariant-loop-number g l = record {
  system : l.core.system ≡ l.system;
  starting : AreStarting l.system l.mode l.number (kept_in l.core);
}

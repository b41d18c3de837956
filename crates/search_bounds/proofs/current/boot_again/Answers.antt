use Rattle.std.proofs.Common.{ap, ◌∙◌}
use Rattle.kernel.specs.Machine.{picture}
use Rattle.search_bounds.proofs.Exploring.{booted_state}
use Rattle.search_bounds.proofs.current.boot_again.Goals as goal

pub returns-clause-picture : goal.returns-clause-picture
returns-clause-picture c =
    ap picture c.copy_from.ensures
    ∙ booted_state c.args.system.now c.args.mode c.in_ok-booted.booted
    c.in_ok-booted.ensures

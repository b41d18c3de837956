use Rattle.std.proofs.Common.{subst, sym}
use Rattle.analysis_bounds.specs.declared.levels.TheConstants.{CAP}
use Rattle.analysis_bounds.specs.Windows.{AreMosts}
use Rattle.analysis_bounds.proofs.BoundLemmas.{set_mosts}
use Rattle.analysis_bounds.proofs.levels.add_level.Goals as goal

pub returns : goal.returns
returns c bounds =
    subst (AreMosts c.args.system.now c.args.mode c.args.rules.now CAP) (sym c.set_most.ensures)
    (set_mosts c.args.system.now c.args.mode c.args.rules.now c.args.mosts.now.items c.args.priority
    c.most_of.result c.in_ok-window.window c.in_ok-window.ensures c.most_of.ensures bounds)

use Rattle.analysis_bounds.proofs.EnoughLemmas.{enough_of}
use Rattle.analysis_bounds.proofs.coming.are_enough.Goals as goal

pub returns-in-Some : goal.returns-in-Some
returns-in-Some c h =
    enough_of c.args.system.now c.args.mode c.args.rules.now c.args.level.now c.args.least.now
    c.args.paces.now c.args.most c.in-Some.more c.requires
    (c.are_periodic.ensures c.if-not-are_periodic.false) c.in-Some.ensures
    (c.is_enough_for.ensures h)

use Rattle.std.proofs.Common.{◌-◌, ◌∙◌, ap, take}
use Rattle.analysis_nodes.proofs.HeldLemmas.{without_last-take}
use Rattle.analysis_nodes.proofs.granting.release_last.Goals as goal

pub returns : goal.returns
returns c =
    c.pop-last.ensures.rest
    ∙ (ap (λ n. take (n - 1) c.args.held.now.items) c.args.held.now.ok.0 ∙ without_last-take _)

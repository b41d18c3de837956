use Rattle.std.proofs.Common.{◌∙◌, ap, bit_or}
use Rattle.osek_base.specs.System.{Task}
use Rattle.law_costs.specs.Settable.{settable_in}
use Rattle.analysis_nodes.proofs.SettableLemmas.{one_more}
use Rattle.analysis_nodes.proofs.settable.by_tasks.Goals as goal

pub loop-other-preserved : goal.loop-other-preserved
loop-other-preserved c =
    ap (bit_or c.loop-other.all)
    (c.settable_in-all.ensures
    ∙ ap (settable_in c.args.task) c.lines.ensures
    ∙ (λ i. settable_in c.args.task (c.other.view_is i).program)
    ∙ ap (λ (a : Task). settable_in c.args.task a.program) c.other-item.is)
    ∙ one_more (λ (a : Task). settable_in c.args.task a.program) c.args.tasks.now
    c.loop-other.other-index c.other-item.result c.loop-other.all c.loop-other-test.true
    c.loop-other.invariant

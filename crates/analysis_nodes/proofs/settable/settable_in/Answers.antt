use Rattle.std.proofs.Common.{◌∙◌, ap, bit_or}
use Rattle.law_costs.specs.Settable.{sets_for}
use Rattle.analysis_nodes.proofs.SettableLemmas.{one_more}
use Rattle.analysis_nodes.proofs.settable.settable_in.Goals as goal

pub loop-line-preserved : goal.loop-line-preserved
loop-line-preserved c =
    ap (bit_or c.loop-line.all)
    (c.sets_for-all.ensures ∙ ap (sets_for c.args.task) (c.instr.ensures ∙ c.line-item.is))
    ∙ one_more (sets_for c.args.task) c.args.lines.now c.loop-line.line-index c.line-item.result
    c.loop-line.all c.loop-line-test.true c.loop-line.invariant

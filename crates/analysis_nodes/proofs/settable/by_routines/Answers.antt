use Rattle.std.proofs.Common.{◌∙◌, ap, bit_or}
use Rattle.osek_base.specs.System.{Routine}
use Rattle.law_costs.specs.Settable.{settable_in}
use Rattle.analysis_nodes.proofs.SettableLemmas.{one_more}
use Rattle.analysis_nodes.proofs.settable.by_routines.Goals as goal

pub loop-routine-preserved : goal.loop-routine-preserved
loop-routine-preserved c =
    ap (bit_or c.loop-routine.all)
    (c.settable_in-all.ensures
    ∙ ap (settable_in c.args.task) c.lines.ensures
    ∙ (λ i. settable_in c.args.task (c.routine.view_is i).program)
    ∙ ap (λ (a : Routine). settable_in c.args.task a.program) c.routine-item.is)
    ∙ one_more (λ (a : Routine). settable_in c.args.task a.program) c.args.routines.now
    c.loop-routine.routine-index c.routine-item.result c.loop-routine.all c.loop-routine-test.true
    c.loop-routine.invariant

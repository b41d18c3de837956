use Rattle.std.proofs.Common.{sym, ◌∙◌, ◌==◌, ◌||◌, not}
use Rattle.law_analysis.specs.Refusing.{alarm_activates}
use Rattle.analysis_bounds.proofs.RefusingLemmas.{one_more}
use Rattle.analysis_bounds.proofs.activating.others_leave.Goals as goal

pub loop-other-preserved : goal.loop-other-preserved
loop-other-preserved c =
    one_more
    (λ b. b == c.args.alarm || not (alarm_activates c.args.system.now c.args.task b))
    c.loop-other.other c.loop-other.invariant
    (sym c.alarm_may_stay.ensures ∙ c.if-not-alarm_may_stay.false)

use Rattle.analysis_bounds.proofs.RefusingLemmas.{refusals_told}
use Rattle.analysis_bounds.proofs.refusing.refusals_are_told.Goals as goal

pub returns : goal.returns
returns c =
    λ all.
    refusals_told c.args.system.now c.args.mode c.args.rules.now c.args.peaks.now c.args.mosts.now
    c.shows_proper.ensures c.requires.mosts
    c.nobody_refuses.ensures c.alarms_refuse_none.ensures c.routines_refuse_none.ensures
    c.accepted_actions.ensures
    (c.are_accepted.ensures c.if-not-are_accepted.false) (c.are_actions_accepted.ensures all)

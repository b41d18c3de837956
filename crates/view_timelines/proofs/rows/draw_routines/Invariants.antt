use Rattle.view_timelines.specs.RowSteps.{routine_met}
use Rattle.view_timelines.proofs.RowLemmas.{AreChangedBelow}
use Rattle.view_timelines.proofs.rows.draw_routines.Given as goal

-- the first ones are done, the others aren't
abbrev pub invariant-loop-number : goal.invariant-loop-number
invariant-loop-number l = AreChangedBelow l.number (routine_met l.system l.observation l.tick) l.initial.tracks l.tracks

use Rattle.view_timelines.specs.RowSteps.{begun_kept}
use Rattle.view_timelines.proofs.RowLemmas.{AreChangedBelow}
use Rattle.view_timelines.proofs.rows.keep_begun.Given as goal

-- the first ones are done, the others aren't
abbrev pub invariant-loop-number : goal.invariant-loop-number
invariant-loop-number l = AreChangedBelow l.number (begun_kept l.observation) l.initial.tracks l.tracks

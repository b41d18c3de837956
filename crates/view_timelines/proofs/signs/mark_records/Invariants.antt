use Rattle.std.proofs.Common.{take}
use Rattle.osek_base.specs.declared.ids.Owner.{Owner}
use Rattle.view_timelines.specs.Marks.{records_signs}
use Rattle.view_timelines.specs.RowSteps.{AreSigned}
use Rattle.view_timelines.proofs.signs.mark_records.Given as goal

-- what the first records leave is marked
abbrev pub invariant-loop-entry : goal.invariant-loop-entry
invariant-loop-entry l =
    AreSigned l.tick (λ k. records_signs (take l.entry-index l.records) (Owner.Task k)) l.initial.tasks l.tasks
    × AreSigned l.tick (λ k. records_signs (take l.entry-index l.records) (Owner.Routine k)) l.initial.routines l.routines

use Rattle.std.proofs.Common.{◌≡◌, map, take}
use Rattle.osek_base.specs.System.{Routine}
use Rattle.law_costs.specs.Settable.{all_of, settable_in}
use Rattle.analysis_nodes.proofs.settable.by_routines.Given as goal

abbrev pub invariant-loop-routine : goal.invariant-loop-routine
invariant-loop-routine l = l.all ≡ all_of (map (λ (a : Routine). settable_in l.task a.program) (take l.routine-index l.routines))

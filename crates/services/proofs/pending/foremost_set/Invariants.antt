use Rattle.std.proofs.Common.{◌<◌, false, drop, length, slice_index_or}
use Rattle.std.specs.Prelude.{IfSome}
use Rattle.osek_base.specs.Lists.{below}
use Rattle.osek_base.specs.System.{routine}
use Rattle.services.proofs.RoutineLemmas.{IsBest}
use Rattle.services.proofs.pending.foremost_set.Given as goal

-- the best of the routines from here to the last, which is one of the system
abbrev pub invariant-loop-number : goal.invariant-loop-number
invariant-loop-number l = record {
  best : IsBest (λ i. slice_index_or l.flags i false) (λ i. (routine l.system i).priority)
      (drop l.number (below (length l.system.routines))) l.best l.greatest;
  known : IfSome l.best (λ i. i < length l.system.routines);
}

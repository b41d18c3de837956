-- Whatever follows from here completes the whole text.
use Rattle.std.proofs.Common.{◌+◌, ◌≤◌, List, ◌++◌, length}
use Rattle.osek_base.specs.declared.arrivals.Arrival.{Arrival}
use Rattle.arrival_reader.specs.declared.irq_fault.IrqFault.{IrqFault}
use Rattle.arrival_reader.specs.ArrivalText.{lines_of, AreRead, HasFirstFault}
use Rattle.arrival_reader.proofs.arrivals.read_arrivals.Given as goal

abbrev pub invariant-lines : goal.invariant-lines
invariant-lines l =
    record {
      read : (more : List Arrival) → AreRead l.names (l.number + 1) l.before (lines_of l.rest) more
          → AreRead l.names 1 0 (lines_of l.text) (l.list.items ++ more);
      fault : (found : IrqFault) → HasFirstFault l.names (l.number + 1) l.before (lines_of l.rest) found
          → HasFirstFault l.names 1 0 (lines_of l.text) found;
      small : l.before ≤ 999999;
      within : l.number + length l.rest ≤ length l.text;
    }

abbrev pub decreases-lines : goal.decreases-lines
decreases-lines l = length l.rest

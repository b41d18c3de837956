use Rattle.std.proofs.Common.{◌-◌, false}
use Rattle.view_runs.proofs.DumpLemmas.{IsWritten}
use Rattle.view_runs.proofs.TickLemmas.{Made}
use Rattle.view_runs.proofs.vcd.dump_run.Given as goal

abbrev pub invariant-ticks : goal.invariant-ticks
invariant-ticks g l =
    Made false l.ticks l.initial.run l.run
    (IsWritten g.S.Sink.taken g.S.Sink.has_failed l.initial.run.system l.fn.dump.first l.fn.out l.out l.dump)

abbrev pub decreases-ticks : goal.decreases-ticks
decreases-ticks g l = l.ticks - l.run.ticks

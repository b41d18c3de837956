use Rattle.analysis_bounds.specs.KnownTicks.{AreAgain}
use Rattle.analysis_bounds.proofs.rounds.are_again.Given as goal

abbrev pub invariant-loop-alarm : goal.invariant-loop-alarm
invariant-loop-alarm l = AreAgain l.timings l.level l.first l.round l.alarm

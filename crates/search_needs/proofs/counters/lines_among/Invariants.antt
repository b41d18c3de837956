use Rattle.search_needs.specs.Table.{has}
use Rattle.search_needs.specs.Asked.{LinesAsk}
use Rattle.search_needs.proofs.counters.lines_among.Given as goal

abbrev pub invariant-loop-place : goal.invariant-loop-place
invariant-loop-place l = LinesAsk l.system (has l.counters) l.lines l.place

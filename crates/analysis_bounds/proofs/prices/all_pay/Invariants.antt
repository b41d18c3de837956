use Rattle.analysis_bounds.specs.Checks.{ArePaying}
use Rattle.analysis_bounds.proofs.prices.all_pay.Given as goal

abbrev pub invariant-loop-number : goal.invariant-loop-number
invariant-loop-number l = ArePaying l.system l.graph l.level l.number

use Rattle.std.proofs.Common.{◌≡◌, ◌++◌, drop}
use Rattle.law_nodes.specs.Services.{first_refusals}
use Rattle.analysis_nodes.proofs.telling.first_refusals.Given as goal

-- what was found and what is to be found of those that are left is all
abbrev pub invariant-loop-test : goal.invariant-loop-test
invariant-loop-test l =
    l.found.items ++ first_refusals (drop l.test-index l.tests) ≡ first_refusals l.tests

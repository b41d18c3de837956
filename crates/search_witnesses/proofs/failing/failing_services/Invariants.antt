use Rattle.std.specs.List.{All}
use Rattle.search_witnesses.specs.Failing.{Fails}
use Rattle.search_witnesses.proofs.failing.failing_services.Given as goal

abbrev pub invariant-loop-number : goal.invariant-loop-number
invariant-loop-number l =
    All (Fails l.system l.mode l.rules l.found.peaks) l.services.items

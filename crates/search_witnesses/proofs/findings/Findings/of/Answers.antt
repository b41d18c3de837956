use Rattle.search_witnesses.proofs.Among.{are_findings}
use Rattle.search_witnesses.proofs.findings.Findings.of.Goals as goal

pub returns-clause-shown : goal.returns-clause-shown
returns-clause-shown c =
    are_findings c.args.system.now c.args.mode c.args.rules.now _ c.in_ok-reached.ensures
    c.in_ok-endless.ensures c.in_ok-failing.ensures

use Rattle.view_dumps.proofs.AgainLemmas.{told_once}
use Rattle.view_dumps.proofs.RunLemmas.{handed_each}
use Rattle.view_dumps.proofs.value_changes.ValueChanges.observe_alike.Goals as goal

pub returns-then-end-first-clause-once : goal.returns-then-end-first-clause-once
returns-then-end-first-clause-once g c = λ t none. told_once c.args.self.now.system t c.args.self.now.values c.args.seen.now none

pub returns-then-end-first-clause-each : goal.returns-then-end-first-clause-each
returns-then-end-first-clause-each g c = λ n e none. handed_each c.args.self.now c.args.seen.now c.args.first c.args.end n e none

pub returns-clause-once : goal.returns-clause-once
returns-clause-once g c = λ t none. told_once c.args.self.now.system t c.args.self.now.values c.args.seen.now none

pub returns-clause-each : goal.returns-clause-each
returns-clause-each g c = λ n e none. handed_each c.args.self.now c.args.seen.now c.args.first c.args.end n e none

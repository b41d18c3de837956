use Rattle.std.proofs.Common.{arith}
use Rattle.view_timelines.proofs.AlikeLemmas.{all_passed, all_unmarked}
use Rattle.view_timelines.proofs.timeline.Timeline.pass_alike.Goals as goal

pub returns-then-first-end-clause-rows : goal.returns-then-first-end-clause-rows
returns-then-first-end-clause-rows c = λ S seen counts _ are.
    all_passed S c.args.observation.now c.args.first c.args.end c.args.self.now c.pass.new.self c.requires
    (omega (arith, c.if-first-end.true)) c.pass.ensures seen counts are

pub returns-then-first-end-clause-marks : goal.returns-then-first-end-clause-marks
returns-then-first-end-clause-marks c = λ S told seen counts _ are.
    all_unmarked S c.args.observation.now c.args.first c.args.end c.args.self.now c.pass.new.self c.requires
    (omega (arith, c.if-first-end.true)) c.pass.ensures told seen counts are

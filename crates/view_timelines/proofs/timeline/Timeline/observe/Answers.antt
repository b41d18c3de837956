use Rattle.view_timelines.proofs.AlikeLemmas.{drawn_where_ok, marked_where_ok, one_passed, one_unmarked}
use Rattle.std.proofs.Common.{◌∙◌, sym}
use Rattle.view_timelines.proofs.timeline.Timeline.observe.Goals as goal

pub returns-then-draws-clause-rows : goal.returns-then-draws-clause-rows
returns-then-draws-clause-rows c = λ seen counts are.
    let range = c.draws.ensures.drawn c.if-draws.true in
    drawn_where_ok c.args.system.now c.args.observation.now _ c.args.self.now c.draw.new.self c.draw.result c.draw.ensures range.0
    range.1 seen counts are

pub returns-then-draws-clause-marks : goal.returns-then-draws-clause-marks
returns-then-draws-clause-marks c = λ told seen counts is are.
    let range = c.draws.ensures.drawn c.if-draws.true in
    marked_where_ok c.args.system.now c.args.observation.now c.entries.result.now c.args.self.now c.draw.new.self c.draw.result
    c.draw.ensures range.0 range.1 told seen counts (is ∙ sym c.entries.ensures.value) are

pub returns-clause-rows : goal.returns-clause-rows
returns-clause-rows c = λ seen counts are.
    one_passed c.args.system.now c.args.observation.now c.args.self.now c.pass.new.self
    (c.draws.ensures.passed c.if-draws.false) c.pass.ensures seen counts are

pub returns-clause-marks : goal.returns-clause-marks
returns-clause-marks c = λ told seen counts is are.
    one_unmarked c.args.system.now c.args.observation.now c.args.self.now c.pass.new.self
    (c.draws.ensures.passed c.if-draws.false) c.pass.ensures told seen counts are

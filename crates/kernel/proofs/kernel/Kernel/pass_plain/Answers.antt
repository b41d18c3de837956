use Rattle.std.proofs.Common.{subst, arith}
use Rattle.kernel.specs.Working.{HasWorked}
use Rattle.kernel.proofs.WorkRuns.{none_worked, works_more}
use Rattle.kernel.proofs.kernel.Kernel.pass_plain.Goals as goal

pub loop-ticks-init : goal.loop-ticks-init
loop-ticks-init g c = (none_worked g.B.Blockers.are_counted c.args.most c.args.self.now c.args.last.now, λ none i. c.args.last.now)

pub loop-ticks-preserved : goal.loop-ticks-preserved
loop-ticks-preserved g c =
    let (so, same) = c.loop-ticks.invariant in (
      works_more g.B.Blockers.are_counted c.args.most c.loop-ticks.ticks c.args.self.now c.loop-ticks.self c.tick_plain.new.self
          c.loop-ticks.last c.in-Some.executed c.loop-ticks-test.true so c.in-Some.ensures,
      λ none. absurd (omega (arith, none)),
    )

pub returns-clause-worked : goal.returns-clause-worked
returns-clause-worked g c =
    let (so, same) = c.loop-ticks.invariant in
    subst (λ n. HasWorked g.B.Blockers.are_counted c.args.most c.args.self.now c.loop-ticks.self n c.loop-ticks.last)
    (omega (arith, c.loop-ticks-test.false, c.loop-ticks.auto)) so.worked

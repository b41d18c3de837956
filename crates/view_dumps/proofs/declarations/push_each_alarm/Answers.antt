use Rattle.std.proofs.Common.{arith}
use Rattle.view_dumps.specs.Declarations.{alarm_line}
use Rattle.view_dumps.proofs.DeclarationLemmas.{each_more}
use Rattle.view_dumps.proofs.declarations.push_each_alarm.Goals as goal

pub loop-number-preserved : goal.loop-number-preserved
loop-number-preserved c =
    record {
      same =
          each_more (alarm_line c.args.system.now.names) c.args.text.now c.loop-number.text c.push_alarm.new.text c.loop-number.number c.loop-number.invariant.same c.push_alarm.ensures.same;
      short = omega (arith, c.push_alarm.ensures.short, c.loop-number.invariant.short);
    }

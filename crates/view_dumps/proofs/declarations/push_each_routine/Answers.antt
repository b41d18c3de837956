use Rattle.std.proofs.Common.{arith}
use Rattle.view_dumps.specs.Declarations.{routine_scope}
use Rattle.view_dumps.proofs.DeclarationLemmas.{each_more}
use Rattle.view_dumps.proofs.declarations.push_each_routine.Goals as goal

pub loop-number-preserved : goal.loop-number-preserved
loop-number-preserved c =
    record {
      same =
          each_more (routine_scope c.args.system.now.names) c.args.text.now c.loop-number.text c.push_routine.new.text c.loop-number.number c.loop-number.invariant.same c.push_routine.ensures.same;
      short = omega (arith, c.push_routine.ensures.short, c.loop-number.invariant.short);
    }

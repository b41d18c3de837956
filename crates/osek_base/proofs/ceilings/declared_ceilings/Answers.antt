-- One ceiling more.
use Rattle.std.proofs.Common.{◌∙◌, ap, arith, length-set}
use Rattle.osek_base.specs.Ceiling.{declared_ceiling}
use Rattle.osek_base.proofs.TableLemmas.{one_more}
use Rattle.osek_base.proofs.ceilings.declared_ceilings.Goals as goal

pub loop-number-preserved : goal.loop-number-preserved
loop-number-preserved c =
    record {
      long = length-set c.loop-number.ceilings c.loop-number.number c.declared_ceiling.result ∙ c.loop-number.invariant.long;
      so_far = one_more (declared_ceiling c.args.parts.now) c.loop-number.ceilings c.loop-number.number c.declared_ceiling.result 0
          (omega (arith, c.loop-number-test.true, c.loop-number.invariant.long))
          (c.declared_ceiling.ensures ∙ ap (declared_ceiling c.args.parts.now) c.new.ensures) c.loop-number.invariant.so_far;
    }

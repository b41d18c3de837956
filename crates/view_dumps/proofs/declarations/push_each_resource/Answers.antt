use Rattle.std.proofs.Common.{ℕ, arith}
use Rattle.osek_base.specs.declared.ids.ResId.{ResId}
use Rattle.view_dumps.specs.Declarations.{resource_line}
use Rattle.view_dumps.proofs.DeclarationLemmas.{each_more}
use Rattle.view_dumps.proofs.declarations.push_each_resource.Goals as goal

pub loop-number-preserved : goal.loop-number-preserved
loop-number-preserved c =
    record {
      same =
          each_more (λ (r : ℕ). resource_line c.args.system.now.names (ResId.Declared r)) c.args.text.now c.loop-number.text c.push_declared.new.text c.loop-number.number c.loop-number.invariant.same c.push_declared.ensures.same;
      short = omega (arith, c.push_declared.ensures.short, c.loop-number.invariant.short);
    }

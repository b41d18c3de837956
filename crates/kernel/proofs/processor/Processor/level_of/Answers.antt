use Rattle.std.proofs.Common.{sym, ◌∙◌, ap, arith}
use Rattle.osek_base.specs.System.{System, priority_of}
use Rattle.kernel.specs.Processor.{system_of}
use Rattle.services.proofs.BoundLemmas.{bounds_of, priority_low}
use Rattle.kernel.proofs.processor.Processor.level_of.Goals as goal

pub returns : goal.returns
returns g c =
    let low = priority_low c.self.inside.system.now c.args.task (bounds_of c.self.inside.system.now c.self.invariant.proper) in
    record {
      value =
          c.priority_of.ensures
          ∙ ap (λ (T : System). priority_of T c.args.task) (sym c.self.invariant.system ∙ ap system_of c.self.view_is);
      low = omega (arith, low, c.priority_of.ensures);
    }

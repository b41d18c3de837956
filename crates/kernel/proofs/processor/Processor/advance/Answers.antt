use Rattle.kernel.proofs.DoesLemmas.{advanced_by_objects}
use Rattle.kernel.proofs.processor.Processor.advance.Goals as goal

pub returns : goal.returns
returns g c =
    advanced_by_objects c.args.self.now c.self.inside.core c.advance.new.self c.self.inside.windows c.advance.new.due c.self.view_is
    c.advance.ensures.due c.advance.ensures.objects

use Rattle.kernel.proofs.DoesLemmas.{nothing_by_objects}
use Rattle.kernel.proofs.processor.Processor.is_dispatched.Goals as goal

pub returns : goal.returns
returns g c = λ known. nothing_by_objects c.args.self.now c.self.inside.core c.self.inside.windows c.self.view_is (c.is_dispatched.ensures known)

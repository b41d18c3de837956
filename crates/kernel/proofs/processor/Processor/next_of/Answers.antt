use Rattle.kernel.proofs.PhaseLemmas.{next_is}
use Rattle.kernel.proofs.processor.Processor.next_of.Goals as goal

pub returns : goal.returns
returns g c =
    next_is c.args.self.now c.self.inside.system.now c.self.inside.core c.self.inside.windows c.self.inside.code c.self.view_is
    c.self.invariant (record { owner = c.args.owner.now; place = c.place-place.result; packed = c.fetch.result }) c.cpu_of-cpu.result
    c.requires.executes c.requires.placed
    c.cpu_of-cpu.ensures c.place-place.ensures c.fetch.ensures

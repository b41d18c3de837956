use Rattle.std.proofs.Common.{◌∙◌}
use Rattle.kernel.proofs.RunLemmas.{going}
use Rattle.seen_ticks.proofs.ToldLemmas.{tasks_told}
use Rattle.kernel.proofs.kernel.Kernel.tick_seen.Goals as goal

pub returns-clause-seen : goal.returns-clause-seen
returns-clause-seen g c =
    let k = c.args.self.now in
    c.tick_with.ensures.seen
    ∙ tasks_told k.system c.tick_with.ensures.done.proper k.mode k.arrivals k.ticks (going k.system k.mode k.arrivals k.ticks c.requires).on

use Rattle.std.proofs.Common.{subst}
use Rattle.kernel.specs.Machine.{Machine}
use Rattle.kernel.specs.Processor.{picture}
use Rattle.kernel.specs.Working.{IsWorking}
use Rattle.kernel.proofs.SteadyLemmas.{steady_at}
use Rattle.kernel.proofs.ticking.Machine.is_working.Goals as goal

pub works_next-requires : goal.works_next-requires
works_next-requires g c = c.in-Some.ensures.fetch

pub returns-in-Some : goal.returns-in-Some
returns-in-Some g c = λ is.
    let k = c.self.inside in
    let p = k.watched.processor in
    let t = c.in-Some.task in
    let next = c.works_next.ensures is in
    subst (λ (m : Machine). IsWorking g.B.Blockers.are_counted m) c.self.view_is
    (record {
      task = t;
      steady = steady_at p.objects.system k.ticks (picture p) t c.in-Some.ensures.steady;
      instruction = next.instruction;
      plain = next.plain;
      spent = next.spent;
    })

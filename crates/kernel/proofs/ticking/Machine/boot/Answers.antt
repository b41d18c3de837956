use Rattle.kernel.proofs.BootLemmas.{machine_begun, machine_booted}
use Rattle.kernel.proofs.ToldLemmas.{both}
use Rattle.kernel.proofs.ticking.Machine.boot.Goals as goal

pub invariant_of-result-2 : goal.invariant_of-result-2
invariant_of-result-2 g c =
    let p = c.in_ok-processor.processor in
    let b = c.boot-blocking in
    machine_begun g.B.Blockers.are_counted c.args.system.now c.args.mode p b.result c.boot.new.opening (both c.new.result c.new-2.result) c.in_ok-processor.ensures
    b.ensures

pub returns : goal.returns
returns g c =
    let p = c.in_ok-processor.processor in
    machine_booted g.B.Blockers.are_counted c.args.system.now c.args.mode p c.boot-blocking.result c.boot.new.opening (both c.new.result c.new-2.result) c.in_ok-processor.ensures
    c.boot-blocking.ensures

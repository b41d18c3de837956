use Rattle.std.proofs.Common.{length, ◌∙◌, ap}
use Rattle.osek_base.specs.System.{System}
use Rattle.kernel.specs.Machine.{picture, system_of}
use Rattle.seen_machines.specs.Told.{routine_seen_by}
use Rattle.kernel.proofs.Filled.{goes_on}
use Rattle.seen_machines.proofs.told.Told.see_routines.Goals as goal

pub loop-number-preserved : goal.loop-number-preserved
loop-number-preserved g c =
    let m = c.args.machine.now in
    goes_on (routine_seen_by c.args.self.now (picture m) c.args.arrived.now) c.loop-number.number
    c.loop-number.places (length (system_of m).routines) c.routine_count-count.result c.new.result
    c.loop-number.invariant
    c.loop-number-test.true
    (c.routine_count-count.ensures.value
    ∙ ap (λ (S : System). length S.routines) c.system.ensures)
    c.new.ensures c.routine_seen.result c.routine_seen.ensures

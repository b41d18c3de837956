use Rattle.std.proofs.Common.{◌<◌, length, arith}
use Rattle.alarms.proofs.AlarmLemmas.{started_next}
use Rattle.alarms.proofs.alarms.Alarms.start.Goals as goal

pub loop-number-preserved : goal.loop-number-preserved
loop-number-preserved c =
    let low : c.loop-number.number < length c.args.system.now.alarms = omega (arith, c.new.ensures.table.expiries, c.len-number-end.ensures.value, c.loop-number-test.true) in
    rw (c.start_in.ensures, c.new-in-loop-number.ensures)
    (started_next c.args.system.now c.args.mode c.new.result c.loop-number.self c.loop-number.number c.loop-number.invariant low)

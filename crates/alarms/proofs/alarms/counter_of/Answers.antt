use Rattle.std.proofs.Common.{arith}
use Rattle.osek_base.specs.System.{counter_of}
use Rattle.alarms.proofs.CounterLemmas.{IsSound, sound}
use Rattle.alarms.proofs.alarms.counter_of.Goals as goal

pub returns-clause-base : goal.returns-clause-base
returns-clause-base c =
    let k : IsSound (counter_of c.args.system.now c.args.alarm) = sound _ _ c.shows_proper.ensures c.requires in
    rw c.counter_of.ensures k.base

pub returns-clause-round : goal.returns-clause-round
returns-clause-round c =
    let k : IsSound (counter_of c.args.system.now c.args.alarm) = sound _ _ c.shows_proper.ensures c.requires in
    rw c.counter_of.ensures (omega (arith, k.round))

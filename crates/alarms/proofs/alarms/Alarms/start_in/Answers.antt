use Rattle.std.proofs.Common.{◌≡◌, Some, ◌∙◌, sym}
use Rattle.osek_base.specs.System.{alarm_start_in}
use Rattle.alarms.proofs.CounterLemmas.{IsLowStart, start_low}
use Rattle.alarms.proofs.alarms.Alarms.start_in.Goals as goal

pub start_alarm-requires-clause-wait : goal.start_alarm-requires-clause-wait
start_alarm-requires-clause-wait c =
    let found : alarm_start_in c.args.system.now c.args.mode c.args.alarm ≡ Some (c.in-Some.time, c.in-Some.cycle) =
    sym c.alarm_start.ensures ∙ c.in-Some.is in
    let low : IsLowStart (c.in-Some.time, c.in-Some.cycle) = start_low _ _ _ _ c.shows_proper.ensures c.requires.alarm found in
    low.some

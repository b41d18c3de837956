use Rattle.std.proofs.Common.{◌≡◌, drop}
use Rattle.seen_ticks.specs.Observed.{is_among}
use Rattle.seen_ticks.proofs.alarms_told.is_among.Given as goal

-- whether it is among those left
abbrev pub invariant-loop-place : goal.invariant-loop-place
invariant-loop-place l = is_among l.alarms l.alarm ≡ is_among (drop l.place l.alarms) l.alarm

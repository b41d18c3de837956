use Rattle.std.proofs.Common.{◌≡◌, ◌-◌, ◌∙◌, sym, arith}
use Rattle.alarms.proofs.TableOfLemmas.{later_none, passed_expired, quiet_less}
use Rattle.alarms.proofs.counted_alarms.CountedAlarms.pass.Goals as goal

pub advance_by-none-requires-clause-quiet : goal.advance_by-none-requires-clause-quiet
advance_by-none-requires-clause-quiet c =
    quiet_less (c.args.ticks - 1) c.args.ticks c.args.self.now (omega arith) c.requires.quiet

pub returns-then-ticks-gt0 : goal.returns-then-ticks-gt0
returns-then-ticks-gt0 c =
    c.advance_by-none.ensures.alarms ∙ passed_expired c.args.ticks c.args.self.now c.if-ticks-gt0.true c.requires.quiet

pub returns-else-ticks-gt0 : goal.returns-else-ticks-gt0
returns-else-ticks-gt0 c =
    let none : c.args.ticks ≡ 0 = omega (arith, c.if-ticks-gt0.false) in
    rw none (sym (later_none c.args.self.now))

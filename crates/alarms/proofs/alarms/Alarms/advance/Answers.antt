use Rattle.std.proofs.Common.{◌∙◌, refl}
use Rattle.alarms.specs.Alarms.{next_tick}
use Rattle.alarms.proofs.TableOfLemmas.{next_due, next_expired, table_expired, table_later}
use Rattle.alarms.proofs.alarms.Alarms.advance.Goals as goal

pub returns-then-not-pass_quiet-clause-table : goal.returns-then-not-pass_quiet-clause-table
returns-then-not-pass_quiet-clause-table c =
    rw (c.advance_counted.ensures.alarms, c.if-not-pass_quiet.ensures.same refl)
    (table_expired c.args.system.now (next_tick c.args.self.now) (table_later c.args.system.now 1 c.args.self.now c.requires.table))

pub returns-else-not-pass_quiet-clause-due : goal.returns-else-not-pass_quiet-clause-due
returns-else-not-pass_quiet-clause-due c =
    c.clear.ensures ∙ next_due c.args.system.now c.args.self.now c.requires.table (c.if-not-pass_quiet.ensures.quiet refl)

pub returns-else-not-pass_quiet-clause-alarms : goal.returns-else-not-pass_quiet-clause-alarms
returns-else-not-pass_quiet-clause-alarms c =
    (c.if-not-pass_quiet.ensures.passed refl).after ∙ next_expired c.args.system.now c.args.self.now c.requires.table (c.if-not-pass_quiet.ensures.quiet refl)

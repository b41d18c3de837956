use Rattle.search_needs.proofs.EntryLemmas.{closed_from, within_from}
use Rattle.search_needs.proofs.closed.is_closed.Goals as goal

pub returns-clause-closed : goal.returns-clause-closed
returns-clause-closed c h =
    closed_from c.args.system.now c.args.needs.now (c.belongs.ensures.tasks c.if-not-belongs.false)
    (c.belongs.ensures.routines c.if-not-belongs.false) (c.tasks_respect.ensures c.if-not-tasks_respect.false)
    (c.routines_respect.ensures c.if-not-routines_respect.false) (c.all_among.ensures h)

pub returns-clause-within : goal.returns-clause-within
returns-clause-within c h =
    within_from c.args.system.now c.args.needs.now (c.belongs.ensures.tasks c.if-not-belongs.false)
    (c.belongs.ensures.routines c.if-not-belongs.false) (c.tasks_respect.ensures c.if-not-tasks_respect.false)
    (c.routines_respect.ensures c.if-not-routines_respect.false) (c.belongs.ensures.shared c.if-not-belongs.false)

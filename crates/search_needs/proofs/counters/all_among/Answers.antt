use Rattle.search_needs.specs.Table.{has}
use Rattle.search_needs.proofs.AskedLemmas.{from_programs}
use Rattle.search_needs.proofs.counters.all_among.Goals as goal

pub returns : goal.returns
returns c h =
    from_programs c.args.system.now (has c.args.counters) (c.tasks_among.ensures c.if-not-tasks_among.false)
    (c.routines_among.ensures h)

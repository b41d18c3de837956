use Rattle.law_upper.specs.ShownAbove.{TicksShowTheSame}
use Rattle.partition_isolation.proofs.Runs.{everywhere, figures_everywhere, where_ok}
use Rattle.partition_isolation.proofs.check.check_isolation.Goals as goal

pub returns-clause-shown : goal.returns-clause-shown
returns-clause-shown c =
    where_ok c.check_partition.result
    (λ ok. everywhere TicksShowTheSame c.upper_parts_show_the_same.ensures.others
    c.args.system.now c.args.p c.shows_proper.ensures
    (c.check_partition.ensures.accepts.0 ok))

pub returns-clause-figures : goal.returns-clause-figures
returns-clause-figures c =
    where_ok c.check_partition.result
    (λ ok. figures_everywhere c.args.system.now c.args.p c.shows_proper.ensures
    (c.check_partition.ensures.accepts.0 ok))

use Rattle.analysis_bounds.proofs.NodeLemmas.{all_pay_so}
use Rattle.analysis_bounds.proofs.prices.prices_pay.Goals as goal

pub returns-clause-pays : goal.returns-clause-pays
returns-clause-pays c h =
    all_pay_so c.args.system.now c.args.mode c.args.graph.now c.args.level.now
    (c.has_prices.ensures c.if-not-has_prices.false)
    (c.all_pay.ensures c.if-not-all_pay.false) (c.alarms_pay.ensures c.if-not-alarms_pay.false)
    (c.boot_pays.ensures c.if-not-boot_pays.false)
    (c.events_pay.ensures c.if-not-events_pay.false) (c.are_set_once.ensures h)

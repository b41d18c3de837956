use Rattle.std.proofs.Common.{◌<◌, List, subst}
use Rattle.std.specs.List.{AllByRecursion}
use Rattle.osek_base.specs.declared.arrivals.Arrival.{Arrival}
use Rattle.search_witnesses.specs.Listing.{ArePaid}
use Rattle.search_witnesses.proofs.Lassoing.{endless}
use Rattle.search_witnesses.proofs.endless.tried.Goals as goal

pub returns : goal.returns
returns c =
    let from = c.args.from in
    let until = c.args.until in
    endless c.lassos_are_endless.ensures c.args.system.now c.args.needs.now c.args.mode
    c.args.rules.now c.args.task
    (record { arrivals = c.args.arrivals; from = from; until = until }) c.requires
    c.if-until-from.false
    (subst (λ (xs : List Arrival). AllByRecursion (λ (a : Arrival). a.tick < until) xs)
    c.list.ensures.value (c.come_before.ensures c.if-not-come_before.false))
    (c.keep_rules.ensures c.if-not-keep_rules.false)
    (c.in_ok-keep_again.ensures c.if-not-branch.false)
    (subst (λ (xs : List Arrival). ArePaid c.args.rules.now xs from until)
    c.list-2.ensures.value (c.are_paid.ensures c.if-not-are_paid.false))
    (c.in_ok-comes_twice.ensures c.if-not-branch-2.false)

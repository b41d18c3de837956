use Rattle.std.proofs.Common.{ap, ap₂, sym, drop, ◌+◌, ◌∙◌}
use Rattle.std.specs.List.{list_all}
use Rattle.std.proofs.lemmas.List.{take_rest}
use Rattle.osek_base.specs.ArrivalList.{are_in_order}
use Rattle.search_witnesses.specs.Listing.{come_once, comes_behind}
use Rattle.search_witnesses.proofs.Ordered.{once_from_rest, rest_ordered}
use Rattle.search_witnesses.proofs.keeping.come_once.Goals as goal

pub come_behind-requires : goal.come_behind-requires
come_behind-requires c =
    ap (are_in_order 0) (take_rest c.args.arrivals.now (c.loop-place.place + 1))
    ∙ rest_ordered come_once c.args.arrivals.now c.loop-place.place
    c.index-arrivals-place.result c.loop-place.invariant c.loop-place-test.true
    c.index-arrivals-place.is

pub loop-place-preserved : goal.loop-place-preserved
loop-place-preserved c =
    once_from_rest c.args.arrivals.now c.loop-place.place c.index-arrivals-place.result
    c.loop-place.invariant c.loop-place-test.true c.index-arrivals-place.is
    (ap₂
    (λ r t. list_all (comes_behind r (t + 1)) (drop (c.loop-place.place + 1) c.args.arrivals.now))
    (sym c.routine_of.ensures) (sym c.from.ensures)
    ∙ ap (list_all (comes_behind c.routine_of.result (c.from.result + 1)))
    (sym (take_rest c.args.arrivals.now (c.loop-place.place + 1)))
    ∙ sym c.come_behind.ensures ∙ c.if-not-come_behind.false)

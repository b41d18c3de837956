use Rattle.std.proofs.Common.{sym, ◌∙◌}
use Rattle.search_needs.specs.Table.{need_of}
use Rattle.search_witnesses.proofs.Stood.{twice}
use Rattle.search_witnesses.proofs.lasso.comes_twice.Goals as goal

pub returns : goal.returns
returns c same =
    twice c.args.system.now c.args.mode (need_of c.args.needs.now) c.args.arrivals.now
    c.args.from c.args.until c.args.task c.in_ok-walk.walk c.go_to.new.walk c.stand_to.new.walk
    c.in_ok-first.first.items c.in_ok-second.second.items c.in_ok-walk.ensures
    (c.go_to.ensures c.if-not-go_to.false) (c.stand_to.ensures.run c.if-not-stand_to.false)
    c.in_ok-first.ensures c.in_ok-second.ensures
    (c.stand_to.ensures.stands c.if-not-stand_to.false)
    (sym c.deref.ensures.value ∙ c.are_equal.ensures same ∙ c.deref-2.ensures.value)

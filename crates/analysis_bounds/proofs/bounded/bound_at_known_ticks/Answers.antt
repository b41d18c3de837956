use Rattle.std.proofs.Common.{refl, sym, subst}
use Rattle.std.proofs.lemmas.Option.{IfSome_then}
use Rattle.analysis_bounds.specs.Levels.{costs_of}
use Rattle.analysis_bounds.specs.Timing.{AreTimed}
use Rattle.analysis_bounds.proofs.KnownBoundLemmas.{bound_by_rounds}
use Rattle.analysis_bounds.proofs.bounded.bound_at_known_ticks.Goals as goal

pub returns : goal.returns
returns c =
    IfSome_then c.longest_of.result c.longest_of.ensures
    (λ new short.
    bound_by_rounds c.args.system.now c.args.mode c.args.rules.now c.args.graph.now
    c.args.level.now _ c.args.alarms.now.least.items new.most
    c.prices_bound_at_known_ticks.ensures.one_by_one c.graphs_are_closed.ensures
    c.shows_proper.ensures c.requires.graph (c.if-not-prices_pay.ensures.all refl)
    (c.if-not-prices_pay.ensures.pays refl)
    (c.requires.alarms.all_slow (costs_of c.args.level.now))
    (short c.args.mode c.args.alarms.now.least.items
    (subst (AreTimed c.args.system.now c.args.mode c.args.alarms.now.least.items)
    (sym c.deref.ensures.value) c.requires.alarms.all_timed)))

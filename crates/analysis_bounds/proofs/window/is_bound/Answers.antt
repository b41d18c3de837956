use Rattle.std.proofs.Common.{subst, List, ℕ}
use Rattle.law_windows.specs.Analysis.{AreAlwaysEnough}
use Rattle.law_windows.specs.Expiring.{most_expiries}
use Rattle.analysis_bounds.specs.Levels.{costs_of, numbered}
use Rattle.analysis_bounds.proofs.BoundLemmas.{counted_bound}
use Rattle.analysis_bounds.proofs.window.is_bound.Goals as goal

pub returns : goal.returns
returns c h =
    let S = c.args.system.now in
    let level = c.args.level.now in
    let paying = c.if-not-prices_pay.false in
    counted_bound S c.args.mode c.args.rules.now c.args.graph.now level
    c.args.alarms.now.least.items c.args.most c.prices_bound_responses.ensures
    c.graphs_are_closed.ensures c.shows_proper.ensures c.requires.graph
    (c.prices_pay.ensures.all paying)
    (record {
      pays = c.prices_pay.ensures.pays paying;
      slow = c.requires.alarms.all_slow (costs_of level);
      enough =
          subst
          (λ (least : List ℕ).
          AreAlwaysEnough S c.args.rules.now (costs_of level)
          (most_expiries S c.args.mode (numbered least) c.args.most) c.args.most)
          c.deref.ensures.value (c.are_enough.ensures h);
    })

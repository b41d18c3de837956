use Rattle.view_measures.specs.declared.measure.Measure.{Measure}
use Rattle.view_measures.specs.Measures.{figure}
use Rattle.search_peaks.specs.Peaks.{told}
use Rattle.law_analysis.specs.Told.{may_end}
use Rattle.analysis_nodes.specs.Graph.{table_of}
use Rattle.analysis_bounds.specs.Levels.{numbered}
use Rattle.analysis_bounds.proofs.LatencyLemmas.{latency_told}
use Rattle.analysis_bounds.proofs.TellLemmas.{covered, loss_told, noted_end, refusals_told, response_told}
use Rattle.analysis_bounds.proofs.told.are_told.Goals as goal

pub returns : goal.returns
returns c h =
    let S = c.args.system.now in
    let g = c.args.graph.now in
    let peaks = c.args.peaks.now in
    let tasks = c.tasks_are_told.ensures c.if-not-tasks_are_told.false in
    let holds = c.holds_are_told.ensures c.if-not-holds_are_told.false in
    let routines = c.routines_are_told.ensures c.if-not-routines_are_told.false in
    let ends = c.may_end-ends.ensures in
    let refused = c.refusals_are_told.ensures c.if-not-refusals_are_told.false in
    record {
      closed = c.graphs_are_closed.ensures S g c.requires.graph;
      responses = λ k low below.
          response_told S c.args.mode c.args.rules.now peaks c.args.mosts.now c.requires.mosts k
          (tasks k low).0 below;
      blocked = λ k low below.
          covered (told peaks (figure Measure.Blocked k)) (told peaks (figure Measure.Response k))
          (tasks k low).0.blocked below;
      holds = λ r k inside low below may.
          covered (told peaks (figure Measure.Hold r)) (told peaks (figure Measure.Response k))
          (holds r inside k low may) below;
      latencies = λ i low below.
          latency_told S c.args.mode c.args.rules.now peaks c.args.mosts.now c.requires.mosts
          (routines i low).most i low (routines i low).of_level (table_of g)
          c.may_end-ends.result (numbered c.args.counts.now i)
          c.long_routines_start_early.ensures c.shows_proper.ensures
          (c.graphs_are_closed.ensures S g c.requires.graph) (c.requires.counts i) ends
          (routines i low).latency.soon below;
      endings = λ i low below ended.
          (routines i low).latency.ending
          (noted_end c.may_end-ends.result (may_end S (table_of g)) ends ended);
      losses = λ i low.
          loss_told S c.args.mode c.args.rules.now peaks c.args.mosts.now c.requires.mosts i
          (routines i low).most low (routines i low).of_level (routines i low).loss;
      jobs = λ k low. (tasks k low).1.jobs;
      blockers = λ k low. (tasks k low).1.blockers;
      refusals = refused.tasks;
      actions = refused.alarms;
      failures = refusals_told S g c.requires.graph peaks (c.nodes_are_told.ensures h);
      shutdown = λ ended.
          c.end_is_told.ensures c.if-not-end_is_told.false
          (noted_end c.may_end-ends.result (may_end S (table_of g)) ends ended);
    }

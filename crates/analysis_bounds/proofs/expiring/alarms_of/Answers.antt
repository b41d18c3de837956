use Rattle.std.proofs.Common.{List, ℕ, subst}
use Rattle.analysis_bounds.specs.Pacing.{ArePaces, AreSlow}
use Rattle.analysis_bounds.specs.Timing.{AreTimed}
use Rattle.analysis_bounds.proofs.expiring.alarms_of.Goals as goal

pub returns : goal.returns
returns c = record {
  all_slow =
      subst (AreSlow c.args.system.now c.args.mode c.args.graph.now) c.deref.ensures.value
      (c.are_slow.ensures c.if-not-are_slow.false);
  all_paced =
      subst
      (λ (least : List ℕ).
      ArePaces c.args.system.now c.args.mode least c.in_ok-paces.paces.items)
      c.deref-2.ensures.value c.in_ok-paces.ensures;
  all_timed =
      subst
      (λ (least : List ℕ).
      AreTimed c.args.system.now c.args.mode least c.in_ok-timings.timings.items)
      c.deref-3.ensures.value c.in_ok-timings.ensures;
}

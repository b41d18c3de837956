use Rattle.std.proofs.Common.{rules, ℕ, ◌≡◌, ◌<◌, ◌+◌, ◌∷◌, ◌++◌, [], List, length, refl, sym, ◌∙◌, ap, subst, arith}
use Rattle.analysis_bounds.specs.declared.timing.Timing.{Timing}
use Rattle.analysis_bounds.specs.Levels.{numbered}
use Rattle.analysis_bounds.specs.Timing.{timing_in, timing_of}
use Rattle.analysis_bounds.proofs.TickLemmas.{timed_longer}
use Rattle.analysis_bounds.proofs.timing.timings_of.Goals as goal

pub loop-number-preserved : goal.loop-number-preserved
loop-number-preserved c =
    timed_longer c.loop-number.timings.items c.push.new.self.items c.timing_of.result
    c.loop-number.number (timing_of c.args.system.now c.args.mode (numbered c.args.least.now))
    c.loop-number.invariant.0 c.loop-number.invariant.1
    (c.timing_of.ensures
    ∙ ap (timing_of c.args.system.now c.args.mode (numbered c.args.least.now)) c.new.ensures)
    c.in_ok-push.ensures.items

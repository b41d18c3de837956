use Rattle.std.proofs.Common.{◌≡◌, List, length, sym, ◌∙◌, ap, arith}
use Rattle.osek_base.specs.declared.trace_event.TraceEvent.{TraceEvent}
use Rattle.law_kept.specs.KeptService.{caller_in}
use Rattle.kernel.specs.Processor.{picture}
use Rattle.kernel.specs.Watches.{Watched}
use Rattle.kernel.proofs.ExecutedStamps.{idle_watched}
use Rattle.kernel.proofs.watched.Watched.late_phases.Goals as goal

pub returns-in-None : goal.returns-in-None
returns-in-None g c =
    let none : length c.args.behind.now ≡ 0 = ap (λ (v : List TraceEvent). length v) c.requires.none in
    record {
      between = c.args.self.now;
      first = c.args.behind.now;
      executes = record {
        does = idle_watched g.B.Blockers.are_counted c.args.tick c.args.self.now c.args.behind.now
            (ap (λ (x : Watched). caller_in (picture x.processor)) (sym c.self.view_is) ∙ c.in-None.ensures) c.requires.none;
        there = tt;
        few = omega (arith, none);
      };
      reschedules = c.last_phase.ensures.does;
      few = omega (arith, none, c.last_phase.ensures.few);
    }

use Rattle.services.proofs.AlarmLemmas.{ticks_passed}
use Rattle.services.proofs.objects.Objects.pass.Goals as goal

pub returns : goal.returns
returns g c =
    record {
      few = c.pass.ensures.few;
      passed =
          rw (← c.self.view_is)
          (ticks_passed c.self.inside.alarms.counters _ c.pass.result c.pass.new.self c.self.invariant.alarms c.pass.ensures.passed);
      last = λ some none.
          c.pass.ensures.last some c.self.inside.system.now c.self.invariant.alarms (rw (← c.self.view_is) at none);
    }

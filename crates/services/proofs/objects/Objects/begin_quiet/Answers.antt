use Rattle.std.proofs.Common.{refl}
use Rattle.services.proofs.AlarmLemmas.{ticks_passed}
use Rattle.services.proofs.objects.Objects.begin_quiet.Goals as goal

pub returns : goal.returns
returns g c =
    record {
      begins = λ begins.
          rw (← c.self.view_is)
          (ticks_passed c.self.inside.alarms.counters _ 1 c.pass_quiet.new.self c.self.invariant.alarms (c.pass_quiet.ensures.passed begins));
      stays = λ stays. rw (← c.self.view_is, c.pass_quiet.ensures.same stays) refl;
    }

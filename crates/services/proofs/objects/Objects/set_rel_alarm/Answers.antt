use Rattle.std.proofs.Common.{rules, ◌≡◌, ◌∙◌, Some, ap, subst}
use Rattle.osek_base.specs.declared.instr.Service.{Service}
use Rattle.alarms.specs.Alarms.{after_call}
use Rattle.services.specs.Objects.{Objects, kept_in}
use Rattle.law_kept.specs.KeptService.{unasked_in}
use Rattle.services.proofs.AlarmLemmas.{table, set_kept}
use Rattle.services.proofs.objects.Objects.set_rel_alarm.Goals as goal

pub returns : goal.returns
unfolding unasked_in
returns g c = record {
  system = ap (λ (k : Objects). k.system) c.self.view_is;
  status = search rules;
  kept =
      let a = c.args in
      let n = c.set_rel.new.self in
      let before = c.self.inside.alarms.counters in
      ap (λ (k : Objects). kept_in (record k { alarms = n.expiries; tick = n.tick })) c.self.view_is
      ∙ set_kept before a.self.now a.alarm a.increment a.cycle n
      (subst (λ (k : Objects). n ≡ after_call k.system (table before k) (Service.SetRelAlarm (Some a.alarm) a.increment a.cycle))
      c.self.view_is c.set_rel.ensures.alarms);
}

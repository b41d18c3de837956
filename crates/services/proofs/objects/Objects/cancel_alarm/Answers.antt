use Rattle.std.proofs.Common.{◌≡◌, ◌∙◌, Some, ap, subst}
use Rattle.osek_base.specs.declared.instr.Service.{Service}
use Rattle.alarms.specs.Alarms.{after_call}
use Rattle.services.specs.Objects.{Objects, kept_in}
use Rattle.services.specs.Calls.{unasked}
use Rattle.services.proofs.AlarmLemmas.{table, cancelled_status, cancelled_kept}
use Rattle.services.proofs.objects.Objects.cancel_alarm.Goals as goal

pub returns : goal.returns
returns g c = record {
  system = ap (λ (k : Objects). k.system) c.self.view_is;
  status =
      subst (λ (k : Objects). c.cancel.result ≡ (unasked k (Service.CancelAlarm (Some c.args.alarm))).status) c.self.view_is
      (c.cancel.ensures.status c.self.inside.system.now ∙ cancelled_status c.self.inside.alarms.counters (record {
        system = c.self.inside.system.now;
        room = c.self.inside.ready.room;
        queues = c.self.inside.ready.lists;
        slots = c.self.inside.slots.items;
        running = c.self.inside.running;
        gone = c.self.inside.gone;
        active = c.self.inside.active;
        pending = c.self.inside.pending;
        disabled = c.self.inside.disabled;
        suspended_all = c.self.inside.suspended_all;
        suspended_os = c.self.inside.suspended_os;
        alarms = c.self.inside.alarms.expiries;
        masks = c.self.inside.masks.items;
        shared = c.self.inside.shared.items;
        tick = c.self.inside.alarms.tick;
        over = c.self.inside.over;
      }) c.args.alarm);
  kept =
      ap (λ (k : Objects). kept_in (record k { alarms = c.cancel.new.self.expiries; tick = c.cancel.new.self.tick })) c.self.view_is
      ∙ cancelled_kept c.self.inside.alarms.counters c.args.self.now c.args.alarm c.cancel.new.self
      (subst (λ (k : Objects). c.cancel.new.self ≡ after_call k.system (table c.self.inside.alarms.counters k) (Service.CancelAlarm (Some c.args.alarm))) c.self.view_is (c.cancel.ensures.alarms c.self.inside.system.now));
}
